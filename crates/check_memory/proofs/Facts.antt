-- What the tests of question 63 say, as facts with names.
use mathlib.Core.Path.{◌≡◌}
use mathlib.Core.Bool.{Bool, ◌&&◌}
use mathlib.Core.List.{List, []}
use Prim.Native.Nat.{ℕ, ◌+◌, ◌%◌, ◌≤◌, ◌<◌}
use lib.Dec.{T, leb, ltb, eqb, leb→le, le→leb, ltb→lt, lt→ltb, eqb→eq}
use lib.ListN.{length, get_or, drop}
use Rattle.std.proofs.Math.Facts.{yes_eqb}
use Rattle.check_strings.specs.Sound.{sound_components, sound_records}
use Rattle.language.specs.Limits as limit
use Rattle.language.specs.Program.{Program}
use Rattle.layout.specs.Cells.{three_at}
use Rattle.layout.specs.Memory.{twos_in}
use Rattle.layout.specs.Places as layout
use Rattle.lists.specs.ListLaws.{T-left, T-right, T-both}
use Rattle.lists.specs.Lists.{all}
use Rattle.machine.specs.WellFormed.{good_return}
use Rattle.check_memory.specs.Passes.{sizes, sum, zeros, laid, all_strings, expressions, halves, sound, all_parts, all_chars, record_count, is_total, counted, sound_output, fitting}

pub record Laid (m : List ℕ) : Type 0 where
  pub sign : three_at layout.plus_cell m ≤ 1
  pub last_most : three_at layout.last_cell m ≤ limit.addresses
  pub room : sum (sizes m) ≤ layout.room
  pub rest : T (zeros (drop (layout.first_byte + sum (sizes m)) m))

pub laid-open : (m : List ℕ) → T (laid m) → Laid m
unfolding laid
laid-open m h =
    let a : Bool = leb (three_at layout.plus_cell m) 1 in
    let b : Bool = leb (three_at layout.last_cell m) limit.addresses in
    let c : Bool = leb (sum (sizes m)) layout.room in
    let d : Bool = zeros (drop (layout.first_byte + sum (sizes m)) m) in
    let q = T-left (a && b && c) d h in
    let r = T-left (a && b) c q in
    record {
      sign = leb→le (three_at layout.plus_cell m) 1 (T-left a b r);
      last_most = leb→le (three_at layout.last_cell m) limit.addresses (T-right a b r);
      room = leb→le (sum (sizes m)) layout.room (T-right (a && b) c q);
      rest = T-right (a && b && c) d h;
    }

pub laid-close : (m : List ℕ) → Laid m → T (laid m)
unfolding laid
laid-close m f =
    let a : Bool = leb (three_at layout.plus_cell m) 1 in
    let b : Bool = leb (three_at layout.last_cell m) limit.addresses in
    let c : Bool = leb (sum (sizes m)) layout.room in
    let d : Bool = zeros (drop (layout.first_byte + sum (sizes m)) m) in
    T-both (a && b && c) d
    (T-both (a && b) c (T-both a b (le→leb (three_at layout.plus_cell m) 1 f.sign) (le→leb (three_at layout.last_cell m) limit.addresses f.last_most)) (le→leb (sum (sizes m)) layout.room f.room))
    f.rest

pub record Strings (m : List ℕ) : Type 0 where
  pub exprs : T (all (sound_components (three_at layout.last_cell m)) (expressions m))
  pub files : T (all (sound_records (three_at layout.last_cell m)) (halves m))

pub sound-open : (m : List ℕ) → T (sound m) → Strings m
unfolding sound
sound-open m h =
    let a : Bool = all (sound_components (three_at layout.last_cell m)) (expressions m) in
    let b : Bool = all (sound_records (three_at layout.last_cell m)) (halves m) in
    record { exprs = T-left a b h; files = T-right a b h }

pub sound-close : (m : List ℕ) → Strings m → T (sound m)
unfolding sound
sound-close m f = T-both (all (sound_components (three_at layout.last_cell m)) (expressions m)) (all (sound_records (three_at layout.last_cell m)) (halves m)) f.exprs f.files

pub record IsTotal (most told n : ℕ) : Type 0 where
  pub is : n ≡ told
  pub fits : n ≤ most

total-open : (most told n : ℕ) → T (is_total most told n) → IsTotal most told n
total-open most told n h = record { is = eqb→eq n told (T-left (eqb n told) (leb n most) h); fits = leb→le n most (T-right (eqb n told) (leb n most) h) }

total-close : (most told n : ℕ) → IsTotal most told n → T (is_total most told n)
total-close most told n f = T-both (eqb n told) (leb n most) (yes_eqb f.is) (le→leb n most f.fits)

pub record Totals (m : List ℕ) : Type 0 where
  pub parts : IsTotal limit.components (three_at layout.components_cell m) (all_parts m)
  pub chars : IsTotal limit.characters (three_at layout.characters_cell m) (all_chars m)
  pub records : IsTotal limit.records (three_at layout.records_cell m) (record_count m)

pub counted-open : (m : List ℕ) → T (counted m) → Totals m
unfolding counted
counted-open m h =
    let a : Bool = is_total limit.components (three_at layout.components_cell m) (all_parts m) in
    let b : Bool = is_total limit.characters (three_at layout.characters_cell m) (all_chars m) in
    let c : Bool = is_total limit.records (three_at layout.records_cell m) (record_count m) in
    let q = T-left (a && b) c h in
    record {
      parts = total-open limit.components (three_at layout.components_cell m) (all_parts m) (T-left a b q);
      chars = total-open limit.characters (three_at layout.characters_cell m) (all_chars m) (T-right a b q);
      records = total-open limit.records (three_at layout.records_cell m) (record_count m) (T-right (a && b) c h);
    }

pub counted-close : (m : List ℕ) → Totals m → T (counted m)
unfolding counted
counted-close m f =
    let a : Bool = is_total limit.components (three_at layout.components_cell m) (all_parts m) in
    let b : Bool = is_total limit.characters (three_at layout.characters_cell m) (all_chars m) in
    let c : Bool = is_total limit.records (three_at layout.records_cell m) (record_count m) in
    T-both (a && b) c
    (T-both a b (total-close limit.components (three_at layout.components_cell m) (all_parts m) f.parts) (total-close limit.characters (three_at layout.characters_cell m) (all_chars m) f.chars))
    (total-close limit.records (three_at layout.records_cell m) (record_count m) f.records)

pub record Rest (p : Program) (i j m : List ℕ) : Type 0 where
  pub even : length (get_or (all_strings m) layout.stack_string []) % 2 ≡ 0
  pub deep : length (get_or (all_strings m) layout.stack_string []) ≤ 128
  pub returns : T (all (good_return p) (twos_in (get_or (all_strings m) layout.stack_string [])))
  pub output_1 : T (sound_output (get_or (all_strings m) layout.first_output []))
  pub output_2 : T (sound_output (get_or (all_strings m) layout.second_output []))
  pub place_1 : three_at layout.first_place_cell m ≤ length i
  pub place_2 : three_at layout.second_place_cell m ≤ length j
  pub next : three_at layout.next_cell m < length p.code

module _ (p : Program) (i j m : List ℕ) where
  abbrev v : List ℕ
  v = get_or (all_strings m) layout.stack_string []

  abbrev t0 : Bool
  t0 = eqb (length v % 2) 0

  abbrev t1 : Bool
  t1 = leb (length v) 128

  abbrev t2 : Bool
  t2 = all (good_return p) (twos_in v)

  abbrev t3 : Bool
  t3 = sound_output (get_or (all_strings m) layout.first_output [])

  abbrev t4 : Bool
  t4 = sound_output (get_or (all_strings m) layout.second_output [])

  abbrev t5 : Bool
  t5 = leb (three_at layout.first_place_cell m) (length i)

  abbrev t6 : Bool
  t6 = leb (three_at layout.second_place_cell m) (length j)

  abbrev t7 : Bool
  t7 = ltb (three_at layout.next_cell m) (length p.code)

  pub fitting-open : T (fitting p i j m) → Rest p i j m
  unfolding fitting
  fitting-open h =
      let q = T-left (t0 && t1 && t2 && (t3 && t4) && (t5 && t6)) t7 h in
      let r = T-left (t0 && t1 && t2 && (t3 && t4)) (t5 && t6) q in
      let s = T-left (t0 && t1 && t2) (t3 && t4) r in
      let u = T-left (t0 && t1) t2 s in
      let o = T-right (t0 && t1 && t2) (t3 && t4) r in
      let n = T-right (t0 && t1 && t2 && (t3 && t4)) (t5 && t6) q in
      record {
        even = eqb→eq (length v % 2) 0 (T-left t0 t1 u);
        deep = leb→le (length v) 128 (T-right t0 t1 u);
        returns = T-right (t0 && t1) t2 s;
        output_1 = T-left t3 t4 o;
        output_2 = T-right t3 t4 o;
        place_1 = leb→le (three_at layout.first_place_cell m) (length i) (T-left t5 t6 n);
        place_2 = leb→le (three_at layout.second_place_cell m) (length j) (T-right t5 t6 n);
        next = ltb→lt (three_at layout.next_cell m) (length p.code) (T-right (t0 && t1 && t2 && (t3 && t4) && (t5 && t6)) t7 h);
      }

  pub fitting-close : Rest p i j m → T (fitting p i j m)
  unfolding fitting
  fitting-close f =
      T-both (t0 && t1 && t2 && (t3 && t4) && (t5 && t6)) t7
      (T-both (t0 && t1 && t2 && (t3 && t4)) (t5 && t6)
      (T-both (t0 && t1 && t2) (t3 && t4)
      (T-both (t0 && t1) t2 (T-both t0 t1 (yes_eqb f.even) (le→leb (length v) 128 f.deep)) f.returns)
      (T-both t3 t4 f.output_1 f.output_2))
      (T-both t5 t6 (le→leb (three_at layout.first_place_cell m) (length i) f.place_1) (le→leb (three_at layout.second_place_cell m) (length j) f.place_2)))
      (lt→ltb (three_at layout.next_cell m) (length p.code) f.next)
