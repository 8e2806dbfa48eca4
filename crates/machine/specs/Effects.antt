-- Chapter 5: what each of the 41 instructions asks and what it makes of the state.
use Rattle.std.specs.Prelude.{Bool, true, false, not, cond, ◌&&◌, ◌||◌, List, [], ◌∷◌, map, ℕ, pred, leb, eqb, length, get_or, take, ℤ, pos, ◌+ℤ◌, ◌-ℤ◌, ◌*ℤ◌, nat_abs}
use Rattle.std.specs.Int.Signed.{lt_z, quot_z, rem_z}
use Rattle.language.specs.Below.Characters.{precedes}
use Rattle.language.specs.Instructions.{kinds_of}
use Rattle.language.specs.Letters.{Var}
use Rattle.language.specs.Letters.Var.{expression, input, output, file}
use Rattle.language.specs.Program.{Arg, Op, Entry, Program, no_entry, label_at, switch_at, target_of, meets}
use Rattle.language.specs.Program.Arg.{nothing}
use Rattle.language.specs.Program.Op.{PRZESLIJ, CZYTAJ, PISZ, KOPIUJ, WSTAW, POBIERZ, SCHOWAJ, USTAW, ZAMIEN, UMIESC, USUN, SKRESL, RW, WK, MN, PP, NS, RZ, SKOCZ, WYKONAJ, SKOMI, SKOPL, WYMI, WYPL, SKONA, SKOIN, WYNA, WYIN, WROC, DODAJ, ODEJMIJ, MNOZ, DZIEL, SLOWO, LICZBA, ZBIJ, ROZBIJ, SZUKAJ, OMIN, COFNIJ, STOP}
use Rattle.language.specs.Values.{Component, Store, Inputs, chars, value, link, kind, same, decimal, numeral, value_of, in_range}
use Rattle.language.specs.Values.Component.{word, address}
use Rattle.language.specs.Below.Lists.{all, any, filled, if_any, keep, joined, same_list}
use Rattle.machine.specs.Arguments.{place, use_by, expr, file_of, records, next_parts, unread, first, char, side, is_count, is_whole, single, Asks, none, ask, ◌&◌, present, is, alike, of_kinds, when, needs, taken, matches, cut, on_chars, reach, test_asks}
use Rattle.machine.specs.Changes.{with_plus, put_expr, put_file, minus, minus_unless, into, front, printed, stored, past, used, pointed, address_of_last}

-- where an instruction goes on: the following one, a place, a place with the way back kept (5.5.1), or back (5.5.4)
pub data Go : Type 0 where
  on : Go
  jump : ℕ → Go
  call : ℕ → Go
  back : Go

-- A row is an instruction's meaning: what it asks (57, 59 and 60 every instruction asks), the store that it makes, where it goes on
abbrev pub Row : Type 0
Row = Asks × Store × Go

module _ (p : Program) (ins : Inputs) (s : Store) where
  -- Moves (5.1). "A move first reads its test's values, then takes its whole sequence, then writes it. So source and target may be the same."
  -- The sequence that the test c takes from a is removed or passed, and `write` is told its length; all it writes is read of s
  -- "In moves H turns minus only where a named condition or count isn't reached; without the last argument it is unchanged."
  unfoldable pub moved : Arg → Arg → (ℕ → Store → Store) → Store
  moved a c write = let r = reach ins s (use_by a).var a c in minus_unless r.1 (write r.0 (past a r.0 s))

  -- the components that c takes from a. "PISZ and ZBIJ need words."
  abbrev pub parts_taken : Arg → Arg → List Component
  parts_taken a c = take (reach ins s expression a c).0 (expr s a)

  abbrev pub all_words : List Component → Asks
  all_words xs = ask 53 (all (λ x. eqb (kind x) 0) xs)

  -- "CZYTAJ that takes no character adds no word." ZBIJ, "taking nothing, .. adds nothing"
  abbrev pub a_word : List ℕ → List Component
  a_word w = cond (filled w) (word w ∷ []) []

  -- 5.5.2. "SKOMI, SKOPL, WYMI, WYPL always leave H plus."
  unfoldable pub jump_if : Bool → Go → Row
  jump_if b go = (none, with_plus true s, cond b go on)

  -- a relation (5.4): A removes its component only where it holds; H turns minus where it does not
  unfoldable pub relation : Asks → Bool → Arg → Row
  relation qs holds a = (qs, cond holds (used a s) (minus s), on)

  -- "by B as a test or second argument, by N, and by A or B in relations" (52)
  abbrev pub asked : Arg → Asks
  asked a = when (single a) (present (side ins s a))

  -- "RW, WK, MN, PP, NS, RZ with a single component on both sides stop on unlike kinds; .. RW of an input with B needs a word" (53)
  abbrev pub kind_asks : Var → Arg → Arg → Asks
  kind_asks expression a b = when (single a && single b) (alike (side ins s a) (side ins s b))
  kind_asks input a b = when (single b) (is 0 (side ins s b))
  kind_asks output a b = none
  kind_asks file a b = when (single b) (alike (side ins s a) (side ins s b))

  -- RW and RZ; N asks for a number
  abbrev pub equal_asks : Arg → Arg → Asks
  equal_asks a b = asked a & asked b & kind_asks (use_by a).var a b & when (is_count (use_by b).reading) (is 1 (side ins s b))

  -- "RW between two components takes words, numbers or addresses." "an empty input equals nothing"
  abbrev pub equal : Var → Arg → Arg → Bool
  equal expression a b = any (matches (λ x. x) ins s b) (side ins s a)
  equal input a b = any (matches cut ins s b) (side ins s a)
  equal output a b = false
  equal file a b =
      cond (is_whole (use_by b).reading) (same_list same (next_parts (file_of s a)) (expr s b)) (any (matches (λ x. x) ins s b) (side ins s a))

  unfoldable pub equality : Arg → Arg → Row
  equality a b = relation (equal_asks a b) (equal (use_by a).var a b) a

  -- WK and MN of two numbers, PP and NS of two words
  unfoldable pub ordered : Op → (Component → Component → Bool) → Arg → Arg → Row
  ordered o less a b =
      let xs = side ins s a in
      let ys = side ins s b in
      relation (of_kinds (kinds_of o) xs ys) (less (first xs) (first ys)) a

  -- the instruction that a label names
  abbrev pub goal : Arg → ℕ
  goal a = (label_at p (place a)).target

  -- switches (5.5.3): the entries, and those met by the word. "SKONA, WYNA and SZUKAJ need a word"; "the first entry met is taken"
  abbrev pub entries_of : Arg → List Entry
  entries_of b = (switch_at p (place b)).entries

  abbrev pub named : Arg → Arg → List Entry
  named a b = keep (λ e. meets p e (chars (first (side ins s a)))) (entries_of b)

  -- by a word: where no entry is met, the following instruction, with the store `missed`
  unfoldable pub by_name : (ℕ → Go) → Store → Arg → Arg → Row
  by_name to missed a b =
      let es = named a b in
      (needs 0 (side ins s a), if_any missed (λ e. used a s) es, if_any on (λ e. to (target_of p e)) es)

  -- by a number from 1. "Switch index within the list? 56"
  unfoldable pub by_index : (ℕ → Go) → Arg → Arg → Row
  by_index to a b =
      let xs = side ins s a in
      let n = value (first xs) in
      let es = entries_of b in
      (needs 1 xs & ask 56 (lt_z (pos 0) n && leb (nat_abs n) (length es)), used a s, to (target_of p (get_or es (pred (nat_abs n)) no_entry)))

  -- arithmetic (5.6): what f makes of two numbers takes the place of the first. "results within range? 54"
  unfoldable pub computed : Op → Arg → Arg → (ℤ → ℤ → List ℤ) → Row
  computed o a b f =
      let xs = side ins s a in
      let ys = side ins s b in
      let zs = f (value (first xs)) (value (first ys)) in
      (ask 54 (all in_range zs) & of_kinds (kinds_of o) xs ys, front a (map Component.number zs) (used a s), on)

  -- SLOWO and LICZBA (5.7.1, 5.7.2): x in front; A removes what it was made of
  unfoldable pub changed : Asks → Arg → Component → Row
  changed qs a x = (qs, front a (x ∷ []) (used a s), on)

  -- UMIESC (5.2): into an expression, an output, or a file as a record of one component
  unfoldable pub set_to : Var → Arg → Arg → Store
  set_to expression a b = into b (side ins s a) s
  set_to input a b = s
  set_to output a b = printed b (chars (first (side ins s a))) s
  set_to file a b = stored b (map (λ x. x ∷ []) (side ins s a)) s

  -- ZAMIEN (5.1.9). "ZAMIEN of files keeps addresses."
  unfoldable pub exchanged : Var → Arg → Arg → Store
  exchanged expression a b = put_expr b (expr s a) (put_expr a (expr s b) s)
  exchanged input a b = s
  exchanged output a b = s
  exchanged file a b =
      let f = file_of s a in
      let g = file_of s b in
      put_file b f.before f.after (put_file a g.before g.after s)

  module _ (a b c : Arg) where
    -- a, b, c are the instruction's arguments
    unfoldable pub row : Op → Row
    -- 5.1
    row PRZESLIJ = (test_asks ins s c, moved a c (λ k. into b (take k (expr s a))), on)
    row CZYTAJ = (test_asks ins s c, moved a c (λ k. into b (a_word (take k (unread ins s a)))), on)
    row PISZ = (test_asks ins s c & all_words (parts_taken a c), moved a c (λ k. printed b (joined (map chars (take k (expr s a))))), on)
    row KOPIUJ = (test_asks ins s c, moved a c (λ k. stored b (map (λ r. r.parts) (take k (file_of s a).after))), on)
    -- H turns minus at "WSTAW of nothing, POBIERZ at the end"
    row WSTAW = (none, cond (filled (expr s a)) (moved a nothing (λ k. stored b (expr s a ∷ []))) (minus s), on)
    row POBIERZ = (none, if_any (minus s) (λ r. moved a (Arg.number (pos 1)) (λ k. into b r.parts)) (file_of s a).after, on)
    -- "SCHOWAJ gives" the address 0 "when no record precedes the pointer"
    row SCHOWAJ = (none, into b (address (address_of_last 0 (file_of s a).before) ∷ []) s, on)
    -- "Is the record of that address in that file, or the address 0? 58"
    row USTAW =
        let n = link (first (side ins s a)) in
        (needs 2 (side ins s a) & ask 58 (eqb n 0 || any (λ r. eqb r.addr n) (records (file_of s b))), pointed b n (used a s), on)
    row ZAMIEN = (none, exchanged (use_by a).var a b, on)
    -- 5.2, 5.3
    row UMIESC = (none, set_to (use_by b).var a b, on)
    row USUN = (test_asks ins s b, moved a b (λ k t. t), on)
    row SKRESL = (test_asks ins s b, moved a b (λ k t. t), on)
    -- 5.4
    row RW = equality a b
    row WK = ordered WK (λ x y. lt_z (value y) (value x)) a b
    row MN = ordered MN (λ x y. lt_z (value x) (value y)) a b
    row PP = ordered PP (λ x y. precedes (chars x) (chars y)) a b
    row NS = ordered NS (λ x y. precedes (chars y) (chars x)) a b
    row RZ = equality a b
    -- 5.5
    row SKOCZ = (none, s, jump (goal a))
    row WYKONAJ = (none, s, call (goal a))
    row SKOMI = jump_if (not s.plus) (jump (goal a))
    row SKOPL = jump_if s.plus (jump (goal a))
    row WYMI = jump_if (not s.plus) (call (goal a))
    row WYPL = jump_if s.plus (call (goal a))
    row SKONA = by_name jump s a b
    row SKOIN = by_index jump a b
    row WYNA = by_name call (minus s) a b
    row WYIN = by_index call a b
    row WROC = (none, s, back)
    -- 5.6. "DZIEL cuts toward zero"; its remainder stands first and has the dividend's sign. "Divisor not zero? 55"
    row DODAJ = computed DODAJ a b (λ x y. (x +ℤ y) ∷ [])
    row ODEJMIJ = computed ODEJMIJ a b (λ x y. (x -ℤ y) ∷ [])
    row MNOZ = computed MNOZ a b (λ x y. (x *ℤ y) ∷ [])
    row DZIEL =
        let r = computed DZIEL a b (λ x y. rem_z x y ∷ quot_z x y ∷ []) in
        (ask 55 (not (eqb (nat_abs (value (first (side ins s b)))) 0)) & r.0, r.1, on)
    -- 5.7. A word that LICZBA takes is "a sign or none, then digits" (53); with A, ROZBIJ leaves nothing of its word's rest
    row SLOWO = let xs = side ins s a in changed (needs 1 xs) a (word (decimal (value (first xs))))
    row LICZBA =
        let xs = side ins s a in
        let w = chars (first xs) in
        changed (needs 0 xs & ask 53 (numeral w) & ask 54 (in_range (value_of w))) a (Component.number (value_of w))
    row ZBIJ = (test_asks ins s b & all_words (parts_taken a b), moved a b (λ k. front a (a_word (joined (map chars (take k (expr s a)))))), on)
    row ROZBIJ =
        let xs = side ins s a in
        let w = chars (first xs) in
        let r = taken (on_chars ins s b) w in
        (needs 0 xs & test_asks ins s b, minus_unless r.1 (front a (map char (take r.0 w)) (used a s)), on)
    -- 5.8, 5.10
    row SZUKAJ = relation (needs 0 (side ins s a)) (filled (named a b)) a
    row OMIN = (test_asks ins s b, moved a b (λ k t. t), on)
    row COFNIJ = (none, pointed a 0 s, on)
    row STOP = (ask 50 false, s, on)
