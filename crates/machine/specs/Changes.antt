-- What instructions do to a store: reading past elements and writing (4.2.1.1, 4.2.1.2), records and their addresses, limits.
use Rattle.std.specs.Prelude.{Bool, true, false, cond, ◌&&◌, List, [], ◌∷◌, ◌++◌, reverse, ℕ, suc, pred, ◌+◌, leb, eqb, length, take, drop, set}
use Rattle.language.specs.Limits as limit
use Rattle.language.specs.Letters.{Var, Use}
use Rattle.language.specs.Letters.Var.{expression, input, output, file}
use Rattle.language.specs.Program.{Arg}
use Rattle.language.specs.Values.{Component, Record, File, Store, chars}
use Rattle.language.specs.Below.Lists.{total, all, ahead}
use Rattle.machine.specs.Arguments.{place, use_by, at, expr, file_of, records}

-- One field replaced; files together with the last address given

unfoldable pub with_exprs : List (List Component) → Store → Store
with_exprs v s = record { exprs = v; files = s.files; plus = s.plus; outputs = s.outputs; places = s.places; last = s.last }

unfoldable pub with_files : List File → ℕ → Store → Store
with_files v n s = record { exprs = s.exprs; files = v; plus = s.plus; outputs = s.outputs; places = s.places; last = n }

unfoldable pub with_plus : Bool → Store → Store
with_plus v s = record { exprs = s.exprs; files = s.files; plus = v; outputs = s.outputs; places = s.places; last = s.last }

unfoldable pub with_outputs : List (List ℕ) → Store → Store
with_outputs v s = record { exprs = s.exprs; files = s.files; plus = s.plus; outputs = v; places = s.places; last = s.last }

unfoldable pub with_places : List ℕ → Store → Store
with_places v s = record { exprs = s.exprs; files = s.files; plus = s.plus; outputs = s.outputs; places = v; last = s.last }

-- the variable of an argument replaced
abbrev pub put : {X : Type 0} → List X → Arg → X → List X
put xs a x = set xs (pred (place a)) x

unfoldable pub put_expr : Arg → List Component → Store → Store
put_expr a xs s = with_exprs (put s.exprs a xs) s

unfoldable pub put_file : Arg → List Record → List Record → Store → Store
put_file a xs ys s = with_files (put s.files a (record { before = xs; after = ys })) s.last s

-- H
unfoldable pub minus : Store → Store
minus s = with_plus false s

unfoldable pub minus_unless : Bool → Store → Store
minus_unless b s = with_plus (b && s.plus) s

-- the four ways of writing into a list (4.2.1.2): A and B in front, Y and Z at the end, A and Y turned round
unfoldable pub placed : {X : Type 0} → Use → List X → List X → List X
placed u new old = let xs = cond u.reverses (reverse new) new in cond u.at_end (old ++ xs) (xs ++ old)

-- components written by an argument, and in front in their order
unfoldable pub into : Arg → List Component → Store → Store
into a xs s = put_expr a (placed (use_by a) xs (expr s a)) s

unfoldable pub front : Arg → List Component → Store → Store
front a xs s = put_expr a (xs ++ expr s a) s

-- characters written at the end of an output
unfoldable pub printed : Arg → List ℕ → Store → Store
printed a w s = with_outputs (put s.outputs a (at [] s.outputs a ++ w)) s

-- "Each written record, copies included, gets the next address from 1, never given before in this state; copies get theirs in the order taken."
unfoldable pub stamped : ℕ → List (List Component) → List Record
stamped n [] = []
stamped n (x ∷ xs) = record { addr = suc n; parts = x } ∷ stamped (suc n) xs

-- records written (4.2.1.2): C right after the pointer, turned round; D there in their order, and the pointer goes behind them
unfoldable pub stored : Arg → List (List Component) → Store → Store
stored a xs s =
    let new = stamped s.last xs in
    let f = file_of s a in
    let after-pointer : File = record { before = f.before; after = reverse new ++ f.after } in
    let before-pointer : File = record { before = f.before ++ new; after = f.after } in
    let g = cond (use_by a).reverses after-pointer before-pointer in
    with_files (put s.files a g) (s.last + length xs) s

-- reading past k elements (4.2.1.1): A, I and C remove them, B leaves them, D and P move the pointer
unfoldable pub past_file : Bool → Arg → ℕ → Store → Store
past_file true a k s = put_file a (file_of s a).before (drop k (file_of s a).after) s
past_file false a k s = put_file a ((file_of s a).before ++ take k (file_of s a).after) (drop k (file_of s a).after) s

unfoldable pub past_by : Var → Arg → ℕ → Store → Store
past_by expression a k s = cond (use_by a).removes (put_expr a (drop k (expr s a)) s) s
past_by input a k s = with_places (put s.places a (at 0 s.places a + k)) s
past_by output a k s = s
past_by file a k s = past_file (use_by a).removes a k s

unfoldable pub past : Arg → ℕ → Store → Store
past a k s = past_by (use_by a).var a k s

-- using the first component (4.2.1.3): A removes it, all else stays
unfoldable pub used_by : Var → Arg → Store → Store
used_by expression a s = past_by expression a 1 s
used_by input a s = s
used_by output a s = s
used_by file a s = s

unfoldable pub used : Arg → Store → Store
used a s = used_by (use_by a).var a s

-- how many records stand up to the one of an address, 0 for the address 0
abbrev pub records_to : ℕ → List Record → ℕ
records_to n rs = cond (eqb n 0) 0 (suc (ahead (λ r. eqb r.addr n) rs))

-- the pointer right after the record of an address. "Address 0 is the front of every file"
unfoldable pub pointed : Arg → ℕ → Store → Store
pointed a n s =
    let rs = records (file_of s a) in
    put_file a (take (records_to n rs) rs) (drop (records_to n rs) rs) s

-- the address of the last record of a list, n where there is none
abbrev pub address_of_last : ℕ → List Record → ℕ
address_of_last n [] = n
address_of_last n (r ∷ rs) = address_of_last r.addr rs

-- Limits (59): sums over the store's components and records

-- of all components, those of records included
unfoldable pub held : (Component → ℕ) → Store → ℕ
held g s = total (total g) s.exprs + total (λ f. total (λ r. total g r.parts) (records f)) s.files

unfoldable pub recorded : (Record → ℕ) → Store → ℕ
recorded g s = total (λ f. total g (records f)) s.files

-- "E and P together hold at most 1,024 components and 8,192 characters (numbers and addresses hold none). Files hold at most 256 records in all; a
-- word 255 characters; each Q 4,096"
unfoldable pub fits : Store → Bool
fits s =
    leb (held (λ x. 1) s) limit.components
    && leb (held (λ x. length (chars x)) s) limit.characters
    && leb (held (λ x. cond (leb (length (chars x)) limit.word) 0 1) s) 0
    && leb (recorded (λ r. 1) s) limit.records
    && all (λ q. leb (length q) limit.output) s.outputs
