-- A word meets the colon after it, and the items follow one another.
use mathlib.Core.Path.{◌≡◌, refl, ap, sym, ◌∙◌}
use mathlib.Core.Bool.{Bool, true, false, cond, true≢false, beq}
use mathlib.Core.List.{List, [], ◌∷◌}
use Prim.Native.Nat.{ℕ, ◌+◌, ◌≤◌, ◌<◌}
use native.Mathlib.Omega.{arith}
use lib.Dec.{eqb}
use lib.ListN.{length, get_or, drop, drop_of_length-le}
use borrow.Author.Tests.{eqb-true}
use native.Mathlib.Decide.{dec_lt}
use Rattle.scanner.proofs.Loops.{in_text}
use Rattle.scanner.specs.Below.Lists.{if_any}
use Rattle.scanner.specs.Below.ListsTableLaws.{beq-eq, below}
use Rattle.scanner.specs.Below.Items as items
use Rattle.scanner.specs.Below.Items.{sort_of, same_sort, Item, is, a_word, a_mark, read, named}
use Rattle.scanner.specs.Below.Items.Sort.{separator, word, colon, end, text, wrong}
use Rattle.scanner.specs.Below.Items.Mode.{outside}
use Rattle.scanner.proofs.Below.ItemLaws.{items-found}
use Rattle.scanner.proofs.Below.SyntaxLoadLaws.{name-colon, item-alone, word-alone}
use Rattle.scanner.specs.Below.SyntaxScan.{text_found, found_here, found_in, found_after, items_then}
use Rattle.scanner.specs.declared.Unclosed.{Unclosed}
use Rattle.std.proofs.Common.{Option, None, Some, Result}
use Rattle.std.proofs.lemmas.Option.{none-some}
use Rattle.std.specs.Option.{is_some, is_none}
use Rattle.scanner.specs.declared.Sort.{Sort}
use Rattle.scanner.specs.Sorts.{sort_in}
use Rattle.scanner.specs.Scans.{place_in, is_open, Skipped}
use Rattle.lexer.specs.declared.After.{After}
use Rattle.lexer.specs.declared.Token.{Token}
use Rattle.lexer.specs.Tokens.{ColonWithin, chars_of, item_of, found_by, TokenAt, ColonAfter, items_from, NextToken}
use Rattle.lexer.proofs.Finding.{here}

-- only a colon begins a colon
colon-byte : (b : ℕ) → b < 256 → eqb b 58 ≡ same_sort colon (sort_of b)
unfolding sort_of
colon-byte b h = beq-eq (eqb b 58) (same_sort colon (sort_of b)) (below (λ k. beq (eqb k 58) (same_sort colon (sort_of k))) 256 tt b h)

other-leads : (k : items.Sort) (s : List ℕ) (n b : ℕ) (r : List ℕ) → same_sort colon k ≡ false → if_any false (is colon) (items_then s (found_here k n b r)) ≡ false
unfolding items_then found_here text_found
other-leads separator s n b r h = refl
other-leads word s n b r h = refl
other-leads colon s n b r h = absurd (true≢false h)
other-leads end s n b r h = refl
other-leads text s n b r h = refl
other-leads wrong s n b r h = refl

module _ {s : List ℕ} {n : ℕ} {g : Result ℕ Unclosed} (k : Skipped s n g) where
  -- the items are found from behind the gap on as well
  from-behind : read outside n (drop n s) ≡ read outside (place_in g) (drop (place_in g) s)
  from-behind = items-found s n ∙ ap (λ x. items_then s (found_after s x)) k.settled ∙ sym (items-found s (place_in g))

  abbrev no_colon : After
  no_colon = record { colon = None; next = place_in g }

  bare : if_any false (is colon) (read outside n (drop n s)) ≡ false → ColonAfter s n no_colon
  bare e = record { from = k.from; most = k.most; colon_within = tt; none = λ z. e; is = from-behind }

  pub colon-open : is_open g ≡ true → ColonAfter s n no_colon
  unfolding items_then found_after
  colon-open e = bare (rw (items-found s n, k.is, e) refl)

  colon-end : is_open g ≡ false → length s ≤ (place_in g) → ColonAfter s n no_colon
  unfolding items_then found_after found_in
  colon-end e l = bare (rw (items-found s n, k.is, e, drop_of_length-le s l) refl)

  colon-other : is_open g ≡ false → place_in g < length s → get_or s (place_in g) 0 < 256 → eqb (get_or s (place_in g) 0) 58 ≡ false → ColonAfter s n no_colon
  colon-other e l b o =
      let q = sym (colon-byte (get_or s (place_in g) 0) b) ∙ o in
      bare (rw (items-found s n, here k e l) (other-leads (sort_of (get_or s (place_in g) 0)) s (place_in g) (get_or s (place_in g) 0) (drop (place_in g + 1) s) q))

  pub no_colon-here : is_open g ≡ false → get_or s (place_in g) 0 < 256 → eqb (get_or s (place_in g) 0) 58 ≡ false → ColonAfter s n no_colon
  no_colon-here e b o = go (dec_lt (place_in g) (length s))
    where
      go : Dec (place_in g < length s) → ColonAfter s n no_colon
      go (yes l) = colon-other e l b o
      go (no l) = colon-end e (omega arith)

  pub colon-here : is_open g ≡ false → eqb (get_or s (place_in g) 0) 58 ≡ true → ColonAfter s n (record { colon = Some (place_in g); next = place_in g + 1 })
  unfolding items_then found_here sort_of
  colon-here e q =
      let p = k.from in
      let o : get_or s (place_in g) 0 ≡ 58 = eqb-true (get_or s (place_in g) 0) 58 q in
      let l : place_in g < length s = in_text s (place_in g) 57 o in
      record {
        from = omega arith;
        most = omega arith;
        colon_within = (p, omega arith);
        none = λ q. absurd (none-some _ (sym q));
        is = items-found s n ∙ rw (here k e l, o) refl;
      }

-- the items from place n on, by what is found there
module _ {s : List ℕ} {n : ℕ} {t : Token} (k : TokenAt s n t) where
  read_found : read outside n (drop n s) ≡ items_then s (found_by s t)
  read_found = items-found s n ∙ ap (items_then s) k.is

  some_read : is_none t.sort ≡ false → read outside n (drop n s) ≡ item_of s t ∷ read outside t.next (drop t.next s)
  unfolding items_then
  some_read z = read_found ∙ rw z refl

  other_items : is word (item_of s t) ≡ false → (z : Bool) → is_none t.sort ≡ z → items_from s n ≡ cond z [] (item_of s t ∷ items_from s t.next)
  unfolding items_then named
  other_items o true z = let e : read outside n (drop n s) ≡ [] = read_found ∙ rw z refl in ap named e
  other_items o false z = ap named (some_read z) ∙ item-alone (item_of s t) (read outside t.next (drop t.next s)) o

  pub next-other : is word (item_of s t) ≡ false → NextToken s n t
  next-other o = record { from = k.from; stands = k.stands; is = other_items o (is_none t.sort) refl }

  abbrev its_word : Item
  its_word = a_word t.at (chars_of s t)

  pub fine_word : t.sort ≡ Some Sort.Word → t.good ≡ true
  fine_word w = k.stands.fine (λ e. true≢false (ap (λ q. same_sort word (sort_in q)) (sym w ∙ e)))

  word-item : t.sort ≡ Some Sort.Word → item_of s t ≡ its_word
  word-item w = rw (w, k.bare, fine_word w) refl

  word_read : t.sort ≡ Some Sort.Word → read outside n (drop n s) ≡ its_word ∷ read outside t.next (drop t.next s)
  word_read w = some_read (ap is_none w) ∙ ap (λ i. i ∷ read outside t.next (drop t.next s)) (word-item w)

  abbrev named_token : After → Token
  named_token r = record { sort = Some Sort.Word; at = t.at; end = t.end; next = r.next; len = t.len; good = true; colon = r.colon }

  same_chars : (r : After) → t.sort ≡ Some Sort.Word → chars_of s (named_token r) ≡ chars_of s t
  unfolding chars_of
  same_chars r w = rw w refl

  module _ (w : t.sort ≡ Some Sort.Word) {r : After} (c : ColonAfter s t.next r) where
    abbrev rest : List Item
    rest = read outside r.next (drop r.next s)

    named-items : (z : Option ℕ) → r.colon ≡ z → items_from s n ≡ item_of s (named_token r) ∷ items_from s r.next
    unfolding chars_of named
    named-items None z =
        let e : read outside t.next (drop t.next s) ≡ rest = c.is ∙ rw z refl in
        let o : if_any false (is colon) rest ≡ false = sym (ap (λ js. if_any false (is colon) js) e) ∙ c.none z in
        ap named (word_read w ∙ ap (λ js. its_word ∷ js) e) ∙ word-alone t.at (chars_of s t) rest o ∙ rw (z, same_chars r w) refl
    named-items (Some p) z =
        let e : read outside t.next (drop t.next s) ≡ a_mark colon p ∷ rest = c.is ∙ rw z refl in
        ap named (word_read w ∙ ap (λ js. its_word ∷ js) e) ∙ name-colon t.at p (chars_of s t) rest ∙ rw (z, same_chars r w) refl

    within_here : (m : ℕ) (z : Option ℕ) → ColonWithin t.next m z → ColonWithin t.end m z
    within_here m None q = tt
    within_here m (Some p) q = let b = k.stands.behind in (omega (arith, q.0), q.1)

    pub next_word : NextToken s n (named_token r)
    next_word =
        let h = k.stands in
        record {
          from = k.from;
          stands =
              record {
                own = h.own;
                behind = omega (arith, h.behind, c.from);
                most = c.most;
                colon_within = within_here r.next r.colon c.colon_within;
                some = λ e. h.some (ap is_some w);
                ending = λ e. absurd (true≢false (ap (λ q. same_sort word (sort_in q)) e));
                fine = λ e. refl;
                count = rw (same_chars r w) h.count;
              };
          is = named-items r.colon refl;
        }
