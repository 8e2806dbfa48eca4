-- Elements as the code tells them, with places of the text s in place of bytes; and what its functions promise.
use Rattle.std.specs.Prelude.{Option, Some, None, IfSome, MatchOption, ◌≡◌, Bool, false, List, [], ◌∷◌, map, ℕ, ◌+◌, ◌≤◌, ◌<◌, length, get_or, take, drop}
use Rattle.language.specs.Limits as limit
use Rattle.lexer.specs.Tokens.{part}
use Rattle.scanner.specs.declared.Sort.{Sort}
use Rattle.scanner.specs.Sorts.{sort_in}
use Rattle.syntax.specs.Items.{read}
use Rattle.syntax.specs.Items.Mode.{outside}
use Rattle.syntax.specs.Scan.{word_length, text_length}
use Rattle.macros.specs.Elements as spec
use Rattle.macros.specs.Marks.{marked}
use Rattle.macro_elements.specs.declared.Element.{Element}

-- the elements from place n on
unfoldable pub elements_from : List ℕ → ℕ → List spec.Element
elements_from s n = spec.linked (map (spec.element_of s) (read outside n (drop n (marked s))))

-- an element that nothing is joined to
abbrev pub alone : Sort → ℕ → ℕ → ℕ → ℕ → Element
alone sort byte at end next = record { sort = sort; byte = byte; at = at; end = end; next = next; joined = None }

-- a parameter that is joined behind an apostrophe at place e
abbrev pub joined_at : List ℕ → ℕ → Option ℕ → List (List ℕ)
joined_at s e None = []
joined_at s e (Some b) = part s (e + 1) b ∷ []

-- an element of the text s
abbrev pub argument_value : List ℕ → Element → spec.Element
argument_value s t =
    record {
      at = t.at;
      sort = sort_in (Some t.sort);
      byte = t.byte;
      typed = part s t.at t.end;
      joined = joined_at s t.end t.joined;
    }

-- a text with its marked copy, and a place in it
pub record Lent (s m : List ℕ) (n : ℕ) : Type 0 where
  pub copy : m ≡ marked s
  pub size : length s ≤ limit.text
  pub most : n ≤ length s

-- an element's places
pub record Held (s : List ℕ) (t : Element) : Type 0 where
  pub own : t.at ≤ t.end
  pub ends : t.end ≤ length s
  pub small : length s ≤ limit.text
  pub joined_ends : IfSome t.joined (λ b. (t.end + 1 ≤ b) × (b ≤ t.next))
  pub most : t.next ≤ length s

-- a parameter that is joined behind the apostrophe at place e ends at r; and none is joined there
pub record JoinsUpTo (s m : List ℕ) (e r : ℕ) : Type 0 where
  pub within : e < length s
  pub joins : (get_or s e 0 ≡ 39) × (get_or m e 0 ≡ 42)
  pub is : r ≡ e + 1 + word_length (drop (e + 1) m)
  pub most : r ≤ length m

abbrev pub JoinsNone : List ℕ → List ℕ → ℕ → Type 0
JoinsNone s m e = (e < length s) → get_or s e 0 ≡ 39 → get_or m e 0 ≡ 42 → ⊥

abbrev pub JoinedEnd : List ℕ → List ℕ → ℕ → Option ℕ → Type 0
JoinedEnd s m e r = MatchOption r (JoinsNone s m e) (λ b. JoinsUpTo s m e b)

pub record TextEnd (s : List ℕ) (at r : ℕ) : Type 0 where
  pub from : at < r
  pub most : r ≤ length s
  pub is : part s at r ≡ take (text_length false (drop (at + 1) s) + 2) (drop at s)

-- t is the first element from place n on, and the others follow from t.next on
pub record FirstElement (s : List ℕ) (n : ℕ) (t : Element) : Type 0 where
  pub from : n ≤ t.at
  pub held : Held s t
  pub more : t.at < t.next
  pub is : elements_from s n ≡ argument_value s t ∷ elements_from s t.next

-- the first element from place n on, and one before the first that passes the test
pub record FirstBefore (p : spec.Element → Bool) (s : List ℕ) (n : ℕ) (t : Element) : Type 0 where
  pub first : FirstElement s n t
  pub fails : p (argument_value s t) ≡ false

-- there is none before the first that passes the test, or it is found
pub record NextBefore (p : spec.Element → Bool) (s : List ℕ) (n : ℕ) (r : Option Element) : Type 0 where
  pub none : r ≡ None → spec.until p (elements_from s n) ≡ []
  pub some : (t : Element) → r ≡ Some t → FirstBefore p s n t

-- one step from element to element: there is none, or the first is found
pub record NextElement (s : List ℕ) (n : ℕ) (r : Option Element) : Type 0 where
  pub none : r ≡ None → elements_from s n ≡ []
  pub some : (t : Element) → r ≡ Some t → FirstElement s n t
