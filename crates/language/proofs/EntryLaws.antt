-- Which words meet an entry of a switch: "an entry with a text is met by either", its text or its label's name, and one without by its label's name.
use Rattle.std.specs.Prelude.{◌≡◌, Bool, true, false, ◌&&◌, ◌||◌, ◌⊎◌, T}
use mathlib.Core.List.{List, []}
use Rattle.std.proofs.Common.{inl, inr}
use Prim.Native.Nat.{ℕ}
use Rattle.lists.specs.BoolLaws.{T-second}
use Rattle.characters.specs.Below.Lists.{filled, bytes_equal}
use Rattle.characters.specs.Below.ListLaws.{same_bytes-eq, same_bytes-refl}
use Rattle.language.specs.Program.{Program, Entry, label_at, meets}

module _ (p : Program) (e : Entry) (w : List ℕ) where
  -- the word is the entry's text, where it has one, or its label's name
  abbrev pub TextOrName : Type 0
  TextOrName = (T (filled e.text) × (e.text ≡ w)) ⊎ ((label_at p e.label).name ≡ w)

  pub text-or-name : (T (meets p e w) → TextOrName) × (TextOrName → T (meets p e w))
  unfolding meets
  text-or-name = (met (filled e.text) (bytes_equal e.text w) (same_bytes-eq e.text w), meeting)
    where
      name : List ℕ
      name = (label_at p e.label).name

      met : (t u : Bool) → (T u → e.text ≡ w) → T ((t && u) || bytes_equal name w) → (T t × (e.text ≡ w)) ⊎ (name ≡ w)
      met true true f h = inl (tt, f tt)
      met true false f h = inr (same_bytes-eq name w h)
      met false u f h = inr (same_bytes-eq name w h)

      by-text : (t u v : Bool) → T t → T u → T ((t && u) || v)
      by-text true true v a b = tt
      by-text true false v a b = absurd b
      by-text false u v a b = absurd a

      same : (l : List ℕ) → l ≡ w → T (bytes_equal l w)
      same l q = rw q (same_bytes-refl w)

      meeting : TextOrName → T ((filled e.text && bytes_equal e.text w) || bytes_equal name w)
      meeting (inl h) = by-text (filled e.text) (bytes_equal e.text w) (bytes_equal name w) h.0 (same e.text h.1)
      meeting (inr h) = T-second (filled e.text && bytes_equal e.text w) (bytes_equal name w) (same name h)

  pub name-alone : e.text ≡ [] → meets p e w ≡ bytes_equal (label_at p e.label).name w
  unfolding meets
  name-alone h = rw h
