-- Questions 64 to 66 of a text, from what its list, its calls as typed and its expansion tell.
use Rattle.std.specs.Prelude.{◌≡◌, refl, ℕ}
use Rattle.std.proofs.Common.{sym, ◌∙◌}
use Rattle.std.proofs.Math.Path.{ap}
use mathlib.Core.List.{List, [], ◌∷◌, ◌++◌, append-nil}
use Rattle.std.proofs.Math.ListN.{drop}
use Rattle.language.specs.Limits as limit
use Rattle.lists.specs.Lists.{each}
use Rattle.macros.specs.Elements.{elements}
use Rattle.macros.specs.Expansion.{places_of, followed_by, piece_writes, walk, expand, levels}
use Rattle.macros.proofs.FaultLaws.{places-both}
use Rattle.macros.specs.Macros.{Macro, macro_list_faults, section}
use Rattle.macros.specs.Pieces.{Piece, is_stray, form_faults}
use Rattle.macros.specs.Prepared.{piece_faults, writes, deep_places, all_faults, listed, section_of, places_out, macro_questions}
use Rattle.macro_calls.specs.Calls.{Told}
use Rattle.macro_code.specs.declared.faults.Faults.{Faults}
use Rattle.macro_section.specs.Origins.{none}
use Rattle.macro_values.specs.Wrote.{Wrote}
use Rattle.macro_values.specs.declared.Written.{Written}
use Rattle.statements.specs.FaultLaws.{fault-both, then-yes}
use Rattle.statements.specs.Faults.{lower, decided, then}
use Rattle.statements.specs.StatementAt.{fault_of}
use Rattle.statements.specs.Faults.{Fault}
use Rattle.syntax.specs.Verdict.{Verdict, decide, first_no}
use Rattle.syntax.specs.Verdict.Verdict.{yes}

-- the faults met, piece by piece or all at once
faults-alone : (ms : List Macro) (p : Piece) → (writes ms p).faults ≡ (piece_writes ms (expand ms 15) [] p).faults
unfolding writes expand walk followed_by
faults-alone ms p = append-nil (piece_writes ms (expand ms 15) [] p).faults

faults-at-once : (ms : List Macro) (ps : List Piece) → each (λ p. (writes ms p).faults) ps ≡ (expand ms levels [] ps).faults
unfolding expand walk followed_by
faults-at-once ms [] = refl
faults-at-once ms (p ∷ ps) = rw (faults-alone ms p, faults-at-once ms ps)

-- a question before others, by its lowest place
decide-then : (number : ℕ) (ps : List ℕ) (v : Verdict) → decide number ps v ≡ then (decided number (fault_of ps)) v
unfolding decide
decide-then number [] v = refl
decide-then number (p ∷ ps) v = refl

module _ (s : List ℕ) {form : Fault} (form_is : form ≡ fault_of (macro_list_faults (elements s) ++ form_faults (is_stray []) [] (section (elements s))))
    {t : Faults} (typed : Told (each (piece_faults (listed s)) (each (λ m. m.body) (listed s) ++ section_of s)) t)
    {w : Written} {o p : List ℕ} (wrote : Wrote (expand (listed s) levels [] (section_of s)) none w o p)
    {long : Fault} (long_is : long ≡ fault_of (each (deep_places (listed s)) (section_of s) ++ drop limit.text (places_out s))) where
  faults-both : (number : ℕ) → fault_of (places_of number (all_faults (listed s) (section_of s)))
      ≡ lower (fault_of (places_of number (each (piece_faults (listed s)) (each (λ m. m.body) (listed s) ++ section_of s))))
      (fault_of (places_of number (expand (listed s) levels [] (section_of s)).faults))
  unfolding all_faults
  faults-both number =
      let typed_faults = each (piece_faults (listed s)) (each (λ m. m.body) (listed s) ++ section_of s) in
      ap (λ fs. fault_of (places_of number (typed_faults ++ fs))) (faults-at-once (listed s) (section_of s))
      ∙ ap fault_of (places-both number typed_faults (expand (listed s) levels [] (section_of s)).faults)
      ∙ fault-both (places_of number typed_faults) (places_of number (expand (listed s) levels [] (section_of s)).faults)

  unknown_is : lower form (lower t.unknown w.faults.unknown)
      ≡ fault_of (macro_list_faults (elements s) ++ form_faults (is_stray []) [] (section (elements s)) ++ places_of 64 (all_faults (listed s) (section_of s)))
  unknown_is =
      let l = macro_list_faults (elements s) in
      let f = form_faults (is_stray []) [] (section (elements s)) in
      let a = places_of 64 (all_faults (listed s) (section_of s)) in
      sym (fault-both (l ++ f) a ∙ ap (λ x. lower x (fault_of a)) (sym form_is)
      ∙ ap (lower form) (faults-both 64 ∙ (λ j. lower (sym typed.unknown_is j) (sym wrote.unknown j))))

  uneven_is : lower t.uneven w.faults.uneven ≡ fault_of (places_of 65 (all_faults (listed s) (section_of s)))
  uneven_is = sym (faults-both 65 ∙ (λ j. lower (sym typed.uneven_is j) (sym wrote.uneven j)))

  -- "64 .. 65 .. 66"
  pub asked : then (decided 64 (lower form (lower t.unknown w.faults.unknown))) (then (decided 65 (lower t.uneven w.faults.uneven)) (decided 66 long))
      ≡ first_no (macro_questions s)
  unfolding macro_questions first_no
  asked =
      let sixty-four = macro_list_faults (elements s) ++ form_faults (is_stray []) [] (section (elements s)) ++ places_of 64 (all_faults (listed s) (section_of s)) in
      let sixty-five = places_of 65 (all_faults (listed s) (section_of s)) in
      let sixty-six = each (deep_places (listed s)) (section_of s) ++ drop limit.text (places_out s) in
      rw (unknown_is, uneven_is, long_is)
      (sym (decide-then 64 sixty-four (decide 65 sixty-five (decide 66 sixty-six yes))
      ∙ ap (then (decided 64 (fault_of sixty-four))) (decide-then 65 sixty-five (decide 66 sixty-six yes)
      ∙ ap (then (decided 65 (fault_of sixty-five))) (decide-then 66 sixty-six yes ∙ then-yes (decided 66 (fault_of sixty-six))))))
