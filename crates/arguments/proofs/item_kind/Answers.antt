-- `arguments::item_kind` meets its contract.
use mathlib.Core.Path.{refl, sym, ◌∙◌}
use mathlib.Core.Bool.{true≢false}
use Rattle.arguments.specs.ArgumentLaws.{not-both, kinds-text, kinds-word, kinds-none}
use Rattle.arguments.proofs.item_kind.Goals as goal

pub returns-then-is : goal.returns-then-is
returns-then-is c =
    let e = sym c.is.ensures ∙ c.if-is.true in
    record {
      set_is = sym (kinds-text _ _ e);
      text_is = λ q. refl;
      word_is = λ q. absurd (not-both c.args.t.sort e q);
    }

pub returns-then-is-2 : goal.returns-then-is-2
returns-then-is-2 c =
    let e = sym c.is.ensures ∙ c.if-is.false in
    record {
      set_is = c.word_kind.ensures.set_is ∙ sym (kinds-word _ _ e (sym c.is-2.ensures ∙ c.if-is-2.true));
      text_is = λ q. absurd (true≢false (sym q ∙ e));
      word_is = λ q. c.word_kind.ensures.own_is;
    }

pub returns : goal.returns
returns c =
    let e = sym c.is.ensures ∙ c.if-is.false in
    let f = sym c.is-2.ensures ∙ c.if-is-2.false in
    record {
      set_is = sym (kinds-none _ _ e f);
      text_is = λ q. absurd (true≢false (sym q ∙ e));
      word_is = λ q. absurd (true≢false (sym q ∙ f));
    }
