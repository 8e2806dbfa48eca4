-- `decimals::put_decimal` meets its contract.
use Rattle.decimals.proofs.Digits.{minus-put, plus-put}
use Rattle.decimals.proofs.put_decimal.Goals as goal

pub returns-then-code-lt-SIZE : goal.returns-then-code-lt-SIZE
returns-then-code-lt-SIZE c =
    let a = c.args in
    minus-put a.out.now a.code c.if-code-lt-SIZE.true c.requires.room c.put_digits.ensures

pub returns : goal.returns
returns c =
    let a = c.args in
    plus-put a.out.now a.code c.if-code-lt-SIZE.false c.put_digits-2.ensures
