-- `operands::two_operands` meets its contract.
use Rattle.machine.specs.Arguments.{side}
use Rattle.table.specs.Denote.{arg_of}
use Rattle.operands.specs.Operands.{kinds_by}
use Rattle.operands.proofs.Reading.{pair-told, first-side}
use Rattle.operands.proofs.two_operands.Goals as goal

pub returns : goal.returns
returns c =
    let s = c.args.state.now.store in
    record {
      reads = λ b t ins. pair-told (kinds_by c.args.kinds) _ (side ins s (arg_of t c.args.arg)) (first-side s c.args.i c.first_offered-x.ensures.reads b ins) (c.second_offered-y.ensures t ins) c.ask_kinds.ensures;
      stands = c.first_offered-x.ensures.stands;
    }
