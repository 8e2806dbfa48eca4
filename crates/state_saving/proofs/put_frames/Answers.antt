-- `state_saving::put_frames` meets its contract.
use mathlib.Core.Path.{sym}
use Rattle.state_saving.proofs.Parts.{lent-long, lent-fits, lent-appended, expressions-fit, files-fit, outputs-fit, stack-fits, all-appended}
use Rattle.state_saving.proofs.put_frames.Goals as goal

pub slice_bounds-put_some-end : goal.slice_bounds-put_some-end
slice_bounds-put_some-end c = let args = c.args in sym (lent-long args.memory.now args.out.now c.requires c.cells.ensures.is)

pub put_some-head-requires : goal.put_some-head-requires
put_some-head-requires c = let args = c.args in lent-fits args.memory.now args.out.now c.requires c.cells.ensures.is

pub put_strings-expressions-requires : goal.put_strings-expressions-requires
put_strings-expressions-requires c = let args = c.args in
    let head = lent-appended args.memory.now args.out.now c.requires c.cells.ensures.is c.put_some-head.ensures in
    expressions-fit args.memory.now args.out.now c.requires head

pub put_files-files-requires : goal.put_files-files-requires
put_files-files-requires c =
    let args = c.args in
    let head = lent-appended args.memory.now args.out.now c.requires c.cells.ensures.is c.put_some-head.ensures in
    files-fit args.memory.now args.out.now c.requires head c.put_strings-expressions.ensures

pub put_strings-outputs-requires : goal.put_strings-outputs-requires
put_strings-outputs-requires c =
    let args = c.args in
    let head = lent-appended args.memory.now args.out.now c.requires c.cells.ensures.is c.put_some-head.ensures in
    outputs-fit args.memory.now args.out.now c.requires head c.put_strings-expressions.ensures c.put_files-files.ensures

pub put_some-requires : goal.put_some-requires
put_some-requires c =
    let args = c.args in
    let head = lent-appended args.memory.now args.out.now c.requires c.cells.ensures.is c.put_some-head.ensures in
    stack-fits args.memory.now args.out.now c.requires head c.put_strings-expressions.ensures c.put_files-files.ensures c.put_strings-outputs.ensures c.string-stack.ensures

pub returns : goal.returns
returns c =
    let args = c.args in
    let head = lent-appended args.memory.now args.out.now c.requires c.cells.ensures.is c.put_some-head.ensures in
    all-appended args.memory.now args.out.now c.requires head c.put_strings-expressions.ensures c.put_files-files.ensures c.put_strings-outputs.ensures c.string-stack.ensures c.put_some.ensures
