-- `records::stops_at` meets its contract.
use mathlib.Core.Path.{subst}
use Rattle.cells.proofs.Below.ComponentLaws.{components-of, whole-components}
use Rattle.cells.specs.Below.Components.{components_in, record_in}
use Rattle.matching.specs.Tests.{until}
use Rattle.records.specs.Sequences.{FittingRecords}
use Rattle.records.proofs.Walking.{first-stoppable, first_stops}
use Rattle.records.proofs.stops_at.Goals as goal

pub first_of-requires : goal.first_of-requires
first_of-requires c =
    let contents_of = c.contents_of-contents in
    whole-components contents_of.ensures.cells

pub stops_first-requires : goal.stops_first-requires
stops_first-requires c =
    let contents_of = c.contents_of-contents in
    let args = c.args in
    let pre = c.requires in
    first-stoppable (components_in contents_of.result.now) c.first_of.ensures (subst FittingRecords c.in-First.is pre.fitting)

pub same_contents-requires : goal.same_contents-requires
same_contents-requires c =
    let contents_of = c.contents_of-contents in
    let args = c.args in
    let pre = c.requires in
    record { left = whole-components contents_of.ensures.cells; right = subst FittingRecords c.in-Whole.is pre.fitting }

pub returns-in-First : goal.returns-in-First
returns-in-First c =
    let args = c.args in
    let contents_of = c.contents_of-contents in
    rw c.in-First.is (first_stops (until c.in-First.t) args.k (record_in args.s.now) contents_of.ensures c.first_of.ensures c.stops_first.ensures)

pub returns-in-Whole : goal.returns-in-Whole
returns-in-Whole c =
    let contents_of = c.contents_of-contents in
    rw (c.in-Whole.is, ← components-of contents_of.ensures.cells) c.same_contents.ensures
