-- `share::share_in_place` meets its contract: nothing where nobody demands anything, else the sizes down to the bound.
use Rattle.share.proofs.Shared.{nothing_shared, can_divide, few_left, sizes_are}
use Rattle.share.proofs.share_in_place.Goals as goal

-- t == 0
pub returns-then-t-eq0 : goal.returns-then-t-eq0
returns-then-t-eq0 c =
    let added = c in
    nothing_shared added.requires added.total-t.result added.total-t.ensures c.if-t-eq0.true

-- somebody demands something
pub invariant_of-division : goal.invariant_of-division
invariant_of-division c = record { divides = can_divide c.requires c.total-t.result c.total-t.ensures c.if-t-eq0.false }

pub threshold-cut-requires-clause-enough : goal.threshold-cut-requires-clause-enough
threshold-cut-requires-clause-enough c = few_left (can_divide c.requires c.total-t.result c.total-t.ensures c.if-t-eq0.false)
    c.left_over-units.result.0 c.left_over-units.ensures.units

-- the end: the sizes are put down
pub returns : goal.returns
returns c = sizes_are (can_divide c.requires c.total-t.result c.total-t.ensures c.if-t-eq0.false)
    c.left_over-units.result.0 c.left_over-units.ensures.units c.threshold-cut.ensures c.put_sizes.ensures
