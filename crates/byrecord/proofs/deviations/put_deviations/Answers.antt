-- `byrecord::deviations::put_deviations` meets its contract. The loop's invariant: the places passed hold the deviations.
use mathlib.Core.Path.{◌∙◌}
use native.Mathlib.Omega.{arith}
use borrow.Author.Rules.{sfits_of}
use Rattle.whole.proofs.Machine.{read_back}
use Rattle.whole.proofs.Filling.{none_filled, place_there, next_filled, first_filled}
use Rattle.byrecord.proofs.deviations.put_deviations.Goals as goal

pub loop-i-init : goal.loop-i-init
loop-i-init c = none_filled c.requires

pub deviation_of-requires : goal.deviation_of-requires
deviation_of-requires c = omega (arith, c.args.hour.now.records_are)

-- out[i] = deviation_of(hour, i)
pub bounds-out-i : goal.bounds-out-i
bounds-out-i c = place_there c.loop-i.invariant (omega (arith, c.args.hour.now.records_are))

pub loop-i-preserved : goal.loop-i-preserved
loop-i-preserved c = next_filled c.loop-i.invariant (omega (arith, c.args.hour.now.records_are))
    (read_back (sfits_of c.deviation_of.type_inv) ∙ c.deviation_of.ensures)

pub returns : goal.returns
returns c = first_filled c.loop-i.invariant (omega (arith, c.args.hour.now.records_are))
