-- `bymember::neutrality::take_off` meets its contract: charge and share each keep their range.
use lib.ListN.{get_or}
use Rattle.whole.proofs.Ranges.{u_le, u_with_sign}
use Rattle.whole.proofs.Machine as Machine
use Rattle.whole.proofs.Machine.{Num, result, ◌:-◌, stored, back}
use Rattle.whole.proofs.Filling.{none_filled, next_filled}
use Rattle.bymember.proofs.neutrality.take_off.Goals as goal

pub loop-m-init : goal.loop-m-init
loop-m-init c = none_filled c.requires.1

pub loop-m-preserved : goal.loop-m-preserved
loop-m-preserved c =
    let less : Num = Machine.at (c.requires.0.small c.loop-m.m c.loop-m-test.true)
    :- result c.with_sign_of.ensures
    (u_le
    {n = 400000000000}
    (u_with_sign (back c.args.all) (get_or c.args.sizes.now c.loop-m.m 0))
    (c.requires.2 c.loop-m.m c.loop-m-test.true)) in
    next_filled c.loop-m.invariant c.loop-m-test.true (stored less tt)
