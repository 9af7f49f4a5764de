-- `bymember::neutrality::put_amounts` meets its contract: each record's grains are added to its member's, without a share.
use native.Mathlib.Omega.{arith}
use Prim.Native.Nat.{◌<◌}
use borrow.Author.Rules.{rules}
use mathlib.Core.Path.{◌∙◌}
use Rattle.whole.proofs.Machine.{read_back}
use Rattle.whole.proofs.Adding.{no_total_added}
use Rattle.hour.specs.Held.{held}
use Rattle.bymember.proofs.Amounts.{no_share, grains_fit, grains_added, amounts_are}
use Rattle.bymember.proofs.neutrality.put_amounts.Goals as goal

pub loop-i-init : goal.loop-i-init
loop-i-init c = no_total_added _ _ (omega (arith, c.requires.2.as_many)) c.requires.2.zeros

pub grains-requires : goal.grains-requires
grains-requires c =
    let here : c.loop-i.i < (held c.args.hour.now).count = omega (arith, c.args.hour.now.records_are) in
    record {
      there = here;
      deviation_is = read_back (search rules) ∙ c.requires.1.deviations_are c.loop-i.i here;
      share_is = no_share c.args.hour.now.kept.hour_kept c.requires.0 c.loop-i.i here;
    }

-- amounts[hour.member_of(i)] += crate::grains(..)
pub overflow_add-amounts : goal.overflow_add-amounts
overflow_add-amounts c =
    let hour = c.args.hour.now in
    grains_fit hour.kept.hour_kept c.loop-i.invariant (omega (arith, hour.records_are)) c.member_of.ensures c.grains.ensures

pub loop-i-preserved : goal.loop-i-preserved
loop-i-preserved c =
    let hour = c.args.hour.now in
    grains_added hour.kept.hour_kept c.loop-i.invariant (omega (arith, hour.records_are)) c.member_of.ensures c.grains.ensures

pub returns : goal.returns
returns c = amounts_are c.args.hour.now.kept.hour_kept c.loop-i.invariant (omega (arith, c.args.hour.now.records_are))
