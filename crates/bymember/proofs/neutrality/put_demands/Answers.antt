-- `bymember::neutrality::put_demands` meets its contract: what a member's records demand together is small.
use mathlib.Core.Path.{◌∙◌, ap}
use Prim.Native.Nat.{ℕ, ◌<◌}
use native.Mathlib.Nat.{le_of_lt}
use native.Mathlib.Omega.{arith}
use lib.ListN.{get_or}
use Rattle.whole.proofs.Adding.{no_sum_added, next_sum, added_at}
use Rattle.rules.specs.Record.{Hour, members, member_of}
use Rattle.rules.specs.Inner.Posting.{demand_of}
use Rattle.hour.specs.Held.{held}
use Rattle.bymember.proofs.Finals.{demand_running, demands_are}
use Rattle.bymember.proofs.neutrality.put_demands.Goals as goal
use Rattle.bymember.proofs.neutrality.put_demands.Goals.{After-member_of}

-- a turn's record is there, and its member has a place
module _ (c : After-member_of) where
  abbrev h : Hour
  h = held c.args.hour.now

  there : c.loop-i.i < h.count
  there = omega (arith, c.args.hour.now.records_are)

  member_there : member_of h c.loop-i.i < members h
  member_there = (c.args.hour.now.kept.hour_kept.record_kept c.loop-i.i there).member_there

  so_far : get_or c.loop-i.demands c.member_of.result 0 < 25000001
  so_far = omega (
    arith,
    ap (λ (k : ℕ). get_or c.loop-i.demands k 0) c.member_of.ensures,
    added_at c.loop-i.invariant (member_of h c.loop-i.i) 0 member_there,
    demand_running c.args.hour.now.kept.hour_kept c.loop-i.i (member_of h c.loop-i.i) (le_of_lt there) member_there,
  )

pub loop-i-init : goal.loop-i-init
loop-i-init c = no_sum_added _ _ (omega (arith, c.requires.as_many)) c.requires.zeros

-- demands[member] += u64::from(hour.demand_of(i))
pub overflow_add-demands : goal.overflow_add-demands
overflow_add-demands c = omega (arith, so_far (goal.at.overflow_add-demands c).After-member_of, c.from.ensures, c.demand_of.type_inv)

pub loop-i-preserved : goal.loop-i-preserved
loop-i-preserved c =
    let at = (goal.at.loop-i-preserved c).After-member_of in
    next_sum (member_of (h at)) (demand_of (h at)) c.loop-i.invariant (there at) (member_there at) c.member_of.ensures
    (c.from.ensures ∙ c.demand_of.ensures)

pub returns : goal.returns
returns c = demands_are c.args.hour.now.kept.hour_kept c.loop-i.invariant (omega (arith, c.args.hour.now.records_are))
