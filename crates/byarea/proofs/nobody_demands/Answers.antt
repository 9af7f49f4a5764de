-- `byarea::nobody_demands` meets its contract. The loop's invariant: no area passed demands anything.
use mathlib.Core.Path.{sym, ◌∙◌}
use Prim.Native.Nat.{◌<◌}
use native.Mathlib.Omega.{arith}
use lib.ListN.{get_or}
use borrow.Author.Tests.{ne_eqb}
use Rattle.std.proofs.lemmas.List.{get_or-take, length-take}
use Rattle.whole.proofs.Sums.{sum_none, sum_add_one, sum_at}
use Rattle.byarea.specs.Posted.{demand_in}
use Rattle.byarea.proofs.nobody_demands.Goals as goal
use Rattle.byarea.proofs.nobody_demands.Goals.{In-loop-own}

there : (c : goal.In-loop-own) → c.loop-own.own-index < c.args.areas
there c = omega (arith, c.loop-own-test.true, length-take c.args.areas c.args.t.demand)

pub loop-own-init : goal.loop-own-init
loop-own-init c = sum_none _

-- return false
pub returns-then-own-ne0 : goal.returns-then-own-ne0
returns-then-own-ne0 c =
    let own = there (goal.at.returns-then-own-ne0 c).In-loop-own in
    sym (ne_eqb (demand_in c.args.t c.args.areas) 0 (λ e. c.if-own-ne0.true (get_or-take c.args.areas c.args.t.demand c.loop-own.own-index 0 own ∙ (
    omega (arith, sum_at (λ a. get_or c.args.t.demand a 0) c.args.areas c.loop-own.own-index own)))))

pub loop-own-preserved : goal.loop-own-preserved
loop-own-preserved c =
    let own = there (goal.at.loop-own-preserved c).In-loop-own in
    omega (arith, c.if-own-ne0.false, get_or-take c.args.areas c.args.t.demand c.loop-own.own-index 0 own, c.loop-own.invariant, sum_add_one (λ a. get_or c.args.t.demand a 0) c.loop-own.own-index)
