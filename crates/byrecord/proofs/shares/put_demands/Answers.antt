-- `byrecord::shares::put_demands` meets its contract. The loop's invariant: the loads passed are counted, and their demands put.
use mathlib.Core.Path.{◌≡◌, sym, ◌∙◌, ap}
use mathlib.Core.Bool.{true, false}
use Prim.Native.Nat.{◌<◌}
use native.Mathlib.Nat.{add-zero}
use native.Mathlib.Omega.{arith}
use lib.ListN.{set}
use Rattle.whole.proofs.Sums.{count_most}
use Rattle.rules.specs.Record.{is_load}
use Rattle.rules.specs.Ufe.{in_area}
use Rattle.hour.specs.Held.{held}
use Rattle.byrecord.proofs.Loads.{load_demands, no_demand_put, place_next, next_demand, all_demands_put}
use Rattle.byrecord.proofs.shares.put_demands.Goals as goal
use Rattle.byrecord.proofs.shares.put_demands.Goals.{In-loop-i, then-load_there, else-load_there}

there : (c : goal.In-loop-i) → c.loop-i.i < (held c.args.hour.now).count
there c = omega (arith, c.loop-i-test.true, c.args.hour.now.records_are)

pub loop-i-init : goal.loop-i-init
loop-i-init c = no_demand_put

pub bounds-demands-loads : goal.bounds-demands-loads
bounds-demands-loads c =
    place_next c.loop-i.invariant (omega (arith, there (goal.at.bounds-demands-loads c).In-loop-i, c.requires))

pub loop-i-preserved : goal.loop-i-preserved
loop-i-preserved c =
    let here = there (goal.at.loop-i-preserved c).In-loop-i in
    let h = held c.args.hour.now in
    elim c.if-load_there.branch [
      | then-load_there w ↦
          let t : in_area h c.args.a is_load c.loop-i.i ≡ true = sym c.load_there.ensures ∙ w.if-load_there.true in
          next_demand c.loop-i.invariant here (rw t w.loads-is)
          (rw t (w.demands-is ∙ ap (set c.loop-i.demands c.loop-i.loads) (w.from.ensures ∙ w.demand_of.ensures ∙ load_demands h c.args.a c.loop-i.i t)))
      | else-load_there w ↦
          let f : in_area h c.args.a is_load c.loop-i.i ≡ false = sym c.load_there.ensures ∙ w.if-load_there.false in
          next_demand c.loop-i.invariant here (rw f (w.loads-is ∙ sym (add-zero _))) (rw f w.demands-is)
    ]

pub returns : goal.returns
returns c =
    let all = all_demands_put c.loop-i.invariant (omega (arith, c.args.hour.now.records_are)) in
    record { loads = all.0; demands = all.1 }

-- no more loads than records
few : (c : goal.In-loop-i) → c.loop-i.loads < 250
few c =
    omega (arith, there c, c.loop-i.invariant.counted, count_most (in_area (held c.args.hour.now) c.args.a is_load) c.loop-i.i, c.args.hour.now.kept.hour_kept.count_most)

pub offset_bounds-demands-loads : goal.offset_bounds-demands-loads
offset_bounds-demands-loads c = omega (arith, few (goal.at.offset_bounds-demands-loads c).In-loop-i)

pub overflow_add-loads : goal.overflow_add-loads
overflow_add-loads c = omega (arith, few (goal.at.overflow_add-loads c).In-loop-i)
