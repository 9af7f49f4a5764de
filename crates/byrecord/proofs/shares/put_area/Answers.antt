-- `byrecord::shares::put_area` meets its contract. The loop's invariant: the loads passed are counted, and have their shares.
use mathlib.Core.Path.{◌≡◌, sym, ◌∙◌, ap}
use mathlib.Core.Bool.{true, false}
use Prim.Native.Nat.{ℕ, ◌<◌}
use native.Mathlib.Nat.{add-zero}
use native.Mathlib.Omega.{arith}
use lib.IntN.{ℤ}
use lib.ListN.{set}
use borrow.Author.Rules.{sfits_of}
use Rattle.whole.specs.Below.{replacing_first}
use Rattle.whole.proofs.Machine.{read_back}
use Rattle.whole.proofs.Filling.{first_filled}
use Rattle.rules.specs.Record.{is_load}
use Rattle.rules.specs.Ufe.{in_area}
use Rattle.hour.specs.Held.{held}
use Rattle.byrecord.specs.Shared.{with_sizes}
use Rattle.byrecord.proofs.Loads.{no_share_put, loads_few, next_share}
use Rattle.byrecord.proofs.shares.put_area.Goals as goal
use Rattle.byrecord.proofs.shares.put_area.Goals.{In-loop-i, then-load_there, else-load_there}

there : (c : goal.In-loop-i) → c.loop-i.i < (held c.args.hour.now).count
there c = omega (arith, c.loop-i-test.true, c.args.hour.now.records_are)

pub loop-i-init : goal.loop-i-init
loop-i-init c = let pre = c.requires in no_share_put (omega (arith, pre.room, pre.as_many))

pub bounds-sizes-loads : goal.bounds-sizes-loads
bounds-sizes-loads c =
    omega (arith, loads_few c.loop-i.invariant, there (goal.at.bounds-sizes-loads c).In-loop-i, c.requires.as_many)

pub returns : goal.returns
returns c =
    let h = held c.args.hour.now in
    let out = c.args.out.now in
    let signed : ℤ → ℕ → ℤ = λ u. with_sizes h c.args.a u c.args.sizes.now out in
    first_filled c.loop-i.invariant.filled (omega (arith, c.args.hour.now.records_are))
    ∙ ap (λ u. replacing_first (signed u) h.count out) (read_back c.ranges.figure)

-- no more loads than records
few : (c : goal.In-loop-i) → c.loop-i.loads < 250
few c = omega (arith, there c, loads_few c.loop-i.invariant, c.args.hour.now.kept.hour_kept.count_most)

pub offset_bounds-sizes-loads : goal.offset_bounds-sizes-loads
offset_bounds-sizes-loads c = omega (arith, few (goal.at.offset_bounds-sizes-loads c).In-loop-i)

pub overflow_add-loads : goal.overflow_add-loads
overflow_add-loads c = omega (arith, few (goal.at.overflow_add-loads c).In-loop-i)

pub loop-i-preserved : goal.loop-i-preserved
loop-i-preserved c =
    let here = there (goal.at.loop-i-preserved c).In-loop-i in
    let h = held c.args.hour.now in
    elim c.if-load_there.branch [
      | then-load_there w ↦
          let t : in_area h c.args.a is_load c.loop-i.i ≡ true = sym c.load_there.ensures ∙ w.if-load_there.true in
          next_share c.loop-i.invariant here (rw t w.loads-is)
          (rw t (w.out-is ∙ ap (set c.loop-i.out c.loop-i.i) (read_back (sfits_of w.with_sign_of.type_inv) ∙ w.with_sign_of.ensures)))
      | else-load_there w ↦
          let f : in_area h c.args.a is_load c.loop-i.i ≡ false = sym c.load_there.ensures ∙ w.if-load_there.false in
          next_share c.loop-i.invariant here (rw f (w.loads-is ∙ sym (add-zero _))) (rw f w.out-is)
    ]
