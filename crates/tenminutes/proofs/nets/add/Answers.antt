-- `tenminutes::nets::add` meets its contract. The loop's invariant: to the nets of the intervals passed their deviations are added.
use mathlib.Core.Path.{◌≡◌}
use Prim.Native.Nat.{ℕ, ◌<◌}
use native.Mathlib.Nat.{le_refl}
use native.Mathlib.Omega.{arith}
use mathlib.Core.List.{List}
use lib.IntN.{ℤ, pos}
use Rattle.whole.proofs.Machine.{Num, result, ◌:+◌, fits, stored}
use Rattle.whole.proofs.Filling.{Filled, none_filled, not_yet_filled, next_filled, all_filled}
use Rattle.rules.specs.Charge.{entering}
use Rattle.rules.specs.TenMinutes.{interval_entry}
use Rattle.rules.specs.Inner.Kept.{IntervalWords}
use Rattle.rules.proofs.IntervalsKept.{interval_kept}
use Rattle.rules.proofs.IntervalBounds.{interval_under}
use Rattle.tenminutes.specs.Room.{Spare}
use Rattle.tenminutes.proofs.nets.add.Goals as goal

-- a net that is reached, and the deviation of its interval
abbrev sum : {v : ℕ → ℕ} {f : ℕ → ℤ} {old nets : List ℤ} {k : ℕ} → IntervalWords v → Spare old → k < 6 → Filled f 6 k old nets →
    {d : ℤ} → d ≡ entering (interval_entry v k) → Num
sum {v} {k = k} words spare more filled e =
    result (not_yet_filled filled k (pos 0) (le_refl k)) (spare.small k more) :+ result e (interval_under (interval_kept v words k more))

pub loop-k-init : goal.loop-k-init
loop-k-init c = none_filled (omega (arith, c.requires.intervals))

pub overflow_add-net : goal.overflow_add-net
overflow_add-net c = fits (sum c.args.part.now.kept c.requires (omega arith) c.loop-k.invariant c.deviation.ensures) tt

pub loop-k-preserved : goal.loop-k-preserved
loop-k-preserved c = next_filled c.loop-k.invariant (omega arith)
    (stored (sum c.args.part.now.kept c.requires (omega arith) c.loop-k.invariant c.deviation.ensures) tt)

pub returns : goal.returns
returns c = all_filled c.loop-k.invariant (omega arith) c.requires.intervals
