-- `tenminutes::interval::Part::deviation` meets its contract: the formulas of document 01, of an interval's entry.
use mathlib.Core.Path.{◌≡◌, ◌∙◌, ap, ap₂}
use mathlib.Core.List.{List}
use Prim.Native.Nat.{ℕ, ◌<◌}
use native.Mathlib.Omega.{arith}
use lib.IntN.{ℤ, neg_ℤ}
use borrow.Author.Rules.{sfits_of}
use Rattle.whole.specs.Signed.{Under}
use Rattle.whole.proofs.Linear.{zr, all1}
use Rattle.whole.proofs.Ranges.{u_more, u_zero}
use Rattle.whole.proofs.Machine.{result, stored, back, read_back}
use Rattle.rules.specs.declared.Kind.{Kind}
use Rattle.rules.specs.declared.Kind.TheVariants.{Generator, RealTimeLoad, ProfileLoad, Import, Export, Unknown}
use Rattle.rules.specs.Record.{Entry}
use Rattle.rules.specs.Deviation as Deviation
use Rattle.rules.specs.Charge.{entering_as, entering}
use Rattle.rules.specs.HourFile.{word}
use Rattle.rules.specs.TenMinutes.{interval_entry}
use Rattle.rules.specs.Inner.Kept.{EntryRoom, IntervalWords, IntervalKept}
use Rattle.rules.proofs.Bounds.{interval_room}
use Rattle.rules.proofs.IntervalsKept.{interval_kept}
use Rattle.rules.proofs.IntervalBounds.{interval_under}
use Rattle.tenminutes.proofs.interval.Part.deviation.Goals as goal

-- a deviation is as large as what enters
turned : (z : ℤ) (k : ℕ) → Under (neg_ℤ z) k → Under z k
turned = all1 _ (λ z k. simp zr (omega arith))

under-as : (K : Kind) (r : Entry) (k : ℕ) → Under (entering_as K (Deviation.deviation_as r K)) k → Under (Deviation.deviation_as r K) k
under-as Generator r k u = u
under-as RealTimeLoad r k u = turned _ k u
under-as ProfileLoad r k u = turned _ k u
under-as Import r k u = u
under-as Export r k u = turned _ k u
under-as Unknown r k u = u_zero

deviation_under : (r : Entry) (k : ℕ) → Under (entering r) k → Under (Deviation.deviation r) k
unfolding entering Deviation.deviation
deviation_under r k u = under-as r.kind r k u

abbrev own : List ℕ → ℕ → Entry
own words k = interval_entry (word words) k

module _ (words : List ℕ) {k : ℕ} (kept : IntervalWords (word words)) (few : k < 6) where
  own_kept : IntervalKept (own words k)
  own_kept = interval_kept (word words) kept k few

  own_under : Under (Deviation.deviation (own words k)) 96000000000
  own_under = deviation_under (own words k) 96000000000 (interval_under own_kept)

  own_room : EntryRoom (own words k)
  own_room = interval_room own_kept

  worked : {r : Entry} {d : ℤ} → r ≡ own words k → d ≡ Deviation.deviation r → back d ≡ Deviation.deviation (own words k)
  worked e f = stored (result (f ∙ ap Deviation.deviation e) own_under) tt

pub deviation-units-requires : goal.deviation-units-requires
deviation-units-requires c = rw c.entry-entry.ensures (own_room _ c.args.self.now.kept c.requires)

pub entering-requires : goal.entering-requires
entering-requires c =
    let kept = c.args.self.now.kept in
    rw (worked _ kept c.requires c.entry-entry.ensures c.deviation-units.ensures) (u_more 144000000000 (own_under _ kept c.requires) tt)

pub returns : goal.returns
unfolding entering
returns c =
    read_back (sfits_of c.entering.type_inv)
    ∙ c.entering.ensures
    ∙ ap₂ entering_as (ap (λ (r : Entry). r.kind) c.entry-entry.ensures)
    (worked _ c.args.self.now.kept c.requires c.entry-entry.ensures c.deviation-units.ensures)
