-- The tally of an hour that keeps its ranges: it has room for the next record, whose posting is the next tally; and once all records are
-- posted, what the tally gives of an area: its demand, its UFE, and whether it breaks refusal 6; and whether anybody demands anything.
use mathlib.Core.Path.{◌≡◌, sym, ◌∙◌, ap}
use mathlib.Core.Bool.{true, false, and-false}
use mathlib.Core.List.{List}
use Prim.Native.Nat.{ℕ, ◌+◌, ◌≤◌, ◌<◌}
use native.Mathlib.Nat.{le_refl}
use native.Mathlib.Numerals.{add-one}
use native.Mathlib.Omega.{arith}
use lib.IntN.{ℤ, pos, nat_abs, ◌+ℤ◌, ◌-ℤ◌, ◌*ℤ◌}
use lib.ListN.{get_or}
use mir.Syntax.{w64}
use mir.Val.{SFits, of_z}
use borrow.Author.Tests.{eq-eqb, ne_eqb}
use Rattle.whole.specs.Below.{first_below}
use Rattle.whole.specs.Signed.{Under}
use Rattle.whole.proofs.Linear.{abs_zero}
use Rattle.whole.proofs.Machine.{zero_bits}
use Rattle.whole.proofs.Search.{first_ext}
use Rattle.whole.proofs.Sums.{sum_ext}
use Rattle.rules.specs.declared.Tally.{Tally}
use Rattle.rules.specs.Record.{Hour, areas, tie_in, tie_out, area_of, entry_of}
use Rattle.rules.specs.Deviation.{units_per_kwh}
use Rattle.rules.specs.Ufe.{ufe, area_demand}
use Rattle.rules.specs.Neutrality.{hour_demand}
use Rattle.rules.specs.Inner.Kept.{HourKept}
use Rattle.rules.specs.Inner.Posting.{accounted, tallied, demand_of, tally_after}
use Rattle.rules.specs.Settling.{ufe_figures}
use Rattle.rules.proofs.Posting.{tally_energy, tally_gives_demands, tally_gives_ufe}
use Rattle.rules.specs.Refusals.{bad_area}
use Rattle.rules.proofs.Bounds.{energy_running}
use Rattle.rules.proofs.Neutral.{hour_demand_by_area}
use Rattle.formula.specs.Room.{TallyRoom}
use Rattle.formula.proofs.Room.{tally_room}
use Rattle.hour.specs.declared.examined.Hour as examined
use Rattle.hour.specs.Held.{held}
use Rattle.hour.proofs.Figures.{figure_at}
use Rattle.byarea.specs.Posted.{Tallied, unshared, demand_in}

-- a record's area, demand and energy, as they were read
module _ (h : Hour) {t : Tally} (i : ℕ) (posted : t ≡ tally_after h i) {a d : ℕ} {e : ℤ}
    (area-is : a ≡ area_of h i) (demand-is : d ≡ demand_of h i) (energy-is : e ≡ accounted (entry_of h i)) where
  pub has_room : HourKept h → i < h.count → TallyRoom t a d e
  has_room kept there = rw (posted, area-is, demand-is, energy-is) (tally_room kept i there)

  pub next_tally : tallied t a d e ≡ tally_after h (i + 1)
  unfolding tally_after
  next_tally = rw (posted, area-is, demand-is, energy-is, add-one)

-- ---- once all records are posted: an area's demand, its energy, and its UFE

module _ (x : examined.Hour) {t : Tally} (p : Tallied x t) (a : ℕ) (there : a < areas (held x)) where
  abbrev hour : Hour
  hour = held x

  place : a < 8
  place = omega (arith, x.kept.hour_kept.areas_most)

  demand_at : get_or t.demand a 0 ≡ area_demand hour a
  demand_at = rw p (tally_gives_demands hour a place)

  -- an area's energy is at most 5×10^11 units in size
  pub energy_under : Under (get_or t.energy a (pos 0)) 500000000000
  energy_under =
      rw (p, tally_energy hour a place hour.count) (energy_running x.kept.hour_kept a hour.count (le_refl hour.count))

  pub ufe_is : units_per_kwh *ℤ (tie_in hour a -ℤ tie_out hour a) +ℤ get_or t.energy a (pos 0) ≡ ufe hour a
  ufe_is = rw p (sym (tally_gives_ufe hour a place))

-- ---- what the code's tests of an area say: of a number, and of a number's bits

module _ (t : Tally) (figures : List ℤ) (a : ℕ) where
  abbrev demanded : ℕ
  demanded = get_or t.demand a 0

  abbrev U : ℤ
  U = get_or figures a (pos 0)

  pub nobody_demands : demanded ≡ 0 → (of_z w64 U ≡ 0 → ⊥) → unshared t figures a ≡ true
  nobody_demands z n = rw (eq-eqb demanded 0 z, ne_eqb (nat_abs U) 0 (λ e. n (ap (of_z w64) (abs_zero U e))))

  pub somebody_demands : (demanded ≡ 0 → ⊥) → unshared t figures a ≡ false
  somebody_demands n = rw (ne_eqb demanded 0 n)

  pub nothing_to_share : SFits w64 U → of_z w64 U ≡ 0 → unshared t figures a ≡ false
  nothing_to_share fits z = let none : U ≡ pos 0 = zero_bits fits z in rw (none, and-false)

-- ---- the hour's areas, of which the tally and the figures are: for callers of the functions that read no file

module _ (x : examined.Hour) {t : Tally} (p : Tallied x t) where
  pub few_areas : x.areas ≤ 8
  few_areas = omega (arith, x.areas_are, x.kept.hour_kept.areas_most)

  pub demand_is_hours : demand_in t x.areas ≡ hour_demand (held x)
  demand_is_hours = ap (demand_in t) x.areas_are
      ∙ sum_ext _ (area_demand (held x)) (areas (held x)) (demand_at x p)
      ∙ sym (hour_demand_by_area x.kept.hour_kept)

  pub unshared_is_bad : {figures : List ℤ} → figures ≡ ufe_figures (held x) →
      first_below (unshared t figures) x.areas ≡ bad_area (held x)
  unfolding bad_area
  unshared_is_bad {figures} e = ap (first_below (unshared t figures)) x.areas_are ∙ first_ext _ _ (areas (held x)) (λ a there.
      rw (demand_at x p a there, e, figure_at (held x) x.kept.hour_kept.areas_most a there))
