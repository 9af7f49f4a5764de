-- Postings as values give the figures of the definitions: the tally an area's demand and UFE, the lines each member's amount and count.
use mathlib.Core.Path.{◌≡◌, refl, sym, ◌∙◌, ap, ap₂}
use mathlib.Core.Logic.{◌≢◌}
use mathlib.Core.Bool.{Bool, true, false, cond}
use mathlib.Core.List.{List}
use Prim.Native.Nat.{ℕ, zero, suc, ◌+◌, ◌<◌}
use native.Mathlib.Nat.{add-zero}
use native.Mathlib.Omega.{arith}
use lib.Dec.{eqb}
use lib.IntN.{ℤ, pos, +ℤ_idr, ◌+ℤ◌, ◌-ℤ◌, ◌*ℤ◌}
use lib.ListN.{length, get_or, length-set, get_or-replicate}
use lib.Seq.{get_or-set_other}
use Rattle.whole.specs.Below.{one_if, count_below, sum_below, total_below, replacing_first}
use Rattle.whole.proofs.Tests.{never, cond_both}
use Rattle.whole.proofs.Sums.{grown_if}
use Rattle.whole.proofs.Totals.{added_if}
use Rattle.whole.proofs.Buffers.{get_or_changed, replacing_changed, replacing_ext}
use Rattle.rules.specs.declared.Kind.{Kind}
use Rattle.rules.specs.declared.Kind.TheVariants.{Generator, RealTimeLoad, ProfileLoad, Import, Export, Unknown}
use Rattle.rules.specs.declared.Line.{Line}
use Rattle.rules.specs.Record.{Hour, members, tie_in, tie_out, member_of, area_of, actual, entry, entry_of, kind_of, is_load, is_import}
use Rattle.rules.specs.Deviation.{units_per_kwh}
use Rattle.rules.specs.Ufe.{D, in_area, ufe, demand, area_demand}
use Rattle.rules.specs.Share.{all_demand}
use Rattle.rules.specs.Charge.{grains, amount, records_of}
use Rattle.rules.specs.Settling.{line_of, empty_line}
use Rattle.rules.specs.Inner.Posting.{accounted, empty_tally, tallied, demand_by, demand_of, tally_after, line_with, lines_with, lines_after}
use Rattle.rules.proofs.Tariff.{ufe_by_record}

-- ---- D

-- a load is no import
load_no_import : (k : Kind) → is_load k ≡ true → is_import k ≡ false
load_no_import Generator e = refl
load_no_import RealTimeLoad e = refl
load_no_import ProfileLoad e = refl
load_no_import Import e = never e refl
load_no_import Export e = refl
load_no_import Unknown e = refl

-- What a record demands is its A, which is never below 0.
pub demand_is_actual : (h : Hour) (i : ℕ) → pos (demand h i) ≡ (entry_of h i).A
unfolding entry_of entry
demand_is_actual h i = refl

-- A load's is word 4 of its record.
pub load_word : (w : ℕ → ℕ) → is_load (kind_of (w 0)) ≡ true → D (entry w) ≡ w 4
unfolding actual entry
load_word w is-load = rw (load_no_import (kind_of (w 0)) is-load)

-- ---- the tally

module _ (h : Hour) where
  -- The tally counts the records posted.
  pub tally_records : (n : ℕ) → (tally_after h n).records ≡ n
  unfolding tally_after empty_tally tallied
  tally_records zero = refl
  tally_records (suc n) = let e = tally_records n in omega arith

  -- It has eight places for demands and eight for energies.
  pub tally_demand_length : (n : ℕ) → length (tally_after h n).demand ≡ 8
  unfolding tally_after empty_tally tallied
  tally_demand_length zero = refl
  tally_demand_length (suc n) = length-set (tally_after h n).demand (area_of h n) _ ∙ tally_demand_length n

  pub tally_energy_length : (n : ℕ) → length (tally_after h n).energy ≡ 8
  unfolding tally_after empty_tally tallied
  tally_energy_length zero = refl
  tally_energy_length (suc n) = length-set (tally_after h n).energy (area_of h n) _ ∙ tally_energy_length n

  module _ (a : ℕ) (area : a < 8) where
    -- After n records an area's demand is that of its loads among them.
    pub tally_demand : (n : ℕ) → get_or (tally_after h n).demand a 0 ≡ sum_below (λ i. cond (in_area h a is_load i) (demand h i) 0) n
    unfolding tally_after empty_tally tallied demand_by in_area sum_below
    tally_demand zero = get_or-replicate 8 a 0 0 area
    tally_demand (suc n) =
        get_or_changed (λ x. x + demand_of h n) (tally_after h n).demand (area_of h n) a 0 (let e = tally_demand_length n in omega arith)
        ∙ grown_if (eqb (area_of h n) a) (get_or (tally_after h n).demand a 0) (demand_of h n)
        ∙ ap₂ (λ (x y : ℕ). x + y) (tally_demand n) (sym (cond_both (eqb (area_of h n) a) (is_load (entry_of h n).kind) (demand h n)))

    -- After n records an area's energy is what its records among them are accounted for.
    pub tally_energy : (n : ℕ) →
        get_or (tally_after h n).energy a (pos 0) ≡ total_below (λ i. cond (eqb (area_of h i) a) (accounted (entry_of h i)) (pos 0)) n
    unfolding tally_after empty_tally tallied total_below
    tally_energy zero = get_or-replicate 8 a (pos 0) (pos 0) area
    tally_energy (suc n) =
        get_or_changed (λ x. x +ℤ accounted (entry_of h n)) (tally_after h n).energy (area_of h n) a (pos 0)
        (let e = tally_energy_length n in omega arith)
        ∙ added_if (eqb (area_of h n) a) (get_or (tally_after h n).energy a (pos 0)) (accounted (entry_of h n))
        ∙ ap (λ (x : ℤ). x +ℤ cond (eqb (area_of h n) a) (accounted (entry_of h n)) (pos 0)) (tally_energy n)

    -- Once all records are posted, the tally has each area's demand, T, and all of its UFE that its ties do not bring.
    pub tally_gives_demands : get_or (tally_after h h.count).demand a 0 ≡ area_demand h a
    unfolding area_demand all_demand
    tally_gives_demands = tally_demand h.count

    pub tally_gives_ufe : ufe h a ≡ units_per_kwh *ℤ (tie_in h a -ℤ tie_out h a) +ℤ get_or (tally_after h h.count).energy a (pos 0)
    tally_gives_ufe = ufe_by_record h a ∙ ap (λ (x : ℤ). units_per_kwh *ℤ (tie_in h a -ℤ tie_out h a) +ℤ x) (sym (tally_energy h.count))

-- ---- the members' lines

-- A posting touches one line and no other.
pub one_line_touched : (ls : List Line) (m k : ℕ) (g : ℤ) → m ≢ k → get_or (lines_with ls m g) k empty_line ≡ get_or ls k empty_line
unfolding lines_with
one_line_touched ls m k g other = get_or-set_other ls m k (line_with (get_or ls m empty_line) g) empty_line (λ e. other (sym e))

-- a posting adds to its own member's line, and nothing to another's
line_grows : (own : Bool) (l : Line) (g : ℤ) →
    cond own (line_with l g) l ≡ record { amount = l.amount +ℤ cond own g (pos 0); records = l.records + one_if own }
unfolding line_with
line_grows true l g = refl
line_grows false l g = λ i. record { amount = sym (+ℤ_idr l.amount) i; records = sym (add-zero l.records) i }

module _ (h : Hour) where
  -- a member's line of the first n records
  abbrev pub line_after : (n m : ℕ) → Line
  line_after n m = record {
    amount = total_below (λ i. cond (eqb (member_of h i) m) (grains h i) (pos 0)) n;
    records = count_below (λ i. eqb (member_of h i) m) n;
  }

  module _ (old : List Line) where
    -- After n records each member's line is that of these records, and the lines past the members' hold what they held.
    pub lines_after_lem : (n : ℕ) → ((i : ℕ) → i < n → member_of h i < members h) →
        lines_after h old n ≡ replacing_first (line_after n) (members h) old
    unfolding lines_after lines_with empty_line total_below count_below
    lines_after_lem zero there = refl
    lines_after_lem (suc n) there =
        rw (lines_after_lem n (λ i l. there i (omega arith))) (
        replacing_changed (λ l. line_with l (grains h n)) (line_after n) (members h) old (member_of h n) empty_line (there n (omega arith))
        ∙ replacing_ext _ _ (members h) old (λ m l. line_grows (eqb (member_of h n) m) (line_after n m) (grains h n)))

    -- Once all records are posted, each member's line holds its exact amount and its record count.
    pub lines_are : ((i : ℕ) → i < h.count → member_of h i < members h) →
        lines_after h old h.count ≡ replacing_first (line_of h) (members h) old
    unfolding line_of amount records_of
    lines_are there = lines_after_lem h.count there
