-- The customer's demands, proved for every input: refusals as the table says, figures as 003 and texts as document 01 say, sums
-- that come out whole.
use mathlib.Core.Path.{◌≡◌, ◌∙◌, ap, ap₂}
use mathlib.Core.Bool.{not, cond, ◌&&◌, ◌||◌}
use Rattle.std.specs.Prelude.{None}
use mathlib.Core.List.{List, ◌∷◌, ◌++◌}
use Prim.Native.Nat.{ℕ, ◌/◌, ◌%◌, ◌≤◌, ◌<◌}
use native.Mathlib.Omega.{arith}
use lib.IntN.{ℤ, pos, nat_abs}
use lib.ListN.{length, replicate}
use lib.Dec.{ltb, eqb}
use borrow.Author.Tests.{ltb-false, lt-ltb, le-ltb, eqb-true, eq-eqb, not-false}
use Rattle.whole.proofs.Tests.{neither}
use Rattle.whole.proofs.Sums.{count_zero}
use Rattle.whole.proofs.Totals.{total_ext, total_zero}
use Rattle.whole.proofs.Linear.{abs_zero}
use Rattle.whole.proofs.Search.{first_none}
use Rattle.whole.proofs.Buffers.{length_values, get_or_values, get_or_replacing, drop_replacing, length_replacing}
use Rattle.rules.specs.Record.{Hour, members, zones, areas, member_of, area_of, zone_of, entry_of}
use Rattle.rules.specs.Deviation.{deviation}
use Rattle.rules.specs.Ufe.{ufe, area_demand}
use Rattle.rules.specs.Charge.{share_of, amount, records_of, cents, nearest_cent, charge}
use Rattle.rules.specs.Neutrality.{final}
use Rattle.rules.specs.Text.{bytes, digit_byte, amount_text, amount_field}
use Rattle.rules.specs.HourFile.{hour_in}
use Rattle.rules.specs.Refusals.{Buffers, bad_area, too_short, hour_rows}
use Rattle.rules.specs.Settling.{Written, settle, filled, ufe_figures, line_of, empty_line}
use Rattle.rules.specs.Statement.{column, member_line}
use Rattle.rules.specs.Inner.Kept.{HourKept}
use Rattle.rules.specs.Promised.Demands.{Accepts, AllWhole, Demand1, ByFormula, all_zones, Demand2, FairOutcome, Demand3}
use Rattle.rules.proofs.Tariff.{deviation_renders, ufe_renders, amount_is_IEC}
use Rattle.rules.proofs.Rounding.{rounding}
use Rattle.rules.proofs.Rows.{no_place, accepts_when_whole, hour_numbered, areas_whole, settle_by_the_table, settle_whole}
use Rattle.rules.proofs.Rows.{settle_changes_nothing, settle_fills, write_by_the_table, write_changes_nothing}
use Rattle.rules.proofs.Text.{read_checks, read_accepts, read_refuses, written_read, read_written, text_fits_14, write_accepted_at}
use Rattle.rules.proofs.Kept.{passed_kept}
use Rattle.rules.proofs.Bounds.{charge_under}
use Rattle.rules.proofs.Neutral.{final_under}
use Rattle.rules.proofs.Fair.{Sound, shares_by_rank, fair_alike}

-- ---- an accepted hour

-- what the rows of the hour say of it
record Passed (h : Hour) : Type 0 where
  kept : HourKept h
  no_bad_area : bad_area h ≡ None

hour_passed : (s : List ℕ) → AllWhole (hour_rows s) → Passed (hour_in s)
hour_passed s w = record { kept = (passed_kept s w).hour_kept; no_bad_area = areas_whole s w }

-- what row 11 says of the buffers
pub record Room (h : Hour) (b : Buffers) : Type 0 where
  pub charges_room : members h ≤ length b.charges
  pub finals_room : members h ≤ length b.finals
  pub lines_room : members h ≤ length b.lines
  pub shares_room : h.count ≤ length b.shares
  pub deviations_room : h.count ≤ length b.deviations

pub buffers_room : (h : Hour) (b : Buffers) → too_short h b ≡ None → Room h b
unfolding too_short
buffers_room h b enough =
    let c = ltb (length b.charges) (members h) in
    let f = ltb (length b.finals) (members h) in
    let l = ltb (length b.lines) (members h) in
    let s = ltb (length b.shares) h.count in
    let x = neither (c || f || l || s) (ltb (length b.deviations) h.count) (no_place _ enough) in
    let y = neither (c || f || l) s x.0 in
    let z = neither (c || f) l y.0 in
    let w = neither c f z.0 in
    record {
      charges_room = ltb-false _ _ w.0;
      finals_room = ltb-false _ _ w.1;
      lines_room = ltb-false _ _ z.1;
      shares_room = ltb-false _ _ y.1;
      deviations_room = ltb-false _ _ x.1;
    }

-- ---- the figures

module _ (h : Hour) (kept : HourKept h) where
  pub zone_there : (i : ℕ) → i < h.count → zone_of h (area_of h i) < zones h
  zone_there i l = (kept.area_kept (area_of h i) (kept.record_kept i l).area_there).zone_there

  no_records_no_amount : (m : ℕ) → records_of h m ≡ 0 → amount h m ≡ pos 0
  unfolding records_of amount
  no_records_no_amount m e =
      total_ext _ _ h.count (λ i l. rw (count_zero (λ i. eqb (member_of h i) m) h.count e i l)) ∙ total_zero h.count

  no_records_no_charge : (m : ℕ) → records_of h m ≡ 0 → charge h m ≡ pos 0
  unfolding charge cents nearest_cent
  no_records_no_charge m e = rw (no_records_no_amount m e)

  by_formula : (b : Buffers) → Room h b → ByFormula h b (ufe_figures h) (filled h b)
  unfolding ufe_figures filled line_of charge empty_line
  by_formula b r =
      let iec : (m : ℕ) → amount h m ≡ all_zones h m = λ m. amount_is_IEC h m zone_there in
      let charge-at = get_or_replacing (charge h) (members h) b.charges in
      let line_at_lem = get_or_replacing (line_of h) (members h) b.lines in
      record {
        ufe_is = λ a l. get_or_values (λ a. cond (ltb a (areas h)) (ufe h a) (pos 0)) 8 a (pos 0) (omega (arith, kept.areas_most))
            ∙ rw (lt-ltb a (areas h) l) (ufe_renders h a);
        eight_figures = length_values (λ a. cond (ltb a (areas h)) (ufe h a) (pos 0)) 8;
        past_areas = λ a past l. get_or_values (λ a. cond (ltb a (areas h)) (ufe h a) (pos 0)) 8 a (pos 0) l ∙ rw (le-ltb a (areas h) past);
        deviation_is =
            λ i l. get_or_replacing (λ i. deviation (entry_of h i)) h.count b.deviations i (pos 0) l ∙ deviation_renders h i;
        share_is = λ i l. get_or_replacing (share_of h) h.count b.shares i (pos 0) l ∙ shares_by_rank h i l;
        charge_is = λ m l. (rounding.charged _ _).0 (charge-at m (pos 0) l ∙ ap cents (iec m));
        line_is = λ m l. line_at_lem m empty_line l ∙ ap (λ (z : ℤ). record { amount = z; records = records_of h m }) (iec m);
        no_records = λ m l e. (
          charge-at m (pos 0) l ∙ no_records_no_charge m e,
          line_at_lem m empty_line l ∙ ap₂ (λ (z : ℤ) (n : ℕ). record { amount = z; records = n }) (no_records_no_amount m e) e,
        );
        past_charges = drop_replacing (charge h) (members h) b.charges;
        past_lines = drop_replacing (line_of h) (members h) b.lines;
        past_shares = drop_replacing (share_of h) h.count b.shares;
        past_deviations = drop_replacing (λ i. deviation (entry_of h i)) h.count b.deviations;
        same_lengths = (
          length_replacing (charge h) (members h) b.charges r.charges_room,
          length_replacing (line_of h) (members h) b.lines r.lines_room,
          length_replacing (share_of h) h.count b.shares r.shares_room,
          length_replacing (λ i. deviation (entry_of h i)) h.count b.deviations r.deviations_room,
        );
      }

-- every figure of an accepted settling is the tariff's
settled_by_formula : (s : List ℕ) (b : Buffers) → Accepts s b → ByFormula (hour_in s) b (settle s b).ufe (settle s b).buffers
settled_by_formula s b a =
    let h = hour_in s in
    let p = settle_whole s b a in
    let f = settle_fills s b a in
    rw (f.0, f.1) (by_formula h (hour_passed s p.0).kept b (buffers_room h b p.1))

-- ---- demand 1

pub demand1 : Demand1
demand1 = record {
  settle_by_the_table = settle_by_the_table;
  settle_changes_nothing = settle_changes_nothing;
  write_by_the_table = write_by_the_table;
  write_changes_nothing = write_changes_nothing;
  read_checks = read_checks;
  read_accepts = read_accepts;
  read_refuses = read_refuses;
}

-- ---- demand 2

-- an amount in range fills its 14 columns whole
in_its_column : (z : ℤ) → nat_abs z ≤ 999999999999 → column z ≡ amount_field 14 z
unfolding column
in_its_column z in_range = ap (λ (w : Written). w.field) (write_accepted_at (replicate 14 32) z in_range (text_fits_14 z in_range))

-- every charge and every final of an hour that passes rows 1 to 5 is printed whole
amounts_printed : (h : Hour) → HourKept h → (m : ℕ) → m < members h →
    (length (amount_text (charge h m)) ≤ 14) × (length (amount_text (final h m)) ≤ 14)
    × (member_line m (charge h m) (final h m) ≡
    digit_byte (m / 10) ∷ digit_byte (m % 10) ∷ bytes " " ++ amount_field 14 (charge h m)
    ++ bytes " " ++ amount_field 14 (final h m) ++ bytes "\n")
unfolding member_line
amounts_printed h kept m l =
    let c : nat_abs (charge h m) ≤ 999999999999 = let u = charge_under kept m in omega arith in
    let f : nat_abs (final h m) ≤ 999999999999 = let u = final_under kept m l in omega arith in
    (text_fits_14 (charge h m) c, text_fits_14 (final h m) f, rw (in_its_column (charge h m) c, in_its_column (final h m) f))

pub demand2 : Demand2
demand2 = record {
  settled = settled_by_formula;
  written_read = written_read;
  read_written = read_written;
  printed = λ s e m l. amounts_printed (hour_in s) (hour_passed s ((accepts_when_whole (hour_rows s) (hour_numbered s)).0 e)).kept m l;
}

-- ---- demand 3

sound : (h : Hour) → Passed h → Sound h
unfolding bad_area
sound h p = record {
  member_there = λ i l. (p.kept.record_kept i l).member_there;
  area_there = λ i l. (p.kept.record_kept i l).area_there;
  no_demand_no_ufe = λ a l z.
      let whole = first_none (λ a. eqb (area_demand h a) 0 && not (eqb (nat_abs (ufe h a)) 0)) (areas h) p.no_bad_area a l in
      abs_zero (ufe h a) (eqb-true _ _ (not-false _ (rw (eq-eqb (area_demand h a) 0 z) at whole)));
}

-- what settling fills in is what the definitions say, place by place
filled_fairly : (h : Hour) (b : Buffers) → Passed h → FairOutcome h (ufe_figures h) (filled h b)
unfolding ufe_figures filled
filled_fairly h b p = fair_alike h (sound h p)
    (λ a l. get_or_values (λ a. cond (ltb a (areas h)) (ufe h a) (pos 0)) 8 a (pos 0) (omega (arith, p.kept.areas_most))
    ∙ rw (lt-ltb a (areas h) l))
    (λ i l. get_or_replacing (share_of h) h.count b.shares i (pos 0) l)
    (λ m l. get_or_replacing (charge h) (members h) b.charges m (pos 0) l)

pub demand3 : Demand3
demand3 s b a =
    let f = settle_fills s b a in
    rw (f.0, f.1) (filled_fairly (hour_in s) b (hour_passed s (settle_whole s b a).0))
