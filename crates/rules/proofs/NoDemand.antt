-- Refusal 12, exactly where nobody demands anything and the charges don't add up to 0. Document 02, A1.
use mathlib.Core.Path.{◌≡◌, refl, sym, ◌∙◌, ap}
use mathlib.Core.Logic.{◌↔◌}
use mathlib.Core.Bool.{Bool, true, false, not}
use Rattle.std.specs.Prelude.{Some}
use mathlib.Core.List.{List, [], ◌∷◌, ◌++◌, append_assoc}
use Prim.Native.Nat.{ℕ, ◌<◌}
use native.Mathlib.Omega.{arith}
use lib.IntN.{pos, nat_abs}
use lib.Dec.{eqb}
use borrow.Author.Tests.{eqb-true, eqb-false, eq-eqb, ne_eqb, not-true}
use Rattle.whole.specs.Below.{total_below}
use Rattle.whole.proofs.Tests.{split, both, never_some}
use Rattle.whole.proofs.Linear.{abs_zero}
use Rattle.whole.proofs.Sums.{sum_at, sum_ext, sum_zero}
use Rattle.rules.specs.Record.{Hour, members, entry_of, is_load}
use Rattle.rules.specs.Charge.{charge}
use Rattle.rules.specs.Neutrality.{hour_demand, neutrality}
use Rattle.rules.specs.HourFile.{hour_in}
use Rattle.rules.specs.Refusals.{Row, row, Verdict, accepted, verdict, Buffers, place_zero_if, bad_area, bad_amount, no_demand, no_member}
use Rattle.rules.specs.Refusals.{too_short, block_rows, word_rows, comparison_rows, sum_rows, form_rows, file_rows, hour_rows, settle_rows}
use Rattle.rules.specs.Refusals.{explain_rows}
use Rattle.rules.specs.Settling.{settle}
use Rattle.rules.specs.Explanation.{explain}
use Rattle.rules.specs.Promised.Demands.{AllWhole}
use Rattle.rules.specs.Promised.Finals.{NobodyDemands, HeldToDemand}
use Rattle.rules.specs.Inner.Kept.{HourKept}
use Rattle.rules.specs.Inner.Posting.{demand_by, demand_of}
use Rattle.rules.proofs.Rows.{Numbered, numbered_on, accepts_when_whole, whole_parts, has_row, only_row, file_numbered, form_whole}
use Rattle.rules.proofs.Rows.{settle_verdict}
use Rattle.rules.proofs.Kept.{file_kept}
use Rattle.rules.proofs.Bounds.{row_7_never}
use Rattle.rules.proofs.Neutral.{hour_demand_by_record}
use Rattle.rules.proofs.Explaining.{explain_verdict}

-- ---- the row's test, by the records

is_place : (b : Bool) → place_zero_if b ≡ Some 0 → b ≡ true
is_place true e = refl
is_place false e = never_some (sym e)

module _ (h : Hour) where
  demands_nothing : NobodyDemands h → (i : ℕ) → i < h.count → demand_of h i ≡ 0
  unfolding demand_by
  demands_nothing nobody i l = split (is_load (entry_of h i).kind) (λ t. rw (t, nobody i l t) refl) (λ t. rw t refl)

  load_is_zero : (i : ℕ) → demand_of h i ≡ 0 → is_load (entry_of h i).kind ≡ true → (entry_of h i).A ≡ pos 0
  unfolding demand_by
  load_is_zero i z t = abs_zero _ (rw t at z)

module _ {h : Hour} (kept : HourKept h) where
  nobody : (hour_demand h ≡ 0) ↔ NobodyDemands h
  nobody = (
    λ z i l t. load_is_zero h i (omega (arith, z, hour_demand_by_record kept, sum_at (demand_of h) h.count i l)) t,
    λ none. hour_demand_by_record kept ∙ sum_ext (demand_of h) (λ i. 0) h.count (demands_nothing h none) ∙ sum_zero h.count,
  )

  tested : (no_demand h ≡ Some 0) ↔ (NobodyDemands h × (total_below (charge h) (members h) ≡ pos 0 → ⊥))
  unfolding no_demand neutrality
  tested = (
    λ e. let t = both (eqb (hour_demand h) 0) (not (eqb (nat_abs (neutrality h)) 0)) (is_place _ e) in (
      nobody.0 (eqb-true _ _ t.0),
      λ z. eqb-false (nat_abs (neutrality h)) 0 (not-true _ t.1) (rw z refl),
    ),
    λ r. rw (eq-eqb (hour_demand h) 0 (nobody.1 r.0), ne_eqb (nat_abs (neutrality h)) 0 (λ z. r.1 (abs_zero _ z))) refl,
  )

-- ---- where the row stands in its table

module _ (s : List ℕ) where
  abbrev h : Hour
  h = hour_in s

  abbrev up_to_7 : List Row
  up_to_7 = file_rows s ++ row 6 (bad_area h) ∷ row 7 (bad_amount h) ∷ []

  abbrev up_to_6 : List Row
  up_to_6 = file_rows s ++ row 6 (bad_area h) ∷ []

  kept_when : AllWhole (file_rows s) → HourKept h
  kept_when w = (file_kept s (form_whole s w)).hour_kept

  numbered_7 : Numbered up_to_7
  numbered_7 = numbered_on (file_rows s) _ (file_numbered s) (omega arith)

  numbered_6 : Numbered up_to_6
  numbered_6 = numbered_on (file_rows s) _ (file_numbered s) (omega arith)

  kept_6 : verdict up_to_6 ≡ accepted → HourKept h
  kept_6 e = kept_when ((whole_parts (file_rows s) _).0 ((accepts_when_whole up_to_6 numbered_6).0 e)).0

  -- row 7 decides nothing
  passed_7 : (verdict up_to_7 ≡ accepted) ↔ (verdict up_to_6 ≡ accepted)
  passed_7 = (
    λ e. let w = (whole_parts (file_rows s) (row 6 (bad_area h) ∷ row 7 (bad_amount h) ∷ [])).0 ((accepts_when_whole up_to_7 numbered_7).0 e) in
        (accepts_when_whole up_to_6 numbered_6).1 ((whole_parts (file_rows s) (row 6 (bad_area h) ∷ [])).1 (w.0, (w.1.0, tt))),
    λ e. let w = (whole_parts (file_rows s) (row 6 (bad_area h) ∷ [])).0 ((accepts_when_whole up_to_6 numbered_6).0 e) in
        (accepts_when_whole up_to_7 numbered_7).1
        ((whole_parts (file_rows s) (row 6 (bad_area h) ∷ row 7 (bad_amount h) ∷ [])).1
        (w.0, (w.1.0, (row_7_never (kept_when w.0), tt)))),
  )

  none_before : has_row 12 up_to_7 ≡ false
  unfolding has_row file_rows form_rows block_rows word_rows comparison_rows
  none_before = refl

  held : (after : List Row) → has_row 12 after ≡ false → {v : Verdict} → v ≡ verdict (up_to_7 ++ row 12 (no_demand h) ∷ after) → HeldToDemand s v
  held after none_after e = let answers = only_row 11 0 (no_demand h) after none_after up_to_7 numbered_7 none_before in (
    λ told. let broken = answers.0 (sym e ∙ told) in
        let passed = passed_7.0 broken.0 in
        let t = (tested (kept_6 passed)).0 broken.1 in
        (passed, t.0, t.1),
    λ r. e ∙ answers.1 (passed_7.1 r.0, (tested (kept_6 r.0)).1 (r.1, r.2)),
  )

  abbrev sums : List Row
  sums = row 6 (bad_area h) ∷ row 7 (bad_amount h) ∷ row 12 (no_demand h) ∷ []

  -- the rows of an hour, and one behind them
  in_order : (after : List Row) → (file_rows s ++ sums) ++ after ≡ up_to_7 ++ row 12 (no_demand h) ∷ after
  in_order after = append_assoc (file_rows s) sums after ∙ sym (append_assoc (file_rows s) (row 6 (bad_area h) ∷ row 7 (bad_amount h) ∷ []) _)

  pub settle_held : (b : Buffers) → HeldToDemand s (settle s b).verdict
  unfolding settle_rows hour_rows sum_rows has_row
  settle_held b = let last = row 11 (too_short h b) ∷ [] in held last refl (settle_verdict s b ∙ ap verdict (in_order last))

  pub statement_held : HeldToDemand s (verdict (hour_rows s))
  unfolding hour_rows sum_rows has_row
  statement_held = held [] refl (ap verdict (sym (append_assoc (file_rows s) (row 6 (bad_area h) ∷ row 7 (bad_amount h) ∷ []) _)))

  pub explain_held : (m : ℕ) → HeldToDemand s (explain s m).verdict
  unfolding explain_rows hour_rows sum_rows has_row
  explain_held m = let last = row 13 (no_member h m) ∷ [] in held last refl (explain_verdict s m ∙ ap verdict (in_order last))
