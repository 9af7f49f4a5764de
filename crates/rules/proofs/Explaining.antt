-- What is asked of an explanation, proved for every input. Document 02, A5.
use mathlib.Core.Path.{◌≡◌, refl, sym, ◌∙◌, ap}
use mathlib.Core.Logic.{◌↔◌}
use Rattle.std.specs.Prelude.{None, Some}
use mathlib.Core.List.{List, [], ◌∷◌}
use Prim.Native.Nat.{ℕ, ◌≤◌, ◌<◌}
use native.Mathlib.Omega.{arith}
use lib.Dec.{leb}
use lib.IntN.{pos}
use lib.ListN.{get_or}
use borrow.Author.Tests.{leb-true, eqb-true, eqb-false, le-leb, lt-leb, ne_eqb}
use Rattle.whole.proofs.Tests.{split, never_some, if_some}
use Rattle.whole.proofs.Buffers.{get_or_replacing}
use Rattle.rules.specs.declared.Line.{Line}
use Rattle.rules.specs.Record.{Hour, members, zones, area_of, zone_of}
use Rattle.rules.specs.Charge.{amount, charge}
use Rattle.rules.specs.HourFile.{hour_in}
use Rattle.rules.specs.Refusals.{row, accepted, refused_at, verdict, no_member, hour_rows, explain_rows, Buffers}
use Rattle.rules.specs.Refusals.{block_rows, word_rows, comparison_rows, sum_rows, form_rows, file_rows}
use Rattle.rules.specs.Settling.{is_accepted, settle, filled, line_of, empty_line}
use Rattle.rules.specs.Explanation.{heads, no_heads, decided, explain}
use Rattle.rules.specs.Promised.Demands.{Accepts, AllWhole, ByTheTable}
use Rattle.rules.specs.Promised.Deciding.{Explains, Explaining}
use Rattle.rules.proofs.Rows.{Numbered, numbered_on, accepts_when_whole, zero_accepts, by_the_table, refused_first, passed_on, hour_numbered}
use Rattle.rules.proofs.Rows.{has_row, only_row, settle_whole, settle_fills}
use Rattle.rules.proofs.Kept.{passed_kept}
use Rattle.rules.proofs.Demands.{zone_there}
use Rattle.rules.proofs.Heads.{heads_add_up, heads_by_tariff}
use Rattle.rules.proofs.Decided.{named_decides, one_decides, decides, always_one, none_for_zero}

-- ---- the rows

module _ (s : List ℕ) (m : ℕ) where
  abbrev h : Hour
  h = hour_in s

  -- what settling refuses, an explanation refuses alike
  pub rows_refused_alike : (verdict (hour_rows s) ≡ accepted → ⊥) → verdict (explain_rows s m) ≡ verdict (hour_rows s)
  unfolding explain_rows
  rows_refused_alike = refused_first (hour_rows s) (row 13 (no_member h m) ∷ [])

  pub explain_numbered : Numbered (explain_rows s m)
  unfolding explain_rows
  explain_numbered = numbered_on (hour_rows s) (row 13 (no_member h m) ∷ []) (hour_numbered s) (omega arith)

  -- what it accepts, 13 decides
  rows_passed : AllWhole (hour_rows s) → verdict (explain_rows s m) ≡ verdict (row 13 (no_member h m) ∷ [])
  unfolding explain_rows
  rows_passed = passed_on (hour_rows s) (row 13 (no_member h m) ∷ [])

  pub rows_member : AllWhole (hour_rows s) → m < members h → verdict (explain_rows s m) ≡ accepted
  unfolding no_member verdict
  rows_member w l = rows_passed w ∙ rw (lt-leb (members h) m l) refl

  pub rows_no_member : AllWhole (hour_rows s) → members h ≤ m → verdict (explain_rows s m) ≡ refused_at 13 0
  unfolding no_member verdict
  rows_no_member w l = rows_passed w ∙ rw (le-leb (members h) m l) refl

  past_count : no_member h m ≡ Some 0 → members h ≤ m
  unfolding no_member
  past_count e = leb-true (members h) m (if_some (leb (members h) m) (Some 0) 0 e).0

  -- ---- what is answered

  pub explain_verdict : (explain s m).verdict ≡ verdict (explain_rows s m)
  unfolding explain
  explain_verdict = split (is_accepted (verdict (explain_rows s m))) (λ t. rw t refl) (λ t. rw t refl)

  pub explain_accepted : verdict (explain_rows s m) ≡ accepted →
      explain s m ≡ record { verdict = accepted; heads = heads h m; decided = decided h m }
  unfolding explain
  explain_accepted e = rw e refl

  pub explain_refused : ((verdict (explain_rows s m)).number ≡ 0 → ⊥) →
      explain s m ≡ record { verdict = verdict (explain_rows s m); heads = no_heads; decided = None }
  unfolding explain
  explain_refused r = rw (ne_eqb (verdict (explain_rows s m)).number 0 r) refl

  explain_by_the_table : ByTheTable (explain_rows s m) (explain s m).verdict
  explain_by_the_table = by_the_table explain_numbered explain_verdict

  nothing_said : ((explain s m).verdict ≡ accepted → ⊥) → ((explain s m).heads ≡ no_heads) × ((explain s m).decided ≡ None)
  nothing_said r = let e = explain_refused (λ z. r (explain_verdict ∙ zero_accepts (explain_rows s m) explain_numbered z)) in
      rw e (refl, refl)

  no_member_lem : ((explain s m).verdict ≡ refused_at 13 0) ↔ ((verdict (hour_rows s) ≡ accepted) × (members h ≤ m))
  unfolding explain_rows hour_rows file_rows form_rows block_rows word_rows comparison_rows sum_rows has_row
  no_member_lem = let answers = only_row 12 0 (no_member h m) [] refl (hour_rows s) (hour_numbered s) refl in (
    λ e. let broken = answers.0 (sym explain_verdict ∙ e) in (broken.0, past_count broken.1),
    λ l. explain_verdict ∙ rows_no_member ((accepts_when_whole (hour_rows s) (hour_numbered s)).0 l.0) l.1,
  )

  -- the head that decided is one of the five
  pub one_of_five : (k : ℕ) → (explain s m).decided ≡ Some k → k < 5
  unfolding decided
  one_of_five k e = split (is_accepted (verdict (explain_rows s m)))
      (λ t. (named_decides _ (heads h m) k
      (rw (explain_accepted (zero_accepts (explain_rows s m) explain_numbered (eqb-true _ _ t))) at e)).one_of_five)
      (λ t. never_some (sym (rw (explain_refused (eqb-false _ _ t)) at e)))

-- ---- what is said of a member

explains : (h : Hour) (m : ℕ) → ((i : ℕ) → i < h.count → zone_of h (area_of h i) < zones h) →
    Explains h m (amount h m) (charge h m) (heads h m) (decided h m)
unfolding decided charge
explains h m there = record {
  by_formula = heads_by_tariff h m there;
  add_up = heads_add_up h m;
  decides = decides (charge h m) (heads h m);
  always_one = always_one (heads h m) (amount h m) (heads_add_up h m);
  none_for_zero = none_for_zero (heads h m) (amount h m) (heads_add_up h m);
}

module _ (s : List ℕ) (b : Buffers) (m : ℕ) (a : Accepts s b) where
  abbrev g : Hour
  g = hour_in s

  line_amount : m < members g → (get_or (settle s b).buffers.lines m empty_line).amount ≡ amount g m
  unfolding filled line_of
  line_amount l = rw (settle_fills s b a).0 (ap (λ (x : Line). x.amount) (get_or_replacing (line_of g) (members g) b.lines m empty_line l))

  charge_there : m < members g → get_or (settle s b).buffers.charges m (pos 0) ≡ charge g m
  unfolding filled
  charge_there l = rw (settle_fills s b a).0 (get_or_replacing (charge g) (members g) b.charges m (pos 0) l)

  explained : m < members g → ((explain s m).verdict ≡ accepted) × Explains g m
      (get_or (settle s b).buffers.lines m empty_line).amount (get_or (settle s b).buffers.charges m (pos 0))
      (explain s m).heads (explain s m).decided
  explained l = let v = rows_member s m (settle_whole s b a).0 l in
      (explain_verdict s m ∙ v, rw (explain_accepted s m v, line_amount l, charge_there l) (explains g m (zone_there g (passed_kept s (settle_whole s b a).0).hour_kept)))

pub explaining : Explaining
explaining = record {
  by_the_table = explain_by_the_table;
  nothing_said = nothing_said;
  explained = explained;
  one_decides = one_decides;
  no_member = no_member_lem;
  refused_alike = λ s m r. explain_verdict s m ∙ rows_refused_alike s m r;
}
