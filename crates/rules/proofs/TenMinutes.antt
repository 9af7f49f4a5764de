-- What is asked of ten-minute settlement. Document 02, A7.
use mathlib.Core.Path.{◌≡◌, refl, ◌∙◌, ap}
use mathlib.Core.Bool.{true}
use mathlib.Core.List.{List, [], ◌∷◌}
use Prim.Native.Nat.{ℕ, zero, suc, ◌≤◌}
use native.Mathlib.Omega.{arith}
use lib.IntN.{ℤ, pos, neg_ℤ, nat_abs, +ℤ_idl, *ℤ_comm, *ℤ-zero, ◌+ℤ◌, ◌-ℤ◌}
use lib.ListN.{length}
use lib.Dec.{ltb, eqb}
use borrow.Author.Tests.{ltb-false, eqb-true}
use Rattle.whole.specs.Below.{total_below, replacing_first}
use Rattle.whole.proofs.Tests.{split}
use Rattle.whole.proofs.Linear.{zr, all1, all2, all6}
use Rattle.whole.proofs.Sums.{count_zero}
use Rattle.whole.proofs.Totals.{total_ext, total_zero, total_add, total_mul}
use Rattle.whole.proofs.Buffers.{get_or_replacing, drop_replacing, length_replacing}
use Rattle.rules.specs.Record.{Hour, members, zones, member_of}
use Rattle.rules.specs.Charge.{records_of, nearest_cent, cents_of}
use Rattle.rules.specs.Ranges.{ten_minutes_form}
use Rattle.rules.specs.Refusals.{Row, row, accepted, verdict, place_zero_if, form_rows}
use Rattle.rules.specs.Settling.{is_accepted}
use Rattle.rules.specs.TenMinutes.{a_sixth, in_full, is_ramped, kind_in, this_hour, hour_before, next_hour, ramp_part, scheduled_in}
use Rattle.rules.specs.TenMinutes.{net_deviation, interval_price, interval_cost, ten_minutes_amount, ten_minutes_charge, ten_minutes_in, ten_minutes_rows, settle_ten_minutes}
use Rattle.rules.specs.Promised.Intervals.{all_dev_C}
use Rattle.rules.specs.Promised.Rounding.{Nearest}
use Rattle.rules.specs.Promised.Demands.{AllWhole, ByTheTable}
use Rattle.rules.specs.Promised.TenMinutes.{AcceptsTenMinutes, ChargedByInterval, Consecutive, over_all, two_ends, TenMinutes}
use Rattle.rules.proofs.Rows as Rows
use Rattle.rules.proofs.Rows.{Numbered, numbered_on, accepts_when_whole, zero_accepts, whole_parts, no_place}
use Rattle.rules.proofs.Rows.{form_numbered}
use Rattle.rules.proofs.Rounding.{rounding}
use Rattle.rules.proofs.IntervalsKept.{ten_minutes_file_kept}
use Rattle.rules.proofs.IntervalBounds.{amount_under}
use Rattle.rules.proofs.Intervals.{interval_renders, amount_renders}

-- ---- the table

module _ (s : List ℕ) (c : List ℤ) where
  abbrev h : Hour
  h = ten_minutes_in s

  abbrev length_row : List Row
  length_row = row 11 (place_zero_if (ltb (length c) (members h))) ∷ []

  numbered : Numbered (ten_minutes_rows s c)
  unfolding ten_minutes_rows
  numbered = numbered_on (form_rows ten_minutes_form s) length_row (form_numbered ten_minutes_form s) (omega arith)

  by_the_table : ByTheTable (ten_minutes_rows s c) (settle_ten_minutes s c).verdict
  unfolding settle_ten_minutes
  by_the_table = Rows.by_the_table numbered refl

  changes_nothing : (AcceptsTenMinutes s c → ⊥) → (settle_ten_minutes s c).charges ≡ c
  unfolding settle_ten_minutes
  changes_nothing r = split (is_accepted (verdict (ten_minutes_rows s c)))
      (λ e. absurd (r (zero_accepts (ten_minutes_rows s c) numbered (eqb-true _ _ e))))
      (λ e. rw e)

  -- accepted: rows 1 to 5 are whole, the charges have room, and they are written
  pub form_passed : AcceptsTenMinutes s c → AllWhole (form_rows ten_minutes_form s)
  unfolding ten_minutes_rows
  form_passed a = ((whole_parts (form_rows ten_minutes_form s) length_row).0 (by_the_table.accepts.0 a)).0

  room : AcceptsTenMinutes s c → members h ≤ length c
  unfolding ten_minutes_rows
  room a = ltb-false _ _ (no_place _ ((whole_parts (form_rows ten_minutes_form s) length_row).0 (by_the_table.accepts.0 a)).1.0)

  pub fills : AcceptsTenMinutes s c → (settle_ten_minutes s c).charges ≡ replacing_first (ten_minutes_charge h) (members h) c
  unfolding settle_ten_minutes
  fills a = rw a

  -- ---- what is written

  charge_renders : (m : ℕ) → ten_minutes_charge h m ≡ cents_of 240000000 (all_dev_C h m)
  unfolding ten_minutes_charge
  charge_renders m = ap (cents_of 240000000) (amount_renders h m)

  nearest : (m : ℕ) → Nearest 240000000 (all_dev_C h m) (ten_minutes_charge h m)
  nearest m = (rounding.every_unit 240000000 (omega arith) (all_dev_C h m) (ten_minutes_charge h m)).0 (charge_renders m)

  no_net : (m : ℕ) → records_of h m ≡ 0 → (z k : ℕ) → net_deviation h m z k ≡ pos 0
  unfolding records_of net_deviation
  no_net m e z k =
      total_ext _ _ h.count (λ i l. rw (count_zero (λ i. eqb (member_of h i) m) h.count e i l)) ∙ total_zero h.count

  no_cost : (m : ℕ) → records_of h m ≡ 0 → (z k : ℕ) → interval_cost h m z k ≡ pos 0
  unfolding interval_cost
  no_cost m e z k = let price = interval_price h z k (pos 0) in rw (no_net m e z k) (*ℤ_comm (pos 0) price ∙ *ℤ-zero price)

  no_records : (m : ℕ) → records_of h m ≡ 0 → ten_minutes_charge h m ≡ pos 0
  unfolding ten_minutes_charge ten_minutes_amount nearest_cent
  no_records m e =
      let no-amount = total_ext _ _ (zones h) (λ z l. total_ext _ _ 6 (λ k j. no_cost m e z k) ∙ total_zero 6) ∙ total_zero (zones h) in
      rw no-amount

  settled : AcceptsTenMinutes s c → ChargedByInterval h c (settle_ten_minutes s c).charges
  settled a = let written = get_or_replacing (ten_minutes_charge h) (members h) c in rw (fills a) (record {
    charge_is = λ m l. rw (written m (pos 0) l) (nearest m);
    half_cent = λ m l. rw (written m (pos 0) l) (let n = nearest m in omega (arith, n.half_at_most));
    no_records = λ m l e. written m (pos 0) l ∙ no_records m e;
    past_charges = drop_replacing (ten_minutes_charge h) (members h) c;
    same_length = length_replacing (ten_minutes_charge h) (members h) c (room a);
  })

amounts_fit : (s : List ℕ) → verdict (form_rows ten_minutes_form s) ≡ accepted → (m : ℕ) →
    nat_abs (ten_minutes_amount (ten_minutes_in s) m) ≤ 3686400000000000000
amounts_fit s e m =
    let whole = (accepts_when_whole (form_rows ten_minutes_form s) (form_numbered ten_minutes_form s)).0 e in
    (amount_under (ten_minutes_file_kept s whole).hour_kept m).under

-- ---- ramp parts

ends_alone : (a b : ℤ) → pos 0 +ℤ a +ℤ pos 0 +ℤ pos 0 +ℤ pos 0 +ℤ pos 0 +ℤ b ≡ a +ℤ b
ends_alone = all2 _ (λ a b. simp zr (omega arith))

-- of one hour: the first interval's and the last's
hour_ramps : (w : ℕ → ℕ) → is_ramped (kind_in w) ≡ true →
    total_below (ramp_part w) 6 ≡ neg_ℤ (this_hour w -ℤ hour_before w) +ℤ (next_hour w -ℤ this_hour w)
unfolding total_below ramp_part
hour_ramps w ramped = rw ramped (ends_alone (neg_ℤ (this_hour w -ℤ hour_before w)) (next_hour w -ℤ this_hour w))

first_ramp : (w : ℕ → ℕ) → is_ramped (kind_in w) ≡ true → ramp_part w 0 ≡ neg_ℤ (this_hour w -ℤ hour_before w)
unfolding ramp_part
first_ramp w ramped = rw ramped

last_ramp : (w : ℕ → ℕ) → is_ramped (kind_in w) ≡ true → ramp_part w 5 ≡ next_hour w -ℤ this_hour w
unfolding ramp_part
last_ramp w ramped = rw ramped

-- what the last interval of an hour has, the first of the next gives back
given_back : (e s next before t x : ℤ) → next ≡ t → before ≡ s →
    (e +ℤ (next -ℤ s)) +ℤ (neg_ℤ (t -ℤ before) +ℤ (x -ℤ t)) ≡ e +ℤ (x -ℤ t)
given_back = all6 _ (λ e s next before t x. simp zr (omega arith))

less_first : (a b : ℤ) → neg_ℤ a +ℤ b ≡ b -ℤ a
less_first = all2 _ (λ a b. simp zr (omega arith))

six_sixths : (z : ℤ) → total_below (λ k. a_sixth z) 6 ≡ in_full z
unfolding total_below
six_sixths = all1 _ (λ z. simp zr (omega arith))

-- of one hour: six sixths, and the ramp parts
hour_schedule : (w : ℕ → ℕ) → total_below (scheduled_in w) 6 ≡ in_full (this_hour w) +ℤ total_below (ramp_part w) 6
unfolding scheduled_in
hour_schedule w = total_add (λ k. a_sixth (this_hour w)) (ramp_part w) 6 ∙ ap (λ (x : ℤ). x +ℤ total_below (ramp_part w) 6) (six_sixths (this_hour w))

module _ (words : ℕ → ℕ → ℕ) where
  shorter : (n : ℕ) → Consecutive words (suc n) → Consecutive words n
  shorter n c = record {
    ramped = λ t l. c.ramped t (omega arith);
    next_agrees = λ t l. c.next_agrees t (omega arith);
    before_agrees = λ t l. c.before_agrees t (omega arith);
  }

  one_more : (figure : (w : ℕ → ℕ) (k : ℕ) → ℤ) (n : ℕ) →
      over_all words figure (suc n) ≡ over_all words figure n +ℤ total_below (figure (words n)) 6
  unfolding over_all total_below
  one_more figure n = refl

  no_hours : (figure : (w : ℕ → ℕ) (k : ℕ) → ℤ) → over_all words figure 0 ≡ pos 0
  unfolding over_all total_below
  no_hours figure = refl

  -- the first interval of the first hour, and the last of the last
  abbrev ends : ℕ → ℤ
  ends n = ramp_part (words 0) 0 +ℤ ramp_part (words n) 5

  ends_left : (n : ℕ) → Consecutive words n → over_all words ramp_part (suc n) ≡ ends n
  ends_left zero c = let ramped = c.ramped 0 (omega arith) in rw (
    one_more ramp_part 0,
    no_hours ramp_part,
    hour_ramps (words 0) ramped,
    first_ramp (words 0) ramped,
    last_ramp (words 0) ramped,
  ) (+ℤ_idl _)
  ends_left (suc n) c =
      let here = c.ramped n (omega arith) in
      let next = c.ramped (suc n) (omega arith) in
      rw (
        one_more ramp_part (suc n),
        ends_left n (shorter n c),
        hour_ramps (words (suc n)) next,
        last_ramp (words n) here,
        last_ramp (words (suc n)) next,
      ) (given_back (ramp_part (words 0) 0) (this_hour (words n)) (next_hour (words n)) (hour_before (words (suc n))) (this_hour (words (suc n)))
      (next_hour (words (suc n))) (c.next_agrees n (omega arith)) (c.before_agrees n (omega arith)))

  ramps_cancel : (n : ℕ) → Consecutive words n → over_all words ramp_part (suc n) ≡ two_ends words n
  unfolding two_ends
  ramps_cancel n c = ends_left n c ∙ rw (first_ramp (words 0) (c.ramped 0 (omega arith)), last_ramp (words n) (c.ramped n (omega arith)))
      (less_first (this_hour (words 0) -ℤ hour_before (words 0)) (next_hour (words n) -ℤ this_hour (words n)))

  all_schedules : (hours : ℕ) →
      over_all words scheduled_in hours ≡ in_full (total_below (λ t. this_hour (words t)) hours) +ℤ over_all words ramp_part hours
  unfolding over_all
  all_schedules hours =
      total_ext _ _ hours (λ t l. hour_schedule (words t))
      ∙ total_add _ _ hours
      ∙ ap (λ (x : ℤ). x +ℤ total_below (λ t. total_below (ramp_part (words t)) 6) hours) (total_mul (pos 24) (λ t. this_hour (words t)) hours)

  nothing_lost : (n : ℕ) → Consecutive words n →
      over_all words scheduled_in (suc n) ≡ in_full (total_below (λ t. this_hour (words t)) (suc n)) +ℤ two_ends words n
  nothing_lost n c = all_schedules (suc n) ∙ ap (λ (x : ℤ). in_full (total_below (λ t. this_hour (words t)) (suc n)) +ℤ x) (ramps_cancel n c)

pub ten_minutes_lem : TenMinutes
ten_minutes_lem = record {
  by_the_table = by_the_table;
  changes_nothing = changes_nothing;
  settled = settled;
  amounts_fit = amounts_fit;
  every_interval_lem = interval_renders;
  ramps_cancel = ramps_cancel;
  nothing_lost = nothing_lost;
}
