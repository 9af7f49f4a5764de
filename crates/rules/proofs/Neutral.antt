-- The neutrality amount: the shares of N add up to it, and the finals to nothing; of an hour that keeps its ranges, what the members demand
-- and how large N and the finals are. Document 02, A1.
use Prim.Native.Nat.{ℕ, ◌+◌, ◌*◌, ◌≤◌, ◌<◌, zero-le}
use native.Mathlib.Nat.{le_refl, le_trans}
use native.Mathlib.Omega.{arith}
use mathlib.Core.Path.{◌≡◌, refl, sym, ◌∙◌, ap, ap₂}
use mathlib.Core.Bool.{cond}
use lib.IntN.{ℤ, pos, nat_abs, ◌-ℤ◌, ◌*ℤ◌}
use lib.Dec.{eqb}
use Rattle.whole.specs.Below.{sum_below, total_below}
use Rattle.whole.specs.Signed.{Under, with_sign_of}
use Rattle.whole.proofs.Tests.{cond_both, cond_ind}
use Rattle.whole.proofs.Linear.{zr, all1, all2}
use Rattle.whole.proofs.Ranges.{◌u-◌, u_lit, u_le, u_picked, u_with_sign}
use Rattle.whole.proofs.Sums.{sum_ext, sum_mono, sum_prefix, sum_at, sum_add, sum_mul, sum_const, sum_by}
use Rattle.whole.proofs.Totals.{total_ext, total_sub, total_within, total_with_sign, own_sign, sign_of_zero}
use Rattle.rules.specs.Record.{Hour, members, areas, member_of, area_of, entry_of, is_load}
use Rattle.rules.specs.Ufe.{in_area, demand, area_demand}
use Rattle.rules.specs.Share.{all_demand, share_size, share, ranked_size}
use Rattle.rules.specs.Charge.{grains, amount, charge}
use Rattle.rules.specs.Neutrality.{every_member, member_demand, hour_demand, neutrality, neutrality_share, final}
use Rattle.rules.specs.Promised.Finals.{Neutral}
use Rattle.rules.specs.Inner.Kept.{HourKept}
use Rattle.rules.specs.Inner.Posting.{demand_by, demand_of}
use Rattle.rules.proofs.Rounding.{half_a_cent_more}
use Rattle.rules.proofs.Shares.{ranked, nothing_without_demand, size_at_most, sizes_add_up_to, size_near}
use Rattle.rules.proofs.Fair.{near_with_sign}
use Rattle.rules.proofs.Bounds.{all_grains_most, charge_under}

-- ---- the shares of N add up to it, and the finals to nothing

taken_off : (c s : ℤ) → c -ℤ (c -ℤ s) ≡ s
taken_off = all2 _ (λ c s. simp zr (omega arith))

nothing_left : (z : ℤ) → z -ℤ z ≡ pos 0
nothing_left = all1 _ (λ z. simp zr (omega arith))

nothing_off : (z : ℤ) → z -ℤ pos 0 ≡ z
nothing_off = all1 _ (λ z. simp zr (omega arith))

module _ (h : Hour) where
  -- the size of a member's share of N
  abbrev size_of : ℕ → ℕ
  size_of = share_size every_member (member_demand h) (members h) (nat_abs (neutrality h))

  abbrev ranked_size_of : ℕ → ℕ
  ranked_size_of = ranked_size every_member (member_demand h) (members h) (nat_abs (neutrality h))

  pub final_by_rank : (m : ℕ) → m < members h → final h m ≡ charge h m -ℤ with_sign_of (neutrality h) (ranked_size_of m)
  unfolding final neutrality_share share
  final_by_rank m l =
      ap (λ (size : ℕ). charge h m -ℤ with_sign_of (neutrality h) size)
      (ranked every_member (member_demand h) (members h) (nat_abs (neutrality h)) m l)

  share_of_N : (m : ℕ) → charge h m -ℤ final h m ≡ neutrality_share h m
  unfolding final
  share_of_N m = taken_off (charge h m) (neutrality_share h m)

  -- Each share of N is less than a cent from its exact fraction.
  pub near_N : (m : ℕ) → m < members h → (hour_demand h ≡ 0 → ⊥) →
      nat_abs (neutrality_share h m *ℤ pos (hour_demand h) -ℤ pos (member_demand h m) *ℤ neutrality h) < hour_demand h
  unfolding neutrality_share share hour_demand
  near_N m l some =
      let q = size_near every_member (member_demand h) (members h) (nat_abs (neutrality h)) (omega (arith, some)) m l refl in
      near_with_sign (neutrality h) (size_of m) (hour_demand h) (member_demand h m) q.0 q.1

  -- Where nobody demands anything, each final is the charge.
  pub final_without_demand : (m : ℕ) → hour_demand h ≡ 0 → final h m ≡ charge h m
  unfolding final neutrality_share share hour_demand
  final_without_demand m z =
      ap (λ (size : ℕ). charge h m -ℤ with_sign_of (neutrality h) size)
      (nothing_without_demand every_member (member_demand h) (members h) (nat_abs (neutrality h)) m z)
      ∙ ap (λ (s : ℤ). charge h m -ℤ s) (sign_of_zero (neutrality h))
      ∙ nothing_off (charge h m)

  -- N is the sum of whatever agrees with the charges.
  pub collected : (c : ℕ → ℤ) → ((m : ℕ) → m < members h → c m ≡ charge h m) → total_below c (members h) ≡ neutrality h
  unfolding neutrality
  collected c charges = total_ext c (charge h) (members h) charges

  module _ (shareable : hour_demand h ≡ 0 → neutrality h ≡ pos 0) where
    shares_of_N_add_up : total_below (neutrality_share h) (members h) ≡ neutrality h
    unfolding neutrality_share share hour_demand
    shares_of_N_add_up =
        total_with_sign (neutrality h) size_of (members h)
        ∙ ap (with_sign_of (neutrality h))
        (sizes_add_up_to every_member (member_demand h) (members h) (nat_abs (neutrality h)) (λ z. ap nat_abs (shareable z)))
        ∙ own_sign (neutrality h)

    -- All finals add up to exactly zero.
    pub finals_add_up : total_below (final h) (members h) ≡ pos 0
    unfolding final
    finals_add_up =
        total_sub (charge h) (neutrality_share h) (members h)
        ∙ ap₂ (λ (x y : ℤ). x -ℤ y) (collected (charge h) (λ m l. refl)) shares_of_N_add_up
        ∙ nothing_left (neutrality h)

    -- So it is of any figures that agree with them.
    pub neutral_alike : {c f : ℕ → ℤ} → ((m : ℕ) → m < members h → c m ≡ charge h m) → ((m : ℕ) → m < members h → f m ≡ final h m) →
        Neutral h c f
    neutral_alike {c} {f} charges finals =
        let N-is : total_below c (members h) ≡ neutrality h = collected c charges in
        record {
          exact = total_ext f (final h) (members h) finals ∙ finals_add_up;
          final_is = λ m l. rw (N-is, charges m l) (finals m l ∙ final_by_rank m l);
          near = λ m l some. rw (N-is, charges m l, finals m l, share_of_N m) (near_N m l some);
          none_to_share = λ m l z. finals m l ∙ final_without_demand m z ∙ sym (charges m l);
        }

-- ---- demand

module _ (h : Hour) where
  -- A member's demand is that of its records, and an area's of its own.
  pub member_demand_by_record : (m : ℕ) → member_demand h m ≡ sum_below (λ i. cond (eqb (member_of h i) m) (demand_of h i) 0) h.count
  unfolding member_demand demand_by
  member_demand_by_record m =
      sum_ext _ _ h.count (λ i l. cond_both (eqb (member_of h i) m) (is_load (entry_of h i).kind) (demand h i))

  area_demand_by_record : (a : ℕ) → area_demand h a ≡ sum_below (λ i. cond (eqb (area_of h i) a) (demand_of h i) 0) h.count
  unfolding area_demand all_demand in_area demand_by
  area_demand_by_record a =
      sum_ext _ _ h.count (λ i l. cond_both (eqb (area_of h i) a) (is_load (entry_of h i).kind) (demand h i))

module _ {h : Hour} (kept : HourKept h) where
  -- The demand in the hour is that of all records, and that of all areas.
  pub hour_demand_by_record : hour_demand h ≡ sum_below (demand_of h) h.count
  unfolding hour_demand all_demand
  hour_demand_by_record =
      sum_ext _ _ (members h) (λ m l. member_demand_by_record h m)
      ∙ sum_by (demand_of h) (member_of h) (members h) h.count (λ i l. (kept.record_kept i l).member_there)

  pub hour_demand_by_area : hour_demand h ≡ sum_below (area_demand h) (areas h)
  hour_demand_by_area = hour_demand_by_record ∙ sym (
      sum_ext _ _ (areas h) (λ a l. area_demand_by_record h a)
      ∙ sum_by (demand_of h) (area_of h) (areas h) h.count (λ i l. (kept.record_kept i l).area_there))

  -- Where nobody demands anything in the hour, no area does.
  pub no_area_demands : hour_demand h ≡ 0 → (a : ℕ) → a < areas h → area_demand h a ≡ 0
  no_area_demands none a there = omega (arith, hour_demand_by_area, sum_at (area_demand h) (areas h) a there)

  demand_of_most : (i : ℕ) → i < h.count → demand_of h i ≤ 100000
  unfolding demand_by
  demand_of_most i l =
      cond_ind (is_load (entry_of h i).kind) (demand h i) 0 (λ d. d ≤ 100000) (λ t. (kept.record_kept i l).demand_most) (λ t. zero-le)

  -- At most 25,000,000 kWh are demanded in an hour.
  pub hour_demand_most : hour_demand h ≤ 25000000
  hour_demand_most = omega (
    arith,
    hour_demand_by_record,
    sum_mono (demand_of h) (λ i. 100000) h.count demand_of_most,
    sum_const 100000 h.count,
    kept.count_most,
  )

  -- ---- N

  amount_within : (m : ℕ) → nat_abs (amount h m) ≤ sum_below (λ i. cond (eqb (member_of h i) m) (nat_abs (grains h i)) 0) h.count
  unfolding amount
  amount_within m = (total_within _ _ h.count (λ i l. u_picked (eqb (member_of h i) m) (u_lit (grains h i)))).under

  -- All amounts together are at most 2.8×10^18 grains in size.
  all_amounts_most : sum_below (λ m. nat_abs (amount h m)) (members h) ≤ 2800000000000000000
  all_amounts_most = omega (
    arith,
    sum_mono _ _ (members h) (λ m l. amount_within m),
    sum_by (λ i. nat_abs (grains h i)) (member_of h) (members h) h.count (λ i l. (kept.record_kept i l).member_there),
    all_grains_most kept,
  )

  -- N, and every running sum of charges, is at most 280,000,000,016 cents in size.
  pub charges_running : (n : ℕ) → n ≤ members h → Under (total_below (charge h) n) 280000000016
  unfolding charge
  charges_running n l = u_le (total_within (charge h) (λ m. nat_abs (charge h m)) n (λ m k. u_lit (charge h m))) (omega (
    arith,
    sum_mul (λ m. nat_abs (charge h m)) 10000000 n,
    sum_mono (λ m. nat_abs (charge h m) * 10000000) (λ m. nat_abs (amount h m) + 5000000) n (λ m k. half_a_cent_more (amount h m)),
    sum_add (λ m. nat_abs (amount h m)) (λ m. 5000000) n,
    sum_const 5000000 n,
    sum_prefix (λ m. nat_abs (amount h m)) n (members h) l,
    all_amounts_most,
    kept.members_most,
  ))

  pub neutrality_under : Under (neutrality h) 280000000016
  unfolding neutrality
  neutrality_under = charges_running (members h) (le_refl (members h))

  pub neutrality_share_under : (m : ℕ) → m < members h → Under (neutrality_share h m) 280000000016
  unfolding neutrality_share share
  neutrality_share_under m l = u_le (u_with_sign (neutrality h) (size_of h m))
      (le_trans (size_at_most every_member (member_demand h) (members h) (nat_abs (neutrality h)) m l) neutrality_under.under)

  -- No final is over 560,000,000,016 cents in size, so that its text fits 14 columns.
  pub final_under : (m : ℕ) → m < members h → Under (final h m) 560000000016
  unfolding final
  final_under m l = charge_under kept m u- neutrality_share_under m l
