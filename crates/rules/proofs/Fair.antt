-- Demand 3, for every hour whose records name members and areas that are there and whose areas without demand have no UFE: an area's
-- shares add up to its UFE, and shares, charges and the pool are as near to what the tariff has as it says.
use Prim.Native.Nat.{ℕ, ◌+◌, ◌*◌, ◌≤◌, ◌<◌}
use native.Mathlib.Nat.{le_trans, le_of_eq, le_of_lt, eq-zero-or-pos}
use native.Mathlib.Omega.{arith}
use mathlib.Core.Path.{◌≡◌, refl, sym, ◌∙◌, ap, ap₂, subst}
use mathlib.Core.Logic.{⊎_elim}
use mathlib.Core.Bool.{Bool, true, false, cond, and-false, and-true, ◌&&◌}
use lib.IntN.{ℤ, pos, negsuc, nat_abs, +ℤ_idl, +ℤ_idr, *ℤ-zero, ◌+ℤ◌, ◌-ℤ◌, ◌*ℤ◌}
use lib.Dec.{eqb}
use borrow.Author.Tests.{eqb-true, eq-eqb, ne_eqb}
use Rattle.whole.specs.Below.{sum_below, total_below}
use Rattle.whole.specs.Signed.{Under, with_sign_of}
use Rattle.whole.proofs.Tests.{split}
use Rattle.whole.proofs.Linear.{zr, all4, all5}
use Rattle.whole.proofs.Ranges.{◌u+◌, ◌u*◌, u_lit, u_le, abs_with_sign}
use Rattle.whole.proofs.Sums.{sum_ext, sum_mul, product_but}
use Rattle.whole.proofs.Totals.{total_ext, total_add, total_neg, total_sub, total_mul, total_times, total_swap, total_pick, total_within}
use Rattle.whole.proofs.Totals.{total_under, total_with_sign, own_sign, sign_of_zero}
use Rattle.rules.specs.declared.Kind.{Kind}
use Rattle.rules.specs.declared.Kind.TheVariants.{Generator, RealTimeLoad, ProfileLoad, Import, Export, Unknown}
use Rattle.rules.specs.Record.{Hour, Entry, members, areas, price, member_of, area_of, entry_of, is_generator, is_load, is_import, is_export}
use Rattle.rules.specs.Deviation.{generator_deviation, load_deviation, import_deviation, export_deviation, deviation, deviation_as}
use Rattle.rules.specs.Ufe.{in_area, area_sum, ufe, demand, area_demand}
use Rattle.rules.specs.Share.{all_demand, share_size, share}
use Rattle.rules.specs.Charge.{entering, entering_as, share_of, grains, amount, charge, pool_total}
use Rattle.rules.specs.Promised.Demands.{ranked_share, non_zero_T, all_T, other_T, exact_fraction, unrounded, load_prices, Fair}
use Rattle.rules.proofs.Rounding.{half_cent}
use Rattle.rules.proofs.Shares.{ranked, nothing_for_others, nothing_without_demand, sizes_add_up_to, sizes_at_most, size_near}

pub record Sound (h : Hour) : Type 0 where
  pub member_there : (i : ℕ) → i < h.count → member_of h i < members h
  pub area_there : (i : ℕ) → i < h.count → area_of h i < areas h
  pub no_demand_no_ufe : (a : ℕ) → a < areas h → area_demand h a ≡ 0 → ufe h a ≡ pos 0

-- ---- an area's shares

cond_abs : (b : Bool) (z : ℤ) → cond b (nat_abs z) 0 ≡ nat_abs (cond b z (pos 0))
cond_abs true z = refl
cond_abs false z = refl

-- A size less than a unit from its exact fraction, with the sign of what is shared.
pub near_with_sign : (U : ℤ) (s t d : ℕ) → s * t < d * nat_abs U + t → d * nat_abs U < s * t + t →
    nat_abs (with_sign_of U s *ℤ pos t -ℤ pos d *ℤ U) < t
near_with_sign (pos u) s t d p q = simp zr (omega arith)
near_with_sign (negsuc u) s t d p q = simp zr (omega arith)

module _ (h : Hour) where
  -- the size that record i has of area a's UFE, 0 for what is no load of it
  abbrev size_in : ℕ → ℕ → ℕ
  size_in a = share_size (in_area h a is_load) (demand h) h.count (nat_abs (ufe h a))

  no_load_no_size : (a i : ℕ) → in_area h a is_load i ≡ false → pos 0 ≡ with_sign_of (ufe h a) (size_in a i)
  no_load_no_size a i f = sym (ap (with_sign_of (ufe h a))
      (nothing_for_others (in_area h a is_load) (demand h) h.count (nat_abs (ufe h a)) i f) ∙ sign_of_zero (ufe h a))

  no_load_no_share : (i : ℕ) → is_load (entry_of h i).kind ≡ false → share_of h i ≡ pos 0
  unfolding share_of
  no_load_no_share i f = rw f

  own_share : (i : ℕ) → share_of h i ≡ with_sign_of (ufe h (area_of h i)) (size_in (area_of h i) i)
  unfolding share_of share in_area
  own_share i = split (is_load (entry_of h i).kind) (λ t. rw t) (λ f. rw f (no_load_no_size (area_of h i) i (rw (f, and-false))))

  -- Every record's share is that by rank.
  pub shares_by_rank : (i : ℕ) → i < h.count → share_of h i ≡ ranked_share h i
  unfolding ranked_share
  shares_by_rank i l = let a : ℕ = area_of h i in own_share i
      ∙ ap (with_sign_of (ufe h a)) (ranked (in_area h a is_load) (demand h) h.count (nat_abs (ufe h a)) i l)

  -- What a record has of area a's UFE: its own share, or nothing.
  pub share_in : (a i : ℕ) → cond (eqb (area_of h i) a) (share_of h i) (pos 0) ≡ with_sign_of (ufe h a) (size_in a i)
  unfolding in_area
  share_in a i = split (eqb (area_of h i) a)
      (λ t. rw t (own_share i ∙ ap (λ (x : ℕ). with_sign_of (ufe h x) (size_in x i)) (eqb-true (area_of h i) a t)))
      (λ f. rw f (no_load_no_size a i (rw f)))

  -- The sizes of an area's shares never add up to more than the size of its UFE.
  pub share_sizes_at_most : (a : ℕ) → sum_below (λ i. cond (eqb (area_of h i) a) (nat_abs (share_of h i)) 0) h.count ≤ nat_abs (ufe h a)
  share_sizes_at_most a = le_trans
      (le_of_eq (sum_ext _ (size_in a) h.count
      (λ i l. cond_abs (eqb (area_of h i) a) (share_of h i) ∙ ap nat_abs (share_in a i) ∙ abs_with_sign (ufe h a) (size_in a i))))
      (sizes_at_most (in_area h a is_load) (demand h) h.count (nat_abs (ufe h a)))

  -- Each share is less than one unit from its exact fraction.
  pub near : (i : ℕ) → i < h.count → is_load (entry_of h i).kind ≡ true → (area_demand h (area_of h i) ≡ 0 → ⊥) →
      nat_abs (share_of h i *ℤ pos (area_demand h (area_of h i)) -ℤ pos (demand h i) *ℤ ufe h (area_of h i)) < area_demand h (area_of h i)
  unfolding area_demand all_demand in_area
  near i l t some =
      let a : ℕ = area_of h i in
      let q = size_near (in_area h a is_load) (demand h) h.count (nat_abs (ufe h a)) (omega (arith, some)) i l (rw (eq-eqb a a refl, t)) in
      rw (own_share i) (near_with_sign (ufe h a) (size_in a i) (area_demand h a) (demand h i) q.0 q.1)

  -- An area without demand shares nothing.
  pub none_to_share : (i : ℕ) → i < h.count → area_demand h (area_of h i) ≡ 0 → share_of h i ≡ pos 0
  unfolding area_demand all_demand
  none_to_share i l z =
      let a : ℕ = area_of h i in
      own_share i ∙ ap (with_sign_of (ufe h a)) (nothing_without_demand (in_area h a is_load) (demand h) h.count (nat_abs (ufe h a)) i z)
      ∙ sign_of_zero (ufe h a)

module _ (h : Hour) (ok : Sound h) where
  sizes_are_ufe : (a : ℕ) → a < areas h → sum_below (size_in h a) h.count ≡ nat_abs (ufe h a)
  unfolding area_demand all_demand
  sizes_are_ufe a l =
      sizes_add_up_to (in_area h a is_load) (demand h) h.count (nat_abs (ufe h a)) (λ z. ap nat_abs (ok.no_demand_no_ufe a l z))

  -- The shares of each area add up exactly to its UFE.
  pub shares_add_up : (a : ℕ) → a < areas h → total_below (λ i. cond (eqb (area_of h i) a) (share_of h i) (pos 0)) h.count ≡ ufe h a
  shares_add_up a l =
      total_ext _ _ h.count (λ i m. share_in h a i)
      ∙ total_with_sign (ufe h a) (size_in h a) h.count
      ∙ ap (with_sign_of (ufe h a)) (sizes_are_ufe a l)
      ∙ own_sign (ufe h a)

-- ---- the pool: the amounts of all members and the totals of all areas are the same grains

-- a record's part of the four sums of deviations: it is in that of its own kind alone
enters_by_kind : (b : Bool) (k : Kind) (r : Entry) →
    cond (b && is_generator k) (generator_deviation r) (pos 0) -ℤ cond (b && is_load k) (load_deviation r) (pos 0)
    +ℤ cond (b && is_import k) (import_deviation r) (pos 0) -ℤ cond (b && is_export k) (export_deviation r) (pos 0)
    ≡ cond b (entering_as k (deviation_as r k)) (pos 0)
enters_by_kind false k r = refl
enters_by_kind true Generator r = simp +ℤ_idr
enters_by_kind true RealTimeLoad r = simp (+ℤ_idl, +ℤ_idr)
enters_by_kind true ProfileLoad r = simp (+ℤ_idl, +ℤ_idr)
enters_by_kind true Import r = simp (+ℤ_idl, +ℤ_idr)
enters_by_kind true Export r = simp +ℤ_idl
enters_by_kind true Unknown r = refl

abbrev entered : Hour → ℕ → ℤ
entered h i = entering (entry_of h i)

deviations_by_record : (h : Hour) (a : ℕ) →
    area_sum h a is_generator generator_deviation -ℤ area_sum h a is_load load_deviation
    +ℤ area_sum h a is_import import_deviation -ℤ area_sum h a is_export export_deviation
    ≡ total_below (λ i. cond (eqb (area_of h i) a) (entered h i) (pos 0)) h.count
unfolding area_sum in_area entering deviation
deviations_by_record h a = simp (← total_add, ← total_neg)
    (total_ext _ _ h.count (λ i l. enters_by_kind (eqb (area_of h i) a) (entry_of h i).kind (entry_of h i)))

module _ (h : Hour) (ok : Sound h) where
  amounts_by_record : total_below (amount h) (members h) ≡ total_below (grains h) h.count
  unfolding amount
  amounts_by_record =
      total_swap (λ m i. cond (eqb (member_of h i) m) (grains h i) (pos 0)) (members h) h.count
      ∙ total_ext _ _ h.count (λ i l. total_pick (λ m. grains h i) (members h) (member_of h i) (ok.member_there i l))

  area_by_record : (a : ℕ) → a < areas h →
      price h a *ℤ (total_below (λ i. cond (eqb (area_of h i) a) (entered h i) (pos 0)) h.count +ℤ ufe h a)
      ≡ total_below (λ i. cond (eqb (area_of h i) a) (price h a *ℤ (entered h i +ℤ share_of h i)) (pos 0)) h.count
  area_by_record a l = rw (← shares_add_up h ok a l) (simp (← total_add, ← total_mul)
      (total_ext _ _ h.count (λ i m. split (eqb (area_of h i) a) (λ t. rw t) (λ f. rw f (*ℤ-zero (price h a))))))

  pool_by_record : pool_total h ≡ total_below (grains h) h.count
  unfolding pool_total grains
  pool_by_record =
      total_ext _ _ (areas h) (λ a l. ap (λ (d : ℤ). price h a *ℤ (d +ℤ ufe h a)) (deviations_by_record h a) ∙ area_by_record a l)
      ∙ total_swap (λ a i. cond (eqb (area_of h i) a) (price h a *ℤ (entered h i +ℤ share_of h i)) (pos 0)) (areas h) h.count
      ∙ total_ext _ _ h.count
      (λ i l. total_pick (λ a. price h a *ℤ (entered h i +ℤ share_of h i)) (areas h) (area_of h i) (ok.area_there i l))

  -- All charges together are within half a cent a member of the pool's total.
  pub pooled : nat_abs (total_below (charge h) (members h) *ℤ pos 10000000 -ℤ pool_total h) ≤ 5000000 * members h
  unfolding charge
  pooled = le_trans (subst (λ (z : ℤ). Under z (members h * 5000000)) difference each).under (omega arith)
    where
      each : Under (total_below (λ m. charge h m *ℤ pos 10000000 -ℤ amount h m) (members h)) (members h * 5000000)
      each = total_under _ 5000000 (members h) (λ m l. half_cent (amount h m))

      difference : total_below (λ m. charge h m *ℤ pos 10000000 -ℤ amount h m) (members h)
          ≡ total_below (charge h) (members h) *ℤ pos 10000000 -ℤ pool_total h
      difference =
          total_sub (λ m. charge h m *ℤ pos 10000000) (amount h) (members h)
          ∙ ap₂ (λ (x y : ℤ). x -ℤ y) (total_times (charge h) (pos 10000000) (members h)) (amounts_by_record ∙ sym pool_by_record)

-- ---- charges against the tariff's unrounded amounts, both times all the T

-- a load's share times the other T; a record's grains, in which the deviation is the same in both; a charge, its cents first, then its
-- shares
scaled : (s t w o : ℤ) → s *ℤ (o *ℤ t) -ℤ w *ℤ o ≡ (s *ℤ t -ℤ w) *ℤ o
scaled = all4 _ (λ s t w o. simp zr (omega arith))

spread : (p e s q : ℤ) → p *ℤ (e +ℤ s) *ℤ q ≡ p *ℤ (e *ℤ q) +ℤ p *ℤ (s *ℤ q)
spread = all4 _ (λ p e s q. simp zr (omega arith))

same_off : (p e s f : ℤ) → p *ℤ e +ℤ p *ℤ s -ℤ p *ℤ (e +ℤ f) ≡ p *ℤ (s -ℤ f)
same_off = all4 _ (λ p e s f. simp zr (omega arith))

priced : (p e s q f : ℤ) → p *ℤ (e +ℤ s) *ℤ q -ℤ p *ℤ (e *ℤ q +ℤ f) ≡ p *ℤ (s *ℤ q -ℤ f)
priced p e s q f = ap (λ (z : ℤ). z -ℤ p *ℤ (e *ℤ q +ℤ f)) (spread p e s q) ∙ same_off p (e *ℤ q) (s *ℤ q) f

rounded : (c a u k q : ℤ) → c *ℤ (k *ℤ q) -ℤ u ≡ (c *ℤ k -ℤ a) *ℤ q +ℤ (a *ℤ q -ℤ u)
rounded = all5 _ (λ c a u k q. simp zr (omega arith))

nothing_off : (q k : ℕ) → Under (pos 0 *ℤ pos q -ℤ pos 0) k
nothing_off q k = simp zr (omega arith)

cond_bound : (b : Bool) (p q : ℕ) → p * cond b q 0 ≤ cond b p 0 * q
cond_bound true p q = omega arith
cond_bound false p q = omega arith

module _ (h : Hour) where
  all_and_other : (a : ℕ) → a < areas h → (area_demand h a ≡ 0 → ⊥) → all_T h ≡ other_T h a * area_demand h a
  unfolding all_T other_T non_zero_T
  all_and_other a l some = sym (product_but (non_zero_T h) (areas h) a l) ∙ ap (λ (t : ℕ). other_T h a * t) (rw (ne_eqb (area_demand h a) 0 some))

  -- a record's grains with its exact fraction in place of its share
  abbrev exact_grains : ℕ → ℤ
  exact_grains i = price h (area_of h i) *ℤ (entered h i *ℤ pos (all_T h) +ℤ exact_fraction h i)

module _ (h : Hour) (ok : Sound h) where
  -- a share against its exact fraction: at most one unit for a load whose area has demand, otherwise both are 0
  load_off : (i : ℕ) → i < h.count → is_load (entry_of h i).kind ≡ true → (area_demand h (area_of h i) ≡ 0 → ⊥) →
      Under (share_of h i *ℤ pos (all_T h) -ℤ pos (demand h i) *ℤ ufe h (area_of h i) *ℤ pos (other_T h (area_of h i))) (all_T h)
  load_off i l t some =
      let a : ℕ = area_of h i in
      let w : ℤ = pos (demand h i) *ℤ ufe h a in
      let u : Under (share_of h i *ℤ pos (area_demand h a) -ℤ w) (area_demand h a) = record { under = le_of_lt (near h i l t some) } in
      rw (all_and_other h a (ok.area_there i l) some, scaled (share_of h i) (pos (area_demand h a)) w (pos (other_T h a)))
      (u_le (u u* u_lit (pos (other_T h a))) (omega arith))

  share_off : (i : ℕ) → i < h.count →
      Under (share_of h i *ℤ pos (all_T h) -ℤ exact_fraction h i) (cond (is_load (entry_of h i).kind) (all_T h) 0)
  unfolding exact_fraction
  share_off i l = split (is_load (entry_of h i).kind)
      (λ t. ⊎_elim
      (λ z. rw (none_to_share h i l z, z, and-false) (nothing_off (all_T h) _))
      (λ (p : 0 < area_demand h (area_of h i)). rw (t, ne_eqb (area_demand h (area_of h i)) 0 (λ z. omega arith)) (load_off i l t (λ z. omega arith)))
      (eq-zero-or-pos (area_demand h (area_of h i))))
      (λ f. rw (no_load_no_share h i f, f) (nothing_off (all_T h) 0))

  grains_off : (i : ℕ) → i < h.count →
      Under (grains h i *ℤ pos (all_T h) -ℤ exact_grains h i) (cond (is_load (entry_of h i).kind) (nat_abs (price h (area_of h i))) 0 * all_T h)
  unfolding grains
  grains_off i l =
      let p : ℤ = price h (area_of h i) in
      rw (priced p (entered h i) (share_of h i) (pos (all_T h)) (exact_fraction h i))
      (u_le (u_lit p u* share_off i l) (cond_bound (is_load (entry_of h i).kind) (nat_abs p) (all_T h)))

  amount_off : (m : ℕ) → Under (amount h m *ℤ pos (all_T h) -ℤ unrounded h m) (load_prices h m * all_T h)
  unfolding amount unrounded load_prices
  amount_off m =
      subst (λ (z : ℤ). Under z (load_prices h m * all_T h))
      (total_sub (λ i. mine i (grains h i) *ℤ pos (all_T h)) (λ i. mine i (exact_grains h i)) h.count
      ∙ ap (λ (z : ℤ). z -ℤ unrounded h m) (total_times (λ i. mine i (grains h i)) (pos (all_T h)) h.count))
      (u_le (total_within _ (λ i. bound i * all_T h) h.count one) (le_of_eq (sum_mul bound (all_T h) h.count)))
    where
      mine : ℕ → ℤ → ℤ
      mine i z = cond (eqb (member_of h i) m) z (pos 0)

      bound : ℕ → ℕ
      bound i = cond (is_load (entry_of h i).kind && eqb (member_of h i) m) (nat_abs (price h (area_of h i))) 0

      one : (i : ℕ) → i < h.count → Under (mine i (grains h i) *ℤ pos (all_T h) -ℤ mine i (exact_grains h i)) (bound i * all_T h)
      one i l = split (eqb (member_of h i) m) (λ t. rw (t, and-true) (grains_off i l)) (λ f. rw f (nothing_off (all_T h) _))

  -- Each charge is within half a cent, and one unit at the size of the zone's price for each load record, of the unrounded amount.
  pub charged : (m : ℕ) → m < members h →
      nat_abs (charge h m *ℤ pos (10000000 * all_T h) -ℤ unrounded h m) ≤ (5000000 + load_prices h m) * all_T h
  unfolding charge
  charged m l =
      rw (rounded (charge h m) (amount h m) (unrounded h m) (pos 10000000) (pos (all_T h)))
      (le_trans (half_cent (amount h m) u* u_lit (pos (all_T h)) u+ amount_off m).under (omega arith))

-- Demand 3 of an hour's figures as defined.
pub fair : (h : Hour) → Sound h → Fair h (ufe h) (share_of h) (charge h)
fair h ok = record {
  by_formula = λ a l. refl;
  exact = shares_add_up h ok;
  near = near h;
  none_to_share = none_to_share h;
  charged = charged h ok;
  pooled = pooled h ok;
}

-- ... and of any figures that agree with them.
pub fair_alike : (h : Hour) → Sound h → {u s c : ℕ → ℤ} → ((a : ℕ) → a < areas h → u a ≡ ufe h a) →
    ((i : ℕ) → i < h.count → s i ≡ share_of h i) → ((m : ℕ) → m < members h → c m ≡ charge h m) → Fair h u s c
fair_alike h ok {u} {s} {c} ufes shares charges =
    let defined = fair h ok in
    record {
      by_formula = ufes;
      exact = λ a l. total_ext _ _ h.count (λ i k. rw (shares i k)) ∙ defined.exact a l ∙ sym (ufes a l);
      near = λ i l load some. rw (shares i l, ufes (area_of h i) (ok.area_there i l)) (defined.near i l load some);
      none_to_share = λ i l none. shares i l ∙ defined.none_to_share i l none;
      charged = λ m l. rw (charges m l) (defined.charged m l);
      pooled = rw (total_ext c (charge h) (members h) charges) defined.pooled;
    }
