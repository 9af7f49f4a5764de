-- A size shared in whole units: handing the units left over out one at a time gives them by rank, the shares add up to the size, and
-- each is less than a unit from its exact fraction. Who takes no part may as well not be there.
use Prim.Native.Nat.{ℕ, zero, suc, ◌+◌, ◌-◌, ◌*◌, ◌/◌, ◌%◌, ◌≤◌, ◌<◌, zero-le}
use native.Mathlib.Nat.{not-suc-le-zero, le_refl, le_trans, div-add-mod', mod-lt, le_of_mul-le-mul_right, sub-add_cancel, eq-zero-or-pos}
use native.Mathlib.Nat.{le_of_eq}
use native.Mathlib.Omega.{arith}
use mathlib.Core.Path.{◌≡◌, refl, sym, ◌∙◌, ap, ap₂, subst}
use mathlib.Core.Logic.{⊎_elim}
use mathlib.Core.Bool.{Bool, true, false, not, cond, and-false, ◌&&◌}
use Rattle.std.specs.Prelude.{Option, None, Some}
use lib.Dec.{ltb, eqb}
use borrow.Author.Tests.{ltb-true, ltb-false, eqb-false, not-true, not-false, lt-ltb, le-ltb, ne_eqb}
use Rattle.whole.specs.Below.{one_if, count_below, sum_below}
use Rattle.whole.proofs.Tests.{split, never, both, and_mono, cond_ext, last_or_below}
use Rattle.whole.proofs.Sums.{count_mono, sum_ext, sum_mono, sum_at, sum_add, sum_mul, sum_one_if, sum_zero}
use Rattle.whole.proofs.Gathering.{passer_before, same_order, sum_gathered, count_gathered}
use Rattle.whole.proofs.Rank.{Order, by_key, why_ahead, count_served}
use Rattle.whole.proofs.Handing.{Handing, handed}
use Rattle.rules.specs.Share.{better, first_largest, is_at, handed_out, all_demand, whole_part, remainder, units_left, share_size}
use Rattle.rules.specs.Share.{ahead, ranked_size}

-- ---- the first largest of those that wait

module _ (rem : ℕ → ℕ) (waits : ℕ → Bool) where
  pub record FirstLargestAt (m b : ℕ) : Type 0 where
    pub there : b < m
    pub waiting : waits b ≡ true
    pub largest : (j : ℕ) → j < m → waits j ≡ true → rem j ≤ rem b
    pub first : (j : ℕ) → j < b → waits j ≡ true → rem j < rem b

  abbrev Chosen : Option ℕ → ℕ → Type 0
  Chosen None m = (j : ℕ) → j < m → waits j ≡ false
  Chosen (Some b) m = FirstLargestAt m b

  -- place m doesn't wait
  passed : (o : Option ℕ) (m : ℕ) → waits m ≡ false → Chosen o m → Chosen o (suc m)
  passed None m f c = λ j l. last_or_below j m l (λ e. rw e f) (c j)
  passed (Some b) m f c = record {
    there = omega (arith, c.there);
    waiting = c.waiting;
    largest = λ j l w. last_or_below j m l (λ e. never (rw e at w) f) (λ k. c.largest j k w);
    first = c.first;
  }

  -- it waits, and is better than what was chosen, or not
  compared : (o : Option ℕ) (m : ℕ) → waits m ≡ true → Chosen o m → Chosen (better rem o m) (suc m)
  unfolding better
  compared None m t c = record {
    there = le_refl (suc m);
    waiting = t;
    largest = λ j l w. last_or_below j m l (λ e. rw e (le_refl (rem m))) (λ k. never w (c j k));
    first = λ j l w. never w (c j l);
  }
  compared (Some b) m t c = split (ltb (rem b) (rem m))
      (λ s. let more = ltb-true (rem b) (rem m) s in rw s (record {
        there = le_refl (suc m);
        waiting = t;
        largest = λ j l w. last_or_below j m l (λ e. rw e (le_refl (rem m))) (λ k. omega (arith, c.largest j k w));
        first = λ j l w. omega (arith, c.largest j l w);
      }))
      (λ s. let less = ltb-false (rem b) (rem m) s in rw s (record {
        there = omega (arith, c.there);
        waiting = c.waiting;
        largest = λ j l w. last_or_below j m l (λ e. rw e less) (λ k. c.largest j k w);
        first = c.first;
      }))

  chosen : (m : ℕ) → Chosen (first_largest rem waits m) m
  unfolding first_largest
  chosen zero = λ j l. absurd (not-suc-le-zero l)
  chosen (suc m) = split (waits m) (λ t. rw t (compared (first_largest rem waits m) m t (chosen m)))
      (λ f. rw f (passed (first_largest rem waits m) m f (chosen m)))

  pub none_waits : (m : ℕ) → first_largest rem waits m ≡ None → (j : ℕ) → j < m → waits j ≡ false
  none_waits m e = subst (λ (o : Option ℕ). Chosen o m) e (chosen m)

  pub found : (m b : ℕ) → first_largest rem waits m ≡ Some b → FirstLargestAt m b
  found m b e = subst (λ (o : Option ℕ). Chosen o m) e (chosen m)

-- ---- handing out is by rank

in_order : (rem : ℕ → ℕ) → Order (ahead rem)
unfolding ahead
in_order rem = by_key rem

larger : (rem : ℕ → ℕ) (j i : ℕ) → rem i < rem j → ahead rem j i ≡ true
unfolding ahead
larger rem j i l = rw (lt-ltb (rem i) (rem j) l)

not_ahead : (rem : ℕ → ℕ) (j i : ℕ) → rem j ≤ rem i → (j < i → rem j < rem i) → ahead rem j i ≡ false
unfolding ahead
not_ahead rem j i l m =
    split (ahead rem j i) (λ t. why_ahead rem j i t (λ k. absurd (omega arith)) (λ e k. absurd (let s = m k in omega arith))) (λ f. f)

module _ (rem : ℕ → ℕ) (takes : ℕ → Bool) (n : ℕ) where
  abbrev has : ℕ → ℕ → Bool
  has k = handed_out rem takes n k

  abbrev waits : ℕ → ℕ → Bool
  waits k j = takes j && not (has k j)

  abbrev pick : ℕ → Option ℕ
  pick k = first_largest rem (waits k) n

  handing : Handing (ahead rem) takes n has pick
  unfolding handed_out is_at
  handing = record {
    nobody = λ i l. refl;
    gives = λ k b e i l. rw e;
    none_left = λ k e i l t. not-false (has k i) (rw t at (none_waits rem (waits k) n e i l));
    there = λ k b e. (found rem (waits k) n b e).there;
    taker = λ k b e. (both (takes b) (not (has k b)) (found rem (waits k) n b e).waiting).0;
    has_none = λ k b e. not-true (has k b) (both (takes b) (not (has k b)) (found rem (waits k) n b e).waiting).1;
    first_of = λ k b e j l t f.
        let w : waits k j ≡ true = rw (t, f) in
        let c = found rem (waits k) n b e in
        not_ahead rem j b (c.largest j l w) (λ m. c.first j m w);
  }

-- Of k units handed out one at a time, a taker has one exactly if fewer than k takers stand ahead of it.
pub handing_is_rank : (rem : ℕ → ℕ) (takes : ℕ → Bool) (n k : ℕ) → k ≤ count_below takes n → (i : ℕ) → i < n →
    handed_out rem takes n k i ≡ (takes i && ltb (count_below (λ j. takes j && ahead rem j i) n) k)
handing_is_rank rem takes n k h i l = handed (in_order rem) (handing rem takes n) k h i l

-- ---- whole parts, remainders and units left over

-- a figure of those that take part, 0 for the others
abbrev of_takers : (ℕ → Bool) → (ℕ → ℕ) → ℕ → ℕ
of_takers takes f i = cond (takes i) (f i) 0

cond_parts : (b : Bool) (w t r d u : ℕ) → w * t + r ≡ d * u → cond b w 0 * t + cond b r 0 ≡ cond b d 0 * u
cond_parts true w t r d u e = e
cond_parts false w t r d u e = omega arith

-- a rest below t, against t for each rest that isn't 0
cond_rest : (b : Bool) (r t : ℕ) → r < t → cond b r 0 ≤ one_if (b && ltb 0 r) * t
cond_rest false r t l = zero-le
cond_rest true r t l = split (ltb 0 r) (λ e. rw e (omega arith)) (λ e. rw e (omega (arith, ltb-false 0 r e)))

cond_unit : (b u : Bool) (w : ℕ) → cond (b && true) (w + one_if (b && u)) 0 ≡ cond b w 0 + one_if (b && u)
cond_unit true u w = refl
cond_unit false u w = refl

module _ (takes : ℕ → Bool) (D : ℕ → ℕ) (n U : ℕ) where
  abbrev T : ℕ
  T = all_demand takes D n

  abbrev W : ℕ → ℕ
  W = whole_part takes D n U

  abbrev R : ℕ → ℕ
  R = remainder takes D n U

  abbrev left : ℕ
  left = units_left takes D n U

  abbrev whole_parts : ℕ
  whole_parts = sum_below (of_takers takes W) n

  abbrev remainders : ℕ
  remainders = sum_below (of_takers takes R) n

  -- how many takers stand ahead of i
  abbrev rank : ℕ → ℕ
  rank i = count_below (λ j. takes j && ahead R j i) n

  parts : (i : ℕ) → W i * T + R i ≡ D i * U
  unfolding whole_part remainder
  parts i = div-add-mod' (D i * U) T

  all_parts : whole_parts * T + remainders ≡ T * U
  unfolding all_demand
  all_parts =
      ap (λ (x : ℕ). x + remainders) (sym (sum_mul (of_takers takes W) T n))
      ∙ sym (sum_add (λ i. of_takers takes W i * T) (of_takers takes R) n)
      ∙ sum_ext _ _ n (λ i l. cond_parts (takes i) (W i) T (R i) (D i) U (parts i))
      ∙ sum_mul (of_takers takes D) U n

  -- ---- where somebody demands something
  module _ (some_demand : 0 < all_demand takes D n) where
    below_T : (i : ℕ) → R i < T
    unfolding remainder
    below_T i = mod-lt (D i * U) some_demand

    -- The whole parts and the units left over are the size that is shared.
    pub whole_parts_and_left : left + whole_parts ≡ U
    unfolding units_left
    whole_parts_and_left = sub-add_cancel (le_of_mul-le-mul_right {k = T} (omega (arith, all_parts)) some_demand)

    left_are_remainders : left * T ≡ remainders
    left_are_remainders =
        let e : whole_parts * T + remainders ≡ T * (left + whole_parts) = rw whole_parts_and_left all_parts in
        omega arith

    -- No more units are left over than takers have a remainder.
    pub left_few : left ≤ count_below (λ j. takes j && ltb 0 (R j)) n
    left_few = le_of_mul-le-mul_right {k = T} (le_trans (omega (arith, left_are_remainders)) (le_trans
        (sum_mono _ (λ j. one_if (takes j && ltb 0 (R j)) * T) n (λ j l. cond_rest (takes j) (R j) T (below_T j)))
        (le_of_eq (sum_mul (λ j. one_if (takes j && ltb 0 (R j))) T n
        ∙ ap (λ (x : ℕ). x * T) (sum_one_if (λ j. takes j && ltb 0 (R j)) n))))) some_demand

    -- So no taker gets two.
    left_at_most_takers : left ≤ count_below takes n
    left_at_most_takers = le_trans left_few (count_mono _ _ n (λ j l t. (both (takes j) (ltb 0 (R j)) t).0))

    handed_by_rank : (i : ℕ) → i < n → handed_out R takes n left i ≡ (takes i && ltb (rank i) left)
    handed_by_rank = handing_is_rank R takes n left left_at_most_takers

    size_is : (i : ℕ) → i < n → share_size takes D n U i ≡ of_takers takes W i + one_if (takes i && ltb (rank i) left)
    unfolding share_size
    size_is i l = rw (ne_eqb T 0 (λ e. omega arith), handed_by_rank i l) (cond_unit (takes i) (ltb (rank i) left) (W i))

    -- The shares add up to the size that is shared.
    pub sizes_add_up : sum_below (share_size takes D n U) n ≡ U
    sizes_add_up =
        sum_ext _ _ n size_is
        ∙ sum_add (of_takers takes W) (λ i. one_if (takes i && ltb (rank i) left)) n
        ∙ ap (λ (x : ℕ). whole_parts + x)
        (sum_one_if (λ i. takes i && ltb (rank i) left) n ∙ count_served (ahead R) (in_order R) takes n left left_at_most_takers)
        ∙ omega (arith, whole_parts_and_left)

    -- without a remainder, all that have one stand ahead, and the units don't suffice
    no_unit : (i : ℕ) → R i ≡ 0 → ltb (rank i) left ≡ false
    no_unit i z = le-ltb (rank i) left
        (le_trans left_few (count_mono _ _ n (λ j l. and_mono (takes j) _ _ (λ p. larger R j i (omega (arith, ltb-true 0 (R j) p))))))

    -- Each share is less than a unit from its exact fraction.
    pub size_near : (i : ℕ) → i < n → takes i ≡ true →
        (share_size takes D n U i * T < D i * U + T) × (D i * U < share_size takes D n U i * T + T)
    size_near i l t = split (ltb (rank i) left)
        (λ e. ⊎_elim (λ z. never e (no_unit i z))
        (λ (p : 0 < R i). rw (size_is i l, t, e) (omega (arith, parts i, below_T i))) (eq-zero-or-pos (R i)))
        (λ e. rw (size_is i l, t, e) (omega (arith, parts i, below_T i)))

-- ---- for every demand

demanded : (t : ℕ) → not (eqb t 0) ≡ true → 0 < t
demanded t e = omega (arith, eqb-false t 0 (not-true (eqb t 0) e))

module _ (takes : ℕ → Bool) (D : ℕ → ℕ) (n U i : ℕ) where
  -- The size of a share is that by rank.
  pub ranked : i < n → share_size takes D n U i ≡ ranked_size takes D n U i
  unfolding share_size ranked_size
  ranked l = cond_ext (takes i && not (eqb (all_demand takes D n) 0)) _ _ 0 (λ t.
      let c = both (takes i) (not (eqb (all_demand takes D n) 0)) t in
      rw (handed_by_rank takes D n U (demanded (all_demand takes D n) c.1) i l, c.0))

  -- Who takes no part gets nothing, nor does anybody where nobody demands anything.
  pub nothing_for_others : takes i ≡ false → share_size takes D n U i ≡ 0
  unfolding share_size
  nothing_for_others f = rw f

  pub nothing_without_demand : all_demand takes D n ≡ 0 → share_size takes D n U i ≡ 0
  unfolding share_size
  nothing_without_demand e = rw (e, and-false)

-- The shares never add up to more than the size shared, and no share is larger.
pub sizes_at_most : (takes : ℕ → Bool) (D : ℕ → ℕ) (n U : ℕ) → sum_below (share_size takes D n U) n ≤ U
sizes_at_most takes D n U = ⊎_elim
    (λ z. le_trans (le_of_eq (sum_ext _ (λ i. 0) n (λ i l. nothing_without_demand takes D n U i z) ∙ sum_zero n)) zero-le)
    (λ p. le_of_eq (sizes_add_up takes D n U p))
    (eq-zero-or-pos (all_demand takes D n))

pub size_at_most : (takes : ℕ → Bool) (D : ℕ → ℕ) (n U i : ℕ) → i < n → share_size takes D n U i ≤ U
size_at_most takes D n U i l = le_trans (sum_at (share_size takes D n U) n i l) (sizes_at_most takes D n U)

-- They add up to it wherever there is demand, or nothing to share.
pub sizes_add_up_to : (takes : ℕ → Bool) (D : ℕ → ℕ) (n U : ℕ) → (all_demand takes D n ≡ 0 → U ≡ 0) → sum_below (share_size takes D n U) n ≡ U
sizes_add_up_to takes D n U nothing = ⊎_elim
    (λ z. omega (arith, sizes_at_most takes D n U, nothing z))
    (sizes_add_up takes D n U)
    (eq-zero-or-pos (all_demand takes D n))

-- ---- only the takers' demands, gathered

abbrev everyone : ℕ → Bool
everyone j = true

-- g has at the takers' places, which count the takers before each, what D has at the takers
module _ (takes : ℕ → Bool) (D g : ℕ → ℕ) (n U : ℕ) (same : (j : ℕ) → j < n → takes j ≡ true → g (count_below takes j) ≡ D j) where
  abbrev place : ℕ → ℕ
  place = count_below takes

  gathered_T : all_demand everyone g (place n) ≡ all_demand takes D n
  unfolding all_demand
  gathered_T = sum_gathered takes D g n same

  gathered_whole : (j : ℕ) → j < n → takes j ≡ true → whole_part everyone g (place n) U (place j) ≡ whole_part takes D n U j
  unfolding whole_part
  gathered_whole j l t = ap₂ (λ (d t : ℕ). d * U / t) (same j l t) gathered_T

  gathered_remainder : (j : ℕ) → j < n → takes j ≡ true → remainder everyone g (place n) U (place j) ≡ remainder takes D n U j
  unfolding remainder
  gathered_remainder j l t = ap₂ (λ (d t : ℕ). d * U % t) (same j l t) gathered_T

  gathered_left : units_left everyone g (place n) U ≡ units_left takes D n U
  unfolding units_left
  gathered_left = ap (λ (x : ℕ). U - x) (sum_gathered takes (whole_part takes D n U) (whole_part everyone g (place n) U) n gathered_whole)

  -- the takers keep their order
  gathered_ahead : (j i : ℕ) → j < n → takes j ≡ true → i < n → takes i ≡ true →
      ahead (remainder everyone g (place n) U) (place j) (place i) ≡ ahead (remainder takes D n U) j i
  unfolding ahead
  gathered_ahead j i l t m u = rw (gathered_remainder j l t, gathered_remainder i m u, same_order takes j i t)

  gathered_rank : (i : ℕ) → i < n → takes i ≡ true → rank everyone g (place n) U (place i) ≡ rank takes D n U i
  gathered_rank i m u = count_gathered takes _ (λ j. ahead (remainder takes D n U) j i) n (λ j l t. gathered_ahead j i l t m u)

  gathered_ranked : (i : ℕ) → i < n → takes i ≡ true → ranked_size everyone g (place n) U (place i) ≡ ranked_size takes D n U i
  unfolding ranked_size
  gathered_ranked i l t = rw (gathered_T, gathered_whole i l t, gathered_rank i l t, gathered_left, t)

  -- An engine that sees nobody but the takers gives them the same shares.
  pub gathered_shares : (i : ℕ) → i < n → takes i ≡ true → share_size everyone g (place n) U (place i) ≡ share_size takes D n U i
  gathered_shares i l t =
      ranked everyone g (place n) U (place i) (passer_before takes i n t l)
      ∙ gathered_ranked i l t
      ∙ sym (ranked takes D n U i l)
