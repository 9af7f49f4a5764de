-- What the engine adds up and divides is what the definitions say, and nothing is too large.
use mathlib.Core.Path.{◌≡◌, refl, sym, ◌∙◌, ap, ap₂}
use mathlib.Core.List.{List}
use mathlib.Core.Bool.{Bool, true, false}
use Prim.Native.Nat.{ℕ, zero, suc, ◌+◌, ◌-◌, ◌*◌, ◌/◌, ◌%◌, ◌≤◌, ◌<◌}
use native.Mathlib.Nat.{div-le_self, mod-lt, le_refl}
use native.Mathlib.Omega.{arith}
use lib.Dec.{ltb}
use lib.ListN.{length, take}
use lib.Seq.{take-length}
use Rattle.std.proofs.Common.{add-one}
use Rattle.std.specs.Int.{from_bool}
use Rattle.std.specs.List.{sum}
use Rattle.std.proofs.lemmas.List.Sums.{sum_by_more}
use Rattle.whole.specs.Below.{one_if, sum_below}
use Rattle.whole.proofs.Sums.{count_most, sum_add_one, sum_prefix}
use Rattle.whole.proofs.Gathering.{count_add_one}
use Rattle.rules.specs.Share.{all_demand, whole_part, remainder, units_left}
use Rattle.rules.proofs.Shares.{whole_parts_and_left}
use Rattle.share.specs.Shareable.{at, everyone, demanded}
use Rattle.share.specs.Steps.{Dividing, whole_of, rest_of, left_of, above_before}

pub demanded_is : (demands : List ℕ) → demanded demands ≡ sum_below (at demands) (length demands)
unfolding all_demand
demanded_is demands = refl

-- a sum over the first places of a list
sum_first : (xs : List ℕ) (n : ℕ) → n ≤ length xs → sum_below (at xs) n ≡ sum (take n xs)
unfolding sum_below
sum_first xs zero l = refl
sum_first xs (suc n) l = rw (sum_first xs n (omega arith), ← add-one n) (sym (sum_by_more (λ x. x) xs n 0 (omega arith)))

pub demanded_sum : (demands : List ℕ) → demanded demands ≡ sum demands
demanded_sum demands =
    demanded_is demands ∙ sum_first demands (length demands) (le_refl _) ∙ ap sum (take-length demands)

-- a test that passed is 1, for the code as for the definitions
pub one_for : (b : Bool) → from_bool b ≡ one_if b
one_for true = refl
one_for false = refl

pub one_most : {one : ℕ} (b : Bool) → one ≡ from_bool b → one ≤ 1
one_most true e = omega arith
one_most false e = omega arith

module _ {demands : List ℕ} {size t : ℕ} (d : Dividing demands size t) where
  pub some_demand : 0 < demanded demands
  some_demand = omega (arith, d.sum_is, d.some)

  pub whole_is : (i : ℕ) → at demands i * size / t ≡ whole_of demands size i
  unfolding whole_part
  whole_is i = rw d.sum_is

  pub rest_is : (i : ℕ) → at demands i * size % t ≡ rest_of demands size i
  unfolding remainder
  rest_is i = rw d.sum_is

  pub rest_below : (i : ℕ) → rest_of demands size i < t
  rest_below i = rw (← rest_is i) (mod-lt (at demands i * size) d.some)

  pub whole_small : (i : ℕ) → i < length demands → whole_of demands size i < 10000000000000000000
  whole_small i l = rw (← whole_is i) (omega (arith, div-le_self (at demands i * size) t, d.products_fit i l))

  -- the whole parts of the first demands, and of all
  pub handed_within : (i : ℕ) → i ≤ length demands → sum_below (whole_of demands size) i ≤ size
  handed_within i h = omega (
    arith,
    sum_prefix (whole_of demands size) i (length demands) h,
    whole_parts_and_left everyone (at demands) (length demands) size some_demand,
  )

  pub handed_more : (i handed : ℕ) → handed ≡ sum_below (whole_of demands size) i →
      handed + at demands i * size / t ≡ sum_below (whole_of demands size) (i + 1)
  handed_more i handed e = ap₂ (λ (a b : ℕ). a + b) e (whole_is i) ∙ sym (sum_add_one (whole_of demands size) i)

  pub handed_all : (i handed : ℕ) → i ≡ length demands → handed ≡ sum_below (whole_of demands size) i → size - handed ≡ left_of demands size
  unfolding units_left
  handed_all i handed e h = ap (λ (x : ℕ). size - x) (h ∙ ap (sum_below (whole_of demands size)) e)

  -- the remainders above a bound, one demand more
  pub above_more : (bound i count : ℕ) {one : ℕ} → count ≡ above_before demands size bound i →
      one ≡ from_bool (ltb bound (at demands i * size % t)) → count + one ≡ above_before demands size bound (i + 1)
  above_more bound i count e o =
      ap₂ (λ (a b : ℕ). a + b) e (o ∙ one_for _ ∙ ap (λ (x : ℕ). one_if (ltb bound x)) (rest_is i)) ∙ sym (count_add_one _ i)

  pub above_few : (bound i : ℕ) → above_before demands size bound i ≤ i
  above_few bound i = count_most _ i
