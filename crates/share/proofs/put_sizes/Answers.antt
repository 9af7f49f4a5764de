-- `share::put_sizes` meets its contract: so far the sizes are put down, the demands past them are as they were, and the remainders equal
-- to the bound are counted.
use mathlib.Core.Path.{◌≡◌, sym, ◌∙◌, ap, ap₂}
use mathlib.Core.List.{List}
use Prim.Native.Nat.{ℕ, ◌+◌, ◌*◌, ◌/◌, ◌%◌}
use native.Mathlib.Nat.{le_refl}
use native.Mathlib.Omega.{arith}
use lib.Dec.{ltb, eqb}
use lib.ListN.{length}
use Rattle.std.specs.Int.{from_bool}
use Rattle.whole.specs.Below.{one_if}
use Rattle.whole.proofs.Sums.{count_most}
use Rattle.whole.proofs.Gathering.{count_none, count_add_one}
use Rattle.whole.proofs.Filling.{Filled, none_filled, not_yet_filled, next_filled}
use Rattle.share.specs.Shareable.{at}
use Rattle.share.specs.Steps.{Dividing, whole_of, rest_of, equal_before, size_of}
use Rattle.share.proofs.Parts.{one_for, one_most, whole_is, rest_is, whole_small}
use Rattle.share.proofs.Above.{nudged}
use Rattle.share.proofs.put_sizes.Goals as goal

-- the place still holds its demand
module _ {demands places : List ℕ} {size t i : ℕ} (bound spare : ℕ) (d : Dividing demands size t)
    (filled : Filled (size_of demands size bound spare) (length demands) i demands places) where
  product_is : at places i * size ≡ at demands i * size
  product_is = ap (λ (x : ℕ). x * size) (not_yet_filled filled i 0 (le_refl i))

  rest_here : at places i * size % t ≡ rest_of demands size i
  rest_here = ap (λ (x : ℕ). x % t) product_is ∙ rest_is d i

  whole_here : at places i * size / t ≡ whole_of demands size i
  whole_here = ap (λ (x : ℕ). x / t) product_is ∙ whole_is d i

  -- the unit is known, and with it the size
  size_is : {equal one unit : ℕ} → equal ≡ equal_before demands size bound i → one ≡ from_bool (ltb equal spare) →
      unit ≡ from_bool (ltb bound (at places i * size % t + one)) → at places i * size / t + unit ≡ size_of demands size bound spare i
  size_is e o u = ap₂ (λ (x y : ℕ). x + y) whole_here (
      u ∙ one_for _
      ∙ ap₂ (λ (x y : ℕ). one_if (ltb bound (x + y))) rest_here (o ∙ one_for _ ∙ ap (λ (x : ℕ). one_if (ltb x spare)) e)
      ∙ ap one_if (nudged bound (rest_of demands size i) (ltb (equal_before demands size bound i) spare)))

  -- the remainders equal to the bound are counted
  counted : {equal one : ℕ} → equal ≡ equal_before demands size bound i → one ≡ from_bool (eqb (at places i * size % t) bound) →
      equal + one ≡ equal_before demands size bound (i + 1)
  counted e o =
      ap₂ (λ (a b : ℕ). a + b) e (o ∙ one_for _ ∙ ap (λ (x : ℕ). one_if (eqb x bound)) rest_here)
      ∙ sym (count_add_one (λ j. eqb (rest_of demands size j) bound) i)

pub loop-place-init : goal.loop-place-init
loop-place-init c = record { equal_is = sym (count_none _); filled = none_filled (le_refl _) }

-- *place * size
pub overflow_mul-product : goal.overflow_mul-product
overflow_mul-product c =
    let a = c.loop-place in
    let cut = c.args.cut in
    omega (arith, product_is cut.bound cut.spare c.requires a.invariant.filled, c.requires.products_fit a.place-index (omega arith))

-- product / t + u64::from(..)
pub overflow_add-place : goal.overflow_add-place
overflow_add-place c =
    let a = c.loop-place in
    let cut = c.args.cut in
    omega (
      arith,
      whole_here cut.bound cut.spare c.requires a.invariant.filled,
      whole_small c.requires a.place-index (omega arith),
      one_most _ c.from-in-loop-place.ensures,
    )

-- equal += u64::from(rest == cut.bound)
pub overflow_add-equal : goal.overflow_add-equal
overflow_add-equal c =
    let a = c.loop-place in
    let cut = c.args.cut in
    omega (
      arith,
      counted cut.bound cut.spare c.requires a.invariant.filled a.invariant.equal_is c.from-equal.ensures,
      count_most (λ j. eqb (rest_of c.args.places.now c.args.size j) cut.bound) (a.place-index + 1),
    )

pub loop-place-preserved : goal.loop-place-preserved
loop-place-preserved c =
    let a = c.loop-place in
    let cut = c.args.cut in
    record {
      equal_is = counted cut.bound cut.spare c.requires a.invariant.filled a.invariant.equal_is c.from-equal.ensures;
      filled = next_filled a.invariant.filled (omega arith)
          (size_is cut.bound cut.spare c.requires a.invariant.filled a.invariant.equal_is c.from.ensures c.from-in-loop-place.ensures);
    }
