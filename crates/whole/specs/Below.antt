-- What runs over the numbers 0, 1, .., n - 1: how many pass a test, the sums, the product, the list of values, the first that
-- passes, the values of those that pass. Each grows at its end, from n to n + 1, as a loop of the code does.
use Rattle.std.specs.Prelude.{ℕ, zero, suc, ◌+◌, ◌*◌, Bool, cond, List, [], ◌∷◌, ◌++◌, ℤ, pos, ◌+ℤ◌, drop, set, Option, None, Some}
use Rattle.std.specs.Option.{option_or}

-- 1 for a test that passed
abbrev pub one_if : Bool → ℕ
one_if b = cond b 1 0

unfoldable pub count_below : (ℕ → Bool) → ℕ → ℕ
count_below p zero = 0
count_below p (suc n) = count_below p n + one_if (p n)

unfoldable pub sum_below : (ℕ → ℕ) → ℕ → ℕ
sum_below f zero = 0
sum_below f (suc n) = sum_below f n + f n

-- the sum of signed numbers
unfoldable pub total_below : (ℕ → ℤ) → ℕ → ℤ
total_below f zero = pos 0
total_below f (suc n) = total_below f n +ℤ f n

unfoldable pub product_below : (ℕ → ℕ) → ℕ → ℕ
product_below f zero = 1
product_below f (suc n) = product_below f n * f n

unfoldable pub values_below {ℓ} : {A : Type ℓ} → (ℕ → A) → ℕ → List A
values_below f zero = []
values_below f (suc n) = values_below f n ++ f n ∷ []

-- n values in a buffer's first places, and what stood past them
unfoldable pub replacing_first {ℓ} : {A : Type ℓ} → (ℕ → A) → ℕ → List A → List A
replacing_first f n old = values_below f n ++ drop n old

unfoldable pub first_below : (ℕ → Bool) → ℕ → Option ℕ
first_below p zero = None
first_below p (suc n) = option_or (first_below p n) (cond (p n) (Some n) None)

-- the values of those that pass, gathered in a buffer's first places in their order, and what stood past them
unfoldable pub gathered_below {ℓ} : {A : Type ℓ} → (ℕ → Bool) → (ℕ → A) → ℕ → List A → List A
gathered_below p f zero old = old
gathered_below p f (suc n) old = cond (p n) (set (gathered_below p f n old) (count_below p n) (f n)) (gathered_below p f n old)
