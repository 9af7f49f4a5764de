-- A number U shared in whole units over those that take part, by their demands D. Document 01, "The sums", shares.
use Rattle.std.specs.Prelude.{ℕ, zero, suc, ◌+◌, ◌-◌, ◌*◌, ◌/◌, ◌%◌, Bool, false, not, cond, ◌&&◌, ◌||◌, ℤ, nat_abs, ltb, eqb, Option, None, Some}
use Rattle.whole.specs.Below.{one_if, count_below, sum_below}
use Rattle.whole.specs.Signed.{with_sign_of}

-- ---- the units left over, one each to the largest remainders, on equal remainders to the earlier

-- a candidate, or place i where its remainder is larger
unfoldable pub better : (ℕ → ℕ) → Option ℕ → ℕ → Option ℕ
better rem None i = Some i
better rem (Some b) i = cond (ltb (rem b) (rem i)) (Some i) (Some b)

-- of the places below m that wait, the first with the largest remainder
unfoldable pub first_largest : (ℕ → ℕ) → (ℕ → Bool) → ℕ → Option ℕ
first_largest rem waits zero = None
first_largest rem waits (suc m) = cond (waits m) (better rem (first_largest rem waits m) m) (first_largest rem waits m)

unfoldable pub is_at : Option ℕ → ℕ → Bool
is_at None i = false
is_at (Some b) i = eqb i b

-- who has a unit once k are handed out: whoever had one, and the first largest of those that wait for one
unfoldable pub handed_out : (ℕ → ℕ) → (ℕ → Bool) → ℕ → ℕ → ℕ → Bool
handed_out rem takes n zero i = false
handed_out rem takes n (suc k) i =
    handed_out rem takes n k i || is_at (first_largest rem (λ j. takes j && not (handed_out rem takes n k j)) n) i

-- ---- a size U over n places: who takes part, and the demand of each

module _ (takes : ℕ → Bool) (D : ℕ → ℕ) (n : ℕ) where
  -- T: the sum of D over those that take part
  unfoldable pub all_demand : ℕ
  all_demand = sum_below (λ i. cond (takes i) (D i) 0) n

  module _ (U : ℕ) where
    -- the whole part of D×U/T, and its remainder
    unfoldable pub whole_part : ℕ → ℕ
    whole_part i = D i * U / all_demand

    unfoldable pub remainder : ℕ → ℕ
    remainder i = D i * U % all_demand

    -- the units that the whole parts leave over
    unfoldable pub units_left : ℕ
    units_left = U - sum_below (λ i. cond (takes i) (whole_part i) 0) n

    -- nothing where nobody demands anything
    unfoldable pub share_size : ℕ → ℕ
    share_size i = cond (takes i && not (eqb all_demand 0)) (whole_part i + one_if (handed_out remainder takes n units_left i)) 0

-- ---- the same a second way, by rank (document 02, A14)

-- j stands ahead of i: with a larger remainder, or an equal one and earlier
unfoldable pub ahead : (ℕ → ℕ) → ℕ → ℕ → Bool
ahead rem j i = ltb (rem i) (rem j) || (eqb (rem j) (rem i) && ltb j i)

-- a unit more exactly if fewer stand ahead than units are left over
unfoldable pub ranked_size : (ℕ → Bool) → (ℕ → ℕ) → ℕ → ℕ → ℕ → ℕ
ranked_size takes D n U i = cond (takes i && not (eqb (all_demand takes D n) 0))
    (whole_part takes D n U i + one_if (ltb (count_below (λ j. takes j && ahead (remainder takes D n U) j i) n) (units_left takes D n U))) 0

-- ---- signed

-- the share takes U's sign
unfoldable pub share : (ℕ → Bool) → (ℕ → ℕ) → ℕ → ℤ → ℕ → ℤ
share takes D n U i = with_sign_of U (share_size takes D n (nat_abs U) i)
