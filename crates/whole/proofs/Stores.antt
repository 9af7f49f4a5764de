-- Values stored one after the other from a place on (`sets` of lib.Seq): two runs as one, the last value stored first, and a run that
-- ends where the list does.
use mathlib.Core.Path.{◌≡◌, ◌∙◌}
use mathlib.Core.List.{List, [], ◌∷◌, ◌++◌, append-nil}
use Prim.Native.Nat.{ℕ, suc, ◌+◌}
use native.Mathlib.Nat.{add-zero}
use native.Mathlib.Omega.{arith}
use lib.ListN.{length, take, set, drop_of_length-le}
use lib.Seq.{sets, sets-eq, set_comm}

along : (i n : ℕ) → i + suc n ≡ suc i + n
along i n = omega arith

module _ {ℓ} {A : Type ℓ} where
  pub stored_on : (xs ys l : List A) (i : ℕ) → sets (sets l i xs) (i + length xs) ys ≡ sets l i (xs ++ ys)
  stored_on [] ys l i = rw add-zero
  stored_on (x ∷ xs) ys l i = rw along (stored_on xs ys (set l i x) (suc i))

  pub stored_last_first : (xs l : List A) (i : ℕ) (x : A) → sets (set l (i + length xs) x) i xs ≡ sets l i (xs ++ x ∷ [])
  stored_last_first [] l i x = rw add-zero
  stored_last_first (a ∷ xs) l i x =
      rw (set_comm l (i + length (a ∷ xs)) i x a (λ e. omega arith), along) (stored_last_first xs (set l i a) (suc i) x)

  pub stored_to_the_end : (xs l : List A) (i : ℕ) → i + length xs ≡ length l → sets l i xs ≡ take i l ++ xs
  stored_to_the_end xs l i e =
      sets-eq xs l i (omega arith)
      ∙ rw (drop_of_length-le l {i = i + length xs} (omega arith), append-nil)
