-- Those that pass a test, gathered: each at the place that counts the passers before it. Their order, sums and counts stay, and each is
-- found there.
use mathlib.Core.Path.{◌≡◌, refl, sym, ◌∙◌, ap, ap₂}
use mathlib.Core.Bool.{Bool, true, false, cond, ◌&&◌}
use mathlib.Core.List.{List}
use Prim.Native.Nat.{ℕ, zero, suc, ◌+◌, ◌≤◌, ◌<◌}
use native.Mathlib.Nat.{not-suc-le-zero, add-zero}
use native.Mathlib.Numerals.{add-one}
use native.Mathlib.Omega.{arith}
use lib.Dec.{ltb}
use lib.ListN.{length, get_or, set, length-set}
use lib.Seq.{get_or-set_same, get_or-set_other}
use borrow.Author.Tests.{ltb-true, ltb-false, lt-ltb, le-ltb}
use Rattle.whole.specs.Below.{one_if, count_below, sum_below, gathered_below}
use Rattle.whole.proofs.Tests.{split, last_or_below}
use Rattle.whole.proofs.Sums.{count_most, sum_prefix, sum_add_one, sum_one_if, sum_ext}

module _ (p : ℕ → Bool) where
  abbrev place : ℕ → ℕ
  place = count_below p

  pub count_none : place 0 ≡ 0
  unfolding count_below
  count_none = refl

  pub count_add_one : (n : ℕ) → place (n + 1) ≡ place n + one_if (p n)
  unfolding count_below
  count_add_one n = ap place (add-one n)

  pub count_prefix : (n m : ℕ) → n ≤ m → place n ≤ place m
  count_prefix n m l = omega (arith, sum_one_if p n, sum_one_if p m, sum_prefix (λ i. one_if (p i)) n m l)

  -- a passer's place is before that of all that stand after it
  pub passer_before : (j i : ℕ) → p j ≡ true → j < i → place j < place i
  passer_before j i t l =
      let next : place (j + 1) ≡ place j + 1 = rw t at (count_add_one j) in
      omega (arith, count_prefix (j + 1) i (omega arith))

  -- and of nothing else
  pub same_order : (j i : ℕ) → p j ≡ true → ltb (place j) (place i) ≡ ltb j i
  same_order j i t = split (ltb j i)
      (λ s. lt-ltb (place j) (place i) (passer_before j i t (ltb-true j i s)) ∙ sym s)
      (λ s. le-ltb (place j) (place i) (count_prefix i j (ltb-false j i s)) ∙ sym s)

  -- every place below the count is a passer's
  pub passer_at {κ} : {X : Type κ} (n k : ℕ) → k < place n → ((j : ℕ) → j < n → p j ≡ true → place j ≡ k → X) → X
  unfolding count_below
  passer_at zero k l found = absurd (not-suc-le-zero l)
  passer_at (suc n) k l found =
      let rest : k < place n → _ = λ m. passer_at n k m (λ j i. found j (omega arith)) in
      split (p n)
      (λ t. last_or_below k (place n) (let m : k < place n + 1 = rw t at l in omega arith) (λ e. found n (omega arith) t (sym e)) rest)
      (λ e. rest (simp (e, add-zero) at l))

  -- g has at the passers' places what f has at the passers
  pub sum_gathered : (f g : ℕ → ℕ) (n : ℕ) → ((j : ℕ) → j < n → p j ≡ true → g (place j) ≡ f j) →
      sum_below g (place n) ≡ sum_below (λ j. cond (p j) (f j) 0) n
  unfolding count_below sum_below
  sum_gathered f g zero same = refl
  sum_gathered f g (suc n) same =
      let rest = sum_gathered f g n (λ j l. same j (omega arith)) in
      split (p n)
      (λ t. rw t (sum_add_one g (place n) ∙ ap₂ (λ (a b : ℕ). a + b) rest (same n (omega arith) t)))
      (λ e. rw e (simp add-zero rest))

  one_if_both : (a b : Bool) → cond a (one_if b) 0 ≡ one_if (a && b)
  one_if_both true b = refl
  one_if_both false b = refl

  pub count_gathered : (q r : ℕ → Bool) (n : ℕ) → ((j : ℕ) → j < n → p j ≡ true → q (place j) ≡ r j) →
      count_below q (place n) ≡ count_below (λ j. p j && r j) n
  count_gathered q r n same =
      sym (sum_one_if q (place n))
      ∙ sum_gathered (λ j. one_if (r j)) (λ k. one_if (q k)) n (λ j l t. ap one_if (same j l t))
      ∙ sum_ext _ _ n (λ j l. one_if_both (p j) (r j))
      ∙ sum_one_if (λ j. p j && r j) n

-- ---- in a buffer

module _ {ℓ} {A : Type ℓ} (p : ℕ → Bool) (f : ℕ → A) (old : List A) where
  abbrev gathered : ℕ → List A
  gathered n = gathered_below p f n old

  pub gathered_none : gathered 0 ≡ old
  unfolding gathered_below
  gathered_none = refl

  pub gathered_next : (n : ℕ) → gathered (n + 1) ≡ cond (p n) (set (gathered n) (count_below p n) (f n)) (gathered n)
  unfolding gathered_below
  gathered_next n = ap gathered (add-one n)

  pub gathered_length : (n : ℕ) → length (gathered n) ≡ length old
  unfolding gathered_below
  gathered_length zero = refl
  gathered_length (suc n) = split (p n)
      (λ t. rw t (length-set (gathered n) (count_below p n) (f n) ∙ gathered_length n))
      (λ e. rw e (gathered_length n))

  -- Each passer's value stands at its place.
  pub gathered_at : (n : ℕ) → n ≤ length old → (j : ℕ) (d : A) → j < n → p j ≡ true → get_or (gathered n) (count_below p j) d ≡ f j
  unfolding gathered_below
  gathered_at zero room j d l t = absurd (not-suc-le-zero l)
  gathered_at (suc n) room j d l t = last_or_below j n l
      (λ e. let s : p n ≡ true = rw e at t in rw (e, s) (get_or-set_same (gathered n) (count_below p n) (f n) d
      (omega (arith, count_most p n, gathered_length n))))
      (λ m. let rest = gathered_at n (omega arith) j d m t in split (p n)
      (λ s. rw s (get_or-set_other (gathered n) (count_below p n) (count_below p j) (f n) d
      (λ e. omega (arith, passer_before p j n t m)) ∙ rest))
      (λ s. rw s rest))
