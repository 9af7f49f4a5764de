-- Ranks in a strict order, among the numbers that take part: of the takers below n, exactly k have fewer than k takers ahead of them,
-- for every k up to their number.
use mathlib.Core.Path.{◌≡◌, refl, sym, ◌∙◌, ap}
use mathlib.Core.Bool.{Bool, true, false, ◌&&◌, ◌||◌}
use Prim.Native.Nat.{ℕ, zero, suc, ◌+◌, ◌≤◌, ◌<◌}
use native.Mathlib.Nat.{not-suc-le-zero, add-zero}
use native.Mathlib.Omega.{arith}
use lib.Dec.{ltb, eqb}
use borrow.Author.Tests.{ltb-true, ltb-false, eqb-true, eqb-false, lt-ltb, le-ltb, eq-eqb}
use Rattle.whole.specs.Below.{one_if, count_below}
use Rattle.whole.proofs.Tests.{split, never, both, and_ext, and_mono}
use Rattle.whole.proofs.Sums.{count_ext, count_mono, count_less, all_count}

-- a strict order in which, of two different numbers, one is ahead
pub record Order (ahead : ℕ → ℕ → Bool) : Type 0 where
  pub irrefl : (i : ℕ) → ahead i i ≡ false
  pub trans : (i j k : ℕ) → ahead i j ≡ true → ahead j k ≡ true → ahead i k ≡ true
  pub total : (i j : ℕ) → i < j → ahead j i ≡ false → ahead i j ≡ true

module _ (ahead : ℕ → ℕ → Bool) (o : Order ahead) where
  -- two numbers are the same, or one is ahead
  pub either {ℓ} : {X : Type ℓ} (i j : ℕ) → (i ≡ j → X) → (ahead i j ≡ true → X) → (ahead j i ≡ true → X) → X
  either i j e a b = split (eqb i j) (λ t. e (eqb-true i j t)) (λ f. split (ahead i j) a (λ u. split (ahead j i) b (λ v.
      split (ltb i j) (λ t. a (o.total i j (ltb-true i j t) v))
      (λ g. b (o.total j i (omega (arith, ltb-false i j g, eqb-false i j f)) u)))))

module _ (ahead : ℕ → ℕ → Bool) (o : Order ahead) (part : ℕ → Bool) where
  -- how many takers below n are ahead of i
  abbrev r : ℕ → ℕ → ℕ
  r n i = count_below (λ j. part j && ahead j i) n

  -- whom n is ahead of has at least the rank of n; a taker that is ahead of another has the smaller rank
  behind : (n i : ℕ) → ahead n i ≡ true → r n n ≤ r n i
  behind n i t = count_mono _ _ n (λ j l. and_mono (part j) (ahead j n) (ahead j i) (λ e. o.trans j n i e t))

  pub rank_less : (n i j : ℕ) → i < n → part i ≡ true → ahead i j ≡ true → r n i < r n j
  rank_less n i j l p a =
      count_less _ _ n (λ x m. and_mono (part x) (ahead x i) (ahead x j) (λ e. o.trans x i j e a)) i l (rw p (o.irrefl i)) (rw p a)

  -- the taker n comes to the takers below n, of which the law holds
  step : (n k : ℕ) → ((j : ℕ) → j ≤ count_below part n → count_below (λ i. part i && ltb (r n i) j) n ≡ j) → k ≤ count_below part n + 1 →
      count_below (λ i. part i && ltb (r n i + one_if (ahead n i)) k) n + one_if (ltb (r n n + 0) k) ≡ k
  step n k ih h = split (ltb (r n n) k) (λ t. inside k (ltb-true (r n n) k t) h) (λ f. outside (ltb-false (r n n) k f))
    where
      -- n is among the first k: those behind it move one place down
      inside : (k : ℕ) → r n n < k → k ≤ count_below part n + 1 →
          count_below (λ i. part i && ltb (r n i + one_if (ahead n i)) k) n + one_if (ltb (r n n + 0) k) ≡ k
      inside zero l h = absurd (not-suc-le-zero l)
      inside (suc k) l h =
          rw (count_ext (λ i. part i && ltb (r n i + one_if (ahead n i)) (suc k)) (λ i. part i && ltb (r n i) k) n
          (λ i m. and_ext (part i) _ _ (λ p. split (ahead n i)
          (λ t. rw t (split (ltb (r n i) k)
          (λ e. lt-ltb (r n i + 1) (suc k) (omega (arith, ltb-true (r n i) k e)) ∙ sym e)
          (λ e. le-ltb (r n i + 1) (suc k) (omega (arith, ltb-false (r n i) k e)) ∙ sym e)))
          (λ f. let b = rank_less n i n m p (o.total i n m f) in
          rw f (lt-ltb (r n i + 0) (suc k) (omega arith) ∙ sym (lt-ltb (r n i) k (omega arith)))))))
          (rw (ih k (omega arith), lt-ltb (r n n + 0) (suc k) (omega arith)) (omega arith))

      -- n is past the first k, and so are all behind it
      outside : k ≤ r n n → count_below (λ i. part i && ltb (r n i + one_if (ahead n i)) k) n + one_if (ltb (r n n + 0) k) ≡ k
      outside l =
          let most : r n n ≤ count_below part n = count_mono _ _ n (λ j m e. (both (part j) (ahead j n) e).0) in
          rw (count_ext (λ i. part i && ltb (r n i + one_if (ahead n i)) k) (λ i. part i && ltb (r n i) k) n
          (λ i m. and_ext (part i) _ _ (λ p. split (ahead n i)
          (λ t. let b = behind n i t in rw t (le-ltb (r n i + 1) k (omega arith) ∙ sym (le-ltb (r n i) k (omega arith))))
          (λ f. rw (f, add-zero)))))
          (rw (ih k (omega arith), le-ltb (r n n + 0) k (omega arith)) (omega arith))

  pub count_served : (n k : ℕ) → k ≤ count_below part n → count_below (λ i. part i && ltb (count_below (λ j. part j && ahead j i) n) k) n ≡ k
  unfolding count_below
  count_served zero k h = omega arith
  count_served (suc n) k h = split (part n)
      (λ t. let more : (i : ℕ) → count_below (λ j. part j && ahead j i) (suc n) ≡ r n i + one_if (ahead n i) = λ i. rw t refl in
      rw (
        count_ext (λ i. part i && ltb (count_below (λ j. part j && ahead j i) (suc n)) k) (λ i. part i && ltb (r n i + one_if (ahead n i)) k) n
            (λ i m. ap (λ (x : ℕ). part i && ltb x k) (more i)),
        t,
        o.irrefl n,
      ) (step n k (count_served n) (rw t at h)))
      (λ f. let same : (i : ℕ) → count_below (λ j. part j && ahead j i) (suc n) ≡ r n i = λ i. rw f (add-zero (r n i)) in
      rw (
        count_ext (λ i. part i && ltb (count_below (λ j. part j && ahead j i) (suc n)) k) (λ i. part i && ltb (r n i) k) n
            (λ i m. ap (λ (x : ℕ). part i && ltb x k) (same i)),
        f,
        add-zero,
      ) (count_served n k (simp (f, add-zero) at h)))

-- where all take part
pub served : (ahead : ℕ → ℕ → Bool) → Order ahead → (n k : ℕ) → k ≤ n → count_below (λ i. ltb (count_below (λ j. ahead j i) n) k) n ≡ k
served ahead o n k h = count_served ahead o (λ i. true) n k (let e = all_count n in omega arith)

-- ---- the order by a key: the larger key is ahead, and of equal ones the earlier number
module _ (key : ℕ → ℕ) where
  abbrev first : ℕ → ℕ → Bool
  first j i = ltb (key i) (key j) || (eqb (key j) (key i) && ltb j i)

  larger : {j i : ℕ} → key i < key j → first j i ≡ true
  larger {j} {i} h = rw (lt-ltb (key i) (key j) h)

  earlier : {j i : ℕ} → key i ≡ key j → j < i → first j i ≡ true
  earlier {j} {i} e h = rw (le-ltb (key i) (key j) (omega arith), eq-eqb (key j) (key i) (sym e), lt-ltb j i h)

  pub why_ahead {ℓ} : {X : Type ℓ} (j i : ℕ) → (ltb (key i) (key j) || (eqb (key j) (key i) && ltb j i)) ≡ true → (key i < key j → X) →
      (key i ≡ key j → j < i → X) → X
  why_ahead j i t f g = split (ltb (key i) (key j))
      (λ e. f (ltb-true _ _ e))
      (λ e. let u = both (eqb (key j) (key i)) (ltb j i) (rw e at t) in g (sym (eqb-true _ _ u.0)) (ltb-true j i u.1))

  pub by_key : Order (λ j i. ltb (key i) (key j) || (eqb (key j) (key i) && ltb j i))
  by_key = record {
    irrefl = λ i. split (first i i) (λ t. why_ahead i i t (λ h. absurd (omega arith)) (λ e h. absurd (omega arith))) (λ f. f);
    trans = λ i j k s t. why_ahead i j s
        (λ a. why_ahead j k t (λ b. larger (omega arith)) (λ e b. larger (omega arith)))
        (λ d a. why_ahead j k t (λ b. larger (omega arith)) (λ e b. earlier (omega arith) (omega arith)));
    total = λ i j l f. split (ltb (key j) (key i))
        (λ t. larger (ltb-true _ _ t))
        (λ u. split (ltb (key i) (key j))
        (λ t. never (larger (ltb-true _ _ t)) f)
        (λ v. earlier (omega (arith, ltb-false (key j) (key i) u, ltb-false (key i) (key j) v)) l));
  }
