-- Handing out units one at a time, each to the first in order of the takers that have none: after k rounds, a taker has one exactly if
-- fewer than k takers are ahead of it.
use mathlib.Core.Path.{◌≡◌, refl, sym, ◌∙◌, ap}
use mathlib.Core.Bool.{Bool, true, false, ◌&&◌, ◌||◌, and-false, or-false, or-true}
use Rattle.std.specs.Prelude.{Option, None, Some}
use Prim.Native.Nat.{ℕ, zero, suc, ◌≤◌, ◌<◌, zero-le}
use native.Mathlib.Omega.{arith}
use lib.Dec.{ltb, eqb}
use borrow.Author.Tests.{ltb-true, ltb-false, lt-ltb, le-ltb, eq-eqb, ne_eqb}
use Rattle.whole.specs.Below.{count_below}
use Rattle.whole.proofs.Tests.{split, never, and_ext}
use Rattle.whole.proofs.Sums.{count_ext}
use Rattle.whole.proofs.Rank.{Order, either, rank_less, count_served}

module _ (ahead : ℕ → ℕ → Bool) (o : Order ahead) (part : ℕ → Bool) (n : ℕ) where
  -- how many takers are ahead of i
  abbrev r : ℕ → ℕ
  r i = count_below (λ j. part j && ahead j i) n

  -- b is a taker, k or more are ahead of it, and no taker of which that holds is ahead of it
  pub record Best (k b : ℕ) : Type 0 where
    pub there : b < n
    pub taker : part b ≡ true
    pub none_yet : k ≤ r b
    pub first_of : (j : ℕ) → j < n → part j ≡ true → k ≤ r j → ahead j b ≡ false

  -- then exactly k are ahead of it
  pub next : (k b : ℕ) → k ≤ count_below part n → Best k b → r b ≡ k
  next k b h best =
      count_ext (λ j. part j && ahead j b) (λ j. part j && ltb (r j) k) n (λ j l. and_ext (part j) _ _ (λ p. split (ltb (r j) k)
      (λ t. let m : r j < k = ltb-true _ _ t in let s = best.none_yet in either ahead o j b
      (λ e. absurd (let q : r j ≡ r b = ap r e in omega arith))
      (λ a. a ∙ sym t)
      (λ a. absurd (let q = rank_less ahead o part n b j best.there best.taker a in omega arith)))
      (λ f. best.first_of j l p (ltb-false (r j) k f) ∙ sym f))) ∙ count_served ahead o part n k h

  -- and round k serves it alone
  pub round : (k b : ℕ) → k ≤ count_below part n → Best k b → (i : ℕ) → i < n →
      (part i && ltb (r i) (suc k)) ≡ (part i && ltb (r i) k || eqb i b)
  round k b h best i l =
      let q : r b ≡ k = next k b h best in
      split (part i)
      (λ p. rw p (either ahead o i b
      (λ e. rw (eq-eqb i b e, or-true) (lt-ltb (r i) (suc k) (let s : r i ≡ r b = ap r e in omega arith)))
      (λ a. let s = rank_less ahead o part n i b l p a in rw (lt-ltb (r i) k (omega arith)) (lt-ltb (r i) (suc k) (omega arith)))
      (λ a. let s = rank_less ahead o part n b i best.there best.taker a in
      rw (ne_eqb i b (λ e. let t : r i ≡ r b = ap r e in omega arith), or-false, le-ltb (r i) k (omega arith))
      (le-ltb (r i) (suc k) (omega arith)))))
      (λ f. rw f (sym (ne_eqb i b (λ e. never (ap part e ∙ best.taker) f))))

-- has k i: i has a unit after k rounds; pick k: who gets the next one
pub record Handing (ahead : ℕ → ℕ → Bool) (part : ℕ → Bool) (n : ℕ) (has : ℕ → ℕ → Bool) (pick : ℕ → Option ℕ) : Type 0 where
  pub nobody : (i : ℕ) → i < n → has 0 i ≡ false
  pub gives : (k b : ℕ) → pick k ≡ Some b → (i : ℕ) → i < n → has (suc k) i ≡ (has k i || eqb i b)
  pub none_left : (k : ℕ) → pick k ≡ None → (i : ℕ) → i < n → part i ≡ true → has k i ≡ true
  pub there : (k b : ℕ) → pick k ≡ Some b → b < n
  pub taker : (k b : ℕ) → pick k ≡ Some b → part b ≡ true
  pub has_none : (k b : ℕ) → pick k ≡ Some b → has k b ≡ false
  pub first_of : (k b : ℕ) → pick k ≡ Some b → (j : ℕ) → j < n → part j ≡ true → has k j ≡ false → ahead j b ≡ false

module _ {ahead : ℕ → ℕ → Bool} {part : ℕ → Bool} {n : ℕ} {has : ℕ → ℕ → Bool} {pick : ℕ → Option ℕ} (o : Order ahead)
    (h : Handing ahead part n has pick) where
  abbrev rank : ℕ → ℕ
  rank i = r ahead o part n i

  after : (k : ℕ) → suc k ≤ count_below part n → ((j : ℕ) → j < n → has k j ≡ (part j && ltb (rank j) k)) → (p : Option ℕ) → pick k ≡ p →
      (i : ℕ) → i < n → has (suc k) i ≡ (part i && ltb (rank i) (suc k))
  after k m ih None e i l = absurd (
      let all = count_ext part (λ j. part j && ltb (rank j) k) n
      (λ j q. split (part j) (λ p. p ∙ sym (h.none_left k e j q p) ∙ ih j q) (λ f. rw f)) in
      let c = count_served ahead o part n k (omega arith) in omega arith
      )
  after k m ih (Some b) e i l = h.gives k b e i l ∙ rw (ih i l) (sym (round ahead o part n k b (omega arith) best i l))
    where
      best : Best ahead o part n k b
      best = record {
        there = h.there k b e;
        taker = h.taker k b e;
        none_yet = ltb-false (rank b) k (rw (h.taker k b e) at (sym (ih b (h.there k b e)) ∙ h.has_none k b e));
        first_of = λ j q p s. h.first_of k b e j q p (ih j q ∙ rw (p, le-ltb (rank j) k s));
      }

  pub handed : (k : ℕ) → k ≤ count_below part n → (i : ℕ) → i < n → has k i ≡ (part i && ltb (count_below (λ j. part j && ahead j i) n) k)
  handed zero m i l = h.nobody i l ∙ rw (le-ltb (rank i) 0 zero-le) (sym (and-false (part i)))
  handed (suc k) m i l = after k m (λ j q. handed k (omega arith) j q) (pick k) refl i l
