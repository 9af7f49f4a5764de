-- What `all` answers over a range of numbers, in the words of the definitions: whether none there is broken.
use Rattle.std.proofs.Common.{◌≡◌, ℕ, ◌+◌, ◌-◌, ◌<◌, ◌≤◌, Bool, true, false, not, ◌&&◌, leb, List, length, get_or, refl, sym, ap, arith, le-leb, leb-true, Option, None, Some, MatchOption, MatchBool}
use Rattle.std.specs.Fn.{Called}
use Rattle.std.specs.Iterator.{YieldsThen}
use Rattle.std.specs.List.{FoldsTo, AllWithin, HoldsAt, range_with_len}
use Rattle.std.specs.declared.ops.Range.{Range}
use Rattle.std.proofs.iter.Yields.{nat_range_steps}
use Rattle.std.proofs.lemmas.Iterator.{YieldsList-from_range, cases_from_all}
use Rattle.std.proofs.lemmas.List.FromFn.{length-range_with_len, get_or-range_with_len}
use denote.Param.Members.{Mut}
use Rattle.whole.specs.Below.{first_below}
use Rattle.whole.proofs.Search.{first_none, none_below}
use Rattle.whole.proofs.Tests.{split, never}
use Rattle.rules.specs.Refusals.{is_broken}

broken_none : (o : Option ℕ) → is_broken o ≡ false → o ≡ None
broken_none None e = refl
broken_none (Some i) e = never refl e

-- no number below n is broken, or one is
abbrev pub NoneBroken : (p : ℕ → Bool) (n : ℕ) → Bool → Type 0
NoneBroken p n r = MatchBool r ((k : ℕ) → k < n → p k ≡ false) ((k : ℕ) × (k < n) × (p k ≡ true))

none_broken : (p : ℕ → Bool) (n : ℕ) (r : Bool) → NoneBroken p n r → r ≡ not (is_broken (first_below p n))
none_broken p n true m = sym (ap (λ o. not (is_broken o)) (none_below p n m))
none_broken p n false m = split (is_broken (first_below p n)) (λ t. sym (ap not t))
    (λ e. never (m.2) (first_none p n (broken_none _ e) m.0 m.1))

module _ (p : ℕ → Bool) (a n : ℕ) where
  abbrev all : List ℕ
  all = range_with_len a (n - a)

  at : (k : ℕ) → k < n - a → (b : Bool) → p (get_or all k 0) ≡ b → p (a + k) ≡ b
  at k few b h = rw (get_or-range_with_len a (n - a) k 0 few) at h

  rest : AllWithin (λ x. p x ≡ false) all 0 (length all) → (k : ℕ) → a ≤ k → k < n → p k ≡ false
  rest m k h l =
      let few : k - a < n - a = omega arith in
      let e : a + (k - a) ≡ k = omega arith in
      rw e at (at (k - a) few false (m (k - a) 0 (omega arith) (omega (arith, length-range_with_len a (n - a)))))

  of_range : (r : Bool) →
      MatchBool r (AllWithin (λ x. p x ≡ false) all 0 (length all)) ((k : ℕ) × (k < length all) × HoldsAt (λ x. p x ≡ true) all k) →
      NoneBroken (λ k. leb a k && p k) n r
  of_range true m = λ k l. split (leb a k)
      (λ t. let h = leb-true a k t in rw t (rest m k h l))
      (λ t. rw t refl)
  of_range false m =
      let few : m.0 < n - a = omega (arith, m.1, length-range_with_len a (n - a)) in
      (a + m.0, omega arith, rw (le-leb a (a + m.0) (omega arith)) (at m.0 few true (m.2 0)))

-- `(a..n).all(..)`, whose closure says that a number isn't broken
pub none_from : {F : Type 0} {g : Mut F (ℕ × Unit {0}) Bool} (p : ℕ → Bool) (a n : ℕ) (s u : Range ℕ) (f : F) (r : Bool) →
    s ≡ record { start = a; end = n } →
    (xs : List ℕ) × (o : Option ℕ) × (j : F) × YieldsThen nat_range_steps s xs o u × FoldsTo (λ p x q. Called g p (x, tt) true q) f xs j
    × MatchOption o (r ≡ true) (λ x. (r ≡ false) × ((h : F) × Called g j (x, tt) false h)) →
    ((x : ℕ) (b : Bool) (q : F) → Called g f (x, tt) b q → (q ≡ f) × (not b ≡ p x)) →
    r ≡ not (is_broken (first_below (λ k. leb a k && p k) n))
none_from {g = g} p a n s u f r e ran is =
    none_broken _ n r (of_range p a n r (cases_from_all u f r (λ x. p x ≡ false) (λ x. p x ≡ true) ran (YieldsList-from_range a n (n - a) e refl)
    (λ x q k. ((is x true q k).0, sym (is x true q k).1))
    (λ x q k. sym (is x false q k).1)))
