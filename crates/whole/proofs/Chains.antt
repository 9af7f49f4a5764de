-- What chains of iterators answer, in the words of specs/Below: over a range `find` answers the first that passes and `any` whether one does,
-- and a fold of wrapping additions is the sum modulo the width.
use Rattle.std.proofs.Common.{◌≡◌, ℕ, ◌+◌, ◌-◌, ◌%◌, ◌<◌, ◌≤◌, Bool, true, false, ◌&&◌, leb, List, [], ◌∷◌, ◌++◌, length, get_or, refl, sym, ◌∙◌, ap, subst, arith, le-leb, leb-true, length-append, Option, None, Some, MatchOption, MatchBool}
use Rattle.std.specs.Bool.{⊤}
use Rattle.std.specs.Option.{is_some}
use Rattle.std.specs.Fn.{Called, CalledAt}
use Rattle.std.specs.Iterator.{YieldsThen, Drains}
use Rattle.std.specs.List.{FoldsTo, AllWithin, HoldsAt, range_with_len}
use Rattle.std.specs.declared.ops.Range.{Range}
use Rattle.std.proofs.iter.Yields.{nat_range_steps}
use Rattle.std.proofs.lemmas.Iterator.{YieldsList, YieldsList-from_range, first_from_Range, cases_from_any}
use Rattle.std.proofs.lemmas.List.FromFn.{length-range_with_len, get_or-range_with_len}
use Rattle.std.proofs.lemmas.Fn.{fold_over}
use Rattle.std.proofs.Math.ListN.{get_or-append}
use Rattle.std.proofs.Math.Seq.{get_or-append_seam}
use denote.Param.Members.{Mut}
use denote.Ref.{Bor}
use Rattle.whole.specs.Below.{first_below, sum_below}
use Rattle.whole.proofs.Search.{first_ext, first_some, first_none, none_below}
use Rattle.whole.proofs.Tests.{split, never}
use Rattle.whole.proofs.Sums.{sum_ext, wraps_on}

-- ---- searches

-- the first number from a on, below n, that passes
abbrev pub IsFirstFrom : (p : ℕ → Bool) (a n : ℕ) → Option ℕ → Type 0
IsFirstFrom p a n r = MatchOption r ((k : ℕ) → a ≤ k → k < n → p k ≡ false)
    (λ i. (a ≤ i) × (i < n) × (p i ≡ true) × ((k : ℕ) → a ≤ k → k < i → p k ≡ false))

found : (p : ℕ → Bool) (n : ℕ) (r : Option ℕ) → IsFirstFrom p 0 n r → r ≡ first_below p n
found p n None m = sym (none_below p n (λ k l. m k (omega arith) l))
found p n (Some i) m = sym ((first_some p n i).1 (m.1, m.2, λ k l. m.3 k (omega arith) l))

-- `(0..n).find(..)`, whose closure computes p
pub find_first : {F : Type 0} {g : Mut F (Bor ℕ × Unit {0}) Bool} (p : ℕ → Bool) (n : ℕ) (s u : Range ℕ) (f : F) (r : Option ℕ) →
    s ≡ record { start = 0; end = n } →
    (xs : List ℕ) × (j : F) × YieldsThen nat_range_steps s xs r u × FoldsTo (λ p x q. CalledAt g p x false q) f xs j
    × MatchOption r ⊤ (λ x. (h : F) × CalledAt g j x true h) →
    ((x : ℕ) (b : Bool) (q : F) → CalledAt g f x b q → (q ≡ f) × (b ≡ p x)) → r ≡ first_below p n
find_first {g = g} p n s u f r e ran is =
    let m = first_from_Range {g = g} s u f r (λ x. p x ≡ true) (λ x. p x ≡ false) ran
    (λ x q k. sym (is x true q k).1)
    (λ x q k. ((is x false q k).0, sym (is x false q k).1)) in
    found p n r (subst (λ (s : Range ℕ). IsFirstFrom p s.start s.end r) e m)

no_some : (o : Option ℕ) → is_some o ≡ false → o ≡ None
no_some None e = refl
no_some (Some i) e = never refl e

-- whether a number below n passes
pub some_below : (p : ℕ → Bool) (n : ℕ) (r : Bool) →
    MatchBool r ((k : ℕ) × (k < n) × (p k ≡ true)) ((k : ℕ) → k < n → p k ≡ false) → r ≡ is_some (first_below p n)
some_below p n true m = split (is_some (first_below p n)) (λ t. sym t)
    (λ e. never (m.2) (first_none p n (no_some _ e) m.0 m.1))
some_below p n false m = sym (ap is_some (none_below p n m))

-- what holds of the numbers from a on, below n, by their list
module _ (p : ℕ → Bool) (a n : ℕ) where
  abbrev all : List ℕ
  all = range_with_len a (n - a)

  at : (k : ℕ) → k < n - a → (b : Bool) → p (get_or all k 0) ≡ b → p (a + k) ≡ b
  at k few b h = rw (get_or-range_with_len a (n - a) k 0 few) at h

  rest : AllWithin (λ x. p x ≡ false) all 0 (length all) → (k : ℕ) → a ≤ k → k < n → p k ≡ false
  rest m k h l =
      let few : k - a < n - a = omega arith in
      let e : a + (k - a) ≡ k = omega arith in
      rw e at (at (k - a) few false (m (k - a) 0 (omega arith) (omega (arith, length-range_with_len a (n - a)))))

  of_range : (r : Bool) →
      MatchBool r ((k : ℕ) × (k < length all) × HoldsAt (λ x. p x ≡ true) all k) (AllWithin (λ x. p x ≡ false) all 0 (length all)) →
      MatchBool r ((k : ℕ) × (k < n) × ((leb a k && p k) ≡ true)) ((k : ℕ) → k < n → (leb a k && p k) ≡ false)
  of_range true m =
      let few : m.0 < n - a = omega (arith, m.1, length-range_with_len a (n - a)) in
      (a + m.0, omega arith, rw (le-leb a (a + m.0) (omega arith)) (at m.0 few true (m.2 0)))
  of_range false m = λ k l. split (leb a k)
      (λ t. let h = leb-true a k t in rw t (rest m k h l))
      (λ t. rw t refl)

-- `(a..n).any(..)`, whose closure computes p
pub any_first : {F : Type 0} {g : Mut F (ℕ × Unit {0}) Bool} (p : ℕ → Bool) (a n : ℕ) (s u : Range ℕ) (f : F) (r : Bool) →
    s ≡ record { start = a; end = n } →
    (xs : List ℕ) × (o : Option ℕ) × (j : F) × YieldsThen nat_range_steps s xs o u × FoldsTo (λ p x q. Called g p (x, tt) false q) f xs j
    × MatchOption o (r ≡ false) (λ x. (r ≡ true) × ((h : F) × Called g j (x, tt) true h)) →
    ((x : ℕ) (b : Bool) (q : F) → Called g f (x, tt) b q → (q ≡ f) × (b ≡ p x)) → r ≡ is_some (first_below (λ k. leb a k && p k) n)
any_first {g = g} p a n s u f r e ran is =
    some_below _ n r (of_range p a n r (cases_from_any u f r (λ x. p x ≡ true) (λ x. p x ≡ false) ran (YieldsList-from_range a n (n - a) e refl)
    (λ x q k. sym (is x true q k).1)
    (λ x q k. ((is x false q k).0, sym (is x false q k).1))))

-- the same from 0 on
pub any_below : {F : Type 0} {g : Mut F (ℕ × Unit {0}) Bool} (p : ℕ → Bool) (n : ℕ) (s u : Range ℕ) (f : F) (r : Bool) →
    s ≡ record { start = 0; end = n } →
    (xs : List ℕ) × (o : Option ℕ) × (j : F) × YieldsThen nat_range_steps s xs o u × FoldsTo (λ p x q. Called g p (x, tt) false q) f xs j
    × MatchOption o (r ≡ false) (λ x. (r ≡ true) × ((h : F) × Called g j (x, tt) true h)) →
    ((x : ℕ) (b : Bool) (q : F) → Called g f (x, tt) b q → (q ≡ f) × (b ≡ p x)) → r ≡ is_some (first_below p n)
any_below {g = g} p n s u f r e ran is =
    any_first {g = g} p 0 n s u f r e ran is ∙ ap is_some (first_ext _ p n (λ k l. rw (le-leb 0 k (omega arith)) refl))

-- ---- sums

-- one word more at a list's end
module _ (m : ℕ) (h : ℕ → ℕ) where
  abbrev pub IsSum : List ℕ → ℕ → Type 0
  IsSum ys a = a ≡ sum_below (λ k. h (get_or ys k 0)) (length ys) % m

  more : (ys : List ℕ) (a x b : ℕ) → IsSum ys a → b ≡ (a + h x) % m → IsSum (ys ++ (x ∷ [])) b
  more ys a x b so_far e =
      let short : sum_below (λ k. h (get_or ys k 0)) (length ys) ≡ sum_below (λ k. h (get_or (ys ++ (x ∷ [])) k 0)) (length ys) =
      sum_ext _ _ (length ys) (λ k l. ap h (sym (get_or-append ys (x ∷ []) 0 k l))) in
      let long : length (ys ++ (x ∷ [])) ≡ length ys + 1 = length-append ys (x ∷ []) in
      rw long (wraps_on m (λ k. h (get_or (ys ++ (x ∷ [])) k 0)) (length ys) a (h x) b
      (so_far ∙ ap (λ (n : ℕ). n % m) short) (ap h (sym (get_or-append_seam ys x [] 0))) e)

none_yet : (m : ℕ) (f : ℕ → ℕ) → 0 ≡ sum_below f 0 % m
unfolding sum_below
none_yet m f = omega arith

-- `fold(0, |sum, x| sum.wrapping_add(h(x)))` over a chain that gives a list
pub fold_sum : {S A F : Type 0} {steps : S → Option A → S → Type 0} {g : Mut F (ℕ × (A × Unit {0})) ℕ} (m : ℕ) (v : A → ℕ) (h : ℕ → ℕ) (s : S)
    (f : F) (all : List ℕ) (r : ℕ) → YieldsList steps v s all →
    (xs : List A) × (f' : F) × Drains steps s xs × FoldsTo {P = F × ℕ} (λ p x q. Called g p.0 (p.1, (x, tt)) q.1 q.0) (f, 0) xs (f', r) →
    ((a : ℕ) (x : A) (b : ℕ) (q : F) → Called g f (a, (x, tt)) b q → (q ≡ f) × (b ≡ (a + h (v x)) % m)) →
    r ≡ sum_below (λ k. h (get_or all k 0)) (length all) % m
fold_sum {steps = steps} {g = g} m v h s f all r gives ran is =
    fold_over steps v g (IsSum m h) f
    (λ ys a x b q so_far k. let t = is a x b q k in (more m h ys a (v x) b so_far t.1, t.0))
    s all 0 r gives.runs (none_yet m _) ran

-- the same over `0..n`
pub fold_sum_below : {F : Type 0} {g : Mut F (ℕ × (ℕ × Unit {0})) ℕ} (m : ℕ) (h : ℕ → ℕ) (n : ℕ) (s : Range ℕ) (f : F) (r : ℕ) →
    s ≡ record { start = 0; end = n } →
    (xs : List ℕ) × (f' : F) × Drains nat_range_steps s xs × FoldsTo {P = F × ℕ} (λ p x q. Called g p.0 (p.1, (x, tt)) q.1 q.0) (f, 0) xs (f', r) →
    ((a x b : ℕ) (q : F) → Called g f (a, (x, tt)) b q → (q ≡ f) × (b ≡ (a + h x) % m)) → r ≡ sum_below h n % m
fold_sum_below m h n s f r e ran is =
    let all : List ℕ = range_with_len 0 n in
    fold_sum m (λ x. x) h s f all r (YieldsList-from_range 0 n n e (omega arith)) ran is
    ∙ ap (λ (t : ℕ). t % m) (
    ap (λ (w : ℕ). sum_below (λ k. h (get_or all k 0)) w) (length-range_with_len 0 n)
    ∙ sum_ext _ h n (λ k l. ap h (omega (arith, get_or-range_with_len 0 n k 0 l))))
