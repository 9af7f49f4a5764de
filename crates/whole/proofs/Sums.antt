-- Laws of counts, sums and products of the naturals f 0, .., f (n - 1).
use mathlib.Core.Path.{◌≡◌, refl, sym, ◌∙◌, ap, ap₂, subst}
use mathlib.Core.Bool.{Bool, true, false, cond, ◌&&◌, ◌||◌, and-true, and-false}
use Prim.Native.Nat.{ℕ, zero, suc, ◌+◌, ◌*◌, ◌%◌, ◌≤◌, ◌<◌, zero-le}
use native.Mathlib.Nat.{add-zero, add-suc, add-le-add, le_refl, not-suc-le-zero, mul-one, mod-add-mod}
use native.Mathlib.Numerals.{add-one}
use native.Mathlib.Omega.{arith}
use lib.Dec.{ltb, eqb}
use borrow.Author.Tests.{eqb-true, eqb-false, lt-ltb, le-ltb, eq-eqb, ne_eqb}
use Rattle.whole.specs.Below.{one_if, count_below, sum_below, product_below}
use Rattle.whole.proofs.Tests.{split, never, last_or_below}

-- ---- how many pass a test

one_if_mono : (a b : Bool) → (a ≡ true → b ≡ true) → one_if a ≤ one_if b
one_if_mono true true h = omega arith
one_if_mono true false h = never (h refl) refl
one_if_mono false b h = zero-le

pub count_ext : (p q : ℕ → Bool) (n : ℕ) → ((i : ℕ) → i < n → p i ≡ q i) → count_below p n ≡ count_below q n
unfolding count_below
count_ext p q zero e = refl
count_ext p q (suc n) e = ap₂ (λ (a : ℕ) (b : Bool). a + one_if b) (count_ext p q n (λ i h. e i (omega arith))) (e n (omega arith))

pub count_mono : (p q : ℕ → Bool) (n : ℕ) → ((i : ℕ) → i < n → p i ≡ true → q i ≡ true) → count_below p n ≤ count_below q n
unfolding count_below
count_mono p q zero h = zero-le
count_mono p q (suc n) h = add-le-add (count_mono p q n (λ i l. h i (omega arith))) (one_if_mono (p n) (q n) (h n (omega arith)))

-- x passes the second test alone
pub count_less : (p q : ℕ → Bool) (n : ℕ) → ((i : ℕ) → i < n → p i ≡ true → q i ≡ true) → (x : ℕ) → x < n → p x ≡ false → q x ≡ true →
    count_below p n < count_below q n
unfolding count_below
count_less p q zero h x l px qx = absurd (not-suc-le-zero l)
count_less p q (suc n) h x l px qx =
    let rest : (i : ℕ) → i < n → p i ≡ true → q i ≡ true = λ i m. h i (omega arith) in
    last_or_below x n l
    (λ e. let m = count_mono p q n rest in rw (← e) (rw (px, qx) (rw e (omega arith))))
    (λ m. let k = count_less p q n rest x m px qx in let last = one_if_mono (p n) (q n) (h n (omega arith)) in omega arith)

pub all_count : (n : ℕ) → count_below (λ i. true) n ≡ n
unfolding count_below
all_count zero = refl
all_count (suc n) = let e = all_count n in omega arith

-- a count of 0 says that no test passed
pub count_zero : (p : ℕ → Bool) (n : ℕ) → count_below p n ≡ 0 → (i : ℕ) → i < n → p i ≡ false
unfolding count_below
count_zero p zero e i l = absurd (not-suc-le-zero l)
count_zero p (suc n) e i l = last_or_below i n l
    (λ d. split (p n) (λ t. absurd (let k : count_below p n + 1 ≡ 0 = rw t at e in omega arith)) (λ f. rw d f))
    (count_zero p n (omega arith) i)

pub none_pass : (p : ℕ → Bool) (n : ℕ) → ((i : ℕ) → i < n → p i ≡ false) → count_below p n ≡ 0
unfolding count_below
none_pass p zero h = refl
none_pass p (suc n) h = rw (none_pass p n (λ i l. h i (omega arith)), h n (omega arith))

pub count_most : (p : ℕ → Bool) (n : ℕ) → count_below p n ≤ n
count_most p n = let e = all_count n in let h = count_mono p (λ i. true) n (λ i l t. refl) in omega arith

-- those that pass one of two tests that no number passes both
one_or : (a b : Bool) → (a ≡ true → b ≡ false) → one_if (a || b) ≡ one_if a + one_if b
one_or true b h = rw (h refl)
one_or false b h = omega arith

pub count_or : (p q : ℕ → Bool) (n : ℕ) → ((i : ℕ) → p i ≡ true → q i ≡ false) →
    count_below (λ i. p i || q i) n ≡ count_below p n + count_below q n
unfolding count_below
count_or p q zero h = refl
count_or p q (suc n) h = let e = count_or p q n h in let f = one_or (p n) (q n) (h n) in omega arith

-- those below i alone
pub count_cut : (p : ℕ → Bool) (i n : ℕ) → i ≤ n → count_below (λ j. p j && ltb j i) n ≡ count_below p i
unfolding count_below
count_cut p i zero l = let e : i ≡ 0 = omega arith in rw e
count_cut p i (suc n) l = last_or_below i (suc n) (omega arith)
    (λ e. subst (λ (x : ℕ). count_below (λ j. p j && ltb j x) (suc n) ≡ count_below p x) (sym e)
    (count_ext (λ j. p j && ltb j (suc n)) p (suc n) (λ j m. rw (lt-ltb j (suc n) m) (and-true (p j)))))
    (λ m. rw (le-ltb n i (omega arith), and-false) (rw add-zero (count_cut p i n (omega arith))))

-- ---- sums

pub sum_none : (f : ℕ → ℕ) → sum_below f 0 ≡ 0
unfolding sum_below
sum_none f = refl

pub sum_add_one : (f : ℕ → ℕ) (n : ℕ) → sum_below f (n + 1) ≡ sum_below f n + f n
unfolding sum_below
sum_add_one f n = ap (sum_below f) (add-one n)

-- what a test lets be added
pub grown_if : (b : Bool) (x d : ℕ) → cond b (x + d) x ≡ x + cond b d 0
grown_if true x d = refl
grown_if false x d = sym (add-zero x)

pub sum_ext : (f g : ℕ → ℕ) (n : ℕ) → ((i : ℕ) → i < n → f i ≡ g i) → sum_below f n ≡ sum_below g n
unfolding sum_below
sum_ext f g zero e = refl
sum_ext f g (suc n) e = ap₂ (λ (a b : ℕ). a + b) (sum_ext f g n (λ i h. e i (omega arith))) (e n (omega arith))

pub sum_mono : (f g : ℕ → ℕ) (n : ℕ) → ((i : ℕ) → i < n → f i ≤ g i) → sum_below f n ≤ sum_below g n
unfolding sum_below
sum_mono f g zero e = zero-le
sum_mono f g (suc n) e = add-le-add (sum_mono f g n (λ i h. e i (omega arith))) (e n (omega arith))

pub sum_prefix : (f : ℕ → ℕ) (n m : ℕ) → n ≤ m → sum_below f n ≤ sum_below f m
unfolding sum_below
sum_prefix f zero m l = zero-le
sum_prefix f (suc n) zero l = absurd (not-suc-le-zero l)
sum_prefix f (suc n) (suc m) l = last_or_below n m l (λ e. rw e (le_refl _)) (λ h. let k = sum_prefix f (suc n) m h in omega arith)

pub sum_at : (f : ℕ → ℕ) (n i : ℕ) → i < n → f i ≤ sum_below f n
unfolding sum_below
sum_at f n i l = let h = sum_prefix f (suc i) n l in omega arith

pub sum_add : (f g : ℕ → ℕ) (n : ℕ) → sum_below (λ i. f i + g i) n ≡ sum_below f n + sum_below g n
unfolding sum_below
sum_add f g zero = refl
sum_add f g (suc n) = let e = sum_add f g n in omega arith

pub sum_mul : (f : ℕ → ℕ) (k n : ℕ) → sum_below (λ i. f i * k) n ≡ sum_below f n * k
unfolding sum_below
sum_mul f k zero = omega arith
sum_mul f k (suc n) = let e = sum_mul f k n in omega arith

pub sum_one_if : (p : ℕ → Bool) (n : ℕ) → sum_below (λ i. one_if (p i)) n ≡ count_below p n
unfolding sum_below count_below
sum_one_if p zero = refl
sum_one_if p (suc n) = ap (λ (a : ℕ). a + one_if (p n)) (sum_one_if p n)

pub sum_const : (k n : ℕ) → sum_below (λ i. k) n ≡ k * n
unfolding sum_below
sum_const k zero = omega arith
sum_const k (suc n) = let e = sum_const k n in omega arith

pub sum_zero : (n : ℕ) → sum_below (λ i. 0) n ≡ 0
sum_zero n = sum_const 0 n ∙ omega arith

pub sum_swap : (f : ℕ → ℕ → ℕ) (n m : ℕ) → sum_below (λ i. sum_below (f i) m) n ≡ sum_below (λ a. sum_below (λ i. f i a) n) m
unfolding sum_below
sum_swap f zero m = sym (sum_zero m)
sum_swap f (suc n) m = ap (λ (x : ℕ). x + sum_below (f n) m) (sum_swap f n m) ∙ sym (sum_add (λ a. sum_below (λ i. f i a) n) (f n) m)

-- of the terms of which only that at x counts, none below n, or it alone
pub sum_past : (f : ℕ → ℕ) (n x : ℕ) → n ≤ x → sum_below (λ a. cond (eqb x a) (f a) 0) n ≡ 0
sum_past f n x h = sum_ext _ _ n (λ a l. rw (ne_eqb x a (λ e. omega arith))) ∙ sum_zero n

pub sum_pick : (f : ℕ → ℕ) (n x : ℕ) → x < n → sum_below (λ a. cond (eqb x a) (f a) 0) n ≡ f x
unfolding sum_below
sum_pick f zero x h = absurd (not-suc-le-zero h)
sum_pick f (suc n) x h = split (eqb x n)
    (λ e. let d : x ≡ n = eqb-true x n e in rw (e, sum_past f n x (omega arith), d) (omega arith))
    (λ e. rw (e, sum_pick f n x (omega (arith, eqb-false x n e))) (omega arith))

-- the term at x, which was 0, is c instead
pub sum_with : (f : ℕ → ℕ) (c n x : ℕ) → x < n → f x ≡ 0 → sum_below (λ a. cond (eqb a x) c (f a)) n ≡ sum_below f n + c
sum_with f c n x h z =
    sum_ext _ (λ a. f a + cond (eqb x a) c 0) n (λ a l. term a)
    ∙ sum_add f _ n
    ∙ ap (λ (k : ℕ). sum_below f n + k) (sum_pick (λ a. c) n x h)
  where
    term : (a : ℕ) → cond (eqb a x) c (f a) ≡ f a + cond (eqb x a) c 0
    term a = split (eqb a x)
        (λ e. let d : a ≡ x = eqb-true a x e in rw (e, eq-eqb x a (sym d), ap f d ∙ z) (omega arith))
        (λ e. rw (e, ne_eqb x a (λ d. eqb-false a x e (sym d))) (omega arith))

-- each of m is of one of n
pub sum_by : (f of : ℕ → ℕ) (n m : ℕ) → ((i : ℕ) → i < m → of i < n) →
    sum_below (λ a. sum_below (λ i. cond (eqb (of i) a) (f i) 0) m) n ≡ sum_below f m
sum_by f of n m there =
    sum_swap (λ a i. cond (eqb (of i) a) (f i) 0) n m ∙ sum_ext _ f m (λ i l. sum_pick (λ a. f i) n (of i) (there i l))

-- the first n, then the others
pub sum_then : (f : ℕ → ℕ) (n m : ℕ) → sum_below f (n + m) ≡ sum_below f n + sum_below (λ i. f (n + i)) m
unfolding sum_below
sum_then f n zero = ap (sum_below f) (add-zero n) ∙ sym (add-zero (sum_below f n))
sum_then f n (suc m) = ap (sum_below f) (add-suc n m) ∙ let e = sum_then f n m in omega arith

-- a running sum that is kept modulo m, as wrapping adds keep it
pub wraps_on : (m : ℕ) (f : ℕ → ℕ) (w acc x r : ℕ) → acc ≡ sum_below f w % m → x ≡ f w → r ≡ (acc + x) % m → r ≡ sum_below f (w + 1) % m
wraps_on m f w acc x r a b e = rw sum_add_one (e ∙ ap₂ (λ (p q : ℕ). (p + q) % m) a b ∙ mod-add-mod (sum_below f w) m (f w))

-- ---- products

pub product_ext : (f g : ℕ → ℕ) (n : ℕ) → ((i : ℕ) → i < n → f i ≡ g i) → product_below f n ≡ product_below g n
unfolding product_below
product_ext f g zero e = refl
product_ext f g (suc n) e = ap₂ (λ (a b : ℕ). a * b) (product_ext f g n (λ i h. e i (omega arith))) (e n (omega arith))

-- the product without the factor at x: that of all where x is no place below n, and with it that of all
pub product_one : (f : ℕ → ℕ) (n x : ℕ) → n ≤ x → product_below (λ b. cond (eqb b x) 1 (f b)) n ≡ product_below f n
product_one f n x h = product_ext _ _ n (λ b l. rw (ne_eqb b x (λ e. omega arith)))

pub product_but : (f : ℕ → ℕ) (n x : ℕ) → x < n → product_below (λ b. cond (eqb b x) 1 (f b)) n * f x ≡ product_below f n
unfolding product_below
product_but f zero x h = absurd (not-suc-le-zero h)
product_but f (suc n) x h = split (eqb n x)
    (λ e. let d : n ≡ x = eqb-true n x e in rw (e, product_one f n x (omega arith), mul-one) (rw d refl))
    (λ e. rw (e, ← product_but f n x (omega (arith, eqb-false n x e))) (omega arith))
