-- Decimal digits: a number's digits make that number again, none is cut off while there is room, and digits that are read are
-- exactly those that are written for the number they make. Document 01, "Text amounts".
use mathlib.Core.Path.{◌≡◌, refl, ◌∙◌}
use mathlib.Core.Bool.{true, false, not, cond, ◌||◌, or-true}
use mathlib.Core.List.{List, [], ◌∷◌, ◌++◌, append_assoc, append-nil}
use Prim.Native.Nat.{ℕ, zero, suc, ◌+◌, ◌-◌, ◌*◌, ◌/◌, ◌%◌, ◌^◌, ◌≤◌, ◌<◌, zero-le}
use native.Mathlib.Nat.{not-suc-le-zero, le_of_suc-le-suc, pow-suc, pow-le-pow_right, lt_of_lt_of_le, zero-add, add-zero}
use native.Mathlib.Numerals.{add-one}
use native.Mathlib.Omega.{arith}
use lib.Dec.{ltb, leb, eqb}
use lib.ListN.{length, take, drop, get_or, length-append, get_or-eq_default}
use lib.Seq.{get_or-append_seam, get_or-drop, drop-drop, take-suc}
use borrow.Author.Tests.{ltb-true, ltb-false, leb-true, leb-false, eqb-false, lt-ltb, le-ltb, le-leb, ne_eqb, not-true}
use Rattle.whole.proofs.Tests.{split, both}
use Rattle.rules.specs.Text.{digit_byte, is_digit, digits_up_to, decimal, digit_count, digits_value}

-- ---- one step of the writer, from the right

pub digits_last : (k n : ℕ) → n < 10 → digits_up_to (suc k) n ≡ digit_byte n ∷ []
unfolding digits_up_to
digits_last k n l = rw (lt-ltb n 10 l, small)
  where
    small : n % 10 ≡ n
    small = omega arith

pub digits_more : (k n : ℕ) → 10 ≤ n → digits_up_to (suc k) n ≡ digits_up_to k (n / 10) ++ digit_byte (n % 10) ∷ []
unfolding digits_up_to
digits_more k n l = rw (le-ltb n 10 l)

-- ---- one step of the reader, from the left; past the end stands 0, which is no digit

pub first_byte : (s : List ℕ) (at : ℕ) → get_or (drop at s) 0 0 ≡ get_or s at 0
first_byte s at = get_or-drop at s 0 0 ∙ rw (add-zero at)

pub digits_from : (s : List ℕ) (at : ℕ) → digit_count (drop at s) ≡ cond (is_digit (get_or s at 0)) (suc (digit_count (drop (at + 1) s))) 0
unfolding digit_count
digits_from s at = rw (← first_byte s at, ← drop-drop 1 at s) (first_digit (drop at s))
  where
    first_digit : (t : List ℕ) → digit_count t ≡ cond (is_digit (get_or t 0 0)) (suc (digit_count (drop 1 t))) 0
    first_digit [] = refl
    first_digit (c ∷ t) = refl

pub value_more : (s : List ℕ) (at n : ℕ) → digits_value (drop at s) (n + 1) ≡ 10 * digits_value (drop at s) n + (get_or s (at + n) 0 - 48)
unfolding digits_value
value_more s at n = rw (add-one n, ← get_or-drop at s n 0)

-- what is no 0 stands before the end
pub stands : (s : List ℕ) (at : ℕ) → (get_or s at 0 ≡ 0 → ⊥) → at < length s
stands s at f = split (ltb at (length s))
    (λ t. ltb-true at (length s) t)
    (λ t. absurd (f (get_or-eq_default s 0 (ltb-false at (length s) t))))

-- ---- the digits of a number: one, or those of a number that isn't 0 and one more

pub data DigitsOf : ℕ → List ℕ → Type 0 where
  one : (n : ℕ) → n < 10 → DigitsOf n (digit_byte n ∷ [])
  more : {n : ℕ} {s : List ℕ} (d : ℕ) → 1 ≤ n → d < 10 → DigitsOf n s → DigitsOf (10 * n + d) (s ++ digit_byte d ∷ [])

one_written : (k n : ℕ) → n < 10 → DigitsOf n (digits_up_to (suc k) n)
one_written k n l = rw (digits_last k n l) (one n l)

more_written : (k n : ℕ) → 10 ≤ n → DigitsOf (n / 10) (digits_up_to k (n / 10)) → DigitsOf n (digits_up_to (suc k) n)
more_written k n l r = rw (digits_more k n l) (rw tenths at (more {n = n / 10} (n % 10) (omega arith) (omega arith) r))
  where
    tenths : 10 * (n / 10) + n % 10 ≡ n
    tenths = omega arith

-- what is written, if there is room
pub written_digits : (k n : ℕ) → n < 10 ^ suc k → DigitsOf n (digits_up_to (suc k) n)
written_digits zero n h = one_written 0 n (omega arith)
written_digits (suc k) n h = split (ltb n 10)
    (λ e. one_written (suc k) n (ltb-true n 10 e))
    (λ e. let room : n < 10 ^ suc k * 10 = rw pow-suc at h in
    more_written (suc k) n (ltb-false n 10 e) (written_digits k (n / 10) (omega arith)))

-- ---- what holds of a number's digits, whatever stands after them

pub is_digit_lem : (d : ℕ) → d < 10 → is_digit (digit_byte d) ≡ true
is_digit_lem d l = rw (le-leb 48 (digit_byte d) (omega arith), le-leb (digit_byte d) 57 (omega arith))

pub all_counted : {n : ℕ} {s : List ℕ} → DigitsOf n s → (t : List ℕ) → digit_count (s ++ t) ≡ length s + digit_count t
unfolding digit_count
all_counted (one n l) t = rw (is_digit_lem n l) (omega arith)
all_counted (more {s = s} d p l r) t =
    rw (append_assoc s (digit_byte d ∷ []) t, all_counted r (digit_byte d ∷ t), is_digit_lem d l, length-append s (digit_byte d ∷ []))
    (omega arith)

pub make_the_number : {n : ℕ} {s : List ℕ} → DigitsOf n s → (t : List ℕ) → digits_value (s ++ t) (length s) ≡ n
unfolding digits_value
make_the_number (one n l) t = omega arith
make_the_number (more {s = s} d p l r) t =
    rw (append_assoc s (digit_byte d ∷ []) t, length-append s (digit_byte d ∷ []), add-one (length s))
    (rw (get_or-append_seam s (digit_byte d) t 0, make_the_number r (digit_byte d ∷ t)) (omega arith))

not_zero_first : {n : ℕ} {s : List ℕ} → DigitsOf n s → 1 ≤ n → (t : List ℕ) → eqb (get_or (s ++ t) 0 0) 48 ≡ false
not_zero_first (one n l) p t = ne_eqb (digit_byte n) 48 (λ e. omega arith)
not_zero_first (more {s = s} d q l r) p t = rw (append_assoc s (digit_byte d ∷ []) t) (not_zero_first r q (digit_byte d ∷ t))

pub no_leading_zero : {n : ℕ} {s : List ℕ} → DigitsOf n s → (t : List ℕ) → (eqb (length s) 1 || not (eqb (get_or (s ++ t) 0 0) 48)) ≡ true
no_leading_zero (one n l) t = refl
no_leading_zero (more {s = s} d p l r) t =
    rw (not_zero_first (more d p l r) (omega arith) t) (or-true (eqb (length (s ++ digit_byte d ∷ [])) 1))

digits_fit : {n : ℕ} {s : List ℕ} → DigitsOf n s → (k : ℕ) → n < 10 ^ suc k → length s ≤ suc k
digits_fit (one n l) k h = omega arith
digits_fit (more d p l r) zero h = absurd (omega arith)
digits_fit (more {n} {s} d p l r) (suc k) h =
    let room : 10 * n + d < 10 ^ suc k * 10 = rw pow-suc at h in
    rw (length-append s (digit_byte d ∷ [])) (omega (arith, digits_fit r k (omega arith)))

-- no other digits are written
pub digits_are_written : {n : ℕ} {s : List ℕ} → DigitsOf n s → (k : ℕ) → length s ≤ k → digits_up_to k n ≡ s
digits_are_written (one n l) zero h = absurd (not-suc-le-zero h)
digits_are_written (one n l) (suc k) h = digits_last k n l
digits_are_written (more {s = s} d p l r) zero h = absurd (omega (arith, length-append s (digit_byte d ∷ [])))
digits_are_written (more {n} {s} d p l r) (suc k) h =
    digits_more k (10 * n + d) (omega arith) ∙ rw (tenth, last, digits_are_written r k (omega (arith, length-append s (digit_byte d ∷ []))))
  where
    tenth : (10 * n + d) / 10 ≡ n
    tenth = omega arith

    last : (10 * n + d) % 10 ≡ d
    last = omega arith

-- ---- what is read

pub digit_range : (c : ℕ) → is_digit c ≡ true → (48 ≤ c) × (c ≤ 57)
digit_range c e = let b = both (leb 48 c) (leb c 57) e in (leb-true 48 c b.0, leb-true c 57 b.1)

pub counted_stand : (s : List ℕ) → digit_count s ≤ length s
unfolding digit_count
counted_stand [] = zero-le
counted_stand (c ∷ s) = split (is_digit c) (λ e. rw e (omega (arith, counted_stand s))) (λ e. rw e zero-le)

counted_are_digits : (s : List ℕ) (i : ℕ) → i < digit_count s → (48 ≤ get_or s i 0) × (get_or s i 0 ≤ 57)
unfolding digit_count
counted_are_digits [] i h = absurd (not-suc-le-zero h)
counted_are_digits (c ∷ s) zero h = split (is_digit c) (λ e. digit_range c e) (λ e. absurd (not-suc-le-zero (rw e at h)))
counted_are_digits (c ∷ s) (suc i) h = split (is_digit c)
    (λ e. counted_are_digits s i (le_of_suc-le-suc (rw e at h)))
    (λ e. absurd (not-suc-le-zero (rw e at h)))

module _ (s : List ℕ) where
  pub value_below_power : (n : ℕ) → n ≤ digit_count s → digits_value s n < 10 ^ n
  unfolding digits_value
  value_below_power zero h = omega arith
  value_below_power (suc n) h =
      let c = counted_are_digits s n h in
      let v = value_below_power n (omega arith) in
      rw pow-suc (omega arith)

  value_not_zero : (n : ℕ) → n < digit_count s → (get_or s 0 0 ≡ 48 → ⊥) → 1 ≤ digits_value s (suc n)
  unfolding digits_value
  value_not_zero zero h z = let c = counted_are_digits s 0 h in omega arith
  value_not_zero (suc n) h z = let v = value_not_zero n (omega arith) z in omega arith

  one_more_taken : (n : ℕ) → n < digit_count s → take (suc n) s ≡ take n s ++ digit_byte (get_or s n 0 - 48) ∷ []
  one_more_taken n h = take-suc s n 0 (lt_of_lt_of_le h (counted_stand s)) ∙ rw (digit_of (get_or s n 0) (counted_are_digits s n h).0)
    where
      digit_of : (c : ℕ) → 48 ≤ c → digit_byte (c - 48) ≡ c
      digit_of c l = omega arith

  one_read : 0 < digit_count s → DigitsOf (digits_value s 1) (take 1 s)
  unfolding digits_value
  one_read h = let c = counted_are_digits s 0 h in rw (one_more_taken 0 h, zero-add) (one (get_or s 0 0 - 48) (omega arith))

  several_read : (n : ℕ) → n < digit_count s → (get_or s 0 0 ≡ 48 → ⊥) → DigitsOf (digits_value s (suc n)) (take (suc n) s)
  unfolding digits_value
  several_read zero h z = one_read h
  several_read (suc n) h z =
      let c = counted_are_digits s (suc n) h in
      rw (one_more_taken (suc n) h)
      (more (get_or s (suc n) 0 - 48) (value_not_zero n (omega arith) z) (omega arith) (several_read n (omega arith) z))

  -- the first n digits that stand there, if they don't begin with a zero or are one, are those of the number that they make
  pub read_digits : (n : ℕ) → 1 ≤ n → n ≤ digit_count s → (eqb n 1 || not (eqb (get_or s 0 0) 48)) ≡ true →
      DigitsOf (digits_value s n) (take n s)
  read_digits zero p h e = absurd (not-suc-le-zero p)
  read_digits (suc zero) p h e = one_read h
  read_digits (suc (suc n)) p h e =
      several_read (suc n) h (eqb-false (get_or s 0 0) 48 (not-true _ (rw (ne_eqb (suc (suc n)) 1 (λ q. omega arith)) at e)))

-- ---- room

-- more room than needed changes nothing
pub room_changes_nothing : (k m n : ℕ) → 1 ≤ k → 1 ≤ m → n < 10 ^ k → n < 10 ^ m → digits_up_to k n ≡ digits_up_to m n
room_changes_nothing zero m n p q h g = absurd (not-suc-le-zero p)
room_changes_nothing (suc k) zero n p q h g = absurd (not-suc-le-zero q)
room_changes_nothing (suc k) (suc m) n p q h g = let r = written_digits m n g in digits_are_written r (suc k) (digits_fit r k h)

pub no_more_than_room : (k n : ℕ) → length (digits_up_to k n) ≤ k
unfolding digits_up_to
no_more_than_room zero n = zero-le
no_more_than_room (suc k) n = split (ltb n 10)
    (λ e. rw e (omega arith))
    (λ e. rw (e, length-append) (omega (arith, no_more_than_room k (n / 10))))

pub decimal_digits : (n : ℕ) → n < 10 ^ 20 → DigitsOf n (decimal n)
unfolding decimal
decimal_digits n h = written_digits 19 n h

pub decimal_at_most_20 : (n : ℕ) → length (decimal n) ≤ 20
unfolding decimal
decimal_at_most_20 n = no_more_than_room 20 n

pub decimal_at_least_1 : (n : ℕ) → 1 ≤ length (decimal n)
unfolding decimal digits_up_to
decimal_at_least_1 n = rw length-append (omega arith)

-- the digits from the right, while nothing but the last is left and while there is more
pub decimal_last : (n : ℕ) → n / 10 ≡ 0 → decimal n ≡ digit_byte (n % 10) ∷ []
unfolding decimal
decimal_last n e = rw (digits_last 19 n (omega arith), small)
  where
    small : n % 10 ≡ n
    small = omega arith

pub decimal_more : (n : ℕ) → n < 10 ^ 20 → (n / 10 ≡ 0 → ⊥) → decimal n ≡ decimal (n / 10) ++ digit_byte (n % 10) ∷ []
unfolding decimal
decimal_more n h f =
    rw (digits_more 19 n (omega arith), room_changes_nothing 19 20 (n / 10) (omega arith) (omega arith) (omega arith) (omega arith))

pub decimal_length_more : (n : ℕ) → n < 10 ^ 20 → (n / 10 ≡ 0 → ⊥) → length (decimal n) ≡ length (decimal (n / 10)) + 1
decimal_length_more n h f = rw (decimal_more n h f) (length-append (decimal (n / 10)) (digit_byte (n % 10) ∷ []))

-- a number below 10^(k + 1) has at most k + 1 digits
pub decimal_length_at_most : (n k : ℕ) → n < 10 ^ suc k → length (decimal n) ≤ suc k
decimal_length_at_most n k h = split (leb 20 k)
    (λ e. omega (arith, leb-true 20 k e, decimal_at_most_20 n))
    (λ e. digits_fit (decimal_digits n (lt_of_lt_of_le h (pow-le-pow_right (omega arith) (leb-false 20 k e)))) k h)

-- the digits of every number of 64 bits make it again
pub no_digit_cut_off : (n : ℕ) → n < 10 ^ 20 → digits_value (decimal n) (length (decimal n)) ≡ n
no_digit_cut_off n h = rw append-nil at (make_the_number (decimal_digits n h) [])
