-- The reader's parts on slices: what is left of a field after a part is the field from the part's next place on.
use mathlib.Core.Path.{◌≡◌, refl, sym, ◌∙◌, ap}
use mathlib.Core.Bool.{Bool, true, false, cond, not, ◌&&◌, ◌||◌, or-true}
use mathlib.Core.List.{List, [], ◌∷◌}
use Prim.Native.Nat.{ℕ, suc, ◌+◌, ◌-◌, ◌*◌, ◌≤◌, ◌<◌, min}
use native.Mathlib.Nat.{zero-add, le_of_eq, lt_of_lt_of_le, pow-le-pow_right}
use native.Mathlib.Omega.{arith}
use lib.Dec.{eqb, leb}
use lib.IntN.{ℤ}
use lib.ListN.{length, take, drop, get_or, length-drop}
use lib.Seq.{take_all, drop-drop, get_or-drop}
use borrow.Author.Tests.{ne_eqb, eq-eqb, eqb-true, eqb-false, le-leb, lt-leb}
use Rattle.std.specs.Prelude.{Option, None, Some}
use Rattle.std.proofs.lemmas.Option.{same_Some, some_pair_parts}
use Rattle.rules.specs.Text.{Part, bind, amount_in, with_minus, past_blanks, blank_count, digit_count, digits_value, is_digit, sign_at, dollars_at, cents_at}
use Rattle.whole.proofs.Tests.{split, all_three, if_some, never_some}
use Rattle.rules.proofs.Digits.{first_byte, digits_from, value_more, value_below_power, digit_range, counted_stand, stands}
use Rattle.rules.proofs.Parts.{dollars_found, cents_found}
use Rattle.amount.specs.Parts.{part_of}

-- a pattern's rest is what stands from a place on
pub rest_is : (n k : ℕ) (s : List ℕ) → n ≡ length s → take (n - k) (drop k s) ≡ drop k s
rest_is n k s e = take_all (n - k) (drop k s) (le_of_eq (simp length-drop (rw e)))

-- ---- blanks

pub blank_on : (s : List ℕ) {t e : List ℕ} → t ≡ drop 1 s → get_or s 0 0 ≡ 32 → drop (blank_count s) s ≡ e → drop (blank_count t) t ≡ e
unfolding blank_count
blank_on [] r b i = absurd (omega arith)
blank_on (c ∷ s) r b i = rw r (rw b at i)

pub blank_end : (s : List ℕ) → (get_or s 0 0 ≡ 32 → ⊥) → s ≡ drop (blank_count s) s
unfolding blank_count
blank_end [] n = refl
blank_end (c ∷ s) n = rw (ne_eqb c 32 n)

-- ---- the sign

pub plus_there : (s t : List ℕ) → t ≡ drop 1 s → get_or s 0 0 ≡ 43 → Some (false, t) ≡ part_of s (sign_at s 0)
unfolding sign_at
plus_there s t r e = rw (r, e)

pub minus_there : (s t : List ℕ) → t ≡ drop 1 s → get_or s 0 0 ≡ 45 → Some (true, t) ≡ part_of s (sign_at s 0)
unfolding sign_at
minus_there s t r e = rw (r, e)

pub no_sign : (s : List ℕ) → (get_or s 0 0 ≡ 43 → ⊥) → (get_or s 0 0 ≡ 45 → ⊥) → None ≡ part_of s (sign_at s 0)
unfolding sign_at
no_sign s p m = rw (ne_eqb (get_or s 0 0) 43 p, ne_eqb (get_or s 0 0) 45 m)

-- ---- digits

-- a field begins with so many digits, which make this number
pub record SoFar (field : List ℕ) (value taken : ℕ) : Type 0 where
  pub inside : taken ≤ length field
  pub counted : digit_count field ≡ taken + digit_count (drop taken field)
  pub value_is : value ≡ digits_value field taken

pub none_taken : (s : List ℕ) → SoFar s 0 0
unfolding digits_value
none_taken s = record { inside = omega arith; counted = omega arith; value_is = refl }

pub one_more : (s : List ℕ) {value taken byte : ℕ} → byte ≡ get_or s taken 0 → is_digit byte ≡ true →
    SoFar s value taken → SoFar s (10 * value + (byte - 48)) (taken + 1)
one_more s {value} {taken} {byte} e d k = record {
  inside = omega (arith, more, k.counted, counted_stand s);
  counted = omega (arith, more, k.counted);
  value_is = rw (k.value_is, e) (sym (value_more s 0 taken ∙ ap (λ (i : ℕ). 10 * digits_value s taken + (get_or s i 0 - 48)) (zero-add taken)));
}
  where
    more : digit_count (drop taken s) ≡ suc (digit_count (drop (taken + 1) s))
    more = digits_from s taken ∙ rw (← e, d)

-- up to ten digits make a number with room for another
pub under_ten_digits : {s : List ℕ} {value taken : ℕ} (k : SoFar s value taken) → taken ≤ 10 → value < 10000000000
under_ten_digits {s} {taken = n} k most =
    let counted : n ≤ digit_count s = omega (arith, k.counted) in
    rw k.value_is (lt_of_lt_of_le (value_below_power s n counted) (pow-le-pow_right (omega arith) most))

pub no_more : (s : List ℕ) (at : ℕ) {byte : ℕ} → byte ≡ get_or s at 0 → is_digit byte ≡ false → digit_count (drop at s) ≡ 0
no_more s at e f = digits_from s at ∙ rw (← e, f)

-- ---- dollars: from what `digits` answered

module _ (s : List ℕ) {value count : ℕ} (v : value ≡ digits_value s count) (counted : count ≡ min 11 (digit_count s)) where
  pub no_digit : count ≡ 0 → None ≡ part_of s (dollars_at s 0)
  unfolding dollars_at
  no_digit e = let all : digit_count s ≡ 0 = omega (arith, counted) in rw all

  pub too_many : 10 < count → None ≡ part_of s (dollars_at s 0)
  unfolding dollars_at
  too_many h = rw (le-leb 1 (digit_count s) (omega (arith, counted)), lt-leb (digit_count s) 10 (omega (arith, counted)))

  pub zero_first : 1 < count → count ≤ 10 → get_or s 0 0 ≡ 48 → None ≡ part_of s (dollars_at s 0)
  unfolding dollars_at
  zero_first h most z = rw (
    le-leb 1 (digit_count s) (omega (arith, counted)),
    le-leb (digit_count s) 10 (omega (arith, counted)),
    ne_eqb (digit_count s) 1 (λ e. omega (arith, counted)),
    z,
  )

  dollars_there : {t : List ℕ} → t ≡ drop count s → 1 ≤ count → count ≤ 10 → (eqb (digit_count s) 1 || not (eqb (get_or s 0 0) 48)) ≡ true →
      Some (value, t) ≡ part_of s (dollars_at s 0)
  unfolding dollars_at
  dollars_there r some most front =
      let all : count ≡ digit_count s = omega (arith, counted) in
      rw (le-leb 1 (digit_count s) (omega (arith, counted)), le-leb (digit_count s) 10 (omega (arith, counted)), front, r, v, all, zero-add)

  pub one_digit : {t : List ℕ} → t ≡ drop count s → count ≡ 1 → Some (value, t) ≡ part_of s (dollars_at s 0)
  one_digit r e = dollars_there r (omega arith) (omega arith) (rw (eq-eqb (digit_count s) 1 (omega (arith, counted))))

  pub no_zero_first : {t : List ℕ} → t ≡ drop count s → 1 < count → count ≤ 10 → (get_or s 0 0 ≡ 48 → ⊥) →
      Some (value, t) ≡ part_of s (dollars_at s 0)
  no_zero_first r h most n = dollars_there r (omega arith) most (rw (ne_eqb (get_or s 0 0) 48 n, or-true))

-- ---- cents

pub no_cents : (s : List ℕ) →
    (get_or s 0 0 ≡ 46 → 48 ≤ get_or s 1 0 → get_or s 1 0 ≤ 57 → 48 ≤ get_or s 2 0 → get_or s 2 0 ≤ 57 → ⊥) →
    None ≡ part_of s (cents_at s 0)
unfolding cents_at
no_cents s n = split (eqb (get_or s 0 0) 46 && is_digit (get_or s 1 0) && is_digit (get_or s 2 0))
    (λ t. let f = all_three (eqb (get_or s 0 0) 46) (is_digit (get_or s 1 0)) (is_digit (get_or s 2 0)) t in
    let tens = digit_range (get_or s 1 0) f.1 in
    let ones = digit_range (get_or s 2 0) f.2 in
    absurd (n (eqb-true (get_or s 0 0) 46 f.0) tens.0 tens.1 ones.0 ones.1))
    (λ f. rw f)

pub cents_there : (s : List ℕ) {t : List ℕ} {tens ones : ℕ} → t ≡ drop 3 s → tens ≡ get_or s 1 0 - 48 → ones ≡ get_or s 2 0 - 48 → get_or s 0 0 ≡ 46 →
    48 ≤ get_or s 1 0 → get_or s 1 0 ≤ 57 → 48 ≤ get_or s 2 0 → get_or s 2 0 ≤ 57 →
    Some (10 * tens + ones, t) ≡ part_of s (cents_at s 0)
unfolding cents_at digits_value
cents_there s r p q dot a b c d = rw (
  r,
  p,
  q,
  dot,
  le-leb 48 (get_or s 1 0) a,
  le-leb (get_or s 1 0) 57 b,
  le-leb 48 (get_or s 2 0) c,
  le-leb (get_or s 2 0) 57 d,
  get_or-drop 1 s 0 0,
  get_or-drop 1 s 1 0,
)
    (ap (λ (n : ℕ). Some (n, drop 3 s)) (omega arith))

-- ---- the whole amount, part after part on what is left

-- a part of what is left is the part at its place
sign_from : (s : List ℕ) (at : ℕ) → part_of s (sign_at s at) ≡ part_of (drop at s) (sign_at (drop at s) 0)
unfolding sign_at
sign_from s at = rw (first_byte s at) (split (eqb (get_or s at 0) 43 || eqb (get_or s at 0) 45) (λ t. rw (t, drop-drop 1 at s)) (λ f. rw f))

dollars_from : (s : List ℕ) (at : ℕ) → part_of s (dollars_at s at) ≡ part_of (drop at s) (dollars_at (drop at s) 0)
unfolding dollars_at
dollars_from s at = let n = digit_count (drop at s) in
    rw (first_byte s at) (split (leb 1 n && leb n 10 && (eqb n 1 || not (eqb (get_or s at 0) 48))) (λ t. rw (t, zero-add, drop-drop n at s)) (λ f. rw f))

cents_from : (s : List ℕ) (at : ℕ) → part_of s (cents_at s at) ≡ part_of (drop at s) (cents_at (drop at s) 0)
unfolding cents_at
cents_from s at = rw (first_byte s at, get_or-drop at s 1 0, get_or-drop at s 2 0)
    (split (eqb (get_or s at 0) 46 && is_digit (get_or s (at + 1) 0) && is_digit (get_or s (at + 2) 0))
    (λ t. rw (t, drop-drop 3 at s, drop-drop 1 at s)) (λ f. rw f))

-- what follows a part may go by what is left after it
by_left : {A B : Type 0} (s : List ℕ) (o : Option (Part A)) (next : Part A → Option B) (left : A × List ℕ → Option B) →
    ((p : Part A) → o ≡ Some p → next p ≡ left (p.value, drop p.next s)) → bind o next ≡ bind (part_of s o) left
by_left s None next left e = refl
by_left s (Some p) next left e = e p refl

cents_inside : (s : List ℕ) (at : ℕ) (p : Part ℕ) → cents_at s at ≡ Some p → p.next ≤ length s
unfolding cents_at
cents_inside s at p e =
    let f = if_some (eqb (get_or s at 0) 46 && is_digit (get_or s (at + 1) 0) && is_digit (get_or s (at + 2) 0))
    (Some (record { value = digits_value (drop (at + 1) s) 2; next = at + 3 })) p e in
    let d = digit_range (get_or s (at + 2) 0) (all_three (eqb (get_or s at 0) 46) (is_digit (get_or s (at + 1) 0)) (is_digit (get_or s (at + 2) 0)) f.0).2 in
    let next : at + 3 ≡ p.next = ap (λ (q : Part ℕ). q.next) (same_Some _ p f.1) in
    omega (arith, stands s (at + 2) (λ z. omega arith))

at_end : (s : List ℕ) (n : ℕ) → n ≤ length s → eqb n (length s) ≡ eqb (length (drop n s)) 0
at_end s n l = simp length-drop (split (eqb n (length s))
    (λ t. rw (t, eq-eqb (length s - n) 0 (omega (arith, eqb-true n (length s) t))))
    (λ f. rw (f, ne_eqb (length s - n) 0 (λ e. omega (arith, eqb-false n (length s) f)))))

-- what follows each part, by what is left
abbrev after_cents : Bool → ℕ → ℕ × List ℕ → Option ℤ
after_cents m d cents = cond (eqb (length cents.1) 0) (with_minus m (100 * d + cents.0)) None

abbrev after_dollars : Bool → ℕ × List ℕ → Option ℤ
after_dollars m dollars = bind (part_of dollars.1 (cents_at dollars.1 0)) (after_cents m dollars.0)

abbrev after_sign : Bool × List ℕ → Option ℤ
after_sign sign = bind (part_of sign.1 (dollars_at sign.1 0)) (after_dollars sign.0)

module _ (s : List ℕ) where
  cents_left : (m : Bool) (d at : ℕ) →
      bind (cents_at s at) (λ cents. cond (eqb cents.next (length s)) (with_minus m (100 * d + cents.value)) None)
      ≡ bind (part_of (drop at s) (cents_at (drop at s) 0)) (after_cents m d)
  cents_left m d at =
      by_left s (cents_at s at) (λ cents. cond (eqb cents.next (length s)) (with_minus m (100 * d + cents.value)) None) (after_cents m d)
      (λ p e. rw (at_end s p.next (cents_inside s at p e)))
      ∙ ap (λ (o : Option (ℕ × List ℕ)). bind o (after_cents m d)) (cents_from s at)

  dollars_left : (m : Bool) (at : ℕ) →
      bind (dollars_at s at) (λ dollars. bind (cents_at s dollars.next) (λ cents.
      cond (eqb cents.next (length s)) (with_minus m (100 * dollars.value + cents.value)) None))
      ≡ bind (part_of (drop at s) (dollars_at (drop at s) 0)) (after_dollars m)
  dollars_left m at =
      by_left s (dollars_at s at) (λ dollars. bind (cents_at s dollars.next) (λ cents.
      cond (eqb cents.next (length s)) (with_minus m (100 * dollars.value + cents.value)) None)) (after_dollars m)
      (λ p e. cents_left m p.value p.next)
      ∙ ap (λ (o : Option (ℕ × List ℕ)). bind o (after_dollars m)) (dollars_from s at)

  amount_left : amount_in s ≡ (let t = drop (blank_count s) s in bind (part_of t (sign_at t 0)) after_sign)
  unfolding amount_in past_blanks
  amount_left = rw (zero-add (blank_count s)) (
      by_left s (sign_at s (blank_count s)) (λ sign. bind (dollars_at s sign.next) (λ dollars. bind (cents_at s dollars.next) (λ cents.
      cond (eqb cents.next (length s)) (with_minus sign.value (100 * dollars.value + cents.value)) None))) after_sign
      (λ p e. dollars_left p.value p.next)
      ∙ ap (λ (o : Option (Bool × List ℕ)). bind o after_sign) (sign_from s (blank_count s)))

-- what each step of the code answers is the amount
module _ (s : List ℕ) {t : List ℕ} (r : t ≡ drop (blank_count s) s) where
  blanks_off : amount_in s ≡ bind (part_of t (sign_at t 0)) after_sign
  blanks_off = rw r (amount_left s)

  pub sign_missing : None ≡ part_of t (sign_at t 0) → None ≡ amount_in s
  sign_missing e = rw (blanks_off, ← e)

  module _ {m : Bool} {u : List ℕ} (sign : Some (m, u) ≡ part_of t (sign_at t 0)) where
    pub dollars_missing : None ≡ part_of u (dollars_at u 0) → None ≡ amount_in s
    dollars_missing e = rw (blanks_off, ← sign, ← e)

    module _ {d : ℕ} {v : List ℕ} (dollars : Some (d, v) ≡ part_of u (dollars_at u 0)) where
      pub cents_missing : None ≡ part_of v (cents_at v 0) → None ≡ amount_in s
      cents_missing e = rw (blanks_off, ← sign, ← dollars, ← e)

      module _ {c : ℕ} {w : List ℕ} (cents : Some (c, w) ≡ part_of v (cents_at v 0)) where
        pub more_left : eqb (length w) 0 ≡ false → None ≡ amount_in s
        more_left e = rw (blanks_off, ← sign, ← dollars, ← cents, e)

        pub nothing_left : eqb (length w) 0 ≡ true → with_minus m (100 * d + c) ≡ amount_in s
        nothing_left e = rw (blanks_off, ← sign, ← dollars, ← cents, e)

-- ---- how large its parts are

part_there : {A : Type 0} (s : List ℕ) (o : Option (Part A)) {v : A} {l : List ℕ} → part_of s o ≡ Some (v, l) → (p : Part A) × (o ≡ Some p) × (p.value ≡ v)
part_there s None e = never_some (sym e)
part_there s (Some p) {v} {l} e = (p, refl, (some_pair_parts p.value v (drop p.next s) l e).0)

pub dollars_small : (s : List ℕ) {d : ℕ} {l : List ℕ} → Some (d, l) ≡ part_of s (dollars_at s 0) → d < 10000000000
dollars_small s e = let p = part_there s (dollars_at s 0) (sym e) in rw (← p.2) (dollars_found s 0 p.0 p.1).0

pub cents_small : (s : List ℕ) {d : ℕ} {l : List ℕ} → Some (d, l) ≡ part_of s (cents_at s 0) → d < 100
cents_small s e = let p = part_there s (cents_at s 0) (sym e) in rw (← p.2) (cents_found s 0 p.0 p.1).0
