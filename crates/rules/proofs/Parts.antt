-- The reader part by part: a part that is found stands at its place, what stands there is found, and an amount is read exactly if
-- each part is found where the one before it ends. Document 01, "Text amounts".
use mathlib.Core.Path.{◌≡◌, refl, sym, ◌∙◌, ap, ap₂}
use mathlib.Core.Logic.{◌↔◌}
use mathlib.Core.Bool.{Bool, true, false, not, cond, ◌&&◌, ◌||◌, or-false}
use Rattle.std.specs.Prelude.{Option, None, Some}
use Rattle.std.proofs.lemmas.Option.{same_Some}
use mathlib.Core.List.{List, [], ◌∷◌, ◌++◌}
use Prim.Native.Nat.{ℕ, zero, suc, ◌+◌, ◌-◌, ◌*◌, ◌/◌, ◌%◌, ◌^◌, ◌≤◌, ◌<◌}
use native.Mathlib.Nat.{zero-add, add-zero, pow-le-pow_right, lt_of_lt_of_le, le_trans, le_refl}
use native.Mathlib.Omega.{arith}
use lib.Dec.{leb, eqb}
use lib.IntN.{ℤ, pos, negsuc, nat_abs}
use lib.ListN.{length, take, drop, get_or, replicate, take-append-drop}
use lib.Seq.{drop-drop, get_or-drop, length-take-le}
use borrow.Author.Tests.{leb-true, eqb-true, le-leb, eq-eqb}
use Rattle.whole.proofs.Tests.{split, never, never_some, all_three, if_some}
use Rattle.rules.specs.Text.{bind, digit_byte, is_digit, sign_byte, decimal, Part, blank_count, digit_count, digits_value, past_blanks, sign_at}
use Rattle.rules.specs.Text.{dollars_at, cents_at, with_minus, amount_in}
use Rattle.rules.proofs.Digits.{first_byte, is_digit_lem, all_counted, make_the_number, no_leading_zero, digits_are_written, digit_range}
use Rattle.rules.proofs.Digits.{counted_stand, value_below_power, read_digits, decimal_digits, decimal_at_least_1}
use Rattle.rules.proofs.Digits.{decimal_length_at_most}

-- ---- blanks

-- one step of the reader
pub blanks_from : (s : List ℕ) (at : ℕ) → past_blanks s at ≡ cond (eqb (get_or s at 0) 32) (past_blanks s (at + 1)) at
unfolding past_blanks blank_count
blanks_from s at = rw (← first_byte s at, ← drop-drop 1 at s) (first_blank (drop at s))
  where
    first_blank : (t : List ℕ) → at + blank_count t ≡ cond (eqb (get_or t 0 0) 32) (at + 1 + blank_count (drop 1 t)) at
    first_blank [] = add-zero at
    first_blank (c ∷ t) = split (eqb c 32) (λ e. rw e (omega arith)) (λ e. rw e (add-zero at))

pub blanks_found : (s : List ℕ) → s ≡ replicate (past_blanks s 0) 32 ++ drop (past_blanks s 0) s
unfolding past_blanks blank_count
blanks_found s = rw zero-add (counted s)
  where
    counted : (s : List ℕ) → s ≡ replicate (blank_count s) 32 ++ drop (blank_count s) s
    counted [] = refl
    counted (c ∷ s) = split (eqb c 32)
        (λ e. rw e (ap₂ (λ (x : ℕ) (l : List ℕ). x ∷ l) (eqb-true c 32 e) (counted s)))
        (λ e. rw e)

-- blanks end at a sign
pub blanks_there : (k : ℕ) (z : ℤ) (t : List ℕ) → past_blanks (replicate k 32 ++ sign_byte z ∷ t) 0 ≡ k
unfolding past_blanks blank_count
blanks_there k z t = rw zero-add (counted k z)
  where
    counted : (k : ℕ) (z : ℤ) → blank_count (replicate k 32 ++ sign_byte z ∷ t) ≡ k
    counted zero (pos n) = refl
    counted zero (negsuc n) = refl
    counted (suc k) z = ap suc (counted k z)

-- ---- what the tests say of the bytes from a place on

sign_of : (t : List ℕ) → (eqb (get_or t 0 0) 43 || eqb (get_or t 0 0) 45) ≡ true → t ≡ cond (eqb (get_or t 0 0) 45) 45 43 ∷ drop 1 t
sign_of [] e = never e refl
sign_of (c ∷ t) e = split (eqb c 45)
    (λ m. rw (m, eqb-true c 45 m))
    (λ m. rw (m, eqb-true c 43 (rw (m, or-false) at e)))

dollars_of : (t : List ℕ) (n : ℕ) → 1 ≤ n → n ≤ 10 → n ≤ digit_count t → (eqb n 1 || not (eqb (get_or t 0 0) 48)) ≡ true →
    (digits_value t n < 10 ^ 10) × (t ≡ decimal (digits_value t n) ++ drop n t)
unfolding decimal
dollars_of t n l m h e =
    let taken : length (take n t) ≡ n = length-take-le n t (le_trans h (counted_stand t)) in (
      lt_of_lt_of_le (value_below_power t n h) (pow-le-pow_right (omega arith) m),
      rw (digits_are_written (read_digits t n l h e) 20 (omega arith)) (sym (take-append-drop n t)),
    )

-- a point and two digits
abbrev pub cents_text : ℕ → List ℕ
cents_text w = 46 ∷ digit_byte (w / 10) ∷ digit_byte (w % 10) ∷ []

cents_of_lem : (t : List ℕ) → (eqb (get_or t 0 0) 46 && is_digit (get_or t 1 0) && is_digit (get_or t 2 0)) ≡ true →
    (w : ℕ) × (digits_value (drop 1 t) 2 ≡ w) × (w < 100) × (t ≡ cents_text w ++ drop 3 t)
unfolding digits_value
cents_of_lem [] e = never e refl
cents_of_lem (a ∷ []) e = never (all_three (eqb a 46) false false e).1 refl
cents_of_lem (a ∷ b ∷ []) e = never (all_three (eqb a 46) (is_digit b) false e).2 refl
cents_of_lem (a ∷ b ∷ c ∷ t) e =
    let f = all_three (eqb a 46) (is_digit b) (is_digit c) e in
    let rb = digit_range b f.1 in
    let rc = digit_range c f.2 in
    (10 * (10 * 0 + (b - 48)) + (c - 48), refl, omega arith, same (eqb-true a 46 f.0) (omega arith) (omega arith))
  where
    same : {a a' b b' c c' : ℕ} → a ≡ a' → b ≡ b' → c ≡ c' → ◌≡◌ {A = List ℕ} (a ∷ b ∷ c ∷ t) (a' ∷ b' ∷ c' ∷ t)
    same p q r = cc

-- ---- a part that is found stands at its place, and what stands there is found

module _ (s : List ℕ) (at : ℕ) where
  pub sign_found : (p : Part Bool) → sign_at s at ≡ Some p → drop at s ≡ cond p.value 45 43 ∷ drop p.next s
  unfolding sign_at
  sign_found p e =
      let c = get_or s at 0 in
      let f = if_some (eqb c 43 || eqb c 45) (Some (record { value = eqb c 45; next = at + 1 })) p e in
      rw (← same_Some _ p f.1, ← drop-drop 1 at s, ← first_byte s at)
      (sign_of (drop at s) (rw (← first_byte s at) at f.0))

  pub sign_there : (z : ℤ) (t : List ℕ) → drop at s ≡ sign_byte z ∷ t →
      sign_at s at ≡ Some (record { value = eqb (sign_byte z) 45; next = at + 1 })
  unfolding sign_at
  sign_there (pos n) t e = rw (← first_byte s at, e)
  sign_there (negsuc n) t e = rw (← first_byte s at, e)

  pub dollars_found : (p : Part ℕ) → dollars_at s at ≡ Some p → (p.value < 10 ^ 10) × (drop at s ≡ decimal p.value ++ drop p.next s)
  unfolding dollars_at
  dollars_found p e =
      let t = drop at s in
      let n = digit_count t in
      let front = eqb n 1 || not (eqb (get_or s at 0) 48) in
      let f = if_some (leb 1 n && leb n 10 && front) (Some (record { value = digits_value t n; next = at + n })) p e in
      let g = all_three (leb 1 n) (leb n 10) front f.0 in
      rw (← same_Some _ p f.1, ← drop-drop n at s)
      (dollars_of t n (leb-true 1 n g.0) (leb-true n 10 g.1) (le_refl n) (rw (← first_byte s at) at g.2))

  -- digits end at the point
  pub dollars_there : (n : ℕ) (t : List ℕ) → n < 10 ^ 10 → drop at s ≡ decimal n ++ 46 ∷ t →
      dollars_at s at ≡ Some (record { value = n; next = at + length (decimal n) })
  unfolding dollars_at digit_count
  dollars_there n t h e =
      let d = decimal_digits n (omega arith) in
      let len = length (decimal n) in
      let counted : digit_count (decimal n ++ 46 ∷ t) ≡ len = all_counted d (46 ∷ t) ∙ add-zero len in
      rw (
        ← first_byte s at,
        e,
        counted,
        le-leb 1 len (decimal_at_least_1 n),
        le-leb len 10 (decimal_length_at_most n 9 h),
        no_leading_zero d (46 ∷ t),
        make_the_number d (46 ∷ t),
      )

  pub cents_found : (p : Part ℕ) → cents_at s at ≡ Some p → (p.value < 100) × (drop at s ≡ cents_text p.value ++ drop p.next s)
  unfolding cents_at
  cents_found p e =
      let f = if_some (eqb (get_or s at 0) 46 && is_digit (get_or s (at + 1) 0) && is_digit (get_or s (at + 2) 0))
      (Some (record { value = digits_value (drop (at + 1) s) 2; next = at + 3 })) p e in
      let c = cents_of_lem (drop at s) (rw (← first_byte s at, ← get_or-drop at s 1 0, ← get_or-drop at s 2 0) at f.0) in
      rw (← same_Some _ p f.1, ← drop-drop 3 at s, ← drop-drop 1 at s, c.1) (c.2, c.3)

  pub cents_there : (w : ℕ) → w < 100 → drop at s ≡ cents_text w → cents_at s at ≡ Some (record { value = w; next = at + 3 })
  unfolding cents_at digits_value
  cents_there w h e =
      rw (
        ← first_byte s at,
        ← get_or-drop at s 1 0,
        ← get_or-drop at s 2 0,
        ← drop-drop 1 at s,
        e,
        is_digit_lem (w / 10) (omega arith),
        is_digit_lem (w % 10) (omega arith),
      )
      (ap (λ (v : ℕ). Some (record { value = v; next = at + 3 })) value)
    where
      value : 10 * (10 * 0 + (digit_byte (w / 10) - 48)) + (digit_byte (w % 10) - 48) ≡ w
      value = omega arith

-- the sign and the size make the amount
pub minus_found : (m : Bool) (c : ℕ) (z : ℤ) → with_minus m c ≡ Some z → (nat_abs z ≡ c) × (sign_byte z ≡ cond m 45 43)
unfolding with_minus
minus_found false c z e = rw (← same_Some (pos c) z e) (refl, refl)
minus_found true zero z e = never_some (sym e)
minus_found true (suc c) z e = rw (← same_Some (negsuc c) z e) (refl, refl)

pub minus_there : (z : ℤ) → with_minus (eqb (sign_byte z) 45) (nat_abs z) ≡ Some z
unfolding with_minus
minus_there (pos c) = refl
minus_there (negsuc c) = refl

-- ---- the whole reading

pub record WasRead (s : List ℕ) (z : ℤ) : Type 0 where
  pub sign : Part Bool
  pub dollars : Part ℕ
  pub cents : Part ℕ
  pub sign_is : sign_at s (past_blanks s 0) ≡ Some sign
  pub dollars_are : dollars_at s sign.next ≡ Some dollars
  pub cents_are : cents_at s dollars.next ≡ Some cents
  pub at_end : cents.next ≡ length s
  pub amount_is : with_minus sign.value (100 * dollars.value + cents.value) ≡ Some z

-- a part that is there, and what follows it
part_there : {A B : Type 0} (part : Option A) {next : A → Option B} {b : B} → bind part next ≡ Some b →
    (a : A) × (part ≡ Some a) × (next a ≡ Some b)
part_there None e = never_some (sym e)
part_there (Some a) e = (a, refl, e)

-- an amount is read exactly if each part is found where the one before it ends
pub read_by_parts : (s : List ℕ) (z : ℤ) → (amount_in s ≡ Some z) ↔ WasRead s z
unfolding amount_in
read_by_parts s z = (to, from)
  where
    to : amount_in s ≡ Some z → WasRead s z
    to e =
        let sign = part_there (sign_at s (past_blanks s 0)) e in
        let dollars = part_there (dollars_at s sign.0.next) sign.2 in
        let cents = part_there (cents_at s dollars.0.next) dollars.2 in
        let end = if_some (eqb cents.0.next (length s)) (with_minus sign.0.value (100 * dollars.0.value + cents.0.value)) z
        cents.2 in
        record {
          sign = sign.0;
          dollars = dollars.0;
          cents = cents.0;
          sign_is = sign.1;
          dollars_are = dollars.1;
          cents_are = cents.1;
          at_end = eqb-true _ _ end.0;
          amount_is = end.1;
        }

    from : WasRead s z → amount_in s ≡ Some z
    from r = rw (r.sign_is, r.dollars_are, r.cents_are, eq-eqb r.cents.next (length s) r.at_end) r.amount_is
