-- Amounts as text: what an amount's text is, and how a field is read part by part. Document 01, "Text amounts".
use Rattle.std.specs.Prelude.{ℕ, zero, suc, ◌+◌, ◌-◌, ◌*◌, ◌/◌, ◌%◌, Bool, true, false, not, cond, ◌&&◌, ◌||◌, List, [], ◌∷◌, ◌++◌, ℤ, pos, negsuc, nat_abs, length, drop, get_or, replicate, leb, ltb, eqb, Option, None, Some, option_and_then}
use Prim.Native.Char.{code}
use Prim.Native.String.{String}

-- ---- bytes: a blank is 32, + is 43, - is 45, the point is 46, the digits are 48 to 57

-- the bytes of a text of such characters
abbrev pub bytes : String → List ℕ
bytes String.[] = []
bytes (String.◌∷◌ c s) = code c ∷ bytes s

abbrev pub digit_byte : ℕ → ℕ
digit_byte d = 48 + d

abbrev pub is_digit : ℕ → Bool
is_digit c = leb 48 c && leb c 57

abbrev pub sign_byte : ℤ → ℕ
sign_byte (pos n) = 43
sign_byte (negsuc n) = 45

-- ---- written

-- digit by digit from the right, each time a tenth of what is left, until nothing is left; at most so many digits
unfoldable pub digits_up_to : ℕ → ℕ → List ℕ
digits_up_to zero n = []
digits_up_to (suc most) n = cond (ltb n 10) [] (digits_up_to most (n / 10)) ++ digit_byte (n % 10) ∷ []

-- twenty digits hold every number of 64 bits whole
unfoldable pub decimal : ℕ → List ℕ
decimal n = digits_up_to 20 n

-- the sign, the dollars, a point, two digits
unfoldable pub amount_text : ℤ → List ℕ
amount_text z = let c = nat_abs z in
    sign_byte z ∷ decimal (c / 100) ++ 46 ∷ digit_byte (c / 10 % 10) ∷ digit_byte (c % 10) ∷ []

-- blanks, then the text, at the field's width; `write` asks it only where the text fits
unfoldable pub amount_field : ℕ → ℤ → List ℕ
amount_field width z = replicate (width - length (amount_text z)) 32 ++ amount_text z

-- ---- read: each part gives its value and the next reading place, or is missing

pub record Part (A : Type 0) : Type 0 where
  pub value : A
  pub next : ℕ

unfoldable pub blank_count : List ℕ → ℕ
blank_count [] = 0
blank_count (c ∷ s) = cond (eqb c 32) (suc (blank_count s)) 0

unfoldable pub digit_count : List ℕ → ℕ
digit_count [] = 0
digit_count (c ∷ s) = cond (is_digit c) (suc (digit_count s)) 0

-- the number that the first n digits make
unfoldable pub digits_value : List ℕ → ℕ → ℕ
digits_value s zero = 0
digits_value s (suc n) = 10 * digits_value s n + (get_or s n 0 - 48)

module _ (s : List ℕ) (at : ℕ) where
  -- none or more blanks: they are never missing
  unfoldable pub past_blanks : ℕ
  past_blanks = at + blank_count (drop at s)

  -- whether it is a minus
  unfoldable pub sign_at : Option (Part Bool)
  sign_at = let c = get_or s at 0 in
      cond (eqb c 43 || eqb c 45) (Some (record { value = eqb c 45; next = at + 1 })) None

  -- one to ten digits, as many as stand there, the first of several no zero
  unfoldable pub dollars_at : Option (Part ℕ)
  dollars_at = let n = digit_count (drop at s) in
      cond (leb 1 n && leb n 10 && (eqb n 1 || not (eqb (get_or s at 0) 48)))
      (Some (record { value = digits_value (drop at s) n; next = at + n })) None

  -- a point and two digits
  unfoldable pub cents_at : Option (Part ℕ)
  cents_at = cond (eqb (get_or s at 0) 46 && is_digit (get_or s (at + 1) 0) && is_digit (get_or s (at + 2) 0))
      (Some (record { value = digits_value (drop (at + 1) s) 2; next = at + 3 })) None

-- no minus zero
unfoldable pub with_minus : Bool → ℕ → Option ℤ
with_minus false c = Some (pos c)
with_minus true zero = None
with_minus true (suc c) = Some (negsuc c)

-- what follows a part, where it is there
abbrev pub bind : {A B : Type 0} → Option A → (A → Option B) → Option B
bind part next = option_and_then next part

-- blanks, sign, dollars, cents, and nothing after the cents; a part that is missing ends the reading
unfoldable pub amount_in : List ℕ → Option ℤ
amount_in s =
    bind (sign_at s (past_blanks s 0)) (λ sign.
    bind (dollars_at s sign.next) (λ dollars.
    bind (cents_at s dollars.next) (λ cents.
    cond (eqb cents.next (length s)) (with_minus sign.value (100 * dollars.value + cents.value)) None)))
