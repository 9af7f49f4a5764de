-- Cents, dollars and sign are stored one before the other, from the text's end.
use Prim.Native.Nat.{ℕ, zero, suc, ◌+◌, ◌-◌, ◌/◌, ◌%◌, ◌≤◌, ◌<◌}
use mathlib.Core.Path.{◌≡◌, refl, sym, ◌∙◌, ap}
use mathlib.Core.List.{List, [], ◌∷◌, ◌++◌}
use native.Mathlib.Nat.{add-zero}
use native.Mathlib.Omega.{arith}
use lib.IntN.{ℤ, nat_abs}
use lib.ListN.{length, take, set, replicate}
use lib.Seq.{sets, set_comm}
use Rattle.whole.proofs.Machine.{read_back}
use Rattle.whole.proofs.Stores.{stored_to_the_end}
use Rattle.rules.specs.Text.{amount_field, amount_text, decimal, digit_byte, sign_byte}
use Rattle.rules.proofs.Text.{text_length, text_fits_14}
use Rattle.amount.proofs.writing.write_amount.Goals as goal
use Rattle.amount.proofs.writing.write_amount.Goals.{After-unsigned_abs-size}

-- ---- the stores make the text

-- a value stored before others may as well be stored first
stored-before : (xs l : List ℕ) (i j x : ℕ) → j < i → set (sets l i xs) j x ≡ sets (set l j x) i xs
stored-before [] l i j x h = refl
stored-before (a ∷ xs) l i j x h =
    stored-before xs (set l i a) (suc i) j x (omega arith) ∙ ap (λ (m : List ℕ). sets m (suc i) xs) (set_comm l i j a x (λ e. omega arith))

runs-joined : (xs ys l : List ℕ) (i : ℕ) → sets (sets l (i + length xs) ys) i xs ≡ sets l i (xs ++ ys)
runs-joined [] ys l i = rw add-zero
runs-joined (x ∷ xs) ys l i =
    let along : i + length (x ∷ xs) ≡ suc i + length xs = omega arith in
    rw (stored-before ys l (i + length (x ∷ xs)) i x (omega arith), along) (runs-joined xs ys (set l i x) (suc i))

first-blanks : (k m : ℕ) → k ≤ m → take {A = ℕ} k (replicate m 32) ≡ replicate k 32
first-blanks zero m h = refl
first-blanks (suc k) zero h = absurd (omega arith)
first-blanks (suc k) (suc m) h = ap (λ (l : List ℕ). 32 ∷ l) (first-blanks k m (omega arith))

module _ (z : ℤ) (short : length (amount_text z) ≤ 14) where
  abbrev dollars : List ℕ
  dollars = decimal (nat_abs z / 100)

  abbrev cents : List ℕ
  cents = 46 ∷ digit_byte (nat_abs z / 10 % 10) ∷ digit_byte (nat_abs z % 10) ∷ []

  abbrev sign_at : ℕ
  sign_at = 20 - length (amount_text z)

  at_sign : 17 - length dollars - 1 ≡ sign_at
  at_sign = omega (arith, text_length z)

  at-dollars : 17 - length dollars ≡ suc sign_at
  at-dollars = omega (arith, text_length z)

  at-cents : 17 ≡ sign_at + length (sign_byte z ∷ dollars)
  at-cents = omega (arith, text_length z)

  at_end : sign_at + length (amount_text z) ≡ 20
  at_end = omega arith

  one-run : (l : List ℕ) → length l ≡ 20 →
      set (sets (sets l 17 cents) (17 - length dollars) dollars) (17 - length dollars - 1) (sign_byte z) ≡ take sign_at l ++ amount_text z
  unfolding amount_text
  one-run l e =
      ap (λ (k : ℕ). set (sets (sets l k cents) (17 - length dollars) dollars) (17 - length dollars - 1) (sign_byte z)) at-cents
      ∙ rw (at_sign, at-dollars) (stored-before dollars _ (suc sign_at) sign_at (sign_byte z) (omega arith)
      ∙ runs-joined (sign_byte z ∷ dollars) cents l sign_at
      ∙ stored_to_the_end (amount_text z) l sign_at (at_end ∙ sym e))

  whole_text : set (sets (sets (replicate 20 32) 17 cents) (17 - length dollars) dollars) (17 - length dollars - 1) (sign_byte z)
      ≡ amount_field 20 z
  unfolding amount_field
  whole_text = one-run (replicate 20 32) refl ∙ ap (λ (l : List ℕ). l ++ amount_text z) (first-blanks sign_at 20 (omega arith))

-- ---- the needs

-- the size that the code computes, and how many digits its dollars have
sized : (c : goal.After-unsigned_abs-size) → c.unsigned_abs-size.result ≡ nat_abs c.args.cents
sized c = c.unsigned_abs-size.ensures.value ∙ ap nat_abs (read_back c.ranges.cents)

few : (c : goal.After-unsigned_abs-size) → length (decimal (c.unsigned_abs-size.result / 100)) ≤ 10
few c = let z = c.args.cents in rw (sized c) (omega (arith, text_fits_14 z c.requires.0, text_length z))

pub write_digits-at-requires : goal.write_digits-at-requires
write_digits-at-requires c = omega (arith, few (goal.at.write_digits-at-requires c).After-unsigned_abs-size)

-- text::write_digits(text, 17, dollars) - 1
pub overflow_sub-at : goal.overflow_sub-at
overflow_sub-at c = omega (arith, c.write_digits-at.ensures.first, few (goal.at.overflow_sub-at c).After-unsigned_abs-size)

pub returns : goal.returns
returns c =
    let w = c.write_digits-at in
    let s = c in
    let z = s.args.cents in
    let short = text_fits_14 z s.requires.0 in
    rw (
      w.ensures.text,
      w.ensures.first,
      c.sign_byte.ensures,
      read_back s.ranges.cents,
      c.last_digit-2.ensures,
      c.last_digit.ensures,
      sized (goal.at.returns c).After-unsigned_abs-size,
      s.requires.1,
    )
    record {
      length = omega (arith, text_length z);
      text = whole_text z short;
    }
