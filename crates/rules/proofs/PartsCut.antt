-- A text cut at a byte: a part in which that byte doesn't stand is cut off whole; digits have neither line feeds nor blanks among them; and
-- the decimal digits of a number are read as that number. Document 02, A5.
use mathlib.Core.Path.{◌≡◌, refl, ◌∙◌, ap}
use mathlib.Core.Bool.{Bool, true, false, not, cond, ◌&&◌}
use Rattle.std.specs.Prelude.{Some}
use Rattle.rules.specs.Text.{bind}
use mathlib.Core.List.{List, [], ◌∷◌, ◌++◌, append_assoc, append-nil}
use Prim.Native.Nat.{ℕ, zero, suc, ◌/◌, ◌%◌, ◌^◌, ◌≤◌, ◌<◌}
use native.Mathlib.Nat.{add-zero}
use native.Mathlib.Omega.{arith}
use lib.Dec.{ltb, eqb}
use lib.IntN.{ℤ, pos, negsuc, nat_abs}
use lib.ListN.{length, get_or}
use borrow.Author.Tests.{le-leb, eq-eqb, ne_eqb, not-true}
use Rattle.whole.proofs.Tests.{split, both}
use Rattle.rules.specs.Text.{bytes, digit_byte, digits_up_to, decimal, digit_count, digits_value, with_minus}
use Rattle.rules.specs.Refusals.{Verdict}
use Rattle.rules.specs.Statement.{refused_line}
use Rattle.rules.specs.Explanation.{signed_decimal}
use Rattle.rules.specs.Promised.Lines.{parts_at, lines_of, words_of, natural_in, number_in, SaysRefused}
use Rattle.rules.proofs.Digits.{DigitsOf, one, more, all_counted, make_the_number, decimal_digits, decimal_at_least_1}

-- ---- parts

-- the byte stands nowhere in the text
unfoldable pub lacks : ℕ → List ℕ → Bool
lacks byte [] = true
lacks byte (c ∷ s) = not (eqb c byte) && lacks byte s

pub lacks_both : (byte : ℕ) (s t : List ℕ) → lacks byte s ≡ true → lacks byte t ≡ true → lacks byte (s ++ t) ≡ true
unfolding lacks
lacks_both byte [] t p q = q
lacks_both byte (c ∷ s) t p q = let b = both (not (eqb c byte)) (lacks byte s) p in rw b.0 (lacks_both byte s t b.1 q)

pub digit_lacks : (d : ℕ) → eqb (digit_byte d) 10 ≡ false
digit_lacks d = ne_eqb (digit_byte d) 10 (λ e. omega arith)

module _ (byte : ℕ) where
  pub part_and_rest : (s rest : List ℕ) → lacks byte s ≡ true → parts_at byte (s ++ byte ∷ rest) ≡ s ∷ parts_at byte rest
  unfolding lacks parts_at
  part_and_rest [] rest p = rw (eq-eqb byte byte refl)
  part_and_rest (c ∷ s) rest p = let b = both (not (eqb c byte)) (lacks byte s) p in
      rw (not-true (eqb c byte) b.0, part_and_rest s rest b.1)

  pub last_part : (s : List ℕ) → lacks byte s ≡ true → parts_at byte s ≡ s ∷ []
  unfolding lacks parts_at
  last_part [] p = refl
  last_part (c ∷ s) p = let b = both (not (eqb c byte)) (lacks byte s) p in rw (not-true (eqb c byte) b.0, last_part s b.1)

  -- ---- digits

  digits_lack : byte < 48 → (k n : ℕ) → lacks byte (digits_up_to k n) ≡ true
  unfolding lacks digits_up_to
  digits_lack small zero n = refl
  digits_lack small (suc k) n = lacks_both byte (cond (ltb n 10) [] (digits_up_to k (n / 10))) (digit_byte (n % 10) ∷ [])
      (split (ltb n 10) (λ t. rw t) (λ f. rw f (digits_lack small k (n / 10))))
      (rw (ne_eqb (digit_byte (n % 10)) byte (λ e. omega arith)))

  pub decimal_lacks : byte < 48 → (n : ℕ) → lacks byte (decimal n) ≡ true
  unfolding decimal
  decimal_lacks small n = digits_lack small 20 n

  pub signed_lacks : byte < 45 → (z : ℤ) → lacks byte (signed_decimal z) ≡ true
  unfolding signed_decimal lacks
  signed_lacks small (pos n) = decimal_lacks (omega arith) n
  signed_lacks small (negsuc n) = rw (ne_eqb 45 byte (λ e. omega arith)) (decimal_lacks (omega arith) (suc n))

-- ---- a number's digits are read as that number

begins_with_digit : {n : ℕ} {s : List ℕ} → DigitsOf n s → (t : List ℕ) → 48 ≤ get_or (s ++ t) 0 0
begins_with_digit (one n l) t = omega arith
begins_with_digit (more {s = s} d p l r) t = rw (append_assoc s (digit_byte d ∷ []) t) (begins_with_digit r (digit_byte d ∷ t))

pub natural_read : (n : ℕ) → n < 10 ^ 20 → natural_in (decimal n) ≡ Some n
unfolding natural_in digit_count
natural_read n h =
    let digits = decimal_digits n h in
    let counted : digit_count (decimal n) ≡ length (decimal n) = rw append-nil at (all_counted digits []) ∙ add-zero (length (decimal n)) in
    let value : digits_value (decimal n) (length (decimal n)) ≡ n = rw append-nil at (make_the_number digits []) in
    rw (counted, eq-eqb (length (decimal n)) (length (decimal n)) refl, le-leb 1 (length (decimal n)) (decimal_at_least_1 n), value)

no_sign : (s : List ℕ) → 48 ≤ get_or s 0 0 → number_in s ≡ bind (natural_in s) (with_minus false)
unfolding number_in
no_sign [] l = absurd (omega arith)
no_sign (c ∷ s) l = rw (ne_eqb c 45 (λ e. omega arith))

pub number_read : (z : ℤ) → nat_abs z < 10 ^ 20 → number_in (signed_decimal z) ≡ Some z
unfolding number_in signed_decimal with_minus
number_read (pos n) h =
    no_sign (decimal n) (rw append-nil at (begins_with_digit (decimal_digits n h) [])) ∙ rw (natural_read n h)
number_read (negsuc n) h = rw (natural_read (suc n) h)

-- ---- a refusal's line

abbrev pub refused_text : Verdict → List ℕ
refused_text v = bytes "refused " ++ decimal v.number ++ bytes " at " ++ decimal v.place

pub refused_cut : (v : Verdict) → lines_of (refused_line v) ≡ refused_text v ∷ [] ∷ []
unfolding refused_line parts_at lacks
refused_cut v = part_and_rest 10 (refused_text v) []
    (lacks_both 10 (bytes "refused " ++ decimal v.number ++ bytes " at ") (decimal v.place)
    (lacks_both 10 (bytes "refused " ++ decimal v.number) (bytes " at ")
    (decimal_lacks 10 (omega arith) v.number) refl)
    (decimal_lacks 10 (omega arith) v.place))

refused_words : (v : Verdict) → words_of (refused_text v)
    ≡ bytes "refused" ∷ decimal v.number ∷ bytes "at" ∷ decimal v.place ∷ []
unfolding lacks
refused_words v = simp append_assoc (
    part_and_rest 32 (bytes "refused") (decimal v.number ++ (bytes " at " ++ decimal v.place)) refl
    ∙ ap (λ (t : List (List ℕ)). bytes "refused" ∷ t)
    (part_and_rest 32 (decimal v.number) (bytes "at " ++ decimal v.place) (decimal_lacks 32 (omega arith) v.number)
    ∙ ap (λ (t : List (List ℕ)). decimal v.number ∷ t)
    (part_and_rest 32 (bytes "at") (decimal v.place) refl
    ∙ ap (λ (t : List (List ℕ)). bytes "at" ∷ t) (last_part 32 (decimal v.place) (decimal_lacks 32 (omega arith) v.place)))))

pub says_refused : (v : Verdict) → v.number < 10 ^ 20 → v.place < 10 ^ 20 → SaysRefused (refused_line v) v
says_refused v number place = record {
  one_line = rw (refused_cut v);
  nothing_else = rw (refused_cut v);
  four_words = rw (refused_cut v, refused_words v);
  refused_is = rw (refused_cut v, refused_words v);
  number_read = rw (refused_cut v, refused_words v) (natural_read v.number number);
  at_is = rw (refused_cut v, refused_words v);
  place_read = rw (refused_cut v, refused_words v) (natural_read v.place place);
}
