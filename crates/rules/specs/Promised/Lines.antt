-- Printed texts read a second way: cut at line feeds and at blanks, whatever put them together. What a refusal's line says.
-- Document 01, "The printed statement".
use Rattle.std.specs.Prelude.{ℕ, ◌≡◌, true, false, cond, ◌&&◌, List, [], ◌∷◌, ℤ, length, get_or, leb, eqb, Option, None, Some}
use Rattle.rules.specs.Text.{bind}
use Rattle.rules.specs.Text.{bytes, digit_count, digits_value, with_minus}
use Rattle.rules.specs.Refusals.{Verdict}

-- ---- a text in parts

abbrev pub in_first : ℕ → List (List ℕ) → List (List ℕ)
in_first c [] = (c ∷ []) ∷ []
in_first c (part ∷ parts) = (c ∷ part) ∷ parts

-- what stands before, between and after the bytes of this value: one part more than there are such bytes
unfoldable pub parts_at : (byte : ℕ) → List ℕ → List (List ℕ)
parts_at byte [] = [] ∷ []
parts_at byte (c ∷ s) = cond (eqb c byte) ([] ∷ parts_at byte s) (in_first c (parts_at byte s))

-- a line feed is 10; what stands after the last one counts as a line
abbrev pub lines_of : List ℕ → List (List ℕ)
lines_of text = parts_at 10 text

abbrev pub line_at : List ℕ → ℕ → List ℕ
line_at text k = get_or (lines_of text) k []

-- a blank is 32
abbrev pub words_of : List ℕ → List (List ℕ)
words_of line = parts_at 32 line

abbrev pub word_at : List ℕ → ℕ → List ℕ
word_at line k = get_or (words_of line) k []

-- ---- a number: digits and nothing else, one at least, and - (45) before them if it is negative

unfoldable pub natural_in : List ℕ → Option ℕ
natural_in s = cond (leb 1 (length s) && eqb (digit_count s) (length s)) (Some (digits_value s (length s))) None

unfoldable pub number_in : List ℕ → Option ℤ
number_in [] = None
number_in (c ∷ s) = cond (eqb c 45) (bind (natural_in s) (with_minus true)) (bind (natural_in (c ∷ s)) (with_minus false))

-- ---- a refusal: one line and nothing else, of four words

pub record SaysRefused (text : List ℕ) (v : Verdict) : Type 0 where
  pub one_line : length (lines_of text) ≡ 2
  pub nothing_else : line_at text 1 ≡ []
  pub four_words : length (words_of (line_at text 0)) ≡ 4
  pub refused_is : word_at (line_at text 0) 0 ≡ bytes "refused"
  pub number_read : natural_in (word_at (line_at text 0) 1) ≡ Some v.number
  pub at_is : word_at (line_at text 0) 2 ≡ bytes "at"
  pub place_read : natural_in (word_at (line_at text 0) 3) ≡ Some v.place
