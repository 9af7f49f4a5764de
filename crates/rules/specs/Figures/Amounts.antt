-- Amounts read and written at each limit and one past it, shares by both engines, columns and lines of a statement, as figures.
-- Document 01, "Text amounts", "The printed statement", "The sums"; document 02, A14.
use Rattle.std.specs.Prelude.{ℕ, Bool, not, List, [], ◌∷◌, ◌++◌, ℤ, pos, neg_ℤ, length, get_or, replicate, eqb}
use Rattle.whole.specs.Below.{values_below}
use Rattle.rules.specs.HourFile.{hourly}
use Rattle.rules.specs.HourWords.{hour_from}
use Rattle.rules.specs.Share.{share, ranked_size}
use Rattle.rules.specs.Text.{bytes, decimal}
use Rattle.rules.specs.Refusals.{accepted, refused_at}
use Rattle.rules.specs.Settling.{ReadAmount, read, empty_line, ufe_figures}
use Rattle.rules.specs.Statement.{column, member_line}
use Rattle.rules.specs.Figures.Cases.{Case, ◌is◌, AllRight}

-- ---- amounts read

abbrev pub read_as : ℤ → ReadAmount
read_as z = record { verdict = accepted; amount = z }

abbrev pub not_read : ReadAmount
not_read = record { verdict = refused_at 10 0; amount = pos 0 }

unfoldable pub amounts_read : List Case
amounts_read =
    read (bytes "+0.00") is read_as (pos 0)
    ∷ read (bytes "  -0.01") is read_as (neg_ℤ (pos 1))
    ∷ read (bytes "-9.09") is read_as (neg_ℤ (pos 909))
    ∷ read (bytes "+10.90") is read_as (pos 1090)
    -- ten digits of dollars, and eleven
    ∷ read (bytes "+9876543210.12") is read_as (pos 987654321012)
    ∷ read (bytes "+19876543210.12") is not_read
    -- nothing, blanks alone, no sign, no dollars, a zero before others, minus zero
    ∷ read [] is not_read
    ∷ read (bytes "   ") is not_read
    ∷ read (bytes "1.00") is not_read
    ∷ read (bytes "+.00") is not_read
    ∷ read (bytes "+01.00") is not_read
    ∷ read (bytes "-0.00") is not_read
    -- the characters beside the digits, beside the signs and beside the point
    ∷ read (bytes "+/.00") is not_read
    ∷ read (bytes "+:.00") is not_read
    ∷ read (bytes "+1./0") is not_read
    ∷ read (bytes "+1.0/") is not_read
    ∷ read (bytes "+1.:0") is not_read
    ∷ read (bytes "+1.0:") is not_read
    ∷ read (bytes "*1.00") is not_read
    ∷ read (bytes ",1.00") is not_read
    ∷ read (bytes ".1.00") is not_read
    ∷ read (bytes "+1-00") is not_read
    ∷ read (bytes "+1/00") is not_read
    -- one digit of cents, three, a blank inside and behind
    ∷ read (bytes "+1.0") is not_read
    ∷ read (bytes "+1.000") is not_read
    ∷ read (bytes "+ 1.00") is not_read
    ∷ read (bytes "+1.00 ") is not_read
    ∷ read (bytes "! +1.00") is not_read
    ∷ []

-- ---- numbers, columns and lines written

unfoldable pub written : List Case
written =
    decimal 0 is bytes "0"
    ∷ decimal 9 is bytes "9"
    ∷ decimal 10 is bytes "10"
    ∷ decimal 99 is bytes "99"
    -- twenty digits, and of more the last twenty
    ∷ decimal 18446744073709551615 is bytes "18446744073709551615"
    ∷ decimal 318446744073709551615 is bytes "18446744073709551615"
    ∷ column (neg_ℤ (pos 999999999999)) is bytes "-9999999999.99"
    -- an amount that can't be written leaves blanks
    ∷ column (pos 1000000000000) is replicate 14 32
    ∷ member_line 31 (pos 100) (neg_ℤ (pos 5)) is bytes "31          +1.00          -0.05\n"
    ∷ member_line 9 (pos 0) (pos 0) is bytes "09          +0.00          +0.00\n"
    ∷ empty_line is record { amount = pos 0; records = 0 }
    -- one area; the ties of a second are past the count
    ∷ ufe_figures (hour_from hourly (7 ∷ 1 ∷ 1 ∷ 1 ∷ replicate 5 0 ++ 2 ∷ 1 ∷ 0 ∷ 0 ∷ 5 ∷ []) []) is (pos 10000 ∷ replicate 7 (pos 0))
    ∷ []

-- ---- shares by both engines: handed out one by one, and by rank

-- all places but the second take part
abbrev pub but_second : ℕ → Bool
but_second i = not (eqb i 1)

abbrev pub handed : (U : ℕ) → List ℕ → List ℤ
handed U ds = values_below (share but_second (λ i. get_or ds i 0) (length ds) (pos U)) (length ds)

abbrev pub ranked : (U : ℕ) → List ℕ → List ℕ
ranked U ds = values_below (ranked_size but_second (λ i. get_or ds i 0) (length ds) U) (length ds)

unfoldable pub shares : List Case
shares =
    -- of two that stand alike the earlier, of others the larger remainder
    handed 10 (1 ∷ 5 ∷ 1 ∷ 1 ∷ []) is (pos 4 ∷ pos 0 ∷ pos 3 ∷ pos 3 ∷ [])
    ∷ ranked 10 (1 ∷ 5 ∷ 1 ∷ 1 ∷ []) is (4 ∷ 0 ∷ 3 ∷ 3 ∷ [])
    ∷ handed 11 (2 ∷ 5 ∷ 3 ∷ 2 ∷ []) is (pos 3 ∷ pos 0 ∷ pos 5 ∷ pos 3 ∷ [])
    ∷ ranked 11 (2 ∷ 5 ∷ 3 ∷ 2 ∷ []) is (3 ∷ 0 ∷ 5 ∷ 3 ∷ [])
    -- nobody who takes part demands anything
    ∷ handed 10 (0 ∷ 5 ∷ 0 ∷ []) is (pos 0 ∷ pos 0 ∷ pos 0 ∷ [])
    ∷ ranked 10 (0 ∷ 5 ∷ 0 ∷ []) is (0 ∷ 0 ∷ 0 ∷ [])
    ∷ []

pub record AmountsRight : Type 0 where
  pub of_reading : AllRight amounts_read
  pub of_writing : AllRight written
  pub of_sharing : AllRight shares
