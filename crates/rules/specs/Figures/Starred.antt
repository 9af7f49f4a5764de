-- The starred figures of document 01, "Figures to check by", and those of document 02, A8: one statement over one list of cases.
use Rattle.std.specs.Prelude.{ℕ, true, List, [], ◌∷◌, ℤ, pos, neg_ℤ, length, get_or, replicate}
use Rattle.whole.specs.Below.{values_below}
use Rattle.rules.specs.Record.{entry}
use Rattle.rules.specs.Deviation.{deviation}
use Rattle.rules.specs.Share.{share}
use Rattle.rules.specs.Charge.{cents}
use Rattle.rules.specs.Text.{bytes}
use Rattle.rules.specs.Refusals.{accepted, refused_at}
use Rattle.rules.specs.Settling.{write}
use Rattle.rules.specs.Figures.Cases.{Case, ◌is◌, AllRight}

-- the deviation of a record with these words, and the shares of a number over these demands
abbrev pub deviation_of : List ℕ → ℤ
deviation_of words = deviation (entry (λ w. get_or words w 0))

abbrev pub shares_of : ℤ → List ℕ → List ℤ
shares_of U ds = values_below (share (λ i. true) (λ i. get_or ds i 0) (length ds) U) (length ds)

-- a field of so many columns, of other bytes, so that what is written shows
abbrev pub columns : ℕ → List ℕ
columns n = replicate n 35

unfoldable pub starred : List Case
starred =
    --          kind member area S      A     J   N   O     M      F       H
    deviation_of (1 ∷ 0 ∷ 0 ∷ 1000 ∷ 900 ∷ 0 ∷ 0 ∷ 0 ∷ 2000 ∷ 9800 ∷ 9800 ∷ 0 ∷ []) is pos 980000
    ∷ deviation_of (1 ∷ 0 ∷ 0 ∷ 1000 ∷ 1100 ∷ 0 ∷ 0 ∷ 0 ∷ 2000 ∷ 9800 ∷ 9800 ∷ 0 ∷ []) is neg_ℤ (pos 980000)
    ∷ deviation_of (1 ∷ 0 ∷ 0 ∷ 1000 ∷ 1000 ∷ 0 ∷ 0 ∷ 600 ∷ 1500 ∷ 10000 ∷ 10000 ∷ 0 ∷ []) is pos 1000000
    ∷ deviation_of (1 ∷ 0 ∷ 0 ∷ 1000 ∷ 1000 ∷ 0 ∷ 0 ∷ 500 ∷ 1500 ∷ 10000 ∷ 10000 ∷ 0 ∷ []) is pos 0
    ∷ deviation_of (2 ∷ 0 ∷ 0 ∷ 500 ∷ 450 ∷ 0 ∷ 30 ∷ 500 ∷ 0 ∷ 0 ∷ 0 ∷ 0 ∷ []) is pos 0
    ∷ deviation_of (4 ∷ 0 ∷ 0 ∷ 300 ∷ 0 ∷ 50 ∷ 0 ∷ 0 ∷ 0 ∷ 10000 ∷ 9000 ∷ 0 ∷ []) is pos 750000
    ∷ deviation_of (5 ∷ 0 ∷ 0 ∷ 200 ∷ 180 ∷ 30 ∷ 0 ∷ 0 ∷ 0 ∷ 0 ∷ 0 ∷ 0 ∷ []) is neg_ℤ (pos 100000)
    ∷ shares_of (pos 10) (1 ∷ 1 ∷ 1 ∷ []) is (pos 4 ∷ pos 3 ∷ pos 3 ∷ [])
    ∷ shares_of (neg_ℤ (pos 10)) (1 ∷ 1 ∷ 1 ∷ []) is (neg_ℤ (pos 4) ∷ neg_ℤ (pos 3) ∷ neg_ℤ (pos 3) ∷ [])
    ∷ shares_of (pos 5) (2 ∷ 1 ∷ []) is (pos 3 ∷ pos 2 ∷ [])
    -- halves go to the even cent
    ∷ cents (pos 5000000) is pos 0
    ∷ cents (neg_ℤ (pos 5000000)) is pos 0
    ∷ cents (pos 15000000) is pos 2
    ∷ cents (neg_ℤ (pos 15000000)) is neg_ℤ (pos 2)
    ∷ cents (pos 25000000) is pos 2
    ∷ cents (neg_ℤ (pos 25000000)) is neg_ℤ (pos 2)
    ∷ write (columns 7) (neg_ℤ (pos 123)) is record { verdict = accepted; field = bytes "  -1.23" }
    ∷ write (columns 5) (neg_ℤ (pos 123)) is record { verdict = accepted; field = bytes "-1.23" }
    ∷ write (columns 4) (neg_ℤ (pos 123)) is record { verdict = refused_at 9 0; field = columns 4 }
    ∷ []

abbrev pub StarredRight : Type 0
StarredRight = AllRight starred
