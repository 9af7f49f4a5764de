-- Half cents as figures: amounts of both units at a half and one part to either side of it, hours without demand in which half cents decide
-- on row 12, since N is the sum of the rounded charges, and a ten-minute hour of half cents. Document 02, A8, A1 and A7.
use Rattle.std.specs.Prelude.{ℕ, ◌≡◌, List, [], ◌∷◌, ◌++◌, pos, neg_ℤ, replicate}
use Rattle.rules.specs.Charge.{cents_of, cents}
use Rattle.rules.specs.Refusals.{accepted}
use Rattle.rules.specs.Settling.{no_figures, settle}
use Rattle.rules.specs.TenMinutes.{settle_ten_minutes}
use Rattle.rules.specs.Figures.Cases.{Case, ◌is◌, AllRight}
use Rattle.rules.specs.Figures.Files.{used_buffers, first, other}
use Rattle.rules.specs.Figures.Refused.{refused}
use Rattle.rules.specs.Figures.EveryInterval.{first_ten, other_ten, times6, used_charges}

-- ---- amounts: 5,000,000 grains and 120,000,000 24ths of grains are half a cent

unfoldable pub beside_halves : List Case
beside_halves =
    cents (pos 4999999) is pos 0
    ∷ cents (pos 5000001) is pos 1
    ∷ cents (pos 14999999) is pos 1
    ∷ cents (pos 15000001) is pos 2
    ∷ cents (pos 24999999) is pos 2
    ∷ cents (pos 25000001) is pos 3
    ∷ cents (neg_ℤ (pos 5000001)) is neg_ℤ (pos 1)
    ∷ cents (neg_ℤ (pos 14999999)) is neg_ℤ (pos 1)
    ∷ cents (neg_ℤ (pos 25000001)) is neg_ℤ (pos 3)
    -- halves behind three cents and four
    ∷ cents (pos 35000000) is pos 4
    ∷ cents (neg_ℤ (pos 45000000)) is neg_ℤ (pos 4)
    ∷ []

unfoldable pub halves_of_24ths : List Case
halves_of_24ths =
    cents_of 240000000 (pos 120000000) is pos 0
    ∷ cents_of 240000000 (pos 120000001) is pos 1
    ∷ cents_of 240000000 (pos 359999999) is pos 1
    ∷ cents_of 240000000 (pos 360000000) is pos 2
    ∷ cents_of 240000000 (neg_ℤ (pos 360000000)) is neg_ℤ (pos 2)
    ∷ cents_of 240000000 (neg_ℤ (pos 600000000)) is neg_ℤ (pos 2)
    ∷ cents_of 240000000 (neg_ℤ (pos 600000001)) is neg_ℤ (pos 3)
    ∷ []

-- ---- row 12

-- an export: a kWh that is scheduled is worth -5,000,000 grains at a price of 500, a kWh that is taken 5,000,000
abbrev pub exported : (member scheduled taken : ℕ) → List ℕ
exported member scheduled taken = 5 ∷ member ∷ 0 ∷ scheduled ∷ taken ∷ replicate 7 0

-- an hour of one zone at 500 and one area, with so many members and an export for each
abbrev pub exports_of : (members : ℕ) → List ℕ → List ℕ
exports_of members exports = first 1 (7 ∷ members ∷ 1 ∷ 1 ∷ 500 ∷ []) ++ other 1 members 0 exports

unfoldable pub without_demand : List Case
without_demand =
    -- 15, -5 and -5 million grains: 2, 0 and 0 cents, which is not nothing; 2, -1 and -1 would be
    refused 12 0 (exports_of 3 (exported 0 0 3 ++ exported 1 1 0 ++ exported 2 1 0))
    -- 15 and -25 million grains: 2 and -2 cents; 2 and -3 would be refused
    ∷ settle (exports_of 2 (exported 0 0 3 ++ exported 1 5 0)) used_buffers is record {
      verdict = accepted;
      ufe = no_figures;
      buffers = record {
        charges = pos 2 ∷ neg_ℤ (pos 2) ∷ pos 9 ∷ [];
        finals = pos 2 ∷ neg_ℤ (pos 2) ∷ pos 4 ∷ [];
        shares = pos 0 ∷ pos 0 ∷ pos 8 ∷ [];
        deviations = neg_ℤ (pos 30000) ∷ pos 50000 ∷ pos 7 ∷ [];
        lines = record { amount = pos 15000000; records = 1 }
            ∷ record { amount = neg_ℤ (pos 25000000); records = 1 }
            ∷ record { amount = pos 6; records = 5 } ∷ [];
      };
    }
    ∷ []

-- ---- ten minutes

-- an export that takes `early` in interval 1, `late` in the others; a sixth of `scheduled` is scheduled in each
abbrev pub exported_in : (member scheduled early late : ℕ) → List ℕ
exported_in member scheduled early late = 5 ∷ member ∷ 0 ∷ scheduled ∷ replicate 4 0 ++ early ∷ replicate 5 late ++ replicate 16 0

-- four members, one zone at 500, one area: half a cent, one and a half, minus one and a half, minus two and a half
unfoldable pub halves_by_interval : List ℕ
halves_by_interval = first_ten 1 (7 ∷ 4 ∷ 1 ∷ 1 ∷ replicate 36 0 ++ times6 500 ++ times6 500)
    ++ other_ten 1 4 0 (exported_in 0 0 1 0 ++ exported_in 1 0 3 0 ++ exported_in 2 18 0 3 ++ exported_in 3 30 0 5)

pub record HalfCentsRight : Type 0 where
  pub beside_halves_lem : AllRight beside_halves
  pub of_24ths : AllRight halves_of_24ths
  pub without_demand_lem : AllRight without_demand
  pub by_interval : settle_ten_minutes halves_by_interval (used_charges 5)
      ≡ record { verdict = accepted; charges = pos 0 ∷ pos 2 ∷ neg_ℤ (pos 2) ∷ neg_ℤ (pos 2) ∷ pos 9 ∷ [] }
