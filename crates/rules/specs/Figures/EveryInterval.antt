-- Ten-minute files as figures: for each kind a record at its limits, and each of its words one past them; the same of the head; an hour with
-- every kind of record; for each refusal a small file that breaks it, twice where it has a place, and every row after it; and sheets.
-- Document 02, A7.
use Rattle.std.specs.Prelude.{ℕ, ◌+◌, ◌≡◌, true, false, List, [], ◌∷◌, ◌++◌, ℤ, pos, neg_ℤ, replicate, Option, None}
use Rattle.whole.specs.Below.{values_below}
use Rattle.rules.specs.HourFile.{ten_minutes, length_bad}
use Rattle.rules.specs.HourWords.{hour_from}
use Rattle.rules.specs.Ranges.{keeps, ten_minutes_head_rule, ten_minutes_form}
use Rattle.rules.specs.Refusals.{accepted, refused_at, bad_head, bad_word}
use Rattle.rules.specs.Text.{bytes}
use Rattle.rules.specs.TenMinutes.{interval_price, ten_minutes_amount, ten_minutes_in, settle_ten_minutes}
use Rattle.rules.specs.Statement.{charge_line, ten_minutes_statement}
use Rattle.rules.specs.Figures.Cases.{Case, ◌is◌, AllRight}
use Rattle.rules.specs.Figures.Files.{block, sealed, first, plain_head}
use Rattle.rules.specs.Figures.Limits.{Change, faults, own_places, least_adjustment, too_low}

-- ---- records, in an hour of two members and two areas

unfoldable pub intervals_fault : List ℕ → Option ℕ
intervals_fault words = bad_word ten_minutes_form (hour_from ten_minutes (7 ∷ 2 ∷ 1 ∷ 2 ∷ []) words) 0

abbrev pub intervals_break : List ℕ → List Change → Case
intervals_break words changes = faults intervals_fault 0 words changes is own_places changes

-- six words alike, and six changes, of words one behind the other
abbrev pub times6 : ℕ → List ℕ
times6 v = replicate 6 v

abbrev pub each6 : (from v : ℕ) → List Change
each6 from v = (from, v) ∷ (from + 1, v) ∷ (from + 2, v) ∷ (from + 3, v) ∷ (from + 4, v) ∷ (from + 5, v) ∷ []

-- kind ∷ member ∷ area ∷ this hour ∷ the one before ∷ the next ∷ F ∷ H ∷ six actuals, six adjustments, six ancillary figures, zeros
abbrev pub record_at : (kind beside F actual others ancillary : ℕ) → List ℕ
record_at kind beside F actual others ancillary = kind ∷ 1 ∷ 1 ∷ 100000 ∷ beside ∷ beside ∷ F ∷ F
    ∷ actual ∷ replicate 5 others ++ times6 100000 ++ times6 ancillary ++ replicate 4 0

-- what breaks every kind: another kind, a member and an area that aren't there, the schedule, an adjustment both ways, words 26 to 29
abbrev pub for_every : List Change
for_every = (0, 0) ∷ (0, 6) ∷ (1, 2) ∷ (2, 2) ∷ (3, 100001) ∷ each6 14 100001 ++ each6 14 too_low ++ (26, 1) ∷ (27, 1) ∷ (28, 1) ∷ (29, 1) ∷ []

-- words 4 and 5 where they are used, and where they aren't; so the multipliers
abbrev pub for_ramped : List Change
for_ramped = (4, 100001) ∷ (5, 100001) ∷ []

abbrev pub for_others : List Change
for_others = (4, 1) ∷ (5, 1) ∷ []

abbrev pub for_multiplied : List Change
for_multiplied = (6, 0) ∷ (6, 20001) ∷ (7, 0) ∷ (7, 20001) ∷ []

abbrev pub for_unmultiplied : List Change
for_unmultiplied = (6, 1) ∷ (7, 1) ∷ []

unfoldable pub interval_limits : List Case
interval_limits =
    -- at the upper limits, and at the lower
    intervals_fault (record_at 1 100000 20000 100000 100000 100000) is None
    ∷ intervals_fault (1 ∷ 0 ∷ 0 ∷ 0 ∷ 0 ∷ 0 ∷ 1 ∷ 1 ∷ times6 0 ++ times6 least_adjustment ++ replicate 10 0) is None
    ∷ intervals_break (record_at 1 100000 20000 100000 100000 100000)
    (for_every ++ for_ramped ++ for_multiplied ++ each6 8 100001 ++ each6 20 100001)
    ∷ intervals_fault (record_at 2 100000 0 100000 100000 100000) is None
    ∷ intervals_break (record_at 2 100000 0 100000 100000 100000)
    (for_every ++ for_ramped ++ for_unmultiplied ++ each6 8 100001 ++ each6 20 100001)
    ∷ intervals_fault (record_at 3 0 0 100000 0 100000) is None
    ∷ intervals_break (record_at 3 0 0 100000 0 100000)
    (for_every ++ for_others ++ for_unmultiplied ++ (8, 100001) ∷ (9, 1) ∷ (10, 1) ∷ (11, 1) ∷ (12, 1) ∷ (13, 1) ∷ each6 20 100001)
    ∷ intervals_fault (record_at 4 0 20000 0 0 100000) is None
    ∷ intervals_break (record_at 4 0 20000 0 0 100000) (for_every ++ for_others ++ for_multiplied ++ each6 8 1 ++ each6 20 100001)
    ∷ intervals_fault (record_at 5 0 0 100000 100000 0) is None
    ∷ intervals_break (record_at 5 0 0 100000 100000 0) (for_every ++ for_others ++ for_unmultiplied ++ each6 8 100001 ++ each6 20 1)
    ∷ []

-- ---- the head

unfoldable pub prices_fault : List ℕ → Option ℕ
prices_fault head = bad_head ten_minutes_form (hour_from ten_minutes head [])

abbrev pub prices_break : List ℕ → List Change → Case
prices_break words changes = faults prices_fault 8 words changes is own_places changes

-- 32 members, four zones, eight areas in the last zone: incremental prices of 100,000, decremental of 100,000 below zero
abbrev pub zone_prices : List ℕ
zone_prices = times6 100000 ++ times6 least_adjustment

abbrev pub last_zone : List ℕ
last_zone = 3 ∷ 0 ∷ 0 ∷ 0 ∷ []

unfoldable pub full_prices : List ℕ
full_prices =
    4294967295 ∷ 32 ∷ 4 ∷ 8 ∷ 0 ∷ 0 ∷ 0 ∷ 0
    ∷ last_zone ++ last_zone ++ last_zone ++ last_zone ++ last_zone ++ last_zone ++ last_zone ++ last_zone
    ++ zone_prices ++ zone_prices ++ zone_prices ++ zone_prices ++ replicate 32 0

-- one of each
abbrev pub least_prices : List ℕ
least_prices = 0 ∷ 1 ∷ 1 ∷ 1 ∷ replicate 116 0

unfoldable pub price_limits : List Case
price_limits =
    prices_fault full_prices is None
    -- counts
    ∷ prices_break full_prices ((9, 0) ∷ (9, 33) ∷ (10, 0) ∷ (10, 5) ∷ (11, 0) ∷ (11, 9) ∷ [])
    -- the hourly prices
    ∷ prices_break full_prices ((12, 1) ∷ (13, 1) ∷ (14, 1) ∷ (15, 1) ∷ [])
    -- the first area and the last: a zone that isn't there, the ties, the fourth word
    ∷ prices_break full_prices ((16, 4) ∷ (17, 1) ∷ (18, 1) ∷ (19, 1) ∷ [])
    ∷ prices_break full_prices ((44, 4) ∷ (45, 1) ∷ (46, 1) ∷ (47, 1) ∷ [])
    -- the first price and the last, and all between them
    ∷ prices_break full_prices ((48, 100001) ∷ (48, too_low) ∷ (95, 100001) ∷ (95, too_low) ∷ [])
    ∷ values_below (λ k. keeps (ten_minutes_head_rule 4 8 (48 + k)) 100001) 48 is replicate 48 false
    -- the words behind them, 96 to 127: none may be 1
    ∷ prices_break full_prices ((96, 1) ∷ (127, 1) ∷ [])
    ∷ values_below (λ k. keeps (ten_minutes_head_rule 4 8 (96 + k)) 1) 32 is replicate 32 false
    ∷ prices_fault least_prices is None
    -- a zone that isn't there, the areas past their count, and the prices of the zones past theirs
    ∷ prices_break least_prices ((16, 1) ∷ (20, 1) ∷ (47, 1) ∷ (60, 1) ∷ (127, 1) ∷ [])
    ∷ values_below (λ k. keeps (ten_minutes_head_rule 1 1 (17 + k)) 1) 31 is replicate 31 false
    ∷ values_below (λ k. keeps (ten_minutes_head_rule 1 1 (48 + k)) 1) 12 is replicate 12 true
    ∷ values_below (λ k. keeps (ten_minutes_head_rule 1 1 (60 + k)) 1) 68 is replicate 68 false
    -- with two zones, the zones of the areas past one, and past seven
    ∷ values_below (λ k. keeps (ten_minutes_head_rule 2 1 (17 + k)) 1) 31 is replicate 31 false
    ∷ keeps (ten_minutes_head_rule 2 7 40) 1 is true
    ∷ values_below (λ k. keeps (ten_minutes_head_rule 2 7 (41 + k)) 1) 7 is replicate 7 false
    -- 17 blocks are a length, 18 aren't
    ∷ length_bad ten_minutes (replicate 8704 0) is false
    ∷ length_bad ten_minutes (replicate 9216 0) is true
    ∷ []

-- ---- an hour with every kind of record

-- a first block: the number of other blocks, then the first body; a block that isn't the first: its position, the records held, its word 6,
-- and the records' words
abbrev pub first_ten : ℕ → List ℕ → List ℕ
first_ten others body = sealed (3 ∷ 0 ∷ others ∷ 0 ∷ 0 ∷ 0 ∷ 0 ∷ body)

abbrev pub other_ten : (position count six : ℕ) → List ℕ → List ℕ
other_ten position count six records = sealed (4 ∷ position ∷ count ∷ 0 ∷ 0 ∷ 0 ∷ six ∷ records)

-- four members; area 0 in zone 2, area 1 in zone 0; zone 0 at 5,000 and 4,000, zone 2 at prices that rise, from below zero
abbrev pub rising_prices : List ℕ
rising_prices = 7 ∷ 4 ∷ 3 ∷ 2 ∷ replicate 4 0 ++ 2 ∷ 0 ∷ 0 ∷ 0 ∷ 0 ∷ replicate 27 0 ++ times6 5000 ++ times6 4000 ++ times6 1111 ++ times6 2222
    ++ 3000 ∷ 3100 ∷ 3200 ∷ 3300 ∷ 3400 ∷ 3500 ∷ 4294967096 ∷ 4294967196 ∷ 0 ∷ 100 ∷ 200 ∷ 300 ∷ []

unfoldable pub every_interval : List ℕ
every_interval = first_ten 2 rising_prices
    ++ other_ten 1 4 0 (
    -- an engine that ramps from 480 over 600 to 720 as scheduled
    1 ∷ 0 ∷ 0 ∷ 600 ∷ 480 ∷ 720 ∷ 10000 ∷ 10000 ∷ 95 ∷ 100 ∷ 100 ∷ 100 ∷ 100 ∷ 105 ∷ replicate 16 0
    ++ 2 ∷ 1 ∷ 0 ∷ 240 ∷ 240 ∷ 480 ∷ 0 ∷ 0 ∷ times6 40 ++ 0 ∷ 1 ∷ 0 ∷ 0 ∷ 0 ∷ 0 ∷ 0 ∷ 0 ∷ 0 ∷ 3 ∷ replicate 6 0
    ++ 4 ∷ 1 ∷ 1 ∷ 300 ∷ 0 ∷ 0 ∷ 10000 ∷ 9000 ∷ times6 0 ++ 6 ∷ 0 ∷ 0 ∷ 0 ∷ 0 ∷ 4294967290 ∷ 0 ∷ 0 ∷ 1 ∷ replicate 7 0
    ++ 3 ∷ 2 ∷ 1 ∷ 61 ∷ 0 ∷ 0 ∷ 0 ∷ 0 ∷ 60 ∷ replicate 21 0)
    ++ other_ten 2 2 0 (
    5 ∷ 2 ∷ 0 ∷ 120 ∷ 0 ∷ 0 ∷ 0 ∷ 0 ∷ 20 ∷ 20 ∷ 21 ∷ 20 ∷ 20 ∷ 19 ∷ 0 ∷ 0 ∷ 0 ∷ 0 ∷ 4294967293 ∷ replicate 11 0
    ++ 1 ∷ 2 ∷ 1 ∷ 60 ∷ 60 ∷ 60 ∷ 9800 ∷ 9800 ∷ 9 ∷ 11 ∷ 10 ∷ 10 ∷ 10 ∷ 10 ∷ replicate 16 0)

-- a buffer that holds something else
abbrev pub used_charges : ℕ → List ℤ
used_charges n = replicate n (pos 9)

-- the least net above zero, the least below it, and zero, in the last zone
unfoldable pub least_nets : List Case
least_nets = let price = interval_price (hour_from ten_minutes rising_prices []) 2 4 in
    price (pos 1) is pos 3400
    ∷ price (neg_ℤ (pos 1)) is pos 200
    ∷ price (pos 0) is pos 0
    ∷ []

-- ---- refusals

-- 11: four members, for three places. 4: the first price, if it is too high, and the last word, if it isn't zero
abbrev pub ten_head : (price last : ℕ) → List ℕ
ten_head price last = 7 ∷ 4 ∷ 1 ∷ 1 ∷ replicate 36 0 ++ price ∷ replicate 78 0 ++ last ∷ []

-- 5: two records of kind 6, behind one that passes
abbrev pub unknown_ten : List ℕ
unknown_ten = 5 ∷ replicate 29 0 ++ 6 ∷ replicate 29 0 ++ 6 ∷ replicate 29 0 ++ 5 ∷ replicate 29 0

-- 3: in the last two of three blocks word 6 isn't zero; 2: nor are their sums
abbrev pub unsealed_ten : (position count six : ℕ) → List ℕ → List ℕ
unsealed_ten position count six records = block (4 ∷ position ∷ count ∷ 0 ∷ 0 ∷ 0 ∷ six ∷ 0 ∷ records)

abbrev pub three_ten : (block : (position count six : ℕ) → List ℕ → List ℕ) → List ℕ
three_ten block = first_ten 2 (ten_head 100001 1) ++ block 1 4 1 unknown_ten ++ block 2 1 1 (6 ∷ [])

-- the charges, with three places, are as they were
abbrev pub refused_ten : (number place : ℕ) → List ℕ → Case
refused_ten number place s =
    settle_ten_minutes s (used_charges 3) is record { verdict = refused_at number place; charges = used_charges 3 }

unfoldable pub ten_refusals : List Case
ten_refusals =
    -- no byte; a byte behind the last block
    refused_ten 1 0 []
    ∷ refused_ten 1 0 (three_ten unsealed_ten ++ 0 ∷ [])
    ∷ refused_ten 2 1 (three_ten unsealed_ten)
    ∷ refused_ten 3 1 (three_ten other_ten)
    -- another block is told, and none is there; an hourly file
    ∷ refused_ten 3 0 (first_ten 1 (ten_head 100001 1))
    ∷ refused_ten 3 0 (first 0 (plain_head 4))
    ∷ refused_ten 4 48 (first_ten 1 (ten_head 100001 1) ++ other_ten 1 4 0 unknown_ten)
    ∷ refused_ten 5 1 (first_ten 1 (ten_head 100000 0) ++ other_ten 1 4 0 unknown_ten)
    ∷ refused_ten 11 0 (first_ten 0 (ten_head 100000 0))
    ∷ []

-- ---- the sheet

unfoldable pub charges_stated : List Case
charges_stated =
    ten_minutes_statement every_interval is
    bytes "hour 7 members 4 records 6\n00          +0.00\n01          +1.62\n02          -0.01\n03          +0.00\n"
    ∷ ten_minutes_statement (first_ten 1 (ten_head 100001 1) ++ other_ten 1 4 0 unknown_ten) is bytes "refused 4 at 48\n"
    -- the largest sum that a member can have
    ∷ charge_line 31 (neg_ℤ (pos 15360000000)) is bytes "31  -153600000.00\n"
    ∷ charge_line 9 (pos 0) is bytes "09          +0.00\n"
    ∷ []

pub record EveryIntervalRight : Type 0 where
  pub of_records : AllRight interval_limits
  pub of_the_head : AllRight price_limits
  -- the engine that follows its ramp is charged nothing, and neither is a member without records
  pub settled : settle_ten_minutes every_interval (used_charges 5)
      ≡ record { verdict = accepted; charges = pos 0 ∷ pos 162 ∷ neg_ℤ (pos 1) ∷ pos 0 ∷ pos 9 ∷ [] }
  -- and before they are rounded
  pub unrounded : values_below (ten_minutes_amount (ten_minutes_in every_interval)) 4 ≡ pos 0 ∷ pos 38976000000 ∷ neg_ℤ (pos 212800000) ∷ pos 0 ∷ []
  pub priced : AllRight least_nets
  pub refused : AllRight ten_refusals
  pub stated : AllRight charges_stated
