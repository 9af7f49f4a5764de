-- Refusals of settling as figures: for each row a small file that breaks it, twice where it has a place, and every row after it, so that the
-- first place and the order show; what settling answers, and that the buffers are what they were.
-- Document 01, "Refusal numbers and their order"; document 02, A1 and A6.
use Rattle.std.specs.Prelude.{ℕ, List, [], ◌∷◌, ◌++◌, pos, replicate}
use Rattle.rules.specs.Refusals.{refused_at}
use Rattle.rules.specs.Settling.{settle}
use Rattle.rules.specs.Figures.Cases.{Case, ◌is◌, AllRight}
use Rattle.rules.specs.Figures.Files.{block, used_buffers, first, plain_head, engine, other, unsealed}

-- ---- what each row breaks

-- 11: four members, for three places
-- 6: three areas, of which two have a kWh coming in and no load
-- 4: the price of the zone, if it is too high, and the last word, if it isn't zero
abbrev pub areas_head : (price last : ℕ) → List ℕ
areas_head price last = 7 ∷ 4 ∷ 1 ∷ 3 ∷ price ∷ replicate 8 0 ++ 1 ∷ 0 ∷ 0 ∷ 0 ∷ 1 ∷ replicate 101 0 ++ last ∷ []

-- 12: an export of a kWh, scheduled and not taken, where there is no load
abbrev pub untaken : List ℕ
untaken = 5 ∷ 0 ∷ 0 ∷ 1 ∷ replicate 8 0

-- 14: two engines scheduled above their maximum, behind one at it
abbrev pub engines : List ℕ
engines = engine 1 ++ engine 2 ++ engine 2 ++ untaken

-- 5: two records of kind 6, behind an engine scheduled above its maximum
abbrev pub unknown_kinds : List ℕ
unknown_kinds = engine 2 ++ 6 ∷ replicate 11 0 ++ 6 ∷ replicate 11 0 ++ untaken

-- 3: in the last two of three blocks word 6 isn't zero; 2: nor are their sums
abbrev pub three_blocks : (block : (position count six : ℕ) → List ℕ → List ℕ) → List ℕ
three_blocks block = first 2 (areas_head 1000001 1) ++ block 1 10 1 unknown_kinds ++ block 2 1 1 untaken

-- all eight figures are 0, and the buffers, with three places each, are as they were
abbrev pub refused : (number place : ℕ) → List ℕ → Case
refused number place s = settle s used_buffers is record { verdict = refused_at number place; ufe = replicate 8 (pos 0); buffers = used_buffers }

unfoldable pub refusals : List Case
refusals =
    -- no byte; a byte behind the last block
    refused 1 0 []
    ∷ refused 1 0 (three_blocks unsealed ++ 0 ∷ [])
    ∷ refused 2 1 (three_blocks unsealed)
    ∷ refused 3 1 (three_blocks other)
    -- another block is told, and none is there
    ∷ refused 3 0 (first 1 (plain_head 2))
    ∷ refused 4 12 (first 1 (areas_head 1000001 1) ++ other 1 4 0 unknown_kinds)
    ∷ refused 5 1 (first 1 (areas_head 5000 0) ++ other 1 4 0 unknown_kinds)
    ∷ refused 14 1 (first 1 (areas_head 5000 0) ++ other 1 4 0 engines)
    ∷ refused 6 1 (first 1 (areas_head 5000 0) ++ other 1 1 0 untaken)
    ∷ refused 12 0 (first 1 (plain_head 4) ++ other 1 1 0 untaken)
    -- no record, so that N is 0
    ∷ refused 11 0 (first 0 (plain_head 4))
    ∷ []

abbrev pub RefusedRight : Type 0
RefusedRight = AllRight refusals
