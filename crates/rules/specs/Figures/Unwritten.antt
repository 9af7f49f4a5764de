-- Refusals of the writer as figures: for each row lists that break it and every row after it, so that the order shows; 5 and 14 twice, so
-- that the first place does.
-- Document 02, A2 and A6.
use Rattle.std.specs.Prelude.{ℕ, List, [], ◌∷◌, ◌++◌, replicate}
use Rattle.rules.specs.Refusals.{refused_at}
use Rattle.rules.specs.Settling.{write_hour}
use Rattle.rules.specs.Figures.Cases.{Case, ◌is◌, AllRight}
use Rattle.rules.specs.Figures.Files.{plain_head, engine}

-- a buffer a byte shorter than the shortest file
abbrev pub short_buffer : List ℕ
short_buffer = replicate 511 9

-- the length is 0, and the buffer is as it was
abbrev pub unwritten : (number place : ℕ) (head records : List ℕ) → Case
unwritten number place head records =
    write_hour head records short_buffer is record { verdict = refused_at number place; length = 0; file = short_buffer }

-- a head of two members, with this for its last word
abbrev pub head_to : ℕ → List ℕ
head_to last = plain_head 2 ++ replicate 114 0 ++ last ∷ []

-- an engine scheduled above its maximum, and two records of kind 6
abbrev pub bad_records : List ℕ
bad_records = engine 2 ++ 6 ∷ replicate 11 0 ++ 6 ∷ replicate 11 0

unfoldable pub unwritten_cases : List Case
unwritten_cases =
    -- a head a word short; a record a word long; a 251st record
    unwritten 1 0 (plain_head 2 ++ replicate 113 0 ++ 1 ∷ []) bad_records
    ∷ unwritten 1 0 (head_to 1) (bad_records ++ 6 ∷ [])
    ∷ unwritten 1 0 (head_to 1) (replicate 3012 6)
    -- the head's last word is word 127 of its block
    ∷ unwritten 4 127 (head_to 1) bad_records
    ∷ unwritten 5 1 (head_to 0) bad_records
    ∷ unwritten 14 1 (head_to 0) (engine 1 ++ engine 2 ++ engine 2)
    ∷ unwritten 11 0 (head_to 0) []
    ∷ []

abbrev pub UnwrittenRight : Type 0
UnwrittenRight = AllRight unwritten_cases
