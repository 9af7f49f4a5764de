-- Limits as figures: for each kind a record at its limits, and each of its words one past them; the same of the head and of blocks;
-- and single words.
-- Document 01, "Units and ranges", "The hour file"; document 02, A3.
use Rattle.std.specs.Prelude.{ℕ, ◌+◌, ◌-◌, true, false, List, [], ◌∷◌, ◌++◌, pos, neg_ℤ, get_or, set, replicate, Option, None, Some}
use Rattle.whole.specs.Below.{values_below}
use Rattle.rules.specs.declared.Kind.{Kind}
use Rattle.rules.specs.declared.Kind.TheVariants.{Generator, RealTimeLoad, ProfileLoad, Import, Export, Unknown}
use Rattle.rules.specs.Record.{Hour, signed, kind_number, kind_of, is_real_time, is_profile}
use Rattle.rules.specs.HourFile.{hourly, word, length_bad, hour_in}
use Rattle.rules.specs.HourWords.{hour_from, byte_of}
use Rattle.rules.specs.Ranges.{keeps, first_broken, block_rule, head_rule, hourly_form}
use Rattle.rules.specs.Refusals.{bad_head, bad_word}
use Rattle.rules.specs.Figures.Cases.{Case, ◌is◌, AllRight}
use Rattle.rules.specs.Figures.Printed.{printed_file}

-- the number of a word, and what it is to be instead
abbrev pub Change : Type 0
Change = ℕ × ℕ

-- where words break a rule once one of them is changed, each change by itself; the first word has this number
unfoldable pub faults : (List ℕ → Option ℕ) → (from : ℕ) (words : List ℕ) → List Change → List (Option ℕ)
faults fault from words [] = []
faults fault from words (c ∷ changes) = fault (set words (c.0 - from) c.1) ∷ faults fault from words changes

-- at the word that is changed
unfoldable pub own_places : List Change → List (Option ℕ)
own_places [] = []
own_places (c ∷ changes) = Some c.0 ∷ own_places changes

-- ---- records, in an hour of two members and two areas

unfoldable pub record_fault : List ℕ → Option ℕ
record_fault words = bad_word hourly_form (hour_from hourly (7 ∷ 2 ∷ 1 ∷ 2 ∷ []) words) 0

abbrev pub record_breaks : List ℕ → List Change → Case
record_breaks words changes = faults record_fault 0 words changes is own_places changes

-- 100,000 below zero, and one less
abbrev pub least_adjustment : ℕ
least_adjustment = 4294867296

abbrev pub too_low : ℕ
too_low = 4294867295

--                                    kind member area S A J N O M F H zero
abbrev pub generator_at : List ℕ
generator_at = 1 ∷ 1 ∷ 1 ∷ 100000 ∷ 100000 ∷ 100000 ∷ 100000 ∷ 100000 ∷ 100000 ∷ 20000 ∷ 20000 ∷ 0 ∷ []

abbrev pub load_at : (kind : ℕ) → List ℕ
load_at kind = kind ∷ 1 ∷ 1 ∷ 100000 ∷ 100000 ∷ 100000 ∷ 100000 ∷ 100000 ∷ 0 ∷ 0 ∷ 0 ∷ 0 ∷ []

abbrev pub import_at : List ℕ
import_at = 4 ∷ 1 ∷ 1 ∷ 100000 ∷ 0 ∷ 100000 ∷ 100000 ∷ 0 ∷ 0 ∷ 20000 ∷ 20000 ∷ 0 ∷ []

abbrev pub export_at : List ℕ
export_at = 5 ∷ 1 ∷ 1 ∷ 100000 ∷ 100000 ∷ 100000 ∷ 0 ∷ 0 ∷ 0 ∷ 0 ∷ 0 ∷ 0 ∷ []

-- what breaks every kind: another kind, a member and an area that aren't there, the schedule, the adjustment both ways, word 11
abbrev pub for_every_kind : List Change
for_every_kind = (0, 0) ∷ (0, 6) ∷ (1, 2) ∷ (2, 2) ∷ (3, 100001) ∷ (5, 100001) ∷ (5, too_low) ∷ (11, 1) ∷ []

abbrev pub for_multipliers : List Change
for_multipliers = (9, 0) ∷ (9, 20001) ∷ (10, 0) ∷ (10, 20001) ∷ []

abbrev pub for_loads : List Change
for_loads = for_every_kind ++ (4, 100001) ∷ (6, 100001) ∷ (7, 100001) ∷ (8, 1) ∷ (9, 1) ∷ (10, 1) ∷ []

-- a record of this kind at the lower limits: multipliers of 1, or 0 where it has none
abbrev pub least_of : (kind multiplier : ℕ) → List ℕ
least_of kind multiplier = kind ∷ 0 ∷ 0 ∷ 0 ∷ 0 ∷ least_adjustment ∷ 0 ∷ 0 ∷ 0 ∷ multiplier ∷ multiplier ∷ 0 ∷ []

unfoldable pub record_limits : List Case
record_limits =
    -- at the lower limits
    record_fault (least_of 1 1) is None
    ∷ record_fault (least_of 2 0) is None
    ∷ record_fault (least_of 3 0) is None
    ∷ record_fault (least_of 4 1) is None
    ∷ record_fault (least_of 5 0) is None
    -- at the upper limits, and past each
    ∷ record_fault generator_at is None
    ∷ record_breaks generator_at (for_every_kind ++ for_multipliers ++ (4, 100001) ∷ (6, 100001) ∷ (7, 100001) ∷ (8, 100001) ∷ [])
    ∷ record_fault (load_at 2) is None
    ∷ record_breaks (load_at 2) for_loads
    ∷ record_fault (load_at 3) is None
    ∷ record_breaks (load_at 3) for_loads
    ∷ record_fault import_at is None
    ∷ record_breaks import_at (for_every_kind ++ for_multipliers ++ (4, 1) ∷ (6, 100001) ∷ (7, 1) ∷ (8, 1) ∷ [])
    ∷ record_fault export_at is None
    ∷ record_breaks export_at (for_every_kind ++ (4, 100001) ∷ (6, 1) ∷ (7, 1) ∷ (8, 1) ∷ (9, 1) ∷ (10, 1) ∷ [])
    ∷ []

-- ---- the head

unfoldable pub head_fault : List ℕ → Option ℕ
head_fault head = bad_head hourly_form (hour_from hourly head [])

abbrev pub head_breaks : List ℕ → List Change → Case
head_breaks words changes = faults head_fault 8 words changes is own_places changes

-- 32 members, four zones, eight areas: prices of 1,000,000 in size, the last zone, ties of 10,000,000
abbrev pub full_area : List ℕ
full_area = 3 ∷ 10000000 ∷ 10000000 ∷ 0 ∷ []

unfoldable pub full_head : List ℕ
full_head =
    4294967295 ∷ 32 ∷ 4 ∷ 8 ∷ 1000000 ∷ 4293967296 ∷ 1000000 ∷ 1000000
    ∷ full_area ++ full_area ++ full_area ++ full_area ++ full_area ++ full_area ++ full_area ++ full_area ++ replicate 80 0

-- one of each
abbrev pub least_head : List ℕ
least_head = 0 ∷ 1 ∷ 1 ∷ 1 ∷ replicate 116 0

-- three zones and one area, which lies in the last of them
abbrev pub three_zones : List ℕ
three_zones = 7 ∷ 2 ∷ 3 ∷ 1 ∷ 1 ∷ 2 ∷ 3 ∷ 0 ∷ 2 ∷ 4 ∷ 5 ∷ 0 ∷ replicate 108 0

-- one zone and three areas
abbrev pub three_areas : List ℕ
three_areas = 7 ∷ 2 ∷ 1 ∷ 3 ∷ 1 ∷ 0 ∷ 0 ∷ 0 ∷ 0 ∷ 2 ∷ 3 ∷ 0 ∷ 0 ∷ 4 ∷ 5 ∷ 0 ∷ 0 ∷ 6 ∷ 7 ∷ 0 ∷ replicate 100 0

unfoldable pub head_limits : List Case
head_limits =
    head_fault full_head is None
    -- counts
    ∷ head_breaks full_head ((9, 0) ∷ (9, 33) ∷ (10, 0) ∷ (10, 5) ∷ (11, 0) ∷ (11, 9) ∷ [])
    -- prices
    ∷ head_breaks full_head ((12, 1000001) ∷ (13, 4293967295) ∷ (15, 1000001) ∷ [])
    -- the first area and the last: a zone that isn't there, the ties, the fourth word
    ∷ head_breaks full_head ((16, 4) ∷ (17, 10000001) ∷ (18, 10000001) ∷ (19, 1) ∷ [])
    ∷ head_breaks full_head ((44, 4) ∷ (45, 10000001) ∷ (46, 10000001) ∷ (47, 1) ∷ [])
    -- the words behind them, 48 to 127: none may be 1
    ∷ head_breaks full_head ((48, 1) ∷ (127, 1) ∷ [])
    ∷ values_below (λ k. keeps (head_rule 4 8 (48 + k)) 1) 80 is replicate 80 false
    -- word 48 whatever the count of areas says
    ∷ keeps (head_rule 4 9 48) 1 is false
    ∷ head_fault least_head is None
    -- the prices past their count, a zone that isn't there, the fourth word, and from the areas past their count on every word
    ∷ head_breaks least_head ((13, 1) ∷ (14, 1) ∷ (15, 1) ∷ (16, 1) ∷ (19, 1) ∷ (20, 1) ∷ (47, 1) ∷ [])
    ∷ values_below (λ k. keeps (head_rule 1 1 (20 + k)) 1) 108 is replicate 108 false
    -- prices are counted by zones, areas by areas
    ∷ head_fault three_zones is None
    ∷ head_breaks three_zones ((15, 1) ∷ (16, 3) ∷ (20, 1) ∷ (21, 1) ∷ (22, 1) ∷ (24, 1) ∷ [])
    ∷ head_fault three_areas is None
    ∷ head_breaks three_areas ((13, 1) ∷ (14, 1) ∷ (15, 1) ∷ (20, 1) ∷ (24, 1) ∷ (27, 1) ∷ (28, 1) ∷ (29, 1) ∷ [])
    ∷ []

-- ---- words by themselves

-- the kind of a word, and the number of a kind
abbrev pub kind_and_number : ℕ → Kind × ℕ
kind_and_number w = (kind_of w, kind_number (kind_of w))

-- words 7, 8, 127 and 128 of the head; of two records the second's first and last word, one behind it, and the first of a third
abbrev pub head_ends : Hour → List ℕ
head_ends h = h.head 7 ∷ h.head 8 ∷ h.head 127 ∷ h.head 128 ∷ []

abbrev pub record_ends : Hour → List ℕ
record_ends h = h.rec 1 0 ∷ h.rec 1 11 ∷ h.rec 0 12 ∷ h.rec 2 0 ∷ []

-- lists longer than a head and two records
abbrev pub sevens : Hour
sevens = hour_from hourly (replicate 130 7) (replicate 35 7)

unfoldable pub word_figures : List Case
word_figures =
    -- little-endian; a byte past the end is 0
    word [] 0 is 0
    ∷ word (1 ∷ 2 ∷ 3 ∷ 4 ∷ 5 ∷ []) 0 is 67305985
    ∷ word (1 ∷ 2 ∷ 3 ∷ 4 ∷ 5 ∷ []) 1 is 5
    ∷ values_below (byte_of 67305985) 5 is (1 ∷ 2 ∷ 3 ∷ 4 ∷ 0 ∷ [])
    -- two's complement
    ∷ signed 2147483647 is pos 2147483647
    ∷ signed 2147483648 is neg_ℤ (pos 2147483648)
    ∷ signed 4294967295 is neg_ℤ (pos 1)
    -- kinds 2 and 3 are both loads: no sum tells them apart
    ∷ values_below kind_and_number 7 is (
    (Unknown, 0) ∷ (Generator, 1) ∷ (RealTimeLoad, 2) ∷ (ProfileLoad, 3) ∷ (Import, 4) ∷ (Export, 5) ∷ (Unknown, 0) ∷ [])
    ∷ values_below (λ w. is_real_time (kind_of w)) 4 is (false ∷ false ∷ true ∷ false ∷ [])
    ∷ values_below (λ w. is_profile (kind_of w)) 4 is (false ∷ false ∷ false ∷ true ∷ [])
    -- what an hour says: words 8 to 127 of the head, twelve words of each record, and 0 at every other place
    ∷ head_ends sevens is (0 ∷ 7 ∷ 7 ∷ 0 ∷ [])
    ∷ record_ends sevens is (7 ∷ 7 ∷ 0 ∷ 0 ∷ [])
    ∷ head_ends (hour_in printed_file) is (0 ∷ 7 ∷ 0 ∷ 0 ∷ [])
    ∷ record_ends (hour_in printed_file) is (2 ∷ 0 ∷ 0 ∷ 0 ∷ [])
    -- the shortest file, the longest, and lengths that no file has
    ∷ length_bad hourly (replicate 512 0) is false
    ∷ length_bad hourly (replicate 13312 0) is false
    ∷ length_bad hourly (replicate 13824 0) is true
    ∷ length_bad hourly (replicate 1023 0) is true
    ∷ []

-- ---- blocks: block b of n, by all its words

unfoldable pub block_fault : (n b : ℕ) → List ℕ → Option ℕ
block_fault n b words = first_broken (block_rule hourly n (get_or words 2 0) b) (λ w. get_or words w 0) 128

abbrev pub block_breaks : (n b : ℕ) → List ℕ → List Change → Case
block_breaks n b words changes = faults (block_fault n b) 0 words changes is own_places changes

-- word 7 and the body are anything, as far as row 3 looks
abbrev pub first_of_three : List ℕ
first_of_three = 1 ∷ 0 ∷ 2 ∷ 0 ∷ 0 ∷ 0 ∷ 0 ∷ replicate 121 7

-- ten records
abbrev pub second_of_three : List ℕ
second_of_three = 2 ∷ 1 ∷ 10 ∷ 0 ∷ 0 ∷ 0 ∷ 0 ∷ replicate 121 7

-- one record
abbrev pub last_of_three : List ℕ
last_of_three = 2 ∷ 2 ∷ 1 ∷ 0 ∷ 0 ∷ 0 ∷ 0 ∷ replicate 13 7 ++ replicate 108 0

-- words 3 to 6
abbrev pub zeros_in_front : List Change
zeros_in_front = (3, 1) ∷ (4, 1) ∷ (5, 1) ∷ (6, 1) ∷ []

unfoldable pub block_limits : List Case
block_limits =
    block_fault 3 0 first_of_three is None
    ∷ block_breaks 3 0 first_of_three ((0, 0) ∷ (0, 2) ∷ (1, 1) ∷ (2, 1) ∷ (2, 3) ∷ zeros_in_front)
    ∷ block_fault 3 1 second_of_three is None
    ∷ block_breaks 3 1 second_of_three ((0, 1) ∷ (0, 3) ∷ (1, 0) ∷ (1, 2) ∷ (2, 9) ∷ (2, 11) ∷ zeros_in_front)
    ∷ block_fault 3 2 last_of_three is None
    ∷ block_breaks 3 2 last_of_three ((0, 1) ∷ (0, 3) ∷ (1, 1) ∷ (1, 3) ∷ (2, 0) ∷ (2, 11) ∷ (20, 1) ∷ (127, 1) ∷ zeros_in_front)
    -- ten in the last block too
    ∷ block_fault 3 2 (set last_of_three 2 10) is None
    -- past one record, words 20 to 127: none may be 1
    ∷ values_below (λ k. keeps (block_rule hourly 3 1 2 (20 + k)) 1) 108 is replicate 108 false
    ∷ []

pub record LimitsRight : Type 0 where
  pub of_records : AllRight record_limits
  pub of_the_head : AllRight head_limits
  pub of_blocks : AllRight block_limits
  pub of_words : AllRight word_figures
