-- Small files, block by block, and buffers to settle them in, from which the figures are made.
use Rattle.std.specs.Prelude.{ℕ, ◌+◌, ◌-◌, ◌/◌, ◌%◌, List, [], ◌∷◌, ◌++◌, pos, length, take, drop, replicate}
use Rattle.rules.specs.Refusals.{Buffers}

-- words, little-endian
unfoldable pub word_bytes : List ℕ → List ℕ
word_bytes [] = []
word_bytes (w ∷ ws) = w % 256 ∷ w / 256 % 256 ∷ w / 65536 % 256 ∷ w / 16777216 ∷ word_bytes ws

-- a block of 128 words, the last ones zero
abbrev pub block : List ℕ → List ℕ
block words = word_bytes (words ++ replicate (128 - length words) 0)

abbrev pub sum_of : List ℕ → ℕ
sum_of [] = 0
sum_of (w ∷ ws) = w + sum_of ws

-- a block of these words, with word 7 put in such that its sum is zero
unfoldable pub sealed : List ℕ → List ℕ
sealed words = block (take 7 words ++ (0x1_0000_0000 - sum_of words % 0x1_0000_0000) % 0x1_0000_0000 ∷ drop 7 words)

-- a first block: the number of other blocks, then the first body
abbrev pub first : ℕ → List ℕ → List ℕ
first others body = sealed (1 ∷ 0 ∷ others ∷ 0 ∷ 0 ∷ 0 ∷ 0 ∷ body)

-- hour 7, so many members, one zone at 5,000, one area without ties
abbrev pub plain_head : ℕ → List ℕ
plain_head members = 7 ∷ members ∷ 1 ∷ 1 ∷ 5000 ∷ []

-- a generator of member 0 that is scheduled so much, with a maximum of 1 and an actual energy of 1
abbrev pub engine : (scheduled : ℕ) → List ℕ
engine scheduled = 1 ∷ 0 ∷ 0 ∷ scheduled ∷ 1 ∷ 0 ∷ 0 ∷ 0 ∷ 1 ∷ 1 ∷ 1 ∷ 0 ∷ []

-- a block that isn't the first: its position, the records held, its word 6, and the records' words; sealed
abbrev pub other : (position count six : ℕ) → List ℕ → List ℕ
other position count six records = sealed (2 ∷ position ∷ count ∷ 0 ∷ 0 ∷ 0 ∷ six ∷ records)

-- the same with 0 in word 7, so that its sum isn't zero
abbrev pub unsealed : (position count six : ℕ) → List ℕ → List ℕ
unsealed position count six records = block (2 ∷ position ∷ count ∷ 0 ∷ 0 ∷ 0 ∷ six ∷ 0 ∷ records)

-- buffers that hold something else, one place longer than needed
unfoldable pub used_buffers : Buffers
used_buffers = record {
  charges = replicate 3 (pos 9);
  finals = replicate 3 (pos 4);
  shares = replicate 3 (pos 8);
  deviations = replicate 3 (pos 7);
  lines = replicate 3 (record { amount = pos 6; records = 5 });
}
