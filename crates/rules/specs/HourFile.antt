-- The hour file: words, blocks, the block reader, and the hour that a file holds. Document 01, "The hour file".
use Rattle.std.specs.Prelude.{ℕ, ◌+◌, ◌-◌, ◌*◌, ◌/◌, ◌%◌, Bool, not, cond, ◌&&◌, ◌||◌, List, [], length, get_or, take, drop, ltb, leb, eqb}
use Rattle.whole.specs.Below.{sum_below}
use Rattle.rules.specs.declared.Layout.{Layout}
use Rattle.rules.specs.Record.{Hour}

-- what the first release's hour file lays down
abbrev pub hourly : Layout
hourly = record { first = 1; other = 2; blocks = 26; records = 10; words = 12 }

-- and the file of ten-minute settlement: document 02, A7
abbrev pub ten_minutes : Layout
ten_minutes = record { first = 3; other = 4; blocks = 17; records = 4; words = 30 }

-- ---- words and blocks

-- the k-th word of the bytes s, little-endian; past the end it is 0
unfoldable pub word : List ℕ → ℕ → ℕ
word s k = get_or s (4 * k) 0 + 256 * get_or s (4 * k + 1) 0 + 65536 * get_or s (4 * k + 2) 0 + 16777216 * get_or s (4 * k + 3) 0

-- blocks of 512 bytes
unfoldable pub blocks : List ℕ → ℕ
blocks s = length s / 512

-- word w of block b: 128 words a block
unfoldable pub block_word : List ℕ → ℕ → ℕ → ℕ
block_word s b w = word s (128 * b + w)

-- the 128 words of a block, added up modulo 2^32
unfoldable pub block_sum : List ℕ → ℕ → ℕ
block_sum s b = sum_below (block_word s b) 128 % 0x1_0000_0000

module _ (l : Layout) (s : List ℕ) where
  -- refusal 1: length 0, not a multiple of 512, or over the most blocks
  unfoldable pub length_bad : Bool
  length_bad = eqb (length s) 0 || not (eqb (length s % 512) 0) || ltb (512 * l.blocks) (length s)

  -- the block reader: the 480 bytes of body b, or an empty part
  unfoldable pub body : ℕ → List ℕ
  body b = cond (length_bad || leb (blocks s) b) [] (take 480 (drop (512 * b + 32) s))

  -- every block but the first and the last is full
  unfoldable pub record_count : ℕ
  record_count = cond (leb (blocks s) 1) 0 (l.records * (blocks s - 2) + block_word s (blocks s - 1) 2)

  -- word w of record i
  unfoldable pub record_word : ℕ → ℕ → ℕ
  record_word i w = block_word s (1 + i / l.records) (8 + l.words * (i % l.records) + w)

  -- what the file says, and 0 at every place that it has not: the head is words 8 to 127 of the first block
  unfoldable pub hour_of : Hour
  hour_of = record {
    head = λ w. cond (leb 8 w && ltb w 128) (block_word s 0 w) 0;
    count = record_count;
    rec = λ i w. cond (ltb i record_count && ltb w l.words) (record_word i w) 0;
  }

-- a file as an hour, in the first release's layout
abbrev pub hour_in : List ℕ → Hour
hour_in s = hour_of hourly s
