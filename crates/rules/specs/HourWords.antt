-- An hour as lists of words, a head and records, and the file that says an hour, byte by byte.
-- Document 02, A2; the layout is document 01's, "The hour file".
use Rattle.std.specs.Prelude.{ℕ, ◌+◌, ◌-◌, ◌*◌, ◌/◌, ◌%◌, cond, ◌&&◌, List, [], ◌∷◌, length, get_or, ltb, leb, eqb}
use Rattle.whole.specs.Below.{sum_below, values_below}
use Rattle.rules.specs.declared.Layout.{Layout}
use Rattle.rules.specs.Record.{Hour}
use Rattle.rules.specs.HourFile.{block_word, record_count, record_word}

-- ---- a head and a list of records

-- the hour that they say: the head is words 8 to 127 of the first block, a record so many words of the list; 0 at every place that they
-- have not
unfoldable pub hour_from : Layout → (head records : List ℕ) → Hour
hour_from l head records = let count = length records / l.words in record {
  head = λ w. cond (leb 8 w && ltb w 128) (get_or head (w - 8) 0) 0;
  count = count;
  rec = λ i w. cond (ltb i count && ltb w l.words) (get_or records (l.words * i + w) 0) 0;
}

-- a file's own head and records
unfoldable pub head_words : List ℕ → List ℕ
head_words s = values_below (λ k. block_word s 0 (8 + k)) 120

unfoldable pub record_words : Layout → List ℕ → List ℕ
record_words l s = values_below (λ k. record_word l s (k / l.words) (k % l.words)) (l.words * record_count l s)

-- ---- the file that says an hour

-- byte j of a word, the lowest first
unfoldable pub byte_of : ℕ → ℕ → ℕ
byte_of v j = get_or (v % 256 ∷ v / 256 % 256 ∷ v / 256 / 256 % 256 ∷ v / 256 / 256 / 256 % 256 ∷ []) j 0

-- the word that makes a sum zero modulo 2^32
unfoldable pub closing : ℕ → ℕ
closing sum = (0x1_0000_0000 - sum % 0x1_0000_0000) % 0x1_0000_0000

-- word w of a block with these numbers in front and this body behind them, with word 7 still zero
unfoldable pub open_block : (mark position count : ℕ) (body : ℕ → ℕ) → ℕ → ℕ
open_block mark position count body w = get_or (mark ∷ position ∷ count ∷ 0 ∷ 0 ∷ 0 ∷ 0 ∷ 0 ∷ []) w (body (w - 8))

module _ (l : Layout) (h : Hour) where
  -- the first block, and as many others as the records fill: the last may be filled in part, and none is empty
  unfoldable pub blocks_for : ℕ
  blocks_for = 1 + (h.count + (l.records - 1)) / l.records

  -- the records that block b holds: full in all but the last, there what is left
  unfoldable pub held_in : ℕ → ℕ
  held_in b = cond (ltb (b + 1) blocks_for) l.records (h.count - l.records * (b - 1))

  -- word k of the body of block b: the head, or the block's records one behind the other, then zeros
  unfoldable pub body_word : (b k : ℕ) → ℕ
  body_word b k = cond (eqb b 0) (h.head (8 + k))
      (cond (ltb k (l.words * held_in b)) (h.rec (l.records * (b - 1) + k / l.words) (k % l.words)) 0)

  -- word w of block b, with word 7 still zero
  unfoldable pub open_word : (b w : ℕ) → ℕ
  open_word b = open_block (cond (eqb b 0) l.first l.other) b (cond (eqb b 0) (blocks_for - 1) (held_in b)) (body_word b)

  -- word w of block b: word 7 is chosen so that the sum is zero
  unfoldable pub file_word : (b w : ℕ) → ℕ
  file_word b w = cond (eqb w 7) (closing (sum_below (open_word b) 128)) (open_word b w)

  unfoldable pub file_byte : ℕ → ℕ
  file_byte k = byte_of (file_word (k / 512) (k % 512 / 4)) (k % 4)

  -- in bytes
  unfoldable pub file_length : ℕ
  file_length = 512 * blocks_for

  unfoldable pub file_of : List ℕ
  file_of = values_below file_byte file_length
