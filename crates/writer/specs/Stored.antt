-- Words stored in a buffer of bytes, one block by the numbers that its front says and the words of its body, and a block at its place in a
-- file.
use Rattle.std.specs.Prelude.{ℕ, zero, suc, ◌+◌, ◌*◌, ◌/◌, ◌%◌, cond, List, ◌++◌, take, drop, ◌==◌, slice_index}
use Rattle.whole.specs.Below.{sum_below, values_below}
use Rattle.rules.specs.HourWords.{byte_of, closing, open_block}

-- word k: its four bytes, the lowest first, in the place of those that stood there
unfoldable pub word_stored : List ℕ → ℕ → ℕ → List ℕ
word_stored l k v = take (4 * k) l ++ (values_below (byte_of v) 4 ++ drop (4 * k + 4) l)

-- n words from word `from` on, one after the other
unfoldable pub words_stored : (ℕ → ℕ) → (from n : ℕ) → List ℕ → List ℕ
words_stored f from zero l = l
words_stored f from (suc n) l = word_stored (words_stored f from n l) (from + n) (f n)

-- byte k of words that stand one behind the other
unfoldable pub bytes_of : (ℕ → ℕ) → ℕ → ℕ
bytes_of f k = byte_of (f (k / 4)) (k % 4)

-- ---- one block

module _ (mark position count : ℕ) (body : List ℕ) where
  -- word w, with word 7 still zero; past the body's words all are zero
  abbrev pub open_list : ℕ → ℕ
  open_list = open_block mark position count (λ k. slice_index body k)

  unfoldable pub closed_block : ℕ → ℕ
  closed_block w = cond (w == 7) (closing (sum_below open_list 128)) (open_list w)

  unfoldable pub block_bytes : List ℕ
  block_bytes = values_below (bytes_of closed_block) 512

-- ---- its place

-- the bytes of block b in the place of those that stood there
unfoldable pub block_placed : ℕ → (bytes file : List ℕ) → List ℕ
block_placed b bytes file = take (512 * b) file ++ (bytes ++ drop (512 * b + 512) file)
