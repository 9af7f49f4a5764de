-- The file's blocks by the lists: the first has the head, every other its part of the records; and a block put in its place goes on with
-- the file.
use Rattle.std.proofs.Common.{◌≡◌, ℕ, ◌+◌, ◌-◌, ◌*◌, ◌/◌, ◌%◌, ◌<◌, ◌≤◌, false, cond, eqb, ltb, List, length, get_or, take, drop, sym, refl, ap, ◌∙◌, ap₂, arith, length-drop, length-take, length-take-le, get_or-drop, take_all, get_or-take, ltb-false, ltb-true, ne_eqb}
use lib.ListN.{get_or-eq_default}
use Rattle.whole.specs.Below.{replacing_first}
use Rattle.whole.proofs.Tests.{split}
use Rattle.whole.proofs.Sums.{sum_ext}
use Rattle.whole.proofs.Buffers.{replacing_none, replacing_then}
use Rattle.rules.specs.Record.{Hour}
use Rattle.rules.specs.HourFile.{hourly}
use Rattle.rules.specs.HourWords.{closing, open_block, blocks_for, held_in, body_word, open_word, file_word, file_byte}
use Rattle.writer.specs.Lists.{hour_of_lists, ListsWhole}
use Rattle.writer.specs.Stored.{bytes_of, open_list, closed_block, block_bytes, block_placed}
use Rattle.examine.proofs.Listed.{said_count, said_head, said_word, gap}
use Rattle.writer.proofs.Said.{block_count}

-- the words of the records of block b, behind the first: of ten, or of those that are left
unfoldable pub held_words : ℕ → List ℕ → List ℕ
held_words b records = take 120 (drop (120 * (b - 1)) records)

-- ---- a block that says what block b of an hour's file says

module _ (h : Hour) (b mark count : ℕ) (body : List ℕ) (mark-is : mark ≡ cond (eqb b 0) 1 2)
    (count_is : count ≡ cond (eqb b 0) (blocks_for hourly h - 1) (held_in hourly h b))
    (body_is : (k : ℕ) → k < 120 → get_or body k 0 ≡ body_word hourly h b k) where
  open_same : (w : ℕ) → w < 128 → open_list mark b count body w ≡ open_word hourly h b w
  unfolding open_block open_word
  open_same w l = rw (mark-is, count_is, body_is (w - 8) (omega arith))

  closed_same : (w : ℕ) → w < 128 → closed_block mark b count body w ≡ file_word hourly h b w
  unfolding closed_block file_word
  closed_same w l =
      ap₂ (λ (sum v : ℕ). cond (eqb w 7) (closing sum) v) (sum_ext _ _ 128 open_same) (open_same w l)

  byte_same : (k : ℕ) → k < 512 → bytes_of (closed_block mark b count body) k ≡ file_byte hourly h (512 * b + k)
  unfolding bytes_of file_byte
  byte_same k l =
      let at : ℕ = 512 * b + k in
      let block_at : at / 512 ≡ b = omega arith in
      let word_at : at % 512 / 4 ≡ k / 4 = omega arith in
      let byte_at : at % 4 ≡ k % 4 = omega arith in
      rw (block_at, word_at, byte_at, closed_same (k / 4) (omega arith))

  next_block : (old : List ℕ) →
      block_placed b (block_bytes mark b count body) (replacing_first (file_byte hourly h) (512 * b) old)
      ≡ replacing_first (file_byte hourly h) (512 * b + 512) old
  unfolding block_placed block_bytes
  next_block old = replacing_then (file_byte hourly h) (bytes_of (closed_block mark b count body)) (512 * b) 512 old byte_same

-- ---- the words of the records of a block

module _ (head records : List ℕ) (whole : ListsWhole head records) where
  abbrev h : Hour
  h = hour_of_lists head records

  module _ (b : ℕ) (some : 1 ≤ b) (there : b < blocks_for hourly h) where
    abbrev from : ℕ
    from = 120 * (b - 1)

    abbrev held : List ℕ
    held = held_words b records

    -- ten records where so many are left, else those that are
    held_length : length held ≡ 12 * held_in hourly h b
    unfolding held_words held_in
    held_length =
        let blocks = block_count head records in
        let all = whole.records_whole in
        let count = said_count hourly head records in
        let rest = length-drop from records in
        split (ltb (b + 1) (blocks_for hourly h))
        (λ t. let l = ltb-true (b + 1) (blocks_for hourly h) t in rw t (length-take-le 120 (drop from records) (omega arith)))
        (λ t. let l = ltb-false (b + 1) (blocks_for hourly h) t in
        rw t (ap length (take_all 120 (drop from records) (omega arith)) ∙ rest ∙ omega arith))

    pub held_few : length held ≤ 120
    unfolding held_words
    held_few = omega (arith, length-take 120 (drop from records))

    held_inside : length held ≤ length records - from
    unfolding held_words
    held_inside = omega (arith, length-take 120 (drop from records), length-drop from records)

    held_count : length held / 12 ≡ held_in hourly h b
    held_count = omega (arith, held_length)

    held_word : (k : ℕ) → k < 120 → get_or held k 0 ≡ body_word hourly h b k
    unfolding held_words body_word
    held_word k l = split (ltb k (12 * held_in hourly h b))
        (λ t. rw (ne_eqb b 0 (λ e. omega arith), t) (inside (ltb-true k (12 * held_in hourly h b) t)))
        (λ t. rw (ne_eqb b 0 (λ e. omega arith), t)
        (get_or-eq_default held 0 {n = k} (let m = ltb-false k (12 * held_in hourly h b) t in omega (arith, held_length))))
      where
        inside : k < 12 * held_in hourly h b → get_or (take 120 (drop from records)) k 0 ≡ h.rec (10 * (b - 1) + k / 12) (k % 12)
        inside m =
            let i : ℕ = 10 * (b - 1) + k / 12 in
            let place : from + k ≡ 12 * i + k % 12 = omega arith in
            let there : i < length records / 12 = omega (arith, held_length, held_inside) in
            get_or-take 120 (drop from records) k 0 l ∙ get_or-drop from records k 0 ∙ ap (λ (j : ℕ). get_or records j 0) place
            ∙ sym (said_word hourly head records i (k % 12) there (omega arith))

    pub records_placed : (old : List ℕ) →
        block_placed b (block_bytes 2 b (length held / 12) held) (replacing_first (file_byte hourly h) (512 * b) old)
        ≡ replacing_first (file_byte hourly h) (512 * b + 512) old
    records_placed old = next_block h b 2 (length held / 12) held (rw other) (held_count ∙ rw other) held_word old
      where
        other : eqb b 0 ≡ false
        other = ne_eqb b 0 (λ e. omega arith)

  -- ---- the first block

  head_word : (k : ℕ) → k < 120 → get_or head k 0 ≡ body_word hourly h 0 k
  unfolding body_word
  head_word k l = ap (λ (j : ℕ). get_or head j 0) (sym (gap 8 k)) ∙ sym (said_head hourly head records (8 + k) (omega arith) (omega arith))

  pub head_placed : (count : ℕ) (old : List ℕ) → count ≡ blocks_for hourly h - 1 →
      block_placed 0 (block_bytes 1 0 count head) old ≡ replacing_first (file_byte hourly h) 512 old
  head_placed count old e =
      ap (block_placed 0 (block_bytes 1 0 count head)) (sym (replacing_none (file_byte hourly h) old))
      ∙ next_block h 0 1 count head refl e head_word old
