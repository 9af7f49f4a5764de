-- Bytes that say an hour, word by word: the file of an hour does; such bytes pass rows 1 to 3 and hold that hour; and no other bytes say an
-- hour than its file. Document 02, A2; document 01, "The hour file".
use mathlib.Core.Path.{◌≡◌, sym, ◌∙◌, ap, ap₂, fun_ext}
use mathlib.Core.Bool.{not, ◌&&◌}
use Rattle.std.specs.Prelude.{None}
use mathlib.Core.List.{List}
use Prim.Native.Nat.{ℕ, ◌+◌, ◌-◌, ◌*◌, ◌/◌, ◌%◌, ◌≤◌, ◌<◌}
use native.Mathlib.Nat.{mod-eq_of_lt}
use native.Mathlib.Omega.{arith}
use lib.ListN.{length, get_or}
use lib.Seq.{ext_get_or}
use lib.Dec.{ltb, leb}
use borrow.Author.Tests.{ltb-true, ltb-false, leb-true, leb-false}
use borrow.Author.Tests.{le-ltb, eq-eqb, ne_eqb}
use Rattle.whole.proofs.Tests.{split, both}
use Rattle.whole.proofs.Sums.{sum_ext}
use Rattle.whole.proofs.Search.{none_below}
use Rattle.whole.proofs.Buffers.{length_values, get_or_values}
use Rattle.rules.specs.Record.{Hour}
use Rattle.rules.specs.HourFile.{hourly, blocks, block_word, block_sum, length_bad, record_count, record_word, hour_of, hour_in}
use Rattle.rules.specs.HourWords.{byte_of, blocks_for, held_in, body_word, open_word, file_word, file_byte, file_length, file_of}
use Rattle.rules.specs.Ranges.{first_broken}
use Rattle.rules.specs.Refusals.{is_broken, bad_length, bad_sum, bad_block}
use Rattle.rules.specs.Promised.Finals.{AreBytes}
use Rattle.rules.proofs.WordBytes.{word_of_bytes, byte_of_word, closed_sum}
use Rattle.rules.proofs.FileWords.{OfWords, some_blocks, held_full, held_last, open_body, first_body, record_body}
use Rattle.rules.proofs.FileWords.{not_seven, still_zero, count_word, file_word_small, block_kept}

-- the bytes have the words of the hour's file, block by block
pub record Says (s : List ℕ) (h : Hour) : Type 0 where
  pub length_is : length s ≡ file_length hourly h
  pub word_is : (b w : ℕ) → b < blocks_for hourly h → w < 128 → block_word s b w ≡ file_word hourly h b w

-- ---- the file of an hour says it

module _ (h : Hour) where
  pub length_of_file : length (file_of hourly h) ≡ file_length hourly h
  unfolding file_of
  length_of_file = length_values (file_byte hourly h) (file_length hourly h)

  byte_there : (b w j : ℕ) → b < blocks_for hourly h → w < 128 → j < 4 →
      get_or (file_of hourly h) (4 * (128 * b + w) + j) 0 ≡ byte_of (file_word hourly h b w) j
  unfolding file_of file_byte file_length
  byte_there b w j l m q =
      let k : ℕ = 4 * (128 * b + w) + j in
      let block-is : k / 512 ≡ b = omega arith in
      let word_is : k % 512 / 4 ≡ w = omega arith in
      let byte_is : k % 4 ≡ j = omega arith in
      get_or_values (file_byte hourly h) (512 * blocks_for hourly h) k 0 (omega arith) ∙ rw (block-is, word_is, byte_is)

  pub file_says : OfWords h → Says (file_of hourly h) h
  unfolding block_word
  file_says of_words = record {
    length_is = length_of_file;
    word_is = λ b w l m. word_of_bytes (file_of hourly h) (128 * b + w) (file_word hourly h b w) (λ j q. byte_there b w j l m q)
        ∙ mod-eq_of_lt (file_word_small h of_words b w l);
  }

-- ---- bytes that say an hour pass rows 1 to 3

module _ (s : List ℕ) (h : Hour) (says : Says s h) where
  blocks_are : blocks s ≡ blocks_for hourly h
  unfolding blocks file_length
  blocks_are = omega (arith, says.length_is)

  module _ (few : h.count ≤ 250) where
    pub length_whole : bad_length hourly s ≡ None
    unfolding bad_length length_bad file_length
    length_whole =
        let one = some_blocks h in
        rw (
          ne_eqb (length s) 0 (λ e. omega (arith, says.length_is)),
          eq-eqb (length s % 512) 0 (omega (arith, says.length_is)),
          le-ltb 13312 (length s) (omega (arith, says.length_is)),
        )

  pub sums_whole : bad_sum s ≡ None
  unfolding bad_sum block_sum file_word
  sums_whole = none_below _ (blocks s) (λ b l. ap not (eq-eqb _ 0 (
      ap (λ (k : ℕ). k % 0x1_0000_0000)
      (sum_ext (block_word s b) (file_word hourly h b) 128 (λ w m. says.word_is b w (rw blocks_are at l) m))
      ∙ closed_sum (open_word hourly h b) 128 (omega arith) (still_zero h b))))

  pub blocks_whole : bad_block hourly s ≡ None
  unfolding bad_block first_broken
  blocks_whole = none_below _ (blocks s) (λ b l.
      let there : b < blocks_for hourly h = rw blocks_are at l in
      ap is_broken (none_below _ 128 (λ w m.
      rw (blocks_are, says.word_is b 2 there (omega arith), says.word_is b w there m) (block_kept h b there w))))

  -- ---- and hold that hour

  count_read : record_count hourly s ≡ h.count
  unfolding record_count
  count_read = rw blocks_are (split (leb n 1)
      (λ t. rw t (omega (arith, some_blocks h, leb-true n 1 t)))
      (λ t. let more : 1 < n = leb-false n 1 t in
      let last_held : block_word s (n - 1) 2 ≡ h.count - 10 * (n - 2) = last_count more in
      rw (t, last_held) (omega (arith, some_blocks h))))
    where
      n : ℕ
      n = blocks_for hourly h

      last_count : 1 < n → block_word s (n - 1) 2 ≡ h.count - 10 * (n - 2)
      last_count more = let e : n - 1 - 1 ≡ n - 2 = omega arith in
          says.word_is (n - 1) 2 (omega arith) (omega arith)
          ∙ not_seven h (n - 1) 2 (λ e. omega arith)
          ∙ count_word h (n - 1) (omega arith)
          ∙ held_last h (n - 1) (omega arith)
          ∙ ap (λ (k : ℕ). h.count - 10 * k) e

  body_read : (b k : ℕ) → b < blocks_for hourly h → k < 120 → block_word s b (8 + k) ≡ body_word hourly h b k
  body_read b k l m = says.word_is b (8 + k) l (omega arith) ∙ not_seven h b (8 + k) (λ e. omega arith) ∙ open_body h b k

  head_read : (w : ℕ) → 8 ≤ w → w < 128 → block_word s 0 w ≡ h.head w
  head_read w l m = let e : 8 + (w - 8) ≡ w = omega arith in
      ap (block_word s 0) (sym e)
      ∙ body_read 0 (w - 8) (omega (arith, some_blocks h)) (omega arith)
      ∙ first_body h (w - 8)
      ∙ ap h.head e

  record_read : (i w : ℕ) → i < h.count → w < 12 → record_word hourly s i w ≡ h.rec i w
  unfolding record_word
  record_read i w l m =
      let b : ℕ = 1 + i / 10 in
      let k : ℕ = 12 * (i % 10) + w in
      let there : b < blocks_for hourly h = omega (arith, some_blocks h) in
      let place : 8 + 12 * (i % 10) + w ≡ 8 + k = omega arith in
      let record_is : 10 * (b - 1) + k / 12 ≡ i = omega arith in
      let word_is : k % 12 ≡ w = omega arith in
      ap (block_word s b) place
      ∙ body_read b k there (omega arith)
      ∙ record_body h b k (omega arith) (inside there)
      ∙ ap₂ (λ (x y : ℕ). h.rec x y) record_is word_is
    where
      inside : 1 + i / 10 < blocks_for hourly h → 12 * (i % 10) + w < 12 * held_in hourly h (1 + i / 10)
      inside there = split (ltb (1 + i / 10 + 1) (blocks_for hourly h))
          (λ t. rw (held_full h (1 + i / 10) (ltb-true _ _ t)) (omega arith))
          (λ t. rw (held_last h (1 + i / 10) (ltb-false _ _ t)) (omega arith))

pub same_hour : (g h : Hour) → ((w : ℕ) → g.head w ≡ h.head w) → g.count ≡ h.count → ((i w : ℕ) → g.rec i w ≡ h.rec i w) → g ≡ h
same_hour g h heads counts recs =
    ap (λ (f : ℕ → ℕ). record { head = f; count = g.count; rec = g.rec }) (fun_ext heads)
    ∙ ap (λ (k : ℕ). record { head = h.head; count = k; rec = g.rec }) counts
    ∙ ap (λ (f : ℕ → ℕ → ℕ). record { head = h.head; count = h.count; rec = f }) (fun_ext (λ i. fun_ext (recs i)))

pub says_holds : (s : List ℕ) (h : Hour) → Says s h → OfWords h → hour_in s ≡ h
unfolding hour_of
says_holds s h says of_words = same_hour _ h
    (λ w. split (leb 8 w && ltb w 128)
    (λ t. let p = both (leb 8 w) (ltb w 128) t in rw t (head_read s h says w (leb-true 8 w p.0) (ltb-true w 128 p.1)))
    (λ t. rw t (sym (of_words.no_head w t))))
    (count_read s h says)
    (λ i w. rw (count_read s h says) (split (ltb i h.count && ltb w 12)
    (λ t. let p = both (ltb i h.count) (ltb w 12) t in
    rw t (record_read s h says i w (ltb-true i h.count p.0) (ltb-true w 12 p.1)))
    (λ t. rw t (sym (of_words.no_rec i w t)))))

-- ---- no other bytes say an hour than its file

pub only_file : (s : List ℕ) (h : Hour) → AreBytes s → Says s h → file_of hourly h ≡ s
unfolding file_length block_word
only_file s h bytes says =
    ext_get_or 0 (file_of hourly h) s (length_of_file h ∙ sym says.length_is) (λ k l. byte k (rw (length_of_file h) at l))
  where
    byte : (k : ℕ) → k < 512 * blocks_for hourly h → get_or (file_of hourly h) k 0 ≡ get_or s k 0
    byte k l =
        let b : ℕ = k / 512 in
        let w : ℕ = k % 512 / 4 in
        let place : 4 * (128 * b + w) + k % 4 ≡ k = omega arith in
        ap (λ (i : ℕ). get_or (file_of hourly h) i 0) (sym place)
        ∙ byte_there h b w (k % 4) (omega arith) (omega arith) (omega arith)
        ∙ ap (λ (v : ℕ). byte_of v (k % 4)) (sym (says.word_is b w (omega arith) (omega arith)))
        ∙ byte_of_word s bytes (128 * b + w) (k % 4) (omega arith)
        ∙ ap (λ (i : ℕ). get_or s i 0) place
