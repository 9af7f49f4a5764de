-- In a file that keeps its ranges the head and every record lie whole, so that words are read without a test: past the end a kind would
-- be 0, which is none.
use mathlib.Core.Path.{◌≡◌, sym, ◌∙◌, ap}
use mathlib.Core.Bool.{false}
use mathlib.Core.List.{List}
use Prim.Native.Nat.{ℕ, ◌+◌, ◌*◌, ◌/◌, ◌%◌, ◌≤◌, ◌<◌}
use native.Mathlib.Omega.{arith}
use lib.ListN.{length}
use Rattle.rules.specs.HourFile.{hourly, word, length_bad, blocks, block_word, record_word, hour_in}
use Rattle.rules.specs.Inner.Kept.{FileKept}
use Rattle.rules.proofs.Layouts.{hourly_fits}
use Rattle.rules.proofs.Words.{length_is_whole, record_count_lem, record_word_lem, head_word}
use Rattle.rules.proofs.PartWords.{word_past, record_part_word}
use Rattle.blocks.specs.Part.{record_part, RecordThere}
use Rattle.blocks.proofs.Parts.{record_part_length}

module _ (s : List ℕ) (i : ℕ) (good : length_bad hourly s ≡ false) (there : i < (hour_in s).count) where
  -- a word of a record, read from the record's part of the file
  pub part_word : {words : List ℕ} → words ≡ record_part hourly s i → (w : ℕ) → w < 12 → word words w ≡ (hour_in s).rec i w
  part_word part w l =
      ap (λ (p : List ℕ). word p w) part ∙ record_part_word hourly_fits s i good w (rw (← record_count_lem) there) l

  -- the first word of a record that lies past the last block is 0
  kind_past : blocks s ≤ 1 + i / 10 → (hour_in s).rec i 0 ≡ 0
  unfolding record_word block_word
  kind_past l =
      let whole = length_is_whole hourly s good in
      record_word_lem hourly s i 0 (rw (← record_count_lem) there) (omega arith)
      ∙ word_past s (128 * (1 + i / 10) + (8 + 12 * (i % 10) + 0)) (omega (arith, whole.all_blocks))

module _ {s : List ℕ} {i : ℕ} (kept : FileKept s) (there : i < (hour_in s).count) where
  past_not : blocks s ≤ 1 + i / 10 → ⊥
  past_not l = omega (arith, kind_past s i kept.length_good there l, (kept.hour_kept.record_kept i there).kind_least)

  pub record_inside : RecordThere hourly s i
  record_inside = record { length_good = kept.length_good; block_there = omega (arith, past_not) }

  module _ {words : List ℕ} (part : words ≡ record_part hourly s i) where
    pub record_length : length words ≡ 48
    record_length = ap length part ∙ record_part_length hourly_fits record_inside

    pub record_says : (w : ℕ) → w < 12 → word words w ≡ (hour_in s).rec i w
    record_says w l = part_word s i kept.length_good there part w l

-- ---- the head

module _ {s : List ℕ} (kept : FileKept s) (w : ℕ) (few : w < 128) where
  pub head_inside : 4 * w + 3 < length s
  head_inside =
      let whole = length_is_whole hourly s kept.length_good in
      omega (arith, whole.all_blocks, whole.at_least_one)

  pub head_there : 8 ≤ w → word s w ≡ (hour_in s).head w
  unfolding block_word
  head_there least = ap (word s) (omega arith) ∙ sym (head_word hourly s w least few)
