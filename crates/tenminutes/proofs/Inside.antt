-- In a ten-minute file that keeps its ranges the head and every record lie whole, so that words are read without a test: past the end a
-- kind would be 0, which is none. A record's part has the record's numbers.
use mathlib.Core.Path.{◌≡◌, sym, ◌∙◌, ap}
use mathlib.Core.Bool.{false}
use mathlib.Core.List.{List}
use Prim.Native.Nat.{ℕ, ◌+◌, ◌*◌, ◌/◌, ◌%◌, ◌≤◌, ◌<◌}
use native.Mathlib.Omega.{arith}
use lib.ListN.{length}
use Rattle.rules.specs.Record.{member_of, area_of}
use Rattle.rules.specs.HourFile.{ten_minutes, word, length_bad, blocks, block_word, record_word}
use Rattle.rules.specs.TenMinutes.{ramp_part, scheduled_in, actual_in, interval_entry, interval_of, ten_minutes_in}
use Rattle.rules.specs.Inner.Kept.{IntervalWords, TenMinutesFileKept}
use Rattle.rules.proofs.Layouts.{ten_minutes_fits}
use Rattle.rules.proofs.Words.{length_is_whole, record_count_lem, record_word_lem, head_word}
use Rattle.rules.proofs.PartWords.{word_past, record_part_word}
use Rattle.blocks.specs.Part.{record_part, RecordThere}
use Rattle.blocks.proofs.Parts.{record_part_length}

module _ (s : List ℕ) (i : ℕ) (good : length_bad ten_minutes s ≡ false) (there : i < (ten_minutes_in s).count) where
  -- a word of a record, read from the record's part of the file
  part_word : {words : List ℕ} → words ≡ record_part ten_minutes s i → (w : ℕ) → w < 30 → word words w ≡ (ten_minutes_in s).rec i w
  part_word part w l =
      ap (λ (p : List ℕ). word p w) part ∙ record_part_word ten_minutes_fits s i good w (rw (← record_count_lem) there) l

  -- the first word of a record that lies past the last block is 0
  kind_past : blocks s ≤ 1 + i / 4 → (ten_minutes_in s).rec i 0 ≡ 0
  unfolding record_word block_word
  kind_past l =
      let whole = length_is_whole ten_minutes s good in
      record_word_lem ten_minutes s i 0 (rw (← record_count_lem) there) (omega arith)
      ∙ word_past s (128 * (1 + i / 4) + (8 + 30 * (i % 4) + 0)) (omega (arith, whole.all_blocks))

module _ {s : List ℕ} {i : ℕ} (kept : TenMinutesFileKept s) (there : i < (ten_minutes_in s).count) where
  past_not : blocks s ≤ 1 + i / 4 → ⊥
  past_not l = omega (arith, kind_past s i kept.length_good there l, (kept.hour_kept.record_kept i there).kind_least)

  pub record_inside : RecordThere ten_minutes s i
  record_inside = record { length_good = kept.length_good; block_there = omega (arith, past_not) }

  module _ {words : List ℕ} (part : words ≡ record_part ten_minutes s i) where
    pub part_length : length words ≡ 120
    part_length = ap length part ∙ record_part_length ten_minutes_fits record_inside

    says : (w : ℕ) → w < 30 → word words w ≡ (ten_minutes_in s).rec i w
    says w l = part_word s i kept.length_good there part w l

    pub part_member : word words 1 ≡ member_of (ten_minutes_in s) i
    unfolding member_of
    part_member = says 1 (omega arith)

    pub part_area : word words 2 ≡ area_of (ten_minutes_in s) i
    unfolding area_of
    part_area = says 2 (omega arith)

    pub part_kept : IntervalWords (word words)
    part_kept = let own = (kept.hour_kept.record_kept i there).words_kept in record {
      this_most = rw (says 3 (omega arith)) own.this_most;
      before_most = rw (says 4 (omega arith)) own.before_most;
      next_most = rw (says 5 (omega arith)) own.next_most;
      F_most = rw (says 6 (omega arith)) own.F_most;
      H_most = rw (says 7 (omega arith)) own.H_most;
      actuals_most = λ k l. rw (says (8 + k) (omega arith)) (own.actuals_most k l);
      adjustments_in = λ k l. rw (says (14 + k) (omega arith)) (own.adjustments_in k l);
      ancillary_most = λ k l. rw (says (20 + k) (omega arith)) (own.ancillary_most k l);
    }

    -- an interval of the part is that of the record
    pub part_interval : (k : ℕ) → k < 6 → interval_entry (word words) k ≡ interval_of (ten_minutes_in s) i k
    unfolding interval_of interval_entry scheduled_in ramp_part actual_in
    part_interval k l = rw (
      says 0 (omega arith),
      says 3 (omega arith),
      says 4 (omega arith),
      says 5 (omega arith),
      says 6 (omega arith),
      says 7 (omega arith),
      says 8 (omega arith),
      says (8 + k) (omega arith),
      says (14 + k) (omega arith),
      says (20 + k) (omega arith),
    )

-- ---- the head

module _ {s : List ℕ} (kept : TenMinutesFileKept s) (w : ℕ) (few : w < 128) where
  pub head_inside : 4 * w + 3 < length s
  head_inside =
      let whole = length_is_whole ten_minutes s kept.length_good in
      omega (arith, whole.all_blocks, whole.at_least_one)

  pub head_there : 8 ≤ w → word s w ≡ (ten_minutes_in s).head w
  unfolding block_word
  head_there least = ap (word s) (omega arith) ∙ sym (head_word ten_minutes s w least few)
