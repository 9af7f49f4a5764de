-- What an hour's parts say is the hour, in any layout: the head by the first body, a record by its part of the file or of the list.
use Rattle.std.proofs.Common.{◌≡◌, sym, ◌∙◌, ap, ℕ, ◌+◌, ◌-◌, ◌*◌, ◌/◌, ◌≤◌, ◌<◌, List, length, get_or, take, drop, arith}
use Rattle.std.proofs.Math.Nat.{div-lt_iff_lt-mul, mul-div-le, mul-le-mul_left}
use lib.Seq.{get_or-take, get_or-drop}
use Rattle.rules.specs.declared.Layout.{Layout}
use Rattle.rules.specs.HourFile.{word, blocks, block_word, body, hour_of}
use Rattle.rules.specs.HourWords.{hour_from}
use Rattle.rules.specs.Inner.Layouts.{FitsBody}
use Rattle.rules.proofs.Words.{length_is_whole, record_count_lem, head_word, body_length, body_word_lem}
use Rattle.rules.proofs.PartWords.{record_part_word}
use Rattle.blocks.specs.Part.{record_part, RecordThere}
use Rattle.blocks.proofs.Parts.{record_part_length}
use Rattle.examine.specs.Whole.{BlocksWhole}
use Rattle.examine.proofs.Listed.{said_count, said_word, part_is, part_length}

-- ---- in a file

module _ {l : Layout} {s : List ℕ} (whole : BlocksWhole l s) where
  pub head_length : length (body l s 0) / 4 ≡ 120
  head_length = omega (arith, body_length l s 0 whole.length_good (length_is_whole l s whole.length_good).at_least_one)

  pub head_says : (w : ℕ) → 8 ≤ w → w < 128 → word (body l s 0) (w - 8) ≡ (hour_of l s).head w
  head_says w a b =
      body_word_lem l s 0 whole.length_good (w - 8) (omega arith) ∙ ap (block_word s 0) (omega arith) ∙ sym (head_word l s w a b)

  module _ (fit : FitsBody l) (i : ℕ) (counted : i < (hour_of l s).count) where
    pub block_there : RecordThere l s i
    block_there = record {
      length_good = whole.length_good;
      block_there = in_a_block;
    }
      where
        below : i < (blocks s - 1) * l.records
        below = omega (arith, rw (record_count_lem l s) at counted, whole.few_records)

        in_a_block : 1 + i / l.records < blocks s
        in_a_block = omega (arith, (div-lt_iff_lt-mul fit.some_records).1 below)

    pub record_length : length (record_part l s i) / 4 ≡ l.words
    record_length = omega (arith, record_part_length fit block_there)

    pub record_says : (w : ℕ) → w < l.words → word (record_part l s i) w ≡ (hour_of l s).rec i w
    record_says w m = record_part_word fit s i whole.length_good w (rw (record_count_lem l s) at counted) m

-- ---- in lists

module _ {l : Layout} (fit : FitsBody l) (head records : List ℕ) {i size : ℕ} (e : size ≡ l.words) where
  module _ (counted : i < (hour_from l head records).count) where
    counted_whole : i < length records / l.words
    counted_whole = rw (said_count l head records) at counted

    pub ends_inside : size * i + size ≤ length records
    ends_inside = rw e (omega (arith, mul-div-le (length records) l.words, mul-le-mul_left l.words counted_whole))

    pub list_length : length (take (size * i + size - size * i) (drop (size * i) records)) ≡ l.words
    list_length = ap length (part_is records (size * i) size) ∙ part_length records (size * i) size ends_inside ∙ e

    pub list_says : (w : ℕ) → w < l.words →
        get_or (take (size * i + size - size * i) (drop (size * i) records)) w 0 ≡ (hour_from l head records).rec i w
    list_says w m =
        ap (λ (part : List ℕ). get_or part w 0) (part_is records (size * i) size)
        ∙ get_or-take size (drop (size * i) records) w 0 (omega arith)
        ∙ get_or-drop (size * i) records w 0
        ∙ ap (λ (words : ℕ). get_or records (words * i + w) 0) e
        ∙ sym (said_word l head records i w counted_whole m)
