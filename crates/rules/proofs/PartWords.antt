-- Words of a part of a file: past the end, of a block's 512 bytes, of a record's. Document 01, "The hour file".
use mathlib.Core.Path.{◌≡◌, sym, ◌∙◌, ap}
use mathlib.Core.Bool.{false}
use mathlib.Core.List.{List}
use Prim.Native.Nat.{ℕ, ◌+◌, ◌*◌, ◌/◌, ◌%◌, ◌≤◌, ◌<◌}
use native.Mathlib.Omega.{arith}
use lib.ListN.{length, get_or, take, drop, get_or-eq_default}
use lib.Seq.{get_or-drop, get_or-take}
use Rattle.whole.specs.Below.{sum_below}
use Rattle.whole.proofs.Sums.{sum_ext}
use Rattle.rules.specs.declared.Layout.{Layout}
use Rattle.rules.specs.HourFile.{word, block_word, block_sum, length_bad, body, record_count, record_word, hour_of}
use Rattle.rules.specs.Inner.Layouts.{FitsBody}
use Rattle.rules.proofs.Words.{body_word_lem, record_word_lem}
use Rattle.rules.proofs.Layouts.{ends_inside}

module _ (s : List ℕ) where
  byte_past : (i : ℕ) → length s ≤ i → get_or s i 0 ≡ 0
  byte_past i l = get_or-eq_default s 0 l

  -- a word past the end is 0
  pub word_past : (k : ℕ) → length s ≤ 4 * k → word s k ≡ 0
  unfolding word
  word_past k l = rw (
    byte_past (4 * k) l,
    byte_past (4 * k + 1) (omega arith),
    byte_past (4 * k + 2) (omega arith),
    byte_past (4 * k + 3) (omega arith),
  )

  part_byte : (from n i j : ℕ) → i < n → j ≡ from + i → get_or (take n (drop from s)) i 0 ≡ get_or s j 0
  part_byte from n i j l e = rw e (get_or-take n (drop from s) i 0 l ∙ get_or-drop from s i 0)

  -- word k of a part is the file's word j that stands there
  part_word : (from n k j : ℕ) → 4 * k + 3 < n → 4 * j ≡ from + 4 * k → word (take n (drop from s)) k ≡ word s j
  unfolding word
  part_word from n k j l e = rw (
    part_byte from n (4 * k) (4 * j) (omega arith) e,
    part_byte from n (4 * k + 1) (4 * j + 1) (omega arith) (omega arith),
    part_byte from n (4 * k + 2) (4 * j + 2) (omega arith) (omega arith),
    part_byte from n (4 * k + 3) (4 * j + 3) (omega arith) (omega arith),
  )

  -- ---- a block

  pub block_part_word : (b w : ℕ) → w < 128 → word (take 512 (drop (512 * b) s)) w ≡ block_word s b w
  unfolding block_word
  block_part_word b w l = part_word (512 * b) 512 w (128 * b + w) (omega arith) (omega arith)

  pub block_part_sum : (b : ℕ) → sum_below (word (take 512 (drop (512 * b) s))) 128 % 0x1_0000_0000 ≡ block_sum s b
  unfolding block_sum
  block_part_sum b = ap (λ (n : ℕ). n % 0x1_0000_0000) (sum_ext _ _ 128 (block_part_word b))

-- ---- a record: a part of its block's body

module _ {l : Layout} (fit : FitsBody l) (s : List ℕ) (i : ℕ) (good : length_bad l s ≡ false) where
  abbrev from : ℕ
  from = 4 * l.words * (i % l.records)

  pub record_part_word : (w : ℕ) → i < record_count l s → w < l.words →
      word (take (4 * l.words) (drop from (body l s (1 + i / l.records)))) w ≡ (hour_of l s).rec i w
  unfolding record_word
  record_part_word w k m =
      let before : ℕ = l.words * (i % l.records) in
      part_word (body l s (1 + i / l.records)) from (4 * l.words) w (before + w) (omega arith) (omega arith)
      ∙ body_word_lem l s (1 + i / l.records) good (before + w) (omega (arith, ends_inside fit i))
      ∙ ap (block_word s (1 + i / l.records)) (sym (grouped before))
      ∙ sym (record_word_lem l s i w k m)
    where
      grouped : (before : ℕ) → 8 + before + w ≡ 8 + (before + w)
      grouped before = omega arith
