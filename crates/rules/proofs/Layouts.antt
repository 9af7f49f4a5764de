-- Layouts whose records fit into a body: both do; how few records and words that leaves, and where a record lies in its body.
use Prim.Native.Nat.{ℕ, ◌+◌, ◌*◌, ◌%◌, ◌≤◌}
use native.Mathlib.Nat.{mod-lt, mul-le-mul_left, mul-le-mul_right}
use native.Mathlib.Omega.{arith}
use Rattle.rules.specs.declared.Layout.{Layout}
use Rattle.rules.specs.HourFile.{hourly, ten_minutes}
use Rattle.rules.specs.Inner.Layouts.{FitsBody}

pub hourly_fits : FitsBody hourly
hourly_fits = record { some_records = omega arith; some_words = omega arith; no_longer = omega arith }

pub ten_minutes_fits : FitsBody ten_minutes
ten_minutes_fits = record { some_records = omega arith; some_words = omega arith; no_longer = omega arith }

module _ {l : Layout} (fit : FitsBody l) where
  abbrev records : ℕ
  records = l.records

  abbrev words : ℕ
  words = l.words

  pub few_to_a_block : records ≤ 120
  few_to_a_block = omega (arith, fit.no_longer, mul-le-mul_right records fit.some_words)

  pub few_to_a_record : words ≤ 120
  few_to_a_record = omega (arith, fit.no_longer, mul-le-mul_left words fit.some_records)

  -- record i ends in its body
  pub ends_inside : (i : ℕ) → words * (i % records) + words ≤ 120
  ends_inside i = omega (arith, fit.no_longer, mul-le-mul_left words (mod-lt i fit.some_records))
