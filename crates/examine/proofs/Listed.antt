-- The hour that a head and records as lists say, word by word, and a part of a list.
use mathlib.Core.Path.{◌≡◌, refl, ap}
use mathlib.Core.List.{List}
use Prim.Native.Nat.{ℕ, ◌+◌, ◌-◌, ◌*◌, ◌/◌, ◌≤◌, ◌<◌}
use native.Mathlib.Omega.{arith}
use lib.ListN.{length, get_or, take, drop, length-drop}
use lib.Seq.{length-take-le}
use borrow.Author.Tests.{lt-ltb, le-leb}
use Rattle.rules.specs.declared.Layout.{Layout}
use Rattle.rules.specs.Record.{Hour}
use Rattle.rules.specs.HourWords.{hour_from}

module _ (l : Layout) (head records : List ℕ) where
  abbrev h : Hour
  h = hour_from l head records

  pub said_count : h.count ≡ length records / l.words
  unfolding hour_from
  said_count = refl

  pub said_head : (w : ℕ) → 8 ≤ w → w < 128 → h.head w ≡ get_or head (w - 8) 0
  unfolding hour_from
  said_head w a b = rw (le-leb 8 w a, lt-ltb w 128 b)

  pub said_word : (i w : ℕ) → i < length records / l.words → w < l.words → h.rec i w ≡ get_or records (l.words * i + w) 0
  unfolding hour_from
  said_word i w a b = rw (lt-ltb i (length records / l.words) a, lt-ltb w l.words b)

-- ---- a part of a list

pub gap : (from n : ℕ) → from + n - from ≡ n
gap from n = omega arith

module _ (l : List ℕ) (from n : ℕ) where
  pub part_is : take (from + n - from) (drop from l) ≡ take n (drop from l)
  part_is = ap (λ (m : ℕ). take m (drop from l)) (gap from n)

  pub part_length : from + n ≤ length l → length (take n (drop from l)) ≡ n
  part_length room = length-take-le n (drop from l) (omega (arith, length-drop from l))
