-- A record's part of a file that keeps its ranges has the record's numbers.
use mathlib.Core.Path.{◌≡◌, ap}
use mathlib.Core.List.{List}
use Prim.Native.Nat.{ℕ, ◌<◌}
use native.Mathlib.Omega.{arith}
use lib.ListN.{length}
use Rattle.rules.specs.Record.{member_of, area_of, entry, entry_of, kind_of}
use Rattle.rules.specs.HourFile.{hourly, word, hour_in}
use Rattle.rules.specs.Inner.Posting.{demand_by, demand_of}
use Rattle.rules.specs.Inner.Kept.{FileKept, EntryKept}
use Rattle.blocks.specs.Part.{record_part}
use Rattle.hour.proofs.Inside.{record_length, record_says}

-- row is record i's part of a file that keeps its ranges
pub record PartOf (s : List ℕ) (i : ℕ) (words : List ℕ) : Type 0 where
  pub kept : FileKept s
  pub there : i < (hour_in s).count
  pub part : words ≡ record_part hourly s i

module _ {s words : List ℕ} {i : ℕ} (p : PartOf s i words) where
  pub part_length : length words ≡ 48
  part_length = record_length p.kept p.there p.part

  says : (w : ℕ) → w < 12 → word words w ≡ (hour_in s).rec i w
  says = record_says p.kept p.there p.part

  pub part_kind : kind_of (word words 0) ≡ (entry_of (hour_in s) i).kind
  unfolding entry_of entry
  part_kind = ap kind_of (says 0 (omega arith))

  pub part_member : word words 1 ≡ member_of (hour_in s) i
  unfolding member_of
  part_member = says 1 (omega arith)

  pub part_area : word words 2 ≡ area_of (hour_in s) i
  unfolding area_of
  part_area = says 2 (omega arith)

  pub part_entry : entry (word words) ≡ entry_of (hour_in s) i
  unfolding entry_of entry
  part_entry = rw (
    says 0 (omega arith),
    says 3 (omega arith),
    says 4 (omega arith),
    says 5 (omega arith),
    says 6 (omega arith),
    says 7 (omega arith),
    says 8 (omega arith),
    says 9 (omega arith),
    says 10 (omega arith),
  )

  -- so that the formulas may be worked of it
  pub part_entry_kept : EntryKept (entry (word words))
  part_entry_kept = rw part_entry (p.kept.hour_kept.record_kept i p.there).entry_kept

  pub part_demand : demand_by (entry (word words)) ≡ demand_of (hour_in s) i
  part_demand = ap demand_by part_entry
