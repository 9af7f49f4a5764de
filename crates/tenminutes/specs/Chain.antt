-- The records of each member, chained in the order of the file: where a member's first record stands, and behind each record where the next
-- one of its member stands.
use Rattle.std.specs.Prelude.{ℕ, ◌+◌, ◌≤◌, ◌<◌, ◌≡◌, List, Option, None, Some, length, slice_index_or}
use Rattle.rules.specs.Record.{Hour, member_of}

-- from record i on, the first record of member m is j
pub record First (h : Hour) (m i j : ℕ) : Type 0 where
  pub onward : i ≤ j
  pub there : j < h.count
  pub its_own : member_of h j ≡ m
  pub others_between : (k : ℕ) → i ≤ k → k < j → member_of h k ≡ m → ⊥

-- from record i on, the first record of member m is the one that is named, and where none is named there is none
pub record Leads (h : Hour) (m i : ℕ) (named : Option ℕ) : Type 0 where
  pub first : (j : ℕ) → named ≡ Some j → First h m i j
  pub ended : named ≡ None → (k : ℕ) → i ≤ k → k < h.count → member_of h k ≡ m → ⊥

-- the records from record i on are chained
pub record Chained (h : Hour) (i : ℕ) (firsts nexts : List (Option ℕ)) : Type 0 where
  pub a_place_each_member : length firsts ≡ 32
  pub a_place_each_record : length nexts ≡ 64
  pub first_is : (m : ℕ) → m < 32 → Leads h m i (slice_index_or firsts m None)
  pub next_is : (k : ℕ) → i ≤ k → k < h.count → Leads h (member_of h k) (k + 1) (slice_index_or nexts k None)
