-- What is asked of imports, as statements about the definitions: an import that says what was metered is refused, by the reader and by the
-- writer. That its A is S, in the deviation and in the losses, demand 2 says (`Tariff`). Document 02, A3.
use Rattle.std.specs.Prelude.{ℕ, ◌<◌, ◌≡◌, List, None}
use Rattle.rules.specs.Record.{Hour}
use Rattle.rules.specs.HourFile.{hourly, hour_in}
use Rattle.rules.specs.HourWords.{hour_from}
use Rattle.rules.specs.Refusals.{accepted, refused_at, verdict, bad_head, bad_word, bad_lists, block_rows, Buffers}
use Rattle.rules.specs.Settling.{settle, write_hour}
use Rattle.rules.specs.Ranges.{hourly_form}

-- record i is an import whose word 4 isn't zero, and nothing before it breaks a rule, in the head or in a record
pub record FirstMetered (h : Hour) (i : ℕ) : Type 0 where
  pub head_whole : bad_head hourly_form h ≡ None
  pub there : i < h.count
  pub is_import_lem : h.rec i 0 ≡ 4
  pub metered : h.rec i 4 ≡ 0 → ⊥
  pub before : (j : ℕ) → j < i → bad_word hourly_form h j ≡ None

pub record Imports : Type 0 where
  -- 5, of every file whose blocks pass rows 1 to 3, whatever else that record breaks
  pub refused : (s : List ℕ) (b : Buffers) (i : ℕ) → verdict (block_rows hourly s) ≡ accepted →
      FirstMetered (hour_in s) i → (settle s b).verdict ≡ refused_at 5 i
  -- and of lists that pass the writer's row 1
  pub unwritten : (head records file : List ℕ) (i : ℕ) → bad_lists head records ≡ None →
      FirstMetered (hour_from hourly head records) i → (write_hour head records file).verdict ≡ refused_at 5 i
