-- The writer's rows as the code checks them: 1 and 11 by lengths, those between by the search.
use Rattle.std.proofs.Common.{◌≡◌, ℕ, ◌+◌, ◌*◌, ◌/◌, ◌%◌, ◌<◌, ◌≤◌, List, [], ◌∷◌, ◌++◌, length, sym, refl, ◌∙◌, arith, le-ltb, lt-ltb, eq-eqb}
use Rattle.std.specs.Prelude.{None, Some}
use Rattle.rules.specs.declared.Refusal.{Refusal}
use Rattle.rules.specs.declared.Refusal.TheVariants.{BadLength}
use Rattle.rules.specs.Record.{Hour}
use Rattle.rules.specs.HourFile.{hourly}
use Rattle.rules.specs.HourWords.{hour_from, blocks_for, file_length}
use Rattle.rules.specs.Refusals.{Row, row, accepted, refusal_verdict, verdict, bad_lists, no_room, word_rows, comparison_rows, list_form_rows, list_rows}
use Rattle.rules.specs.Refusals.{write_hour_rows}
use Rattle.rules.proofs.Rows.{Numbered, accepts_when_whole, refused_first, passed_on, never_accepted}
use Rattle.examine.proofs.Listed.{said_count}
use Rattle.writer.specs.Lists.{hour_of_lists, search_rows, ListsWhole}

module _ (head records : List ℕ) where
  abbrev h : Hour
  h = hour_of_lists head records

  -- ---- rows 1 and 11

  lists_good : ListsWhole head records → bad_lists head records ≡ None
  unfolding bad_lists
  lists_good whole =
      let count = said_count hourly head records in
      rw (eq-eqb _ _ whole.head_whole, eq-eqb (length records % 12) 0 (omega (arith, whole.records_whole)), le-ltb 250 (length records / 12) (omega (arith, whole.few_records))) refl

  pub lists_refused : (room : ℕ) → bad_lists head records ≡ Some 0 → refusal_verdict BadLength ≡ verdict (write_hour_rows head records room)
  unfolding verdict list_form_rows list_rows write_hour_rows
  lists_refused room e = rw e

  pub block_count : blocks_for hourly h ≡ 1 + (length records / 12 + 9) / 10
  unfolding blocks_for hour_from
  block_count = refl

  pub file_length_lem : file_length hourly h ≡ 512 * blocks_for hourly h
  unfolding file_length
  file_length_lem = refl

  pub few_blocks : ListsWhole head records → blocks_for hourly h ≤ 26
  few_blocks whole = omega (arith, whole.few_records, said_count hourly head records, block_count)

  -- the room for so many blocks
  module _ (room n : ℕ) (e : n ≡ blocks_for hourly h) where
    pub no_room_lem : room < 512 * n → no_room h room ≡ Some 0
    unfolding no_room
    no_room_lem l = rw (lt-ltb room (file_length hourly h) (omega (arith, file_length_lem)))

    pub has_room : 512 * n ≤ room → no_room h room ≡ None
    unfolding no_room
    has_room l = rw (le-ltb room (file_length hourly h) (omega (arith, file_length_lem)))

  -- ---- the rows between

  abbrev searched : List Row
  searched = search_rows head records

  search_numbered : Numbered searched
  unfolding word_rows comparison_rows
  search_numbered = omega arith

  module _ (room : ℕ) (whole : ListsWhole head records) where
    abbrev room_row : List Row
    room_row = row 11 (no_room h room) ∷ []

    row_1_passed : verdict (write_hour_rows head records room) ≡ verdict (searched ++ room_row)
    unfolding verdict word_rows comparison_rows list_form_rows list_rows write_hour_rows
    row_1_passed = rw (lists_good whole)

    -- what the search refuses is refused
    pub search_refused : (r : Refusal) → refusal_verdict r ≡ verdict searched → refusal_verdict r ≡ verdict (write_hour_rows head records room)
    search_refused r e =
        e ∙ sym (row_1_passed ∙ refused_first searched room_row (λ passed. never_accepted r (e ∙ passed)))

    -- what it passes, row 11 decides
    pub search_passed : verdict searched ≡ accepted → verdict (write_hour_rows head records room) ≡ verdict room_row
    search_passed e = row_1_passed ∙ passed_on searched room_row ((accepts_when_whole searched search_numbered).0 e)
