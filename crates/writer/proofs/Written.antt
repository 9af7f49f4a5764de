-- What the definition of writing says where it refuses and where it accepts, and the room that acceptance leaves.
use Rattle.std.proofs.Common.{◌≡◌, ℕ, ◌≤◌, false, List, length, sym, ap, ◌∙◌}
use Rattle.whole.specs.Below.{replacing_first}
use Rattle.rules.specs.declared.Refusal.{Refusal}
use Rattle.rules.specs.Record.{Hour}
use Rattle.rules.specs.HourFile.{hourly}
use Rattle.rules.specs.HourWords.{file_byte, file_length}
use Rattle.rules.specs.Refusals.{Row, accepted, refusal_verdict, verdict, write_hour_rows}
use Rattle.rules.specs.Settling.{is_accepted, write_hour}
use Rattle.rules.proofs.Rows.{numbered}
use Rattle.rules.proofs.Writing.{verdict_is, written, room_there}
use Rattle.writer.specs.Lists.{hour_of_lists}

module _ (head records file : List ℕ) where
  abbrev h : Hour
  h = hour_of_lists head records

  abbrev rows : List Row
  rows = write_hour_rows head records (length file)

  pub refused_leaves : (r : Refusal) → refusal_verdict r ≡ verdict rows →
      write_hour head records file ≡ record { verdict = refusal_verdict r; length = 0; file = file }
  unfolding write_hour
  refused_leaves r e =
      let refused : is_accepted (verdict rows) ≡ false = ap is_accepted (sym e) ∙ numbered r in
      rw (refused, e)

  passed : verdict rows ≡ accepted → (write_hour head records file).verdict ≡ accepted
  passed e = verdict_is head records file ∙ e

  pub accepted_fills : verdict rows ≡ accepted → write_hour head records file ≡ record {
    verdict = accepted;
    length = file_length hourly h;
    file = replacing_first (file_byte hourly h) (file_length hourly h) file;
  }
  accepted_fills e = written head records file (passed e)

  pub accepted_room : verdict rows ≡ accepted → file_length hourly h ≤ length file
  accepted_room e = room_there head records file (passed e)
