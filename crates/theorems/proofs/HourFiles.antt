-- What the pages say of the writer of hour files, said of its contract as its callers read it: what it writes is read back as the same
-- hour, an accepted file's own head and records give its bytes again, and an import that was metered or a generator that is scheduled above
-- its maximum is refused; the program's bytes are put whole or not at all.
use mathlib.Core.Path.{◌≡◌, sym, ◌∙◌, ap, subst}
use mathlib.Core.List.{List, ◌++◌}
use Prim.Native.Nat.{ℕ, ◌≤◌}
use lib.ListN.{length, drop}
use contract.Lifetimes.{Lfts}
use Rattle.rules.specs.HourFile.{hourly}
use Rattle.rules.specs.HourWords.{head_words, record_words}
use Rattle.rules.specs.Refusals.{accepted, verdict_of, verdict, file_rows}
use Rattle.rules.specs.Settling.{HourWritten, length_of, write_hour as writing_hour}
use Rattle.rules.specs.RawHour.{raw_rows, raw_written}
use Rattle.rules.specs.Promised.Finals.{AreBytes}
use Rattle.rules.specs.Promised.Writing.{AreWords}
use Rattle.rules.proofs.Writing.{verdict_is, as_written, writing}
use Rattle.rules.proofs.Imports.{imports}
use Rattle.rules.proofs.Engines.{engines}
use Rattle.rules.proofs.Raw.{refusal_printed, cut_input_same}
use Rattle.printing.proofs.Showing.{whole_text}
use Rattle.theorems.specs.Determined.{Gives}
use Rattle.theorems.specs.Demanded.{KeepsWriting}
use Rattle.theorems.specs.Texts.{IsPut, IsPutOfCut, SaysRefusal}
use Rattle.writer.proofs.write_hour.Reads as write_hour
use Rattle.report.proofs.written.put_written_hour.Reads as write_raw
use Rattle.writer.proofs.boundary.sneupelaar_write_hour.Reads as sneupelaar_write_hour

module _ (head records before : List ℕ) where
  own_bytes : (s : List ℕ) → AreBytes s → verdict (file_rows s) ≡ accepted → head ≡ head_words s → records ≡ record_words hourly s →
      length s ≤ length before →
      writing_hour head records before ≡ record { verdict = accepted; length = length s; file = s ++ drop (length s) before }
  own_bytes s bytes passes heads recs room = rw (heads, recs) (writing.same_bytes s before bytes passes room)

  keeps : AreWords head → AreWords records → KeepsWriting head records before (writing_hour head records before)
  keeps head_are_words records_are_words = record {
    by_the_table = verdict_is head records before;
    unchanged = writing.changes_nothing head records before;
    read_back = writing.read_back head records before head_are_words records_are_words;
    length_told = writing.length_told head records before;
    past_file = writing.past_file head records before;
    same_bytes = own_bytes;
    metered_import = imports.unwritten head records before;
    held_to_maximum = engines.written head records before;
  }

  keeps_as : {w : HourWritten} → w ≡ writing_hour head records before → AreWords head → AreWords records → KeepsWriting head records before w
  keeps_as e head_are_words records_are_words = subst (KeepsWriting head records before) (sym e) (keeps head_are_words records_are_words)

pub write_hour_keeps : (κs : Lfts 3) → Gives (write_hour.Learnt κs) (λ a x s. KeepsWriting a.0.now a.1.0.now a.1.1.0.now
    (record { verdict = verdict_of x; length = length_of x; file = s.1.1.0.now }))
write_hour_keeps κs a x s p =
    keeps_as a.0.now a.1.0.now a.1.1.0.now (as_written _ _ _ p.0 p.1.0 p.1.1.0)
    p.1.1.1.0 p.1.1.1.1

pub sneupelaar_write_hour_keeps : (κs : Lfts 3) → Gives (sneupelaar_write_hour.Learnt κs) (λ a x s.
    KeepsWriting a.0.now a.1.0.now a.1.1.0.now
    (record { verdict = record { number = x.number; place = x.place }; length = x.length; file = s.1.1.0.now }))
sneupelaar_write_hour_keeps κs a x s p = keeps_as a.0.now a.1.0.now a.1.1.0.now p.0 p.1.0 p.1.1

-- with room, the bytes put are the file or the refusal's line, all of it and nothing else
pub write_raw_is_put : (κs : Lfts 2) → Gives (write_raw.Learnt κs) (λ a x s.
    IsPut 13312 (raw_written a.0.now) a.1.0.now x s.1.0.now)
write_raw_is_put κs a x s p room = whole_text (record { count_is = p.0; out_is = p.1 }) room

-- read, a refusal gives its number and place
pub write_raw_says_refusal : (κs : Lfts 2) → Gives (write_raw.Learnt κs) (λ a x s.
    SaysRefusal 13312 a.0.now (verdict (raw_rows a.0.now)) a.1.0.now x s.1.0.now)
write_raw_says_refusal κs a x s p room bytes refused =
    rw (write_raw_is_put κs a x s p room) (refusal_printed a.0.now refused)

-- a reader that stops one byte past the longest input prints what its whole input asks for
pub cut_input_is_put : (κs : Lfts 2) (input : List ℕ) → Gives (write_raw.Learnt κs) (λ a x s.
    IsPutOfCut 12481 13312 raw_written input a.0.now a.1.0.now x s.1.0.now)
cut_input_is_put κs input a x s p cut room = write_raw_is_put κs a x s p room ∙ ap raw_written cut ∙ cut_input_same input
