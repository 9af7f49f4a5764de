-- What the program write_hour prints: how long it can be, and that a reader that stops one byte past the longest input prints the same.
-- Document 02, A2.
use mathlib.Core.Path.{◌≡◌, refl, sym, ◌∙◌, ap}
use mathlib.Core.Bool.{not, ◌||◌, or-true}
use Rattle.std.specs.Prelude.{None}
use mathlib.Core.List.{List}
use Prim.Native.Nat.{ℕ, ◌-◌, ◌/◌, ◌%◌, ◌^◌, ◌≤◌, ◌<◌}
use native.Mathlib.Omega.{arith}
use lib.ListN.{length, take, length-drop}
use lib.Seq.{take_all, length-take-le}
use lib.Dec.{ltb, leb, eqb}
use borrow.Author.Tests.{ltb-true, ltb-false, leb-true, leb-false, eqb-true, eqb-false, lt-ltb, le-ltb, ne_eqb}
use Rattle.whole.proofs.Tests.{split}
use Rattle.whole.proofs.Buffers.{length_values}
use Rattle.rules.specs.HourFile.{hourly, word}
use Rattle.rules.specs.HourWords.{hour_from, file_length, file_of}
use Rattle.rules.specs.Refusals.{accepted, refused_at, verdict, bad_lists, no_room, word_rows, comparison_rows, list_form_rows, list_rows}
use Rattle.rules.specs.Ranges.{first_broken}
use Rattle.rules.specs.Refusals.{write_hour_rows, bad_head, bad_record, above_maximum}
use Rattle.rules.specs.Settling.{is_accepted}
use Rattle.rules.specs.Statement.{refused_line}
use Rattle.rules.specs.Promised.Writing.{RefusalPrinted}
use Rattle.rules.specs.RawHour.{raw_words, raw_head, raw_records, raw_rows, raw_written}
use Rattle.rules.proofs.Rows.{Numbered, accepts_when_whole, zero_accepts, last_decides_nothing}
use Rattle.rules.proofs.Stated.{refused_line_most}
use Rattle.rules.proofs.FileWords.{some_blocks}
use Rattle.rules.proofs.Said.{length_of_file}
use Rattle.rules.proofs.PartsCut.{says_refused}
use Rattle.rules.proofs.Told.{Small, SmallRows, no_row, small_row, verdict_small, zero_small, first_small}
use Rattle.rules.proofs.Writing.{lists_whole}

-- ---- room for the longest file is enough for every one: row 11 decides nothing

-- no hour that the writer accepts has more than 26 blocks
file_most : (head records : List ℕ) → bad_lists head records ≡ None → file_length hourly (hour_from hourly head records) ≤ 13312
unfolding file_length hour_from
file_most head records e = omega (arith, some_blocks (hour_from hourly head records), (lists_whole head records e).2)

pub room_for_file : (head records : List ℕ) (room : ℕ) → 13312 ≤ room →
    verdict (write_hour_rows head records room) ≡ verdict (list_rows head records)
unfolding list_form_rows list_rows write_hour_rows no_room
room_for_file head records room enough = last_decides_nothing (list_rows head records) 11 _ (λ whole.
    rw (le-ltb room (file_length hourly (hour_from hourly head records)) (omega (arith, file_most head records whole.0, enough))) refl)

module _ (s : List ℕ) where
  raw_numbered : Numbered (raw_rows s)
  unfolding raw_rows list_rows list_form_rows word_rows comparison_rows
  raw_numbered = omega arith

  raw_accepted : verdict (raw_rows s) ≡ accepted → raw_written s ≡ file_of hourly (hour_from hourly (raw_head s) (raw_records s))
  unfolding raw_written
  raw_accepted e = rw e refl

  raw_refused : ((verdict (raw_rows s)).number ≡ 0 → ⊥) → raw_written s ≡ refused_line (verdict (raw_rows s))
  unfolding raw_written
  raw_refused r = rw (ne_eqb (verdict (raw_rows s)).number 0 r) refl

  words_length : length (raw_words s) ≡ length s / 4
  unfolding raw_words
  words_length = length_values (word s) (length s / 4)

  -- ---- how long it is

  raw_file_most : verdict (raw_rows s) ≡ accepted → length (raw_written s) ≤ 13312
  unfolding raw_rows list_rows list_form_rows
  raw_file_most e =
      let whole = (accepts_when_whole (raw_rows s) raw_numbered).0 e in
      rw (raw_accepted e, length_of_file (hour_from hourly (raw_head s) (raw_records s))) (file_most (raw_head s) (raw_records s) whole.1.0)

  pub raw_fits : length (raw_written s) ≤ 13312
  raw_fits = split (is_accepted (verdict (raw_rows s)))
      (λ t. raw_file_most (zero_accepts (raw_rows s) raw_numbered (eqb-true _ _ t)))
      (λ t. rw (raw_refused (eqb-false _ _ t)) (omega (arith, refused_line_most (verdict (raw_rows s)))))

  -- ---- an input that is too long

  -- over 12,480 bytes are no whole words, or a head and more than 250 records, or no whole records
  pub too_long_refused : 12480 < length s → verdict (raw_rows s) ≡ refused_at 1 0
  unfolding raw_rows list_rows list_form_rows bad_lists verdict
  too_long_refused l = split (eqb (length s % 4) 0)
      (λ t. rw t (split (eqb (length (raw_records s) % 12) 0)
      (λ u. let whole_words = eqb-true (length s % 4) 0 t in
      let whole-records = eqb-true (length (raw_records s) % 12) 0 u in
      rw (u, lt-ltb 250 (length (raw_records s) / 12) (omega (arith, many, whole_words, whole-records)), or-true) refl)
      (λ u. rw (u, or-true) refl)))
      (λ t. rw t refl)
    where
      many : length (raw_records s) ≡ length s / 4 - 120
      many = length-drop 120 (raw_words s) ∙ ap (λ (k : ℕ). k - 120) words_length

-- ---- a refusal says its number and place

module _ (s : List ℕ) where
  raw_rows_small : length s ≤ 12480 → SmallRows (raw_rows s)
  unfolding raw_rows list_rows list_form_rows word_rows comparison_rows bad_lists bad_head bad_record above_maximum first_broken hour_from
  raw_rows_small l =
      let few : length (raw_records s) / 12 ≤ 10 ^ 20 = omega (arith, length-drop 120 (raw_words s), words_length s) in
      small_row 1 (omega arith) (zero_small (not (eqb (length s % 4) 0))) (
      small_row 1 (omega arith) (zero_small (
      not (eqb (length (raw_head s)) 120) || not (eqb (length (raw_records s) % 12) 0) || ltb 250 (length (raw_records s) / 12))) (
      small_row 4 (omega arith) (first_small _ 128 (omega arith)) (
      small_row 5 (omega arith) (first_small _ (length (raw_records s) / 12) few) (
      small_row 14 (omega arith) (first_small _ (length (raw_records s) / 12) few) no_row))))

  raw_small : Small (verdict (raw_rows s))
  raw_small = split (ltb 12480 (length s))
      (λ t. rw (too_long_refused s (ltb-true 12480 (length s) t)) (omega arith, omega arith))
      (λ f. verdict_small (raw_rows_small (ltb-false 12480 (length s) f)))

pub refusal_printed : RefusalPrinted
refusal_printed s r = rw (raw_refused s (λ z. r (zero_accepts (raw_rows s) (raw_numbered s) z)))
    (says_refused (verdict (raw_rows s)) (raw_small s).0 (raw_small s).1)

-- ---- of a cut input

too_long : (s : List ℕ) → 12480 < length s → raw_written s ≡ refused_line (refused_at 1 0)
unfolding raw_written
too_long s l = rw (too_long_refused s l) refl

-- whoever reads at most 12,481 bytes sees that an input is too long
pub cut_input_same : (s : List ℕ) → raw_written (take 12481 s) ≡ raw_written s
cut_input_same s = split (leb (length s) 12481)
    (λ e. ap raw_written (take_all 12481 s (leb-true (length s) 12481 e)))
    (λ e. let l : 12481 < length s = leb-false (length s) 12481 e in
    too_long (take 12481 s) (let n = length-take-le 12481 s (omega arith) in omega arith) ∙ sym (too_long s (omega arith)))
