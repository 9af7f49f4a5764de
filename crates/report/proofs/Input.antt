-- What the program prints, by the input's length and words; and what the writer's promise says of it.
use mathlib.Core.Path.{◌≡◌, refl, sym, ◌∙◌, ap, subst}
use mathlib.Core.Bool.{true, false, not, ◌||◌}
use mathlib.Core.List.{List}
use Prim.Native.Nat.{ℕ, ◌-◌, ◌/◌, ◌%◌, ◌≤◌, ◌<◌}
use native.Mathlib.Nat.{zero-add}
use native.Mathlib.Omega.{arith}
use lib.ListN.{length, take, drop, length-take, length-drop}
use lib.Seq.{take_all, sets-eq}
use lib.Dec.{ltb, eqb}
use borrow.Author.Tests.{ltb-true, ltb-false, eqb-true, eqb-false, eq-eqb, ne_eqb, not-false}
use Rattle.whole.proofs.Tests.{split, never, neither}
use Rattle.whole.specs.Below.{values_below, replacing_first}
use Rattle.whole.proofs.Buffers.{length_values}
use Rattle.std.specs.Prelude.{Result, Ok, Err}
use Rattle.rules.specs.declared.Refusal.{Refusal}
use Rattle.rules.specs.HourFile.{hourly, word}
use Rattle.rules.specs.HourWords.{hour_from, file_byte, file_of, file_length}
use Rattle.rules.specs.Refusals.{verdict_of, refusal_verdict, accepted, refused_at, verdict, bad_lists, list_form_rows, list_rows}
use Rattle.rules.specs.Settling.{write_hour}
use Rattle.rules.specs.Statement.{refused_line}
use Rattle.rules.specs.RawHour.{raw_words, raw_rows, raw_written}
use Rattle.rules.proofs.Writing.{verdict_is, changes_nothing, written, room_there}
use Rattle.rules.proofs.Raw.{too_long_refused, room_for_file}
use Rattle.rules.proofs.Rows.{numbered, never_accepted}
use Rattle.writer.specs.Promised.{HasFiled}
use Rattle.printing.specs.Put.{Put}
use Rattle.report.specs.Filing.{input_bad, words_written}

module _ (s : List ℕ) where
  length_good : input_bad (length s) ≡ false → (length s % 4 ≡ 0) × (480 ≤ length s) × (length s ≤ 12480)
  unfolding input_bad
  length_good e =
      let a = neither (not (eqb (length s % 4) 0) || ltb (length s) 480) (ltb 12480 (length s)) e in
      let b = neither (not (eqb (length s % 4) 0)) (ltb (length s) 480) a.0 in
      (eqb-true _ _ (not-false _ b.0), ltb-false _ _ b.1, ltb-false _ _ a.1)

  pub words_fit : input_bad (length s) ≡ false → length s / 4 ≤ 3120
  words_fit good = omega (arith, length_good good)

  words_length : length (raw_words s) ≡ length s / 4
  unfolding raw_words
  words_length = length_values (word s) (length s / 4)

  no_words : (length s % 4 ≡ 0 → ⊥) → verdict (raw_rows s) ≡ refused_at 1 0
  unfolding raw_rows verdict
  no_words f = rw (ne_eqb (length s % 4) 0 f) refl

  no_head : length s < 480 → verdict (raw_rows s) ≡ refused_at 1 0
  unfolding raw_rows list_rows list_form_rows bad_lists verdict
  no_head l = split (eqb (length s % 4) 0)
      (λ t. rw (t, ne_eqb (length (take 120 (raw_words s))) 120 (λ e. omega (arith, e, length-take 120 (raw_words s), words_length))) refl)
      (λ t. rw t refl)

  -- a length that isn't good is refusal 1
  pub bad_length_lem : input_bad (length s) ≡ true → raw_written s ≡ refused_line (refused_at 1 0)
  unfolding raw_written input_bad
  bad_length_lem e = rw refused refl
    where
      refused : verdict (raw_rows s) ≡ refused_at 1 0
      refused = split (eqb (length s % 4) 0)
          (λ t. split (ltb (length s) 480)
          (λ u. no_head (ltb-true _ _ u))
          (λ u. split (ltb 12480 (length s)) (λ v. too_long_refused s (ltb-true _ _ v)) (λ v. never e (rw (t, u, v) refl))))
          (λ t. no_words (eqb-false _ _ t))

  -- else it is what the writer makes of the words
  good_length : length s % 4 ≡ 0 → words_written (raw_words s) ≡ raw_written s
  unfolding raw_written raw_rows words_written verdict
  good_length e = rw (eq-eqb (length s % 4) 0 e) refl

  pub by_words : {words : List ℕ} {n : ℕ} → input_bad (length s) ≡ false → n ≡ length s / 4 → words ≡ values_below (word s) n →
      (120 ≤ length words) × (words_written words ≡ raw_written s)
  unfolding raw_words
  by_words {words} {n} good n-is are =
      let lengths = length_good good in
      let words_are : words ≡ raw_words s = are ∙ ap (values_below (word s)) n-is in
      (rw words_are (omega (arith, lengths, words_length)), ap words_written words_are ∙ good_length lengths.0)

-- ---- what the writer answered and left, where the buffer has room for every file

module _ (words : List ℕ) where
  abbrev head : List ℕ
  head = take 120 words

  abbrev records : List ℕ
  records = drop 120 words

  -- the part from word 120 on, as code cuts it
  abbrev rest : List ℕ
  rest = take (length words - 120) records

  rest_is : rest ≡ records
  rest_is = take_all (length words - 120) records (omega (arith, length-drop 120 words))

  module _ {out after : List ℕ} {r : Result ℕ Refusal} (room : 13312 ≤ length out) (cut : HasFiled head rest out r after) where
    filed : HasFiled head records out r after
    filed = subst (λ (l : List ℕ). HasFiled head l out r after) rest_is cut

    same_verdict : verdict (list_rows head records) ≡ verdict_of r
    same_verdict = sym (filed.verdict_is ∙ verdict_is head records out ∙ room_for_file head records (length out) room)

    pub file_put : (n : ℕ) → r ≡ Ok n → Put out 0 (words_written words) n after
    unfolding words_written replacing_first file_of
    file_put n e =
        let accepts : (write_hour head records out).verdict ≡ accepted = sym filed.verdict_is ∙ ap verdict_of e in
        let long : n ≡ (write_hour head records out).length = rw e at filed.length_is in
        let h = hour_from hourly head records in
        let length_is = length_values (file_byte hourly h) (file_length hourly h) in
        let room-for-it = room_there head records out accepts in
        rw (same_verdict, e) (record {
          next_is = long ∙ rw (written head records out accepts) (omega (arith, length_is));
          after_is = filed.file_is ∙ rw (written head records out accepts) (sym (
              sets-eq (values_below (file_byte hourly h) (file_length hourly h)) out 0 (omega (arith, length_is, room-for-it))
              ∙ rw (length_is, zero-add) refl));
        })

    -- a refused buffer is what it was
    pub line_put : {n : ℕ} {end : List ℕ} (refusal : Refusal) → r ≡ Err refusal → Put after 0 (refused_line (refusal_verdict refusal)) n end →
        Put out 0 (words_written words) n end
    unfolding words_written
    line_put {n} {end} refusal e put =
        let told : verdict_of r ≡ refusal_verdict refusal = ap verdict_of e in
        let same = (changes_nothing head records out (λ yes. never_accepted refusal (sym told ∙ filed.verdict_is ∙ yes))).1 in
        rw (same_verdict, told, numbered refusal)
        (subst (λ (l : List ℕ). Put l 0 (refused_line (refusal_verdict refusal)) n end) (filed.file_is ∙ same) put)
