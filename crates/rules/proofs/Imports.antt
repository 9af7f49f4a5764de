-- What is asked of imports. Document 02, A3.
use mathlib.Core.Path.{◌≡◌, refl, ◌∙◌}
use mathlib.Core.Bool.{true}
use Rattle.std.specs.Prelude.{None, Some}
use mathlib.Core.List.{List, [], ◌∷◌, ◌++◌}
use Prim.Native.Nat.{ℕ, ◌≤◌}
use native.Mathlib.Omega.{arith}
use lib.ListN.{length}
use Rattle.whole.proofs.Tests.{split}
use Rattle.whole.proofs.Search.{first_some}
use Rattle.rules.specs.Record.{Hour, members, areas, kind_of}
use Rattle.rules.specs.HourFile.{hourly, hour_in}
use Rattle.rules.specs.HourWords.{hour_from}
use Rattle.rules.specs.Ranges.{rules_of, record_rule, hourly_form}
use Rattle.rules.specs.Refusals.{Row, row, accepted, refused_at, verdict, Buffers, is_broken, bad_word, bad_record, too_short, bad_lists}
use Rattle.rules.specs.Refusals.{no_room}
use Rattle.rules.specs.Refusals.{block_rows, word_rows, comparison_rows, sum_rows, form_rows, file_rows, hour_rows, settle_rows}
use Rattle.rules.specs.Refusals.{list_form_rows, list_rows, write_hour_rows}
use Rattle.rules.specs.Settling.{settle, write_hour}
use Rattle.rules.specs.Promised.Imports.{FirstMetered, Imports}
use Rattle.rules.proofs.Rows.{accepts_when_whole, passed_on, block_numbered, settle_verdict}
use Rattle.rules.proofs.Kept.{unbroken, all_hold}
use Rattle.rules.proofs.Writing.{verdict_is}

module _ {h : Hour} {i : ℕ} (m : FirstMetered h i) where
  -- if no word broke its rule, word 4 would be zero
  word_broken : is_broken (bad_word hourly_form h i) ≡ true
  unfolding bad_word record_rule rules_of kind_of
  word_broken = split (is_broken (bad_word hourly_form h i)) (λ t. t) (λ whole.
      let held = all_hold (record_rule (members h) (areas h) (h.rec i 0)) (h.rec i) 12 (unbroken _ whole) 4 (omega arith) in
      let zero : h.rec i 4 ≤ 0 = (rw m.is_import_lem at held).1 in
      absurd (m.metered (omega arith)))

  -- So it is the record at which row 5 is broken.
  pub record_broken : bad_record hourly_form h ≡ Some i
  unfolding bad_record
  record_broken = (first_some (λ j. is_broken (bad_word hourly_form h j)) h.count i).1 (m.there, word_broken, λ j l. rw (m.before j l))

-- and these two rows say so, whatever stands behind them
words_refused : {h : Hour} {i : ℕ} (more : List Row) → FirstMetered h i → verdict (word_rows hourly_form h ++ more) ≡ refused_at 5 i
unfolding verdict word_rows
words_refused more m = rw (m.head_whole, record_broken m) refl

metered_refused : (s : List ℕ) (b : Buffers) (i : ℕ) → verdict (block_rows hourly s) ≡ accepted → FirstMetered (hour_in s) i →
    (settle s b).verdict ≡ refused_at 5 i
unfolding block_rows word_rows form_rows file_rows hour_rows settle_rows
metered_refused s b i passed m = let h = hour_in s in
    settle_verdict s b
    ∙ passed_on (block_rows hourly s) (word_rows hourly_form h ++ ((comparison_rows h ++ sum_rows h) ++ row 11 (too_short h b) ∷ []))
    ((accepts_when_whole (block_rows hourly s) (block_numbered hourly s)).0 passed)
    ∙ words_refused _ m

metered_unwritten : (head records file : List ℕ) (i : ℕ) → bad_lists head records ≡ None →
    FirstMetered (hour_from hourly head records) i → (write_hour head records file).verdict ≡ refused_at 5 i
unfolding verdict word_rows list_form_rows list_rows write_hour_rows
metered_unwritten head records file i passed m = let h = hour_from hourly head records in
    verdict_is head records file ∙ rw passed (words_refused (comparison_rows h ++ row 11 (no_room h (length file)) ∷ []) m)

pub imports : Imports
imports = record { refused = metered_refused; unwritten = metered_unwritten }
