-- What is asked of a generator's schedule. Document 02, A6.
use mathlib.Core.Path.{◌≡◌, refl, sym, ◌∙◌}
use mathlib.Core.Logic.{◌↔◌}
use mathlib.Core.Bool.{true, false}
use Rattle.std.specs.Prelude.{None, Some}
use mathlib.Core.List.{List, [], ◌∷◌, ◌++◌}
use Prim.Native.Nat.{ℕ}
use native.Mathlib.Omega.{arith}
use lib.ListN.{length}
use lib.Dec.{ltb}
use lib.Signed.{◌<ℤ◌, clash_ℤ}
use borrow.Author.Tests.{ltb-true, ltb-false}
use Rattle.whole.proofs.Tests.{split, never, both}
use Rattle.whole.proofs.Search.{first_some, first_none}
use Rattle.whole.proofs.Linear.{zo}
use Rattle.rules.specs.declared.Kind.{Kind}
use Rattle.rules.specs.declared.Kind.TheVariants.{Generator, RealTimeLoad, ProfileLoad, Import, Export, Unknown}
use Rattle.rules.specs.Record.{Hour, kind_of, is_generator, entry, entry_of}
use Rattle.rules.specs.HourFile.{hourly, hour_in}
use Rattle.rules.specs.HourWords.{hour_from}
use Rattle.rules.specs.Refusals.{Row, row, Verdict, verdict, scheduled_above, over_scheduled, above_maximum}
use Rattle.rules.specs.Refusals.{no_member, too_short, no_room, block_rows, word_rows, comparison_rows, sum_rows, form_rows, file_rows, hour_rows}
use Rattle.rules.specs.Refusals.{Buffers, settle_rows, explain_rows, list_form_rows, list_rows, write_hour_rows}
use Rattle.rules.specs.Settling.{settle, write_hour}
use Rattle.rules.specs.Explanation.{explain}
use Rattle.rules.specs.Promised.Engines.{WithinMaximum, AllWithin, FirstAbove, HeldToMaximum, Engines}
use Rattle.rules.proofs.Rows.{Numbered, numbered_on, has_row, only_row, accepts_when_whole, whole_parts, form_numbered, settle_verdict}
use Rattle.rules.proofs.Writing.{verdict_is}
use Rattle.rules.proofs.Explaining.{explain_verdict}
use Rattle.rules.specs.Ranges.{hourly_form}

only_generator : (k : Kind) → is_generator k ≡ true → k ≡ Generator
only_generator Generator e = refl
only_generator RealTimeLoad e = never e refl
only_generator ProfileLoad e = never e refl
only_generator Import e = never e refl
only_generator Export e = never e refl
only_generator Unknown e = never e refl

-- ---- the row's test of words is one of letters

module _ (h : Hour) where
  pub tested_above : (i : ℕ) → over_scheduled h i ≡ true → ((entry_of h i).kind ≡ Generator) × ((entry_of h i).M <ℤ (entry_of h i).S)
  unfolding scheduled_above entry_of entry
  tested_above i t =
      let b = both (is_generator (kind_of (h.rec i 0))) (ltb (h.rec i 8) (h.rec i 3)) t in
      (only_generator _ b.0, omega (arith, zo, ltb-true (h.rec i 8) (h.rec i 3) b.1))

  pub tested_within : (i : ℕ) → over_scheduled h i ≡ false → WithinMaximum h i
  unfolding scheduled_above entry_of entry
  tested_within i f generator = omega (arith, zo, ltb-false (h.rec i 8) (h.rec i 3) (rw generator at f))

  holds_when : (i : ℕ) → (entry_of h i).kind ≡ Generator → (entry_of h i).M <ℤ (entry_of h i).S → over_scheduled h i ≡ true
  holds_when i generator above = split (over_scheduled h i) (λ t. t) (λ f. clash_ℤ above (tested_within i f generator))

  fails_when : (i : ℕ) → WithinMaximum h i → over_scheduled h i ≡ false
  fails_when i within = split (over_scheduled h i) (λ t. let a = tested_above i t in clash_ℤ a.1 (within a.0)) (λ f. f)

  pub first_above : (i : ℕ) → (above_maximum h ≡ Some i) ↔ FirstAbove h i
  unfolding above_maximum
  first_above i = let first = first_some (over_scheduled h) h.count i in (
    λ e. let f = first.0 e in let a = tested_above i f.1 in record {
      there = f.0;
      is_generator_lem = a.0;
      above = a.1;
      before = λ j l. tested_within j (f.2 j l);
    },
    λ f. first.1 (f.there, holds_when i f.is_generator_lem f.above, λ j l. fails_when j (f.before j l)),
  )

  pub all_within : above_maximum h ≡ None → AllWithin h
  unfolding above_maximum
  all_within e i l = tested_within i (first_none (over_scheduled h) h.count e i l)

-- ---- where the row stands in its table

module _ (h : Hour) (before after : List Row) (numbered : Numbered before) (numbered-after : Numbered after)
    (none_before : has_row 14 before ≡ false) (none_after : has_row 14 after ≡ false) where
  abbrev behind : List Row
  behind = row 14 (above_maximum h) ∷ after

  held : {v : Verdict} → v ≡ verdict (before ++ behind) → HeldToMaximum before h v
  held e = record {
    above = λ i. let answers = only_row 13 i (above_maximum h) after none_after before numbered none_before in (
      λ told. let broken = answers.0 (sym e ∙ told) in (broken.0, (first_above h i).0 broken.1),
      λ f. e ∙ answers.1 (f.0, (first_above h i).1 f.1),
    );
    within = λ a.
        let whole = (accepts_when_whole (before ++ behind) (numbered_on before behind numbered (omega arith, numbered-after))).0 (sym e ∙ a) in
        all_within h ((whole_parts before behind).0 whole).1.0;
  }

module _ (s : List ℕ) where
  abbrev h : Hour
  h = hour_in s

  -- behind row 14 settling and an explanation have the sums' rows and their own last one
  abbrev to_last : Row → List Row
  to_last last = sum_rows h ++ last ∷ []

  settled : (b : Buffers) → HeldToMaximum (form_rows hourly_form s) h (settle s b).verdict
  unfolding block_rows word_rows comparison_rows sum_rows form_rows file_rows hour_rows settle_rows has_row
  settled b = held h (form_rows hourly_form s) (to_last (row 11 (too_short h b))) (form_numbered hourly_form s) (omega arith) refl refl
      (settle_verdict s b)

  explained : (m : ℕ) → HeldToMaximum (form_rows hourly_form s) h (explain s m).verdict
  unfolding block_rows word_rows comparison_rows sum_rows form_rows file_rows hour_rows explain_rows has_row
  explained m = held h (form_rows hourly_form s) (to_last (row 13 (no_member h m))) (form_numbered hourly_form s) (omega arith) refl refl
      (explain_verdict s m)

written : (head records file : List ℕ) →
    HeldToMaximum (list_form_rows head records) (hour_from hourly head records) (write_hour head records file).verdict
unfolding word_rows comparison_rows list_form_rows list_rows write_hour_rows has_row
written head records file =
    let h = hour_from hourly head records in
    held h (list_form_rows head records) (row 11 (no_room h (length file)) ∷ []) (omega arith) (omega arith) refl refl
    (verdict_is head records file)

pub engines : Engines
engines = record { settled = settled; explained = explained; written = written }
