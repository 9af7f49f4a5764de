-- What is asked of the writer of hour files. Document 02, A2.
use mathlib.Core.Path.{◌≡◌, refl, sym, ◌∙◌, ap, ap₂, subst}
use mathlib.Core.Bool.{not, ◌&&◌, ◌||◌}
use Rattle.std.specs.Prelude.{None}
use mathlib.Core.List.{List, [], ◌∷◌, ◌++◌}
use Prim.Native.Nat.{ℕ, ◌+◌, ◌-◌, ◌*◌, ◌/◌, ◌%◌, ◌≤◌, ◌<◌}
use native.Mathlib.Omega.{arith}
use lib.ListN.{length, drop}
use lib.Seq.{take_at}
use lib.Dec.{ltb, leb, eqb}
use borrow.Author.Tests.{ltb-true, ltb-false, leb-true, eqb-true, le-ltb, eq-eqb, not-false}
use Rattle.whole.specs.Below.{values_below, replacing_first}
use Rattle.whole.proofs.Tests.{split, both, neither}
use Rattle.whole.proofs.Buffers.{length_values, get_or_values, length_replacing, drop_replacing}
use Rattle.rules.specs.Record.{Hour}
use Rattle.rules.specs.HourFile.{hourly, block_word, record_count, record_word, hour_of, hour_in}
use Rattle.rules.specs.HourWords.{hour_from, head_words, record_words, blocks_for, file_byte, file_length, file_of}
use Rattle.rules.specs.Refusals.{row, Verdict, accepted, verdict, bad_lists, no_room}
use Rattle.rules.specs.Refusals.{block_rows, word_rows, comparison_rows, form_rows, file_rows, list_form_rows, list_rows, write_hour_rows}
use Rattle.rules.specs.Settling.{HourWritten, is_accepted, write_hour}
use Rattle.rules.specs.Promised.Demands.{AllWhole, ByTheTable}
use Rattle.rules.specs.Promised.Finals.{AreBytes}
use Rattle.rules.specs.Promised.Writing.{AreWords, length_for, file_in, Writing}
use Rattle.rules.proofs.Rows.{Numbered, accepts_when_whole, zero_accepts, by_the_table, whole_parts, file_numbered, form_whole}
use Rattle.rules.proofs.Rows.{no_place}
use Rattle.rules.proofs.Words.{record_count_lem}
use Rattle.rules.proofs.Kept.{file_kept}
use Rattle.rules.proofs.FileWords.{OfWords}
use Rattle.rules.proofs.Said.{file_says, length_whole, sums_whole, blocks_whole, says_holds, same_hour, only_file, length_of_file}
use Rattle.rules.proofs.OwnHour.{own_hour}
use Rattle.rules.specs.Ranges.{hourly_form}

-- ---- the writer's rows

pub writer_numbered : (head records : List ℕ) (room : ℕ) → Numbered (write_hour_rows head records room)
unfolding write_hour_rows list_rows list_form_rows word_rows comparison_rows
writer_numbered head records room = omega arith

module _ (head records : List ℕ) where
  abbrev h : Hour
  h = hour_from hourly head records

  -- ---- the lists that row 1 passes

  module _ (whole : bad_lists head records ≡ None) where
    pub lists_whole : (length head ≡ 120) × (length records % 12 ≡ 0) × (length records / 12 ≤ 250)
    unfolding bad_lists
    lists_whole =
        let head-other = not (eqb (length head) 120) in
        let cut = not (eqb (length records % 12) 0) in
        let a = neither (head-other || cut) (ltb 250 (length records / 12)) (no_place _ whole) in
        let b = neither head-other cut a.0 in
        (eqb-true _ _ (not-false _ b.0), eqb-true _ _ (not-false _ b.1), ltb-false _ _ a.1)

    lists_of_words : AreWords head → AreWords records → OfWords h
    unfolding hour_from
    lists_of_words head_words_lem record_words_lem = record {
      few = lists_whole.2;
      head_small = λ w. split (leb 8 w && ltb w 128) (λ t. rw t (head_words_lem (w - 8))) (λ t. rw t (omega arith));
      rec_small = λ i w. split (ltb i (length records / 12) && ltb w 12) (λ t. rw t (record_words_lem (12 * i + w))) (λ t. rw t (omega arith));
      no_head = λ w t. rw t refl;
      no_rec = λ i w t. rw t refl;
    }

  -- ---- what is answered and left in the buffer

  module _ (file : List ℕ) where
    abbrev w : HourWritten
    w = write_hour head records file

    abbrev rows : Verdict
    rows = verdict (write_hour_rows head records (length file))

    pub verdict_is : w.verdict ≡ rows
    unfolding write_hour
    verdict_is = split (is_accepted rows) (λ t. rw t refl) (λ t. rw t refl)

    by_rows : ByTheTable (write_hour_rows head records (length file)) w.verdict
    by_rows = by_the_table (writer_numbered head records (length file)) verdict_is

    -- accepted: the lists and their words, the records, and the room
    rows_whole : w.verdict ≡ accepted → AllWhole (list_form_rows head records) × AllWhole (comparison_rows h) × (no_room h (length file) ≡ None)
    unfolding write_hour_rows list_rows
    rows_whole e =
        let all = (whole_parts (list_rows head records) (row 11 (no_room h (length file)) ∷ [])).0 (by_rows.accepts.0 e) in
        let lists = (whole_parts (list_form_rows head records) (comparison_rows h)).0 all.0 in
        (lists.0, lists.1, all.1.0)

    pub changes_nothing : (w.verdict ≡ accepted → ⊥) → (w.length ≡ 0) × (w.file ≡ file)
    unfolding write_hour
    changes_nothing r = split (is_accepted rows)
        (λ t. absurd (r (verdict_is ∙ zero_accepts _ (writer_numbered head records (length file)) (eqb-true _ _ t))))
        (λ t. rw t (refl, refl))

    pub written : w.verdict ≡ accepted →
        let n = file_length hourly h in w ≡ record { verdict = accepted; length = n; file = replacing_first (file_byte hourly h) n file }
    unfolding write_hour
    written e = let a : rows ≡ accepted = sym verdict_is ∙ e in rw a refl

    pub room_there : w.verdict ≡ accepted → file_length hourly h ≤ length file
    unfolding no_room
    room_there e = ltb-false _ _ (no_place _ (rows_whole e).2)

    past_file : w.verdict ≡ accepted → (drop w.length w.file ≡ drop w.length file) × (length w.file ≡ length file)
    past_file e = rw (written e) (
      drop_replacing (file_byte hourly h) (file_length hourly h) file,
      length_replacing (file_byte hourly h) (file_length hourly h) file (room_there e),
    )

    file_is : w.verdict ≡ accepted → file_in w ≡ file_of hourly h
    unfolding replacing_first file_of
    file_is e = rw (written e) (take_at (values_below (file_byte hourly h) (file_length hourly h)) (drop (file_length hourly h) file)
        (file_length hourly h) (length_values (file_byte hourly h) (file_length hourly h)))

    length_told : w.verdict ≡ accepted → (w.length ≡ length_for records) × (length (file_in w) ≡ w.length)
    unfolding file_length blocks_for hour_from
    length_told e =
        let told = ap (λ (x : HourWritten). x.length) (written e) in
        (told, ap length (file_is e) ∙ length_of_file h ∙ sym told)

    read_back : AreWords head → AreWords records → w.verdict ≡ accepted →
        (verdict (file_rows (file_in w)) ≡ accepted) × (hour_in (file_in w) ≡ h)
    unfolding list_form_rows block_rows form_rows file_rows
    read_back head_words_lem record_words_lem e =
        let whole = rows_whole e in
        let of_words = lists_of_words whole.0.0 head_words_lem record_words_lem in
        let written-file = file_of hourly h in
        let says = file_says h of_words in
        let same = says_holds written-file h says of_words in
        let blocks : AllWhole (block_rows hourly written-file) = (
          length_whole written-file h says of_words.few,
          (sums_whole written-file h says, (blocks_whole written-file h says, tt)),
        ) in
        let words = subst (λ (g : Hour). AllWhole (word_rows hourly_form g)) (sym same) whole.0.1 in
        let records-too = subst (λ (g : Hour). AllWhole (comparison_rows g)) (sym same) whole.1 in
        let form = (whole_parts (block_rows hourly written-file) (word_rows hourly_form (hour_in written-file))).1 (blocks, words) in
        let all = (whole_parts (form_rows hourly_form written-file) (comparison_rows (hour_in written-file))).1 (form, records-too) in
        rw (file_is e) ((accepts_when_whole (file_rows written-file) (file_numbered written-file)).1 all, same)

-- what was answered and left behind, part by part
pub as_written : (head records file : List ℕ) {v : Verdict} {n : ℕ} {after : List ℕ} → let w = write_hour head records file in
    v ≡ w.verdict → n ≡ w.length → after ≡ w.file → record { verdict = v; length = n; file = after } ≡ w
as_written head records file {after = after} e f g =
    ap₂ (λ (u : Verdict) (m : ℕ). record { verdict = u; length = m; file = after }) e f
    ∙ ap (λ (l : List ℕ). let w = write_hour head records file in record { verdict = w.verdict; length = w.length; file = l }) g

-- ---- a file's own head and records

module _ (s : List ℕ) where
  head_length : length (head_words s) ≡ 120
  unfolding head_words
  head_length = length_values (λ k. block_word s 0 (8 + k)) 120

  records_length : length (record_words hourly s) ≡ 12 * record_count hourly s
  unfolding record_words
  records_length = length_values (λ k. record_word hourly s (k / 12) (k % 12)) (12 * record_count hourly s)

  own_lists : hour_from hourly (head_words s) (record_words hourly s) ≡ hour_in s
  unfolding hour_from hour_of head_words record_words
  own_lists = same_hour _ _ heads count_is recs
    where
      c : ℕ
      c = record_count hourly s

      count_is : length (record_words hourly s) / 12 ≡ c
      count_is = omega (arith, records_length)

      heads : (w : ℕ) → (hour_from hourly (head_words s) (record_words hourly s)).head w ≡ (hour_in s).head w
      heads w = split (leb 8 w && ltb w 128)
          (λ t. let p = both (leb 8 w) (ltb w 128) t in let e : 8 + (w - 8) ≡ w = omega (arith, leb-true 8 w p.0) in
          rw t (get_or_values _ 120 (w - 8) 0 (omega (arith, leb-true 8 w p.0, ltb-true w 128 p.1)) ∙ ap (block_word s 0) e))
          (λ t. rw t refl)

      recs : (i w : ℕ) → (hour_from hourly (head_words s) (record_words hourly s)).rec i w ≡ (hour_in s).rec i w
      recs i w = rw count_is (split (ltb i c && ltb w 12)
          (λ t. let p = both (ltb i c) (ltb w 12) t in
          let there : 12 * i + w < 12 * c = omega (arith, ltb-true i c p.0, ltb-true w 12 p.1) in
          let record_is : (12 * i + w) / 12 ≡ i = omega (arith, ltb-true w 12 p.1) in
          let word_is : (12 * i + w) % 12 ≡ w = omega (arith, ltb-true w 12 p.1) in
          rw t (get_or_values _ (12 * c) (12 * i + w) 0 there ∙ ap₂ (λ (x y : ℕ). record_word hourly s x y) record_is word_is))
          (λ t. rw t refl))

  module _ (bytes : AreBytes s) (passes : verdict (file_rows s) ≡ accepted) where
    whole : AllWhole (file_rows s)
    whole = (accepts_when_whole (file_rows s) (file_numbered s)).0 passes

    own_file : file_of hourly (hour_in s) ≡ s
    own_file = only_file s (hour_in s) bytes (own_hour s bytes (form_whole s whole))

    -- nothing that the writer checks is broken
    own_lists_pass : (room : ℕ) → length s ≤ room → AllWhole (write_hour_rows (head_words s) (record_words hourly s) room)
    unfolding write_hour_rows list_rows list_form_rows form_rows file_rows no_room bad_lists
    own_lists_pass room enough =
        let file = (whole_parts (form_rows hourly_form s) (comparison_rows (hour_in s))).0 whole in
        let words = ((whole_parts (block_rows hourly s) (word_rows hourly_form (hour_in s))).0 file.0).1 in
        let head = head_words s in
        let records = record_words hourly s in
        let lists : bad_lists head records ≡ None = rw (
          eq-eqb (length head) 120 head_length,
          eq-eqb (length records % 12) 0 (omega (arith, records_length)),
          le-ltb 250 (length records / 12) (omega (arith, records_length, few)),
        ) refl in
        let own-words = subst (λ (g : Hour). AllWhole (word_rows hourly_form g)) (sym own_lists) words in
        let form : AllWhole (list_form_rows head records) = (lists, own-words) in
        let records-too = subst (λ (g : Hour). AllWhole (comparison_rows g)) (sym own_lists) file.1 in
        let own-length = (own_hour s bytes (form_whole s whole)).length_is in
        let room_there : no_room (hour_from hourly head records) room ≡ None =
        rw (own_lists, le-ltb room (file_length hourly (hour_in s)) (omega (arith, own-length, enough))) refl in
        (whole_parts (list_rows head records) _).1
        ((whole_parts (list_form_rows head records) (comparison_rows (hour_from hourly head records))).1 (form, records-too), (room_there, tt))
      where
        few : record_count hourly s ≤ 250
        few = rw (← record_count_lem hourly s) (file_kept s (form_whole s whole)).hour_kept.count_most

    same_bytes : (file : List ℕ) → length s ≤ length file →
        write_hour (head_words s) (record_words hourly s) file
        ≡ record { verdict = accepted; length = length s; file = s ++ drop (length s) file }
    unfolding replacing_first file_of
    same_bytes file enough =
        let passed = (by_rows (head_words s) (record_words hourly s) file).accepts.1 (own_lists_pass (length file) enough) in
        let length_is : file_length hourly (hour_in s) ≡ length s = sym (own_hour s bytes (form_whole s whole)).length_is in
        written (head_words s) (record_words hourly s) file passed
        ∙ rw (own_lists, length_is) (ap (λ (l : List ℕ). record { verdict = accepted; length = length s; file = l ++ drop (length s) file })
        (rw length_is at own_file))

pub writing : Writing
writing = record {
  by_the_table = by_rows;
  changes_nothing = changes_nothing;
  read_back = read_back;
  length_told = length_told;
  past_file = past_file;
  same_bytes = λ s file bytes passes. same_bytes s bytes passes file;
}
