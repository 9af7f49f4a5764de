-- The sheet of a ten-minute file: when it is which, how long it can be, and that each column, read, gives its charge. Document 02, A7.
use mathlib.Core.Path.{◌≡◌, refl, sym, ◌∙◌, ap}
use mathlib.Core.Bool.{true, or-true}
use mathlib.Core.List.{List, [], ◌∷◌, ◌++◌, append-nil}
use Prim.Native.Nat.{ℕ, ◌/◌, ◌%◌, ◌^◌, ◌≤◌, ◌<◌}
use native.Mathlib.Omega.{arith}
use lib.IntN.{ℤ, pos}
use lib.Dec.{leb, ltb}
use lib.ListN.{length, take, get_or, length-append}
use lib.Seq.{take_all, length-take-le}
use borrow.Author.Tests.{leb-true, leb-false, lt-ltb, ltb-true, ltb-false, eqb-true, eqb-false, ne_eqb}
use Rattle.whole.proofs.Tests.{split}
use Rattle.whole.proofs.Buffers.{get_or_replacing}
use Rattle.rules.specs.Record.{Hour, hour_number, members}
use Rattle.rules.specs.HourFile.{ten_minutes, length_bad}
use Rattle.rules.specs.Ranges.{ten_minutes_form}
use Rattle.rules.specs.Refusals.{Verdict, accepted, refused_at, verdict, bad_length, block_rows, form_rows}
use Rattle.rules.specs.Settling.{is_accepted}
use Rattle.rules.specs.Text.{bytes, digit_byte}
use Rattle.rules.specs.TenMinutes.{ten_minutes_in, ten_minutes_charge, settle_ten_minutes}
use Rattle.rules.specs.Statement.{column, charge_line, sheet_of, charged_lines, refused_line, ten_minutes_statement}
use Rattle.rules.specs.Inner.Kept.{TenMinutesKept, TenMinutesFileKept}
use Rattle.rules.specs.Promised.Lines.{lines_of, line_at, SaysRefused}
use Rattle.rules.specs.Promised.Finals.{AreBytes, member_line_at, SaysCounts}
use Rattle.rules.specs.Promised.TenMinutes.{AcceptsTenMinutes, ShowsCharges, TenMinutesSheet}
use Rattle.rules.proofs.PartsCut.{lacks, says_refused}
use Rattle.rules.proofs.Rows.{accepts_when_whole, zero_accepts, form_numbered}
use Rattle.rules.proofs.Stated.{column_width, member_lines_length, first_line_most, refused_line_most, hour_number_most}
use Rattle.rules.proofs.SheetLines.{column_read, member_text, text_cut, charge_in_text, number_in_text}
use Rattle.rules.proofs.SheetLines.{line_stands, lines_counted, nothing_behind, counts_said}
use Rattle.rules.proofs.Told.{Small, form_small}
use Rattle.rules.proofs.IntervalsKept.{ten_minutes_file_kept}
use Rattle.rules.proofs.IntervalBounds.{charge_under}
use Rattle.rules.proofs.TenMinutes.{form_passed, fills}

-- ---- a member's line, without its line feed

module _ (m : ℕ) (c : ℤ) where
  abbrev line_text : List ℕ
  line_text = member_text m c []

  line_is : charge_line m c ≡ line_text ++ bytes "\n"
  unfolding charge_line
  line_is = ap (λ (l : List ℕ). digit_byte (m / 10) ∷ digit_byte (m % 10) ∷ bytes " " ++ l ++ bytes "\n") (sym (append-nil (column c)))

  nothing_lacks : lacks 10 [] ≡ true
  unfolding lacks
  nothing_lacks = refl

  text_width : length line_text ≡ 17
  text_width = simp length-append (omega (arith, column_width c))

  pub charge_line_length : length (charge_line m c) ≡ 18
  unfolding charge_line
  charge_line_length = simp length-append (omega (arith, column_width c))

-- ---- what an accepted hour's sheet shows

module _ (h : Hour) where
  abbrev line : ℕ → List ℕ
  line m = charge_line m (ten_minutes_charge h m)

  abbrev text : ℕ → List ℕ
  text m = line_text m (ten_minutes_charge h m)

  cut : (m : ℕ) (rest : List ℕ) → lines_of (line m ++ rest) ≡ text m ∷ lines_of rest
  cut m = let c = ten_minutes_charge h m in text_cut m c [] (line_is m c) (nothing_lacks m c)

  stands : (m : ℕ) → m < members h → member_line_at m (charged_lines h) ≡ text m
  stands = line_stands h line text cut

  module _ (kept : TenMinutesKept h) where
    lines_show : ShowsCharges h (ten_minutes_charge h) (charged_lines h)
    lines_show = record {
      line_count = lines_counted h line text cut;
      nothing_else = nothing_behind h line text cut;
      in_columns = λ m l. rw (stands m l) (text_width m (ten_minutes_charge h m), refl);
      member_shown = λ m l. rw (stands m l) (number_in_text m (ten_minutes_charge h m) [] (omega (arith, kept.members_most)));
      charge_shown = λ m l. rw (stands m l, charge_in_text m (ten_minutes_charge h m) [])
          (column_read (ten_minutes_charge h m) (let u = charge_under kept m in omega arith));
    }

    charged_lines_most : hour_number h < 2 ^ 32 → length (charged_lines h) ≤ 614
    unfolding sheet_of
    charged_lines_most n = rw length-append (omega (
      arith,
      first_line_most h 1 (omega (arith, kept.members_most)) (omega (arith, kept.count_most)) n,
      member_lines_length line 18 (λ m. charge_line_length m (ten_minutes_charge h m)) (members h),
      kept.members_most,
    ))

-- ---- accepted or refused

module _ (s : List ℕ) where
  abbrev told : Verdict
  told = verdict (form_rows ten_minutes_form s)

  pub ten_minutes_kept : told ≡ accepted → TenMinutesFileKept s
  ten_minutes_kept e = ten_minutes_file_kept s ((accepts_when_whole (form_rows ten_minutes_form s) (form_numbered ten_minutes_form s)).0 e)

  pub sheet_accepted : told ≡ accepted → ten_minutes_statement s ≡ charged_lines (ten_minutes_in s)
  unfolding ten_minutes_statement
  sheet_accepted e = rw e

  pub sheet_refused : (told.number ≡ 0 → ⊥) → ten_minutes_statement s ≡ refused_line told
  unfolding ten_minutes_statement
  sheet_refused r = rw (ne_eqb told.number 0 r)

  accepted_by_number : told.number ≡ 0 → told ≡ accepted
  accepted_by_number z = zero_accepts (form_rows ten_minutes_form s) (form_numbered ten_minutes_form s) z

  -- No sheet of a byte string is longer than 614 bytes: 38 for line 1, and 18 for each of 32 members.
  pub sheet_fits : AreBytes s → length (ten_minutes_statement s) ≤ 614
  sheet_fits b = split (is_accepted told)
      (λ t. let a = accepted_by_number (eqb-true _ _ t) in
      rw (sheet_accepted a) (charged_lines_most (ten_minutes_in s) (ten_minutes_kept a).hour_kept (hour_number_most ten_minutes s b)))
      (λ t. rw (sheet_refused (eqb-false _ _ t)) (omega (arith, refused_line_most told)))

  -- ---- of a cut input

  -- a file over 17 blocks is refused by its length alone
  too_long_refused : 8704 < length s → told ≡ refused_at 1 0
  unfolding form_rows block_rows verdict bad_length length_bad
  too_long_refused l = rw (lt-ltb 8704 (length s) l, or-true)

too_long : (s : List ℕ) → 8704 < length s → ten_minutes_statement s ≡ refused_line (refused_at 1 0)
unfolding ten_minutes_statement
too_long s l = rw (too_long_refused s l)

-- whoever reads at most 8,705 bytes sees that an input is too long
pub cut_sheet_same : (s : List ℕ) → ten_minutes_statement (take 8705 s) ≡ ten_minutes_statement s
cut_sheet_same s = split (leb (length s) 8705)
    (λ e. ap ten_minutes_statement (take_all 8705 s (leb-true (length s) 8705 e)))
    (λ e. let l : 8705 < length s = leb-false (length s) 8705 e in
    too_long (take 8705 s) (let n = length-take-le 8705 s (omega arith) in omega arith) ∙ sym (too_long s (omega arith)))

-- ---- what is asked of the sheet

module _ (s : List ℕ) where
  small : AreBytes s → Small (told s)
  small b = split (ltb 8704 (length s))
      (λ t. rw (too_long_refused s (ltb-true 8704 (length s) t)) (omega arith, omega arith))
      (λ t. form_small s b (let l = ltb-false 8704 (length s) t in omega arith))

  refused_read : AreBytes s → (told s ≡ accepted → ⊥) → SaysRefused (ten_minutes_statement s) (told s)
  refused_read b r = rw (sheet_refused s (λ z. r (accepted_by_number s z))) (says_refused (told s) (small b).0 (small b).1)

  read_back : told s ≡ accepted → ShowsCharges (ten_minutes_in s) (ten_minutes_charge (ten_minutes_in s)) (ten_minutes_statement s)
  read_back e = rw (sheet_accepted s e) (lines_show (ten_minutes_in s) (ten_minutes_kept s e).hour_kept)

  counts_read : AreBytes s → told s ≡ accepted →
      SaysCounts (line_at (ten_minutes_statement s) 0) (hour_number (ten_minutes_in s)) (members (ten_minutes_in s)) (ten_minutes_in s).count
  counts_read b e = let h = ten_minutes_in s in let kept = (ten_minutes_kept s e).hour_kept in
      rw (sheet_accepted s e) (counts_said h (line h) (text h) (cut h) (omega (arith, hour_number_most ten_minutes s b))
      (omega (arith, kept.members_most)) (omega (arith, kept.count_most)))

  as_settled : (c : List ℤ) → AcceptsTenMinutes s c →
      ShowsCharges (ten_minutes_in s) (λ m. get_or (settle_ten_minutes s c).charges m (pos 0)) (ten_minutes_statement s)
  as_settled c a =
      let h = ten_minutes_in s in
      let shown = read_back ((accepts_when_whole (form_rows ten_minutes_form s) (form_numbered ten_minutes_form s)).1 (form_passed s c a)) in
      record {
        line_count = shown.line_count;
        nothing_else = shown.nothing_else;
        in_columns = shown.in_columns;
        member_shown = shown.member_shown;
        charge_shown = λ m l.
            rw (fills s c a, get_or_replacing (ten_minutes_charge h) (members h) c m (pos 0) l) (shown.charge_shown m l);
      }

pub ten_minutes_sheet : TenMinutesSheet
ten_minutes_sheet = record {
  counts_read = counts_read;
  refused_read = refused_read;
  read_back = read_back;
  as_settled = as_settled;
}
