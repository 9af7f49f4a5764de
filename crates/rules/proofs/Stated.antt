-- The statement: when it is which, how long it can be, and that a reader that stops one byte past the longest file prints the same.
use mathlib.Core.Path.{◌≡◌, refl, sym, ◌∙◌, ap}
use mathlib.Core.Bool.{or-true}
use mathlib.Core.List.{List}
use Prim.Native.Nat.{ℕ, zero, suc, ◌+◌, ◌*◌, ◌^◌, ◌≤◌, ◌<◌}
use native.Mathlib.Omega.{arith}
use lib.Dec.{leb}
use lib.IntN.{ℤ}
use lib.ListN.{length, take, get_or, replicate, length-append}
use lib.Seq.{take_all, length-take-le}
use borrow.Author.Tests.{leb-true, leb-false, lt-ltb, le-ltb, eqb-true, eqb-false, ne_eqb}
use Rattle.whole.proofs.Tests.{split}
use Rattle.rules.specs.declared.Layout.{Layout}
use Rattle.rules.specs.Record.{Hour, hour_number, members}
use Rattle.rules.specs.Charge.{charge}
use Rattle.rules.specs.Neutrality.{final}
use Rattle.rules.specs.HourFile.{hourly, length_bad, hour_of, block_word, hour_in}
use Rattle.rules.specs.Refusals.{Verdict, accepted, refused_at, verdict, Buffers, bad_length, too_short, block_rows, form_rows, file_rows}
use Rattle.rules.specs.Refusals.{hour_rows, settle_rows}
use Rattle.rules.specs.Settling.{is_accepted}
use Rattle.rules.specs.Statement.{first_line, column, member_line, member_lines, sheet_of, accepted_lines, refused_line, statement}
use Rattle.rules.specs.Inner.Kept.{HourKept, FileKept}
use Rattle.rules.proofs.Rows.{accepts_when_whole, hour_numbered, zero_accepts, last_decides_nothing}
use Rattle.rules.proofs.Kept.{passed_kept}
use Rattle.rules.proofs.WordBytes.{word_most}
use Rattle.rules.proofs.Digits.{decimal_at_most_20, decimal_length_at_most}
use Rattle.rules.proofs.Text.{field_has_width}

-- ---- accepted or refused

-- an hour that passes the rows of a statement keeps its ranges
pub accepted_kept : (s : List ℕ) → verdict (hour_rows s) ≡ accepted → FileKept s
accepted_kept s e = passed_kept s ((accepts_when_whole (hour_rows s) (hour_numbered s)).0 e)

-- room for 32 members and 250 records is enough for every hour: row 11 decides nothing
pub room_for_all : (s : List ℕ) (b : Buffers) → 32 ≤ length b.charges → 32 ≤ length b.finals → 32 ≤ length b.lines →
    250 ≤ length b.shares → 250 ≤ length b.deviations → verdict (settle_rows s b) ≡ verdict (hour_rows s)
unfolding too_short settle_rows
room_for_all s b pc pf pl pn pd = last_decides_nothing (hour_rows s) 11 _ (λ whole.
    let k = (passed_kept s whole).hour_kept in
    let h = hour_in s in
    rw (
      le-ltb (length b.charges) (members h) (omega (arith, k.members_most)),
      le-ltb (length b.finals) (members h) (omega (arith, k.members_most)),
      le-ltb (length b.lines) (members h) (omega (arith, k.members_most)),
      le-ltb (length b.shares) h.count (omega (arith, k.count_most)),
      le-ltb (length b.deviations) h.count (omega (arith, k.count_most)),
    ) refl)

module _ (s : List ℕ) where
  pub statement_accepted : verdict (hour_rows s) ≡ accepted → statement s ≡ accepted_lines (hour_in s)
  unfolding statement
  statement_accepted e = rw e

  pub statement_refused : ((verdict (hour_rows s)).number ≡ 0 → ⊥) → statement s ≡ refused_line (verdict (hour_rows s))
  unfolding statement
  statement_refused r = rw (ne_eqb (verdict (hour_rows s)).number 0 r)

-- ---- how long it is

pub column_width : (z : ℤ) → length (column z) ≡ 14
unfolding column
column_width z = field_has_width (replicate 14 32) z

pub member_line_length : (m : ℕ) (c f : ℤ) → length (member_line m c f) ≡ 33
unfolding member_line
member_line_length m c f = simp length-append (omega (arith, column_width c, column_width f))

pub member_lines_length : (line : ℕ → List ℕ) (width : ℕ) → ((m : ℕ) → length (line m) ≡ width) → (m : ℕ) →
    length (member_lines line m) ≡ width * m
unfolding member_lines
member_lines_length line width each zero = omega arith
member_lines_length line width each (suc m) =
    length-append (member_lines line m) (line m) ∙ omega (arith, member_lines_length line width each m, each m)

module _ (h : Hour) where
  -- an hour number of 32 bits has at most ten digits, members have two, records one and so many more
  pub first_line_most : (more : ℕ) → members h ≤ 99 → h.count < 10 ^ suc more → hour_number h < 2 ^ 32 →
      length (first_line (hour_number h) (members h) h.count) ≤ 37 + more
  unfolding first_line
  first_line_most more few-members few_records n = simp length-append (omega (
    arith,
    decimal_length_at_most (hour_number h) 9 (omega arith),
    decimal_length_at_most (members h) 1 (omega arith),
    decimal_length_at_most h.count more few_records,
  ))

  pub accepted_lines_most : HourKept h → hour_number h < 2 ^ 32 → length (accepted_lines h) ≤ 1095
  unfolding sheet_of
  accepted_lines_most kept n = rw length-append (omega (
    arith,
    first_line_most 2 (omega (arith, kept.members_most)) (omega (arith, kept.count_most)) n,
    member_lines_length (λ m. member_line m (charge h m) (final h m)) 33 (λ m. member_line_length m (charge h m) (final h m)) (members h),
    kept.members_most,
  ))

pub refused_line_most : (v : Verdict) → length (refused_line v) ≤ 53
unfolding refused_line
refused_line_most v = simp length-append (omega (arith, decimal_at_most_20 v.number, decimal_at_most_20 v.place))

pub hour_number_most : (l : Layout) (s : List ℕ) → ((i : ℕ) → get_or s i 0 < 256) → hour_number (hour_of l s) < 2 ^ 32
unfolding hour_of block_word
hour_number_most l s b = word_most s b 8

-- No statement of a byte string is longer than 1,095 bytes: 39 for line 1, and 33 for each of 32 members.
pub statement_fits : (s : List ℕ) → ((i : ℕ) → get_or s i 0 < 256) → length (statement s) ≤ 1095
statement_fits s b = split (is_accepted (verdict (hour_rows s)))
    (λ t. let a = zero_accepts (hour_rows s) (hour_numbered s) (eqb-true _ _ t) in
    rw (statement_accepted s a) (accepted_lines_most (hour_in s) (accepted_kept s a).hour_kept (hour_number_most hourly s b)))
    (λ t. rw (statement_refused s (eqb-false _ _ t)) (omega (arith, refused_line_most (verdict (hour_rows s)))))

-- ---- of a cut input

-- a file over 26 blocks is refused by its length alone
pub too_long_refused : (s : List ℕ) → 13312 < length s → verdict (hour_rows s) ≡ refused_at 1 0
unfolding hour_rows file_rows form_rows block_rows verdict bad_length length_bad
too_long_refused s l = rw (lt-ltb 13312 (length s) l, or-true)

too_long : (s : List ℕ) → 13312 < length s → statement s ≡ refused_line (refused_at 1 0)
unfolding statement
too_long s l = rw (too_long_refused s l)

-- whoever reads at most 13,313 bytes sees that an input is too long
pub cut_input_same : (s : List ℕ) → statement (take 13313 s) ≡ statement s
cut_input_same s = split (leb (length s) 13313)
    (λ e. ap statement (take_all 13313 s (leb-true (length s) 13313 e)))
    (λ e. let l : 13313 < length s = leb-false (length s) 13313 e in
    too_long (take 13313 s) (let n = length-take-le 13313 s (omega arith) in omega arith) ∙ sym (too_long s (omega arith)))
