-- What ten-minute settling's promise says to the statement, where the charges have room for every member.
use mathlib.Core.Path.{◌≡◌, refl, sym, ◌∙◌}
use mathlib.Core.List.{List}
use Prim.Native.Nat.{ℕ, ◌≤◌}
use native.Mathlib.Omega.{arith}
use lib.IntN.{ℤ, pos}
use lib.ListN.{length}
use borrow.Author.Tests.{eqb-false, le-ltb}
use Rattle.whole.proofs.Ranges.{u_le}
use Rattle.whole.proofs.Buffers.{get_or_replacing, length_replacing}
use Rattle.std.specs.Prelude.{Result, Err}
use Rattle.rules.specs.declared.Refusal.{Refusal}
use Rattle.rules.specs.Record.{members}
use Rattle.rules.specs.Ranges.{ten_minutes_form}
use Rattle.rules.specs.Refusals.{accepted, verdict_of, refusal_verdict, verdict, form_rows}
use Rattle.rules.specs.TenMinutes.{ten_minutes_in, ten_minutes_charge, ten_minutes_rows, settle_ten_minutes}
use Rattle.rules.specs.Statement.{member_lines, charge_line, charged_lines, refused_line, ten_minutes_statement}
use Rattle.rules.specs.Promised.TenMinutes.{AcceptsTenMinutes}
use Rattle.rules.proofs.Rows.{last_decides_nothing, numbered}
use Rattle.rules.proofs.IntervalsKept.{ten_minutes_file_kept}
use Rattle.rules.proofs.IntervalBounds.{charge_under}
use Rattle.rules.proofs.TenMinutes.{fills}
use Rattle.rules.proofs.TenMinutesSheet.{ten_minutes_kept, sheet_accepted, sheet_refused}
use Rattle.bymember.specs.Charged.{Bounded}
use Rattle.tenminutes.proofs.Settled.{Settles}
use Rattle.report.specs.TenMinutes.{charge_lines_of, ChargesPrintable}
use Rattle.report.proofs.Lines.{same_lines}

-- the lines of an hour's members, with its charges
module _ {s : List ℕ} {charges : List ℤ} (p : ChargesPrintable s charges) {n : ℕ} (all : n ≡ members (ten_minutes_in s)) where
  pub charges_bounded : Bounded charges n 999999999999
  charges_bounded = record {
    few = omega (arith, all, p.kept.hour_kept.members_most);
    room = omega (arith, all, p.room);
    small = λ m l. rw (p.charges_are m (omega (arith, all))) (u_le (charge_under p.kept.hour_kept m) (omega arith));
  }

  pub lines_are : let h = ten_minutes_in s in charge_lines_of charges n ≡ member_lines (λ m. charge_line m (ten_minutes_charge h m)) (members h)
  lines_are = rw (← all) (same_lines _ _ n (λ m l. rw (p.charges_are m (omega (arith, all)))))

-- room for 32 members is enough for every file: row 11 decides nothing
room_for_all : (s : List ℕ) (c : List ℤ) → 32 ≤ length c → (settle_ten_minutes s c).verdict ≡ verdict (form_rows ten_minutes_form s)
unfolding settle_ten_minutes ten_minutes_rows
room_for_all s c room = last_decides_nothing (form_rows ten_minutes_form s) 11 _ (λ whole.
    let kept = (ten_minutes_file_kept s whole).hour_kept in
    rw (le-ltb (length c) (members (ten_minutes_in s)) (omega (arith, kept.members_most))) refl)

-- what settling answered and left: the statement by the answer, and the charges that stand in it
module _ {s : List ℕ} {before after : List ℤ} {a : Result Unit Refusal} (room : 32 ≤ length before) (settled : Settles s before a after) where
  same_verdict : verdict_of a ≡ verdict (form_rows ten_minutes_form s)
  same_verdict = settled.verdict_is ∙ room_for_all s before room

  pub refused_sheet : (r : Refusal) → a ≡ Err r → refused_line (refusal_verdict r) ≡ ten_minutes_statement s
  refused_sheet r e =
      let told : refusal_verdict r ≡ verdict (form_rows ten_minutes_form s) = rw e at same_verdict in
      rw told (sym (sheet_refused s (eqb-false _ _ (rw told at (numbered r)))))

  module _ (accepts : verdict_of a ≡ accepted) where
    passed : verdict (form_rows ten_minutes_form s) ≡ accepted
    passed = sym same_verdict ∙ accepts

    pub accepted_sheet : charged_lines (ten_minutes_in s) ≡ ten_minutes_statement s
    accepted_sheet = sym (sheet_accepted s passed)

    written : AcceptsTenMinutes s before
    written = sym settled.verdict_is ∙ accepts

    pub printable : ChargesPrintable s after
    printable =
        let h = ten_minutes_in s in
        let kept = ten_minutes_kept s passed in
        let filled = settled.charges_are ∙ fills s before written in
        let enough : members h ≤ length before = omega (arith, kept.hour_kept.members_most) in
        record {
          kept = kept;
          room = rw (filled, length_replacing (ten_minutes_charge h) (members h) before enough) enough;
          charges_are = λ m l. rw filled (get_or_replacing (ten_minutes_charge h) (members h) before m (pos 0) l);
        }
