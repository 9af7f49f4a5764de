-- What settling's promise says to the statement, where every buffer has room for every hour.
use mathlib.Core.Path.{◌≡◌, sym, ◌∙◌}
use mathlib.Core.List.{List}
use Prim.Native.Nat.{ℕ, ◌<◌}
use native.Mathlib.Omega.{arith}
use lib.IntN.{ℤ}
use borrow.Author.Tests.{eqb-false}
use Rattle.whole.proofs.Ranges.{u_le}
use Rattle.std.specs.Prelude.{Result, Err}
use Rattle.rules.specs.declared.Refusal.{Refusal}
use Rattle.rules.specs.Refusals.{accepted, verdict_of, refusal_verdict, verdict, hour_rows}
use Rattle.rules.specs.Record.{members}
use Rattle.rules.specs.Charge.{charge}
use Rattle.rules.specs.Neutrality.{final}
use Rattle.rules.specs.Statement.{member_line, member_lines, accepted_lines, refused_line, statement}
use Rattle.rules.proofs.Bounds.{charge_under}
use Rattle.rules.proofs.Neutral.{final_under}
use Rattle.rules.proofs.Stated.{statement_accepted, statement_refused}
use Rattle.rules.specs.HourFile.{hour_in}
use Rattle.rules.proofs.Rows.{numbered}
use Rattle.bymember.specs.Charged.{Bounded}
use Rattle.pool.specs.Unlined.{Unlined, FitsUnlined}
use Rattle.pool.proofs.Rooms.{Rooms, same_verdict, figured}
use Rattle.report.specs.Stated.{member_lines_of, Printable, Answered}
use Rattle.report.proofs.Lines.{same_lines}

-- the statement by the answer
module _ {T : Type 0} {s : List ℕ} {a : Result T Refusal} {charges finals : List ℤ} (f : Answered s a charges finals) where
  pub refused_statement : (r : Refusal) → a ≡ Err r → refused_line (refusal_verdict r) ≡ statement s
  refused_statement r e =
      let told : refusal_verdict r ≡ verdict (hour_rows s) = rw e at f.verdict_is in
      rw told (sym (statement_refused s (eqb-false _ _ (rw told at (numbered r)))))

  pub accepted_statement : verdict_of a ≡ accepted → accepted_lines (hour_in s) ≡ statement s
  accepted_statement e = sym (statement_accepted s (sym f.verdict_is ∙ e))

-- the lines of an hour's members, with its charges and finals
module _ {s : List ℕ} {charges finals : List ℤ} (p : Printable s charges finals) {n : ℕ} (all : n ≡ members (hour_in s)) where
  pub charges_bounded : Bounded charges n 999999999999
  charges_bounded = record {
    few = omega (arith, all, p.kept.hour_kept.members_most);
    room = omega (arith, all, p.charged.room);
    small = λ m l. rw (p.charged.charges_are m (omega (arith, all))) (u_le (charge_under p.kept.hour_kept m) (omega arith));
  }

  pub finals_bounded : Bounded finals n 999999999999
  finals_bounded = record {
    few = charges_bounded.few;
    room = omega (arith, all, p.room);
    small = λ m l. let there : m < members (hour_in s) = omega (arith, all) in
        rw (p.finals_are m there) (u_le (final_under p.kept.hour_kept m there) (omega arith));
  }

  pub lines_are : member_lines_of charges finals n ≡ member_lines (λ m. member_line m (charge (hour_in s) m) (final (hour_in s) m)) (members (hour_in s))
  lines_are = rw (← all) (same_lines _ _ n (λ m l.
      rw (p.charged.charges_are m (omega (arith, all)), p.finals_are m (omega (arith, all)))))

-- charges and finals are those that settling left
module _ {s : List ℕ} {b after : Unlined} {r : Result (List ℤ) Refusal} (rooms : Rooms b) (settled : FitsUnlined s b r after) where
  printable : verdict_of r ≡ accepted → Printable s after.charges after.finals
  printable accepts = let f = figured rooms settled accepts in record {
    kept = f.kept;
    charged = record { room = f.charges.room; charges_are = f.charges.figures_are };
    room = f.finals.room;
    finals_are = f.finals.figures_are;
  }

  pub answered : Answered s r after.charges after.finals
  answered = record { verdict_is = same_verdict rooms settled; printable = printable }

-- of the same verdict, whatever is handed back beside it
pub answered_alike : {A B : Type 0} {s : List ℕ} {charges finals : List ℤ} {r : Result A Refusal} {t : Result B Refusal} → verdict_of t ≡ verdict_of r →
    Answered s r charges finals → Answered s t charges finals
answered_alike e f = record { verdict_is = e ∙ f.verdict_is; printable = λ a. f.printable (sym e ∙ a) }
