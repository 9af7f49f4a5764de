-- What program ten_minutes prints: no second result fits the contracts; the statement is put whole or not at all, and tells what it is of.
-- Document 02, A7.
use mathlib.Core.Path.{◌≡◌, refl, sym, ◌∙◌, ap, ap₂}
use mathlib.Core.List.{List}
use Prim.Native.Nat.{ℕ}
use lib.ListN.{take}
use contract.Lifetimes.{Lfts}
use Rattle.std.specs.Prelude.{Ok}
use Rattle.rules.specs.Ranges.{ten_minutes_form}
use Rattle.rules.specs.Refusals.{refused_at, verdict_of, verdict, form_rows}
use Rattle.rules.specs.TenMinutes.{TenMinutesSettlement}
use Rattle.rules.specs.Statement.{ten_minutes_statement}
use Rattle.rules.proofs.TenMinutesSheet.{cut_sheet_same, ten_minutes_sheet}
use Rattle.printing.specs.Shown.{HasShown}
use Rattle.printing.proofs.Showing.{whole_text}
use Rattle.printing.specs.Page.{page_shows}
use Rattle.printing.proofs.Pages.{one_page}
use Rattle.theorems.specs.Determined.{OneOutcome, Gives, AsksNothing}
use Rattle.theorems.specs.Texts.{IsPut, IsPutOfCut, SaysRefusal, ChargesAreReadBack, TenMinutesCountsAreRead, ShowsSettledCharges}
use Rattle.theorems.proofs.Laws.{agree}
use Rattle.printing.proofs.put_charge.Reads as put_charge
use Rattle.report.proofs.ten_minutes.put_ten_minutes_statement.Reads as put_statement
use Rattle.tenminutes.proofs.settle.Reads as settle
use Rattle.tenminutes.proofs.boundary.sneupelaar_settle_ten_minutes.Reads as sneupelaar_settle_ten_minutes

-- ---- no second result fits, and nothing is asked

pub one_put_charge : (κs : Lfts 2) → OneOutcome (put_charge.Learnt κs) (λ s. page_shows s.0.now)
one_put_charge κs a x y s t p q = (refl, one_page p q)

pub one_ten_minutes_statement : (κs : Lfts 2) → OneOutcome (put_statement.Learnt κs) (λ s. s.1.0.now)
one_ten_minutes_statement κs a x y s t p q = (agree p.0 q.0, agree p.1 q.1)

pub asks_nothing_put_ten_minutes_statement : (κs : Lfts 2) → AsksNothing (put_statement.Asked κs)
asks_nothing_put_ten_minutes_statement κs a = tt

-- ---- what is put

pub ten_minutes_statement_promises : (κs : Lfts 2) → Gives (put_statement.Learnt κs) (λ a x s.
    HasShown 614 (ten_minutes_statement a.0.now) a.1.0.now x s.1.0.now)
ten_minutes_statement_promises κs a x s p = record { count_is = p.0; out_is = p.1 }

pub ten_minutes_statement_is_put : (κs : Lfts 2) → Gives (put_statement.Learnt κs) (λ a x s.
    IsPut 614 (ten_minutes_statement a.0.now) a.1.0.now x s.1.0.now)
ten_minutes_statement_is_put κs a x s p = whole_text (ten_minutes_statement_promises κs a x s p)

-- read, the column of a member's line gives its charge
pub charges_are_read_back : (κs : Lfts 2) → Gives (put_statement.Learnt κs) (λ a x s.
    ChargesAreReadBack a.0.now a.1.0.now x s.1.0.now)
charges_are_read_back κs a x s p room accepts =
    rw (ten_minutes_statement_is_put κs a x s p room) (ten_minutes_sheet.read_back a.0.now accepts)

-- line 1 gives the hour number and the counts; a refusal its number and place
pub ten_minutes_counts_are_read : (κs : Lfts 2) → Gives (put_statement.Learnt κs) (λ a x s.
    TenMinutesCountsAreRead a.0.now a.1.0.now x s.1.0.now)
ten_minutes_counts_are_read κs a x s p room bytes accepts =
    rw (ten_minutes_statement_is_put κs a x s p room) (ten_minutes_sheet.counts_read a.0.now bytes accepts)

pub ten_minutes_statement_says_refusal : (κs : Lfts 2) → Gives (put_statement.Learnt κs) (λ a x s.
    SaysRefusal 614 a.0.now (verdict (form_rows ten_minutes_form a.0.now)) a.1.0.now x s.1.0.now)
ten_minutes_statement_says_refusal κs a x s p room bytes refused =
    rw (ten_minutes_statement_is_put κs a x s p room) (ten_minutes_sheet.refused_read a.0.now bytes refused)

-- a reader that stops one byte past the longest file prints what its whole input asks for
pub cut_ten_minutes_is_put : (κs : Lfts 2) (input : List ℕ) → Gives (put_statement.Learnt κs) (λ a x s.
    IsPutOfCut 8705 614 ten_minutes_statement input a.0.now a.1.0.now x s.1.0.now)
cut_ten_minutes_is_put κs input a x s p cut room =
    ten_minutes_statement_is_put κs a x s p room ∙ ap ten_minutes_statement cut ∙ cut_sheet_same input

-- ---- settled, then printed: the column of each member's line, read, gives the charge that settling wrote

pub settled_charges_are_printed : (κs μs : Lfts 2) → Gives (settle.Learnt κs) (λ a x s. x ≡ Ok tt →
    Gives (put_statement.Learnt μs) (λ b y t.
    ShowsSettledCharges a.0.now s.1.0.now b.0.now b.1.0.now (take y t.1.0.now)))
settled_charges_are_printed κs μs a x s p accepts b y t q same room =
    let shown = ten_minutes_sheet.as_settled a.0.now a.1.0.now (sym p.0 ∙ ap verdict_of accepts) in
    rw (ten_minutes_statement_is_put μs b y t q room ∙ ap ten_minutes_statement same, p.1) shown

-- the same for C
pub sneupelaar_settled_charges_are_printed : (κs μs : Lfts 2) → Gives (sneupelaar_settle_ten_minutes.Learnt κs) (λ a x s.
    x.number ≡ 0 → x.place ≡ 0 → Gives (put_statement.Learnt μs) (λ b y t.
    ShowsSettledCharges a.0.now s.1.0.now b.0.now b.1.0.now (take y t.1.0.now)))
sneupelaar_settled_charges_are_printed κs μs a x s p number place b y t q same room =
    let told = sym (ap (λ (z : TenMinutesSettlement). z.verdict) p) ∙ ap₂ refused_at number place in
    let shown = ten_minutes_sheet.as_settled a.0.now a.1.0.now told in
    rw (ten_minutes_statement_is_put μs b y t q room ∙ ap ten_minutes_statement same, ap (λ (z : TenMinutesSettlement). z.charges) p) shown
