-- What the pages say of a function, said of its contract as its callers read it: settling keeps the three demands, its finals add up to
-- nothing, and it refuses an import that was metered and a generator that is scheduled above its maximum; an amount written is read, and
-- one read is written again; the statement is put whole or not at all, and tells what it is of; an accepted file keeps its ranges.
use mathlib.Core.Path.{◌≡◌, sym, ◌∙◌, ap, ap₂}
use mathlib.Core.List.{List}
use Prim.Native.Nat.{ℕ, ◌≤◌}
use lib.IntN.{ℤ}
use lib.ListN.{length, take}
use contract.Lifetimes.{Lfts}
use Rattle.std.specs.Prelude.{Ok}
use Rattle.rules.specs.Refusals.{accepted, Verdict, refused_at, verdict_of, verdict, hour_rows, Buffers}
use Rattle.rules.specs.Settling.{figures_of, Settlement, settle as settling}
use Rattle.rules.specs.Statement as Statement
use Rattle.rules.proofs.Rows.{settle_verdict, settle_changes_nothing}
use Rattle.rules.proofs.Demands.{demand2, demand3}
use Rattle.rules.proofs.Finals.{neutrality_shared}
use Rattle.rules.proofs.Imports.{imports}
use Rattle.rules.proofs.Engines.{engines}
use Rattle.rules.proofs.Stated.{cut_input_same}
use Rattle.rules.proofs.Told.{sheet}
use Rattle.amount.specs.Promised.{Wrote, HasRead}
use Rattle.amount.proofs.RoundTrips as RoundTrips
use Rattle.examine.proofs.Examined as Examined
use Rattle.pool.specs.Buffers.{buffers}
use Rattle.pool.specs.Unlined.{unlined, with_lines, own_lines}
use Rattle.report.specs.Stated.{HasStated}
use Rattle.printing.proofs.Showing.{whole_text}
use Rattle.theorems.specs.Determined.{Gives}
use Rattle.theorems.specs.Demanded.{KeepsDemands, KeepsDemandsUnlined}
use Rattle.theorems.specs.Texts.{IsPut, IsPutOfCut, IsReadBack, CountsAreRead, SaysRefusal, Tells, ShowsSettled}
use Rattle.theorems.specs.Given.{IsReadAs, IsWrittenAs, IsWritten, IsRead, IsBody, IsKept}
use Rattle.amount.proofs.write.Reads as write
use Rattle.amount.proofs.read.Reads as read
use Rattle.examine.proofs.examine.Reads as examine
use Rattle.pool.proofs.settle.Reads as settle
use Rattle.pool.proofs.settle_unlined.Reads as settle_unlined
use Rattle.sneupelaar.proofs.sneupelaar_settle.Reads as sneupelaar_settle
use Rattle.sneupelaar.proofs.sneupelaar_write.Reads as sneupelaar_write
use Rattle.sneupelaar.proofs.sneupelaar_read.Reads as sneupelaar_read
use Rattle.sneupelaar.proofs.sneupelaar_body.Reads as sneupelaar_body
use Rattle.report.proofs.statement.put_statement.Reads as statement

-- ---- settling

keeps : {s : List ℕ} {b after : Buffers} {v : Verdict} {u : List ℤ} →
    v ≡ (settling s b).verdict → u ≡ (settling s b).ufe → after ≡ (settling s b).buffers → KeepsDemands s b v u after
keeps {s} {b} v u a = record {
  by_the_table = v ∙ settle_verdict s b;
  unchanged = λ refused. let same = settle_changes_nothing s b (λ e. refused (v ∙ e)) in (a ∙ same.0, u ∙ same.1);
  by_formula = λ e. rw (u, a) (demand2.settled s b (sym v ∙ e));
  fair = λ e. rw (u, a) (demand3 s b (sym v ∙ e));
  neutral = λ e. rw a (neutrality_shared.settled s b (sym v ∙ e));
  held_to_demand = rw v (neutrality_shared.settle_held s b);
  metered_import = λ i passed m. v ∙ imports.refused s b i passed m;
  held_to_maximum = rw v (engines.settled s b);
}

pub settle_keeps_demands : (κs : Lfts 6) → Gives (settle.Learnt κs) (λ a x s. KeepsDemands a.0.now
    (buffers a.1.1.0.now a.1.1.1.0.now a.1.1.1.1.0.now a.1.1.1.1.1.0.now a.1.0.now)
    (verdict_of x) (figures_of x)
    (buffers s.1.1.0.now s.1.1.1.0.now s.1.1.1.1.0.now s.1.1.1.1.1.0.now s.1.0.now))
settle_keeps_demands κs a x s p = keeps p.verdict_is p.ufe_is p.buffers_are

-- with the lines that it made itself
pub settle_unlined_keeps_demands : (κs : Lfts 5) → Gives (settle_unlined.Learnt κs) (λ a x s. KeepsDemandsUnlined a.0.now
    (with_lines (unlined a.1.0.now a.1.1.0.now a.1.1.1.0.now a.1.1.1.1.0.now) own_lines)
    (verdict_of x) (figures_of x)
    (with_lines (unlined s.1.0.now s.1.1.0.now s.1.1.1.0.now s.1.1.1.1.0.now)))
settle_unlined_keeps_demands κs a x s p =
    (p.lines, keeps p.fits.verdict_is p.fits.ufe_is p.fits.buffers_are)

pub sneupelaar_settle_keeps_demands : (κs : Lfts 6) → Gives (sneupelaar_settle.Learnt κs) (λ a x s. KeepsDemands a.0.now
    (buffers a.1.1.0.now a.1.1.1.0.now a.1.1.1.1.0.now a.1.1.1.1.1.0.now a.1.0.now)
    (record { number = x.number; place = x.place }) x.ufe
    (buffers s.1.1.0.now s.1.1.1.0.now s.1.1.1.1.0.now s.1.1.1.1.1.0.now s.1.0.now))
sneupelaar_settle_keeps_demands κs a x s p =
    keeps (ap (λ (t : Settlement). t.verdict) p) (ap (λ (t : Settlement). t.ufe) p) (ap (λ (t : Settlement). t.buffers) p)

-- ---- amounts as text

pub write_promises : (κs : Lfts 1) → Gives (write.Learnt κs) (λ a x s. Wrote a.1.0.now a.0 x s.1.0.now)
write_promises κs a x s p = record { verdict_is = p.0; field_is = p.1 }

pub read_promises : (κs : Lfts 1) → Gives (read.Learnt κs) (λ a x s. HasRead a.0.now x)
read_promises κs a x s p = record { verdict_is = p.0; amount_is = p.1 }

-- written, then read
pub written_is_read : (κs μs : Lfts 1) → Gives (write.Learnt κs) (λ a x s. x ≡ Ok tt →
    Gives (read.Learnt μs) (λ b y t. IsReadAs a.0 s.1.0.now b.0.now y))
written_is_read κs μs a x s p accepts b y t q same = RoundTrips.written_is_read _ _ a.0 y
    (rw accepts at (write_promises κs a x s p)) (rw same at (read_promises μs b y t q))

-- read, then written at the same width
pub read_is_written : (κs μs : Lfts 1) → Gives (read.Learnt κs) (λ a x s. (amount : ℤ) → x ≡ Ok amount →
    Gives (write.Learnt μs) (λ b y t. IsWrittenAs amount a.0.now b.0 b.1.0.now y t.1.0.now))
read_is_written κs μs a x s p amount accepts b y t q same width = RoundTrips.read_is_written a.0.now _ _ amount y
    (rw accepts at (read_promises κs a x s p)) width (rw same at (write_promises μs b y t q))

-- the same for C, with the answer as its number and place
pub sneupelaar_write_promises : (κs : Lfts 1) → Gives (sneupelaar_write.Learnt κs) (λ a x s.
    IsWritten a.1.0.now a.0 x.number x.place s.1.0.now)
sneupelaar_write_promises κs a x s p = p

pub sneupelaar_read_promises : (κs : Lfts 1) → Gives (sneupelaar_read.Learnt κs) (λ a x s.
    IsRead a.0.now x.number x.place x.amount)
sneupelaar_read_promises κs a x s p = p

-- ---- the file and its statement

pub sneupelaar_body_promises : (κs : Lfts 1) → Gives (sneupelaar_body.Learnt κs) (λ a x s.
    IsBody a.0.now a.1.0 x.from x.length)
sneupelaar_body_promises κs a x s p = p.1

pub examine_promises : (κs : Lfts 1) → Gives (examine.Learnt κs) (λ a x s. IsKept a.0.now x)
examine_promises κs a x s p accepts = Examined.accepted_kept a.0.now x p accepts

pub statement_promises : (κs : Lfts 2) → Gives (statement.Learnt κs) (λ a x s. HasStated a.0.now a.1.0.now x s.1.0.now)
statement_promises κs a x s p = record { count_is = p.0; out_is = p.1 }

pub statement_is_put : (κs : Lfts 2) → Gives (statement.Learnt κs) (λ a x s.
    IsPut 1095 (Statement.statement a.0.now) a.1.0.now x s.1.0.now)
statement_is_put κs a x s p = whole_text (statement_promises κs a x s p)

-- read, the columns of a member's line give its charge and its final
pub statement_is_read_back : (κs : Lfts 2) → Gives (statement.Learnt κs) (λ a x s. IsReadBack a.0.now a.1.0.now x s.1.0.now)
statement_is_read_back κs a x s p room accepts = rw (statement_is_put κs a x s p room) (sheet.read_back a.0.now accepts)

-- line 1 gives the hour number and the counts; a refusal its number and place
pub statement_counts_are_read : (κs : Lfts 2) → Gives (statement.Learnt κs) (λ a x s.
    CountsAreRead a.0.now a.1.0.now x s.1.0.now)
statement_counts_are_read κs a x s p room bytes accepts =
    rw (statement_is_put κs a x s p room) (sheet.counts_read a.0.now bytes accepts)

pub statement_says_refusal : (κs : Lfts 2) → Gives (statement.Learnt κs) (λ a x s.
    SaysRefusal 1095 a.0.now (verdict (hour_rows a.0.now)) a.1.0.now x s.1.0.now)
statement_says_refusal κs a x s p room bytes refused =
    rw (statement_is_put κs a x s p room) (sheet.refused_read a.0.now bytes refused)

-- a reader that stops one byte past the longest file prints what its whole input asks for
pub cut_input_is_put : (κs : Lfts 2) (input : List ℕ) → Gives (statement.Learnt κs) (λ a x s.
    IsPutOfCut 13313 1095 Statement.statement input a.0.now a.1.0.now x s.1.0.now)
cut_input_is_put κs input a x s p cut room =
    statement_is_put κs a x s p room ∙ ap Statement.statement cut ∙ cut_input_same input

-- two statements that are the same say the same of both files
pub statement_tells : (κs μs : Lfts 2) → Gives (statement.Learnt κs) (λ a x s. 1095 ≤ length a.1.0.now →
    Gives (statement.Learnt μs) (λ b y t. 1095 ≤ length b.1.0.now →
    Tells a.0.now (take x s.1.0.now) b.0.now (take y t.1.0.now)))
statement_tells κs μs a x s p room b y t q room₂ bytes bytes₂ same = sheet.tells a.0.now b.0.now bytes bytes₂
    (sym (statement_is_put κs a x s p room) ∙ same ∙ statement_is_put μs b y t q room₂)

-- ---- settled, then printed: the columns of each member's line, read, give the charge and the final that settling wrote

pub settled_is_printed : (κs : Lfts 6) (μs : Lfts 2) → Gives (settle.Learnt κs) (λ a x s. verdict_of x ≡ accepted →
    Gives (statement.Learnt μs) (λ b y t. ShowsSettled a.0.now
    (buffers s.1.1.0.now s.1.1.1.0.now s.1.1.1.1.0.now s.1.1.1.1.1.0.now s.1.0.now)
    b.0.now b.1.0.now (take y t.1.0.now)))
settled_is_printed κs μs a x s p accepts b y t q same room =
    let lent = buffers a.1.1.0.now a.1.1.1.0.now a.1.1.1.1.0.now a.1.1.1.1.1.0.now a.1.0.now in
    let shown = sheet.as_settled a.0.now lent (sym p.verdict_is ∙ accepts) in
    rw (
      statement_is_put μs b y t q room ∙ ap Statement.statement same,
      ap (λ (z : Buffers). z.charges) p.buffers_are,
      ap (λ (z : Buffers). z.finals) p.buffers_are,
    ) shown

-- the same for C
pub sneupelaar_settled_is_printed : (κs : Lfts 6) (μs : Lfts 2) → Gives (sneupelaar_settle.Learnt κs) (λ a x s. x.number ≡ 0 → x.place ≡ 0 →
    Gives (statement.Learnt μs) (λ b y t. ShowsSettled a.0.now
    (buffers s.1.1.0.now s.1.1.1.0.now s.1.1.1.1.0.now s.1.1.1.1.1.0.now s.1.0.now)
    b.0.now b.1.0.now (take y t.1.0.now)))
sneupelaar_settled_is_printed κs μs a x s p number place b y t q same room =
    let lent = buffers a.1.1.0.now a.1.1.1.0.now a.1.1.1.1.0.now a.1.1.1.1.1.0.now a.1.0.now in
    let shown = sheet.as_settled a.0.now lent (sym (ap (λ (z : Settlement). z.verdict) p) ∙ ap₂ refused_at number place) in
    rw (
      statement_is_put μs b y t q room ∙ ap Statement.statement same,
      ap (λ (z : Settlement). z.buffers.charges) p,
      ap (λ (z : Settlement). z.buffers.finals) p,
    ) shown
