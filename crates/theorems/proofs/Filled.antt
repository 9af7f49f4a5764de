-- Functions that fill a caller's buffers.
use mathlib.Core.Path.{refl, ap, ap₂}
use mathlib.Core.List.{List}
use Prim.Native.Nat.{ℕ}
use lib.IntN.{ℤ}
use contract.Lifetimes.{Lfts}
use Rattle.amount.proofs.RoundTrips.{one_reading}
use Rattle.rules.specs.Refusals.{Buffers}
use Rattle.rules.specs.Settling.{length_of, Settlement, HourWritten, Written, ReadAmount}
use Rattle.pool.specs.Buffers.{buffers}
use Rattle.pool.specs.Unlined.{unlined}
use Rattle.rules.proofs.Rows.{one_answer, one_settlement}
use Rattle.printing.specs.Page.{page_shows}
use Rattle.printing.proofs.Pages.{one_page}
use Rattle.theorems.specs.Determined.{OneResult, OneOutcome}
use Rattle.theorems.proofs.Laws.{agree, agree_answer}
use Rattle.amount.proofs.write.Reads as write
use Rattle.amount.proofs.read.Reads as read
use Rattle.amount.proofs.decimal.put_digits.Reads as put_digits
use Rattle.share.proofs.share_in_place.Reads as share_in_place
use Rattle.byrecord.proofs.deviations.put_deviations.Reads as put_deviations
use Rattle.byrecord.proofs.shares.put_shares.Reads as put_shares
use Rattle.bymember.proofs.put_lines.Reads as put_lines
use Rattle.bymember.proofs.put_charges.Reads as put_charges
use Rattle.bymember.proofs.neutrality.put_finals.Reads as put_finals
use Rattle.writer.proofs.write_hour.Reads as write_hour
use Rattle.report.proofs.written.put_written_hour.Reads as write_raw
use Rattle.pool.proofs.settle.Reads as settle
use Rattle.pool.proofs.settle_unlined.Reads as settle_unlined
use Rattle.answer.proofs.NumberedAnswerFromResultUnitRefusal.from.Reads as numbered_answer
use Rattle.sneupelaar.proofs.NumberedSettledFromResultArrayI648Refusal.from.Reads as numbered_settled
use Rattle.sneupelaar.proofs.NumberedReadingFromResultI64Refusal.from.Reads as numbered_reading
use Rattle.sneupelaar.proofs.sneupelaar_settle.Reads as sneupelaar_settle
use Rattle.sneupelaar.proofs.sneupelaar_write.Reads as sneupelaar_write
use Rattle.writer.proofs.boundary.sneupelaar_write_hour.Reads as sneupelaar_write_hour
use Rattle.sneupelaar.proofs.sneupelaar_read.Reads as sneupelaar_read
use Rattle.sneupelaar.proofs.sneupelaar_body.Reads as sneupelaar_body
use Rattle.printing.proofs.put_first_line.Reads as put_first_line
use Rattle.printing.proofs.put_member.Reads as put_member
use Rattle.printing.proofs.put_refused.Reads as put_refused
use Rattle.printing.proofs.put_refusal.Reads as put_refusal
use Rattle.report.proofs.statement.put_statement.Reads as statement

pub one_write : (κs : Lfts 1) → OneOutcome (write.Learnt κs) (λ s. s.1.0.now)
one_write κs a x y s t p q = (agree_answer p.0 q.0, agree p.1 q.1)

pub one_read : (κs : Lfts 1) → OneResult (read.Learnt κs)
one_read κs a x y s t p q =
    one_reading _ x y (record { verdict_is = p.0; amount_is = p.1 }) (record { verdict_is = q.0; amount_is = q.1 })

pub one_put_digits : (κs : Lfts 1) → OneOutcome (put_digits.Learnt κs) (λ s. s.0.now)
one_put_digits κs a x y s t p q = (refl, agree p q)

pub one_share_in_place : (κs : Lfts 1) → OneOutcome (share_in_place.Learnt κs) (λ s. s.0.now)
one_share_in_place κs a x y s t p q = (refl, agree p q)

pub one_put_deviations : (κs : Lfts 3) → OneOutcome (put_deviations.Learnt κs) (λ s. s.1.0.now)
one_put_deviations κs a x y s t p q = (refl, agree p q)

pub one_put_shares : (κs : Lfts 4) →
    OneOutcome (put_shares.Learnt κs) {B = List ℕ × List ℤ} (λ s. (s.1.1.0.now, s.1.1.1.0.now))
one_put_shares κs a x y s t p q = (refl, ap₂ (λ (room : List ℕ) (out : List ℤ). (room, out)) (agree p.1 q.1) (agree p.0 q.0))

pub one_put_lines : (κs : Lfts 5) → OneOutcome (put_lines.Learnt κs) (λ s. s.1.1.1.0.now)
one_put_lines κs a x y s t p q = (refl, agree p q)

pub one_put_charges : (κs : Lfts 2) → OneOutcome (put_charges.Learnt κs) (λ s. s.1.0.now)
one_put_charges κs a x y s t p q = (refl, agree p q)

pub one_put_finals : (κs : Lfts 4) → OneOutcome (put_finals.Learnt κs) (λ s. s.1.1.0.now)
one_put_finals κs a x y s t p q = (refl, agree p q)

pub one_put_first_line : (κs : Lfts 2) → OneOutcome (put_first_line.Learnt κs) (λ s. page_shows s.0.now)
one_put_first_line κs a x y s t p q = (refl, one_page p q)

pub one_put_member : (κs : Lfts 2) → OneOutcome (put_member.Learnt κs) (λ s. page_shows s.0.now)
one_put_member κs a x y s t p q = (refl, one_page p q)

pub one_put_refusal : (κs : Lfts 2) → OneOutcome (put_refusal.Learnt κs) (λ s. page_shows s.0.now)
one_put_refusal κs a x y s t p q = (refl, one_page p q)

pub one_put_refused : (κs : Lfts 2) → OneOutcome (put_refused.Learnt κs) (λ s. page_shows s.0.now)
one_put_refused κs a x y s t p q = (refl, one_page p q)

pub one_statement : (κs : Lfts 2) → OneOutcome (statement.Learnt κs) (λ s. s.1.0.now)
one_statement κs a x y s t p q = (agree p.0 q.0, agree p.1 q.1)

-- ---- settling's buffers

pub one_settle : (κs : Lfts 6) →
    OneOutcome (settle.Learnt κs) (λ s.
    buffers s.1.1.0.now s.1.1.1.0.now s.1.1.1.1.0.now s.1.1.1.1.1.0.now s.1.0.now)
one_settle κs a x y s t p q = one_settlement _ _ x y _ _ p q

pub one_write_hour : (κs : Lfts 3) → OneOutcome (write_hour.Learnt κs) (λ s. s.1.1.0.now)
one_write_hour κs a x y s t p q = (
  one_answer length_of (λ n. refl) x y (agree p.0 q.0) (agree p.1.0 q.1.0),
  agree p.1.1.0 q.1.1.0,
)

pub one_write_raw : (κs : Lfts 2) → OneOutcome (write_raw.Learnt κs) (λ s. s.1.0.now)
one_write_raw κs a x y s t p q = (agree p.0 q.0, agree p.1 q.1)

pub one_settle_unlined : (κs : Lfts 5) →
    OneOutcome (settle_unlined.Learnt κs) (λ s. unlined s.1.0.now s.1.1.0.now s.1.1.1.0.now s.1.1.1.1.0.now)
one_settle_unlined κs a x y s t p q =
    let one = one_settlement _ _ x y _ _ p.fits q.fits in
    (one.0, ap (λ (b : Buffers). unlined b.charges b.finals b.shares b.deviations) one.1)

-- ---- the functions for C

pub one_numbered_answer : (κs : Lfts 0) → OneResult (numbered_answer.Learnt κs)
one_numbered_answer κs a x y s t = agree

pub one_numbered_settled : (κs : Lfts 0) → OneResult (numbered_settled.Learnt κs)
one_numbered_settled κs a x y s t = agree

pub one_numbered_reading : (κs : Lfts 0) → OneResult (numbered_reading.Learnt κs)
one_numbered_reading κs a x y s t = agree

pub one_sneupelaar_settle : (κs : Lfts 6) →
    OneOutcome (sneupelaar_settle.Learnt κs) (λ s.
    buffers s.1.1.0.now s.1.1.1.0.now s.1.1.1.1.0.now s.1.1.1.1.1.0.now s.1.0.now)
one_sneupelaar_settle κs a x y s t p q = (
  ap (λ (r : Settlement). record { number = r.verdict.number; place = r.verdict.place; ufe = r.ufe }) (agree p q),
  ap (λ (r : Settlement). r.buffers) (agree p q),
)

pub one_sneupelaar_write : (κs : Lfts 1) → OneOutcome (sneupelaar_write.Learnt κs) (λ s. s.1.0.now)
one_sneupelaar_write κs a x y s t p q = (
  ap (λ (r : Written). record { number = r.verdict.number; place = r.verdict.place }) (agree p q),
  ap (λ (r : Written). r.field) (agree p q),
)

pub one_sneupelaar_write_hour : (κs : Lfts 3) → OneOutcome (sneupelaar_write_hour.Learnt κs) (λ s. s.1.1.0.now)
one_sneupelaar_write_hour κs a x y s t p q = (
  ap (λ (r : HourWritten). record { number = r.verdict.number; place = r.verdict.place; length = r.length }) (agree p.0 q.0),
  ap (λ (r : HourWritten). r.file) (agree p.0 q.0),
)

pub one_sneupelaar_read : (κs : Lfts 1) → OneResult (sneupelaar_read.Learnt κs)
one_sneupelaar_read κs a x y s t p q =
    ap (λ (r : ReadAmount). record { number = r.verdict.number; place = r.verdict.place; amount = r.amount }) (agree p q)

pub one_sneupelaar_body : (κs : Lfts 1) → OneResult (sneupelaar_body.Learnt κs)
one_sneupelaar_body κs a x y s t p q = agree p.0 q.0
