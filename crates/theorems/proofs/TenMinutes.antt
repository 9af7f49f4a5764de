-- Ten-minute settlement: no second result fits the contracts, and what document 02, A7, asks, said of the contracts as their callers read
-- them.
use mathlib.Core.Path.{◌≡◌, refl, sym, ap, subst}
use mathlib.Core.List.{List}
use Prim.Native.Nat.{ℕ}
use lib.IntN.{ℤ}
use contract.Lifetimes.{Lfts}
use Rattle.rules.specs.Refusals.{verdict_of}
use Rattle.rules.specs.TenMinutes.{TenMinutesSettlement, settle_ten_minutes}
use Rattle.rules.proofs.TenMinutes.{ten_minutes_lem}
use Rattle.tenminutes.specs.HandedOut.{settlement}
use Rattle.theorems.specs.Determined.{OneResult, OneOutcome, Gives}
use Rattle.theorems.specs.Demanded.{KeepsTenMinutes}
use Rattle.theorems.proofs.Laws.{agree, agree_answer}
use Rattle.examine.proofs.examine_ten_minutes.Reads as examine_ten_minutes
use Rattle.tenminutes.proofs.settle.Reads as settle
use Rattle.tenminutes.proofs.boundary.sneupelaar_settle_ten_minutes.Reads as sneupelaar_settle_ten_minutes

-- ---- no second result fits

pub one_examine_ten_minutes : (κs : Lfts 1) → OneResult (examine_ten_minutes.Learnt κs)
one_examine_ten_minutes κs a x y s t = agree_answer

pub one_settle_ten_minutes : (κs : Lfts 2) → OneOutcome (settle.Learnt κs) (λ s. s.1.0.now)
one_settle_ten_minutes κs a x y s t p q = (agree_answer p.0 q.0, agree p.1 q.1)

pub one_sneupelaar_settle_ten_minutes : (κs : Lfts 2) →
    OneOutcome (sneupelaar_settle_ten_minutes.Learnt κs) (λ s. s.1.0.now)
one_sneupelaar_settle_ten_minutes κs a x y s t p q = (
  ap (λ (r : TenMinutesSettlement). record { number = r.verdict.number; place = r.verdict.place }) (agree p q),
  ap (λ (r : TenMinutesSettlement). r.charges) (agree p q),
)

-- ---- what document 02, A7, asks

keeps : {file : List ℕ} {before : List ℤ} {r : TenMinutesSettlement} → r ≡ settle_ten_minutes file before → KeepsTenMinutes file before r
unfolding settle_ten_minutes
keeps {file} {before} e = subst (KeepsTenMinutes file before) (sym e) (record {
  by_the_table = refl;
  unchanged = ten_minutes_lem.changes_nothing file before;
  charged = ten_minutes_lem.settled file before;
})

pub settle_keeps_ten_minutes : (κs : Lfts 2) → Gives (settle.Learnt κs) (λ a x s.
    KeepsTenMinutes a.0.now a.1.0.now (record { verdict = verdict_of x; charges = s.1.0.now }))
settle_keeps_ten_minutes κs a x s p = keeps (λ k. record { verdict = p.0 k; charges = p.1 k })

pub sneupelaar_settle_keeps_ten_minutes : (κs : Lfts 2) → Gives (sneupelaar_settle_ten_minutes.Learnt κs) (λ a x s.
    KeepsTenMinutes a.0.now a.1.0.now (settlement x s.1.0.now))
sneupelaar_settle_keeps_ten_minutes κs a x s p = keeps p
