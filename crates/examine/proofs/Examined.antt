-- What the answer of `examine` tells the floors above: an accepted file keeps the ranges of document 01.
use Rattle.std.proofs.Common.{◌≡◌, ◌↔◌, ℕ, List, refl, sym, ◌∙◌, ap, Result, Ok}
use Rattle.rules.specs.declared.Refusal.{Refusal}
use Rattle.rules.specs.Refusals.{verdict_of, verdict, file_rows}
use Rattle.rules.specs.Promised.Demands.{AllWhole}
use Rattle.rules.specs.Inner.Kept.{FileKept}
use Rattle.rules.proofs.Rows.{accepts_when_whole, file_numbered, form_whole, one_answer}
use Rattle.rules.proofs.Kept.{file_kept}

-- what `examine` promises of its answer
abbrev pub Examined : List ℕ → Result (Unit {0}) Refusal → Type 0
Examined s r = verdict_of r ≡ verdict (file_rows s)

module _ (s : List ℕ) where
  -- accepted exactly when rows 1 to 5 and 14 are whole
  pub accepted_when_whole : (r : Result (Unit {0}) Refusal) → Examined s r → (r ≡ Ok tt) ↔ AllWhole (file_rows s)
  accepted_when_whole r e = let rows = accepts_when_whole (file_rows s) (file_numbered s) in
      (λ a. rows.0 (sym e ∙ ap verdict_of a), λ w. one_answer (λ r. tt) (λ x. refl) r (Ok tt) (e ∙ rows.1 w) refl)

  -- the counts, prices, zones, ties, kinds, members, areas, energies and multipliers of an accepted file lie in their ranges; it has at
  -- most 250 records
  pub accepted_kept : (r : Result (Unit {0}) Refusal) → Examined s r → r ≡ Ok tt → FileKept s
  accepted_kept r e a = file_kept s (form_whole s ((accepted_when_whole r e).0 a))
