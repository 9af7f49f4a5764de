-- `formula::deviation::accounted` meets its contract: every step fits, and so what is stored is what is meant.
use mathlib.Core.Logic.{◌⊎◌, inl, inr}
use mathlib.Core.Path.{◌≡◌, refl, sym, ◌∙◌, ap}
use lib.IntN.{ℤ, pos, +ℤ_idl}
use Rattle.whole.proofs.Machine.{Num, #, ◌:-◌, ◌:*◌, fits, stored}
use Rattle.rules.specs.declared.Kind.{Kind}
use Rattle.rules.specs.declared.Kind.TheVariants.{Generator, RealTimeLoad, ProfileLoad, Import, Export, Unknown}
use Rattle.rules.specs.Record.{Entry}
use Rattle.rules.specs.Inner.Kept.{EntryKept}
use Rattle.rules.specs.Inner.Posting.{accounted_as, accounted}
use Rattle.rules.proofs.Bounds.{entry_room}
use Rattle.formula.proofs.Terms.{A, H}
use Rattle.formula.proofs.deviation.accounted.Goals as goal

module _ {r : Entry} (k : EntryKept r) where
  -- 10,000×A
  abbrev metered : Num
  metered = # (pos 10000) :* A (entry_room k)

  -- 10,000 - H
  abbrev rate : Num
  rate = # (pos 10000) :- H (entry_room k)

  -- A×(10,000 - H)
  abbrev lost : Num
  lost = A (entry_room k) :* rate

-- an entry of kind k adds what its kind adds
told : (r : Entry) (k : Kind) → r.kind ≡ k → {z : ℤ} → z ≡ accounted_as k r.A r.H → z ≡ accounted r
unfolding accounted
told r k e f = f ∙ sym (ap (λ (x : Kind). accounted_as x r.A r.H) e)

-- two kinds that add the same
told_both : (r : Entry) (k l : Kind) → (r.kind ≡ k) ⊎ (r.kind ≡ l) → {z : ℤ} → z ≡ accounted_as k r.A r.H → z ≡ accounted_as l r.A r.H →
    z ≡ accounted r
told_both r k l (inl e) f g = told r k e f
told_both r k l (inr e) f g = told r l e g

-- Kind::Generator => metered - lost
pub returns-in-Generator : goal.returns-in-Generator
unfolding accounted_as
returns-in-Generator c = told _ Generator c.in-Generator.is (stored (metered c.requires :- lost c.requires) tt)

-- Kind::RealTimeLoad | Kind::ProfileLoad => -metered
pub returns-in-RealTimeLoad : goal.returns-in-RealTimeLoad
unfolding accounted_as
returns-in-RealTimeLoad c = let f = stored (# (pos 0) :- metered c.requires) tt ∙ +ℤ_idl _ in
    told_both _ RealTimeLoad ProfileLoad c.in-RealTimeLoad.is f f

-- Kind::Import => -lost
pub returns-in-Import : goal.returns-in-Import
unfolding accounted_as
returns-in-Import c = told _ Import c.in-Import.is (stored (# (pos 0) :- lost c.requires) tt ∙ +ℤ_idl _)

-- Kind::Export | Kind::Unknown => 0
pub returns-in-Export : goal.returns-in-Export
unfolding accounted_as
returns-in-Export c = told_both _ Export Unknown c.in-Export.is refl refl

-- r.a * (10000 - r.h)
pub overflow_mul-lost : goal.overflow_mul-lost
overflow_mul-lost c = fits (lost c.requires) tt

-- metered - lost
pub overflow_sub-result : goal.overflow_sub-result
overflow_sub-result c = fits (metered c.requires :- lost c.requires) tt

-- -lost
pub overflow_sub-result-in-Import : goal.overflow_sub-result-in-Import
overflow_sub-result-in-Import c = fits (# (pos 0) :- lost c.requires) tt
