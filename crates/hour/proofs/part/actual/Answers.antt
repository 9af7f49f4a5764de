-- `hour::actual` meets its contract: what was scheduled of an import, what was metered of any other kind.
use mathlib.Core.Path.{◌≡◌, refl}
use mathlib.Core.Bool.{false}
use Rattle.rules.specs.declared.Kind.{Kind}
use Rattle.rules.specs.declared.Kind.TheVariants.{Generator, RealTimeLoad, ProfileLoad, Import, Export, Unknown}
use Rattle.rules.specs.Record.{is_import, actual}
use Rattle.hour.proofs.part.actual.Goals as goal

no-import : (k : Kind) → (k ≡ Import → ⊥) → is_import k ≡ false
no-import Generator other = refl
no-import RealTimeLoad other = refl
no-import ProfileLoad other = refl
no-import Import other = absurd (other refl)
no-import Export other = refl
no-import Unknown other = refl

pub returns-in-Import : goal.returns-in-Import
unfolding actual
returns-in-Import c = rw c.in-Import.is

-- every other kind
pub returns : goal.returns
unfolding actual
returns c = rw (no-import _ c.in_default.not-Import)
