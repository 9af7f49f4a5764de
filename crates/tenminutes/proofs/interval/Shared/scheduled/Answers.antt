-- `tenminutes::interval::Shared::scheduled` meets its contract: what is not ramped has a plain sixth.
use mathlib.Core.Path.{sym, ◌∙◌}
use lib.IntN.{ℤ, pos, +ℤ_idr}
use Rattle.whole.specs.Signed.{Upto}
use Rattle.whole.proofs.Machine.{Num, #, at0, ◌:*◌, stored}
use Rattle.tenminutes.proofs.interval.Shared.scheduled.Goals as goal

abbrev sixth : {z : ℤ} → Upto z 100000 → Num
sixth u = # (pos 4) :* at0 u

pub returns-else-is_ramped : goal.returns-else-is_ramped
returns-else-is_ramped c = rw (sym c.is_ramped.ensures ∙ c.if-is_ramped.false) (stored (sixth c.requires.0) tt ∙ sym (+ℤ_idr _))
