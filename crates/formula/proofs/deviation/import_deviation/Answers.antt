-- `formula::deviation::import_deviation` meets its contract: every step fits, and so what is stored is what is meant.
use Rattle.whole.proofs.Machine.{◌:+◌, ◌:-◌, ◌:*◌, fits, stored}
use Rattle.rules.specs.Deviation.{import_deviation}
use Rattle.formula.proofs.Terms.{S, F, adjusted, ancillary}
use Rattle.formula.proofs.deviation.import_deviation.Goals as goal

pub returns : goal.returns
unfolding import_deviation
returns c = let k = c.requires in stored (S k :* F k :- adjusted k :+ ancillary k) tt

-- (r.a - r.j) * r.h
pub overflow_mul-result-2 : goal.overflow_mul-result-2
overflow_mul-result-2 c = fits (adjusted c.requires) tt

-- r.s * r.f - (r.a - r.j) * r.h
pub overflow_sub-result-2 : goal.overflow_sub-result-2
overflow_sub-result-2 c = let k = c.requires in fits (S k :* F k :- adjusted k) tt

-- r.s * r.f - (r.a - r.j) * r.h + 10000 * r.n
pub overflow_add-result : goal.overflow_add-result
overflow_add-result c = let k = c.requires in fits (S k :* F k :- adjusted k :+ ancillary k) tt
