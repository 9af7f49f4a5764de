-- `formula::deviation::export_deviation` meets its contract: every step fits, and so what is stored is what is meant.
use lib.IntN.{pos}
use Rattle.whole.proofs.Machine.{#, ◌:-◌, ◌:*◌, stored}
use Rattle.rules.specs.Deviation.{export_deviation}
use Rattle.formula.proofs.Terms.{S, A, J}
use Rattle.formula.proofs.deviation.export_deviation.Goals as goal

pub returns : goal.returns
unfolding export_deviation
returns c = let k = c.requires in stored (# (pos 10000) :* (S k :- A k :- J k)) tt
