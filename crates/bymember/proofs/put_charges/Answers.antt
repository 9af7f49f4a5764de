-- `bymember::put_charges` meets its contract: place after place gets its line's amount in cents.
use mathlib.Core.Path.{◌∙◌}
use borrow.Author.Rules.{sfits_of}
use Rattle.whole.proofs.Machine.{read_back}
use Rattle.whole.proofs.Filling.{none_filled, next_filled}
use Rattle.rules.specs.Settling.{empty_line}
use Rattle.bymember.proofs.put_charges.Goals as goal

pub loop-m-init : goal.loop-m-init
loop-m-init c = none_filled c.requires

pub loop-m-preserved : goal.loop-m-preserved
unfolding empty_line
loop-m-preserved c = next_filled c.loop-m.invariant c.loop-m-test.true (read_back (sfits_of c.charge_of.type_inv) ∙ c.charge_of.ensures)
