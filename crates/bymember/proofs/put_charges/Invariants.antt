-- `bymember::put_charges` meets its contract. The loop's invariant: the places passed hold their lines' amounts in cents.
use lib.ListN.{length, get_or}
use Rattle.whole.proofs.Filling.{Filled}
use Rattle.rules.specs.Charge.{cents}
use Rattle.rules.specs.Settling.{empty_line}
use Rattle.bymember.proofs.put_charges.Given as goal

abbrev pub invariant-loop-m : goal.invariant-loop-m
invariant-loop-m l = Filled (λ k. cents (get_or l.lines k empty_line).amount) (length l.lines) l.m l.initial.charges l.charges
