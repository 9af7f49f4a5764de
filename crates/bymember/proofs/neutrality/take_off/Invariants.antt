-- `bymember::neutrality::take_off` meets its contract. The loop's invariant: the places passed hold charges less shares.
use lib.ListN.{length}
use Rattle.whole.proofs.Filling.{Filled}
use Rattle.bymember.specs.Charged.{less_share}
use Rattle.bymember.proofs.neutrality.take_off.Given as goal

abbrev pub invariant-loop-m : goal.invariant-loop-m
invariant-loop-m l = Filled (less_share l.charges l.all l.sizes) (length l.sizes) l.m l.initial.finals l.finals
