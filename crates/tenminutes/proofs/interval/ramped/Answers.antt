-- `tenminutes::interval::ramped` meets its contract: the first and the last interval's steps fit.
use lib.IntN.{ℤ, pos}
use Rattle.whole.specs.Signed.{Upto}
use Rattle.whole.proofs.Machine.{Num, #, at0, ◌:+◌, ◌:-◌, ◌:*◌, stored}
use Rattle.tenminutes.proofs.interval.ramped.Goals as goal

abbrev sixth : {z : ℤ} → Upto z 100000 → Num
sixth u = # (pos 4) :* at0 u

abbrev step : {x y : ℤ} → Upto x 100000 → Upto y 100000 → Num
step u v = at0 u :- at0 v

pub returns-in-0 : goal.returns-in-0
returns-in-0 c = rw c.in-0.is (stored (sixth c.requires.0 :- step c.requires.0 c.requires.1) tt)

pub returns-in-5 : goal.returns-in-5
returns-in-5 c = rw c.in-5.is (stored (sixth c.requires.0 :+ step c.requires.2 c.requires.0) tt)
