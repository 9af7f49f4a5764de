-- `explain::heads::decided` meets its contract. The loop's invariant: of the heads passed, `best` is the first largest with the charge's
-- sign, and `most` its size.
use Rattle.explain.proofs.Search.{Leading}
use Rattle.explain.proofs.heads.decided.Given as goal

abbrev pub invariant-loop-place : goal.invariant-loop-place
invariant-loop-place l = Leading l.head-items l.charge l.place l.best l.most
