-- The lines of the members so far.
use Prim.Native.Nat.{◌*◌}
use Rattle.printing.specs.Page.{Adds}
use Rattle.report.specs.Stated.{member_lines_of}
use Rattle.report.proofs.statement.put_members.Given as goal

abbrev pub invariant-loop-m : goal.invariant-loop-m
invariant-loop-m l = Adds l.fn.page l.page (33 * l.m) (member_lines_of l.charges l.finals l.m)
