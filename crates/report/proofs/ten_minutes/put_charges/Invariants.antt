-- The lines of the members so far.
use Prim.Native.Nat.{◌*◌}
use Rattle.printing.specs.Page.{Adds}
use Rattle.report.specs.TenMinutes.{charge_lines_of}
use Rattle.report.proofs.ten_minutes.put_charges.Given as goal

abbrev pub invariant-loop-m : goal.invariant-loop-m
invariant-loop-m l = Adds l.fn.page l.page (18 * l.m) (charge_lines_of l.charges l.m)
