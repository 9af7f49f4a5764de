-- A member's line comes behind those before it.
use Prim.Native.Nat.{ℕ}
use mathlib.Core.List.{List}
use native.Mathlib.Omega.{arith}
use lib.IntN.{ℤ, pos}
use lib.ListN.{get_or}
use Rattle.rules.specs.Statement.{charge_line}
use Rattle.printing.proofs.Pages.{no_lines, line_on, adds_within}
use Rattle.report.proofs.Lines.{held}
use Rattle.report.proofs.ten_minutes.put_charges.Goals as goal

abbrev line : (charges : List ℤ) → ℕ → List ℕ
line charges m = charge_line m (get_or charges m (pos 0))

pub loop-m-init : goal.loop-m-init
loop-m-init c = no_lines (line c.args.charges.now) c.args.page.now

pub loop-m-preserved : goal.loop-m-preserved
loop-m-preserved c =
    let put = rw (held c.requires.0 c.loop-m.m (omega arith)) at c.put_charge.ensures in
    adds_within _ (omega arith) (line_on (line c.args.charges.now) c.loop-m.m c.loop-m.invariant put)
