-- A member's line comes behind those before it.
use Prim.Native.Nat.{ℕ}
use mathlib.Core.List.{List}
use native.Mathlib.Omega.{arith}
use lib.IntN.{ℤ, pos}
use lib.ListN.{get_or}
use Rattle.rules.specs.Statement.{member_line}
use Rattle.printing.proofs.Pages.{no_lines, line_on, adds_within}
use Rattle.report.proofs.Lines.{held}
use Rattle.report.proofs.statement.put_members.Goals as goal

abbrev line : (charges finals : List ℤ) → ℕ → List ℕ
line charges finals m = member_line m (get_or charges m (pos 0)) (get_or finals m (pos 0))

pub loop-m-init : goal.loop-m-init
loop-m-init c = no_lines (line c.args.charges.now c.args.finals.now) c.args.page.now

pub loop-m-preserved : goal.loop-m-preserved
loop-m-preserved c =
    let m = c.loop-m.m in
    let put = rw (held c.requires.0 m (omega arith), held c.requires.1 m (omega arith)) at c.put_member.ensures in
    adds_within _ (omega arith) (line_on (line c.args.charges.now c.args.finals.now) m c.loop-m.invariant put)
