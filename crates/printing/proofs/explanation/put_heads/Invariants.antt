-- The lines of the heads so far.
use Rattle.rules.specs.Explanation.{head_at, head_line}
use Rattle.rules.specs.Statement.{member_lines}
use Rattle.printing.specs.Page.{Adds}
use Rattle.printing.proofs.Heads.{heads_room}
use Rattle.printing.proofs.explanation.put_heads.Given as goal

abbrev pub invariant-loop-place : goal.invariant-loop-place
invariant-loop-place l = Adds l.fn.page l.page (heads_room l.place) (member_lines (λ k. head_line k (head_at l.fn.heads k)) l.place)
