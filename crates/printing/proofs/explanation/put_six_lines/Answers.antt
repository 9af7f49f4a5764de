-- A line a head, one after the other, and the sixth.
use Rattle.rules.specs.Explanation.{explanation_lines}
use Rattle.rules.specs.Statement.{member_lines}
use Rattle.printing.proofs.Pages.{adds_on}
use Rattle.printing.proofs.explanation.put_six_lines.Goals as goal

pub returns : goal.returns
unfolding explanation_lines member_lines
returns c = adds_on c.put_heads.ensures c.put_decided.ensures
