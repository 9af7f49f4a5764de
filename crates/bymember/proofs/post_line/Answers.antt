-- The member's line is the one with the record posted; the others are as they were.
use mathlib.Core.Path.{◌∙◌, ap}
use lib.ListN.{get_or, set}
use Rattle.whole.proofs.Machine.{read_back}
use Rattle.rules.specs.Inner.Posting.{line_with, lines_with}
use Rattle.rules.specs.Settling.{empty_line}
use Rattle.bymember.proofs.post_line.Goals as goal

pub returns : goal.returns
unfolding lines_with empty_line
returns c =
    ap
    (set c.args.lines.now c.args.member)
    (c.line_with.ensures ∙ ap (line_with (get_or c.args.lines.now c.args.member empty_line)) (read_back c.ranges.grains))
