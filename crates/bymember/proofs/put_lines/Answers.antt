-- `bymember::put_lines` meets its contract: the lines are lent to a posting a turn.
use mathlib.Core.Path.{◌∙◌}
use Prim.Native.Nat.{◌≤◌}
use native.Mathlib.Omega.{arith}
use lib.ListN.{length}
use lib.Seq.{length-take-le}
use borrow.Author.Rules.{sfits_of}
use Rattle.whole.proofs.Buffers.{filled_first}
use Rattle.whole.proofs.Machine.{read_back}
use Rattle.rules.specs.Inner.Posting.{lines_after}
use Rattle.rules.specs.Settling.{empty_line}
use Rattle.bymember.proofs.Lines.{can_post, next_lines}
use Rattle.bymember.proofs.put_lines.Goals as goal

-- the members' lines are filled with empty ones
pub loop-i-init : goal.loop-i-init
unfolding lines_after
loop-i-init c =
    let n = c.args.hour.now.members in
    let few : n ≤ length c.args.lines.now = omega (arith, c.args.hour.now.members_are, c.requires.1) in
    rw (c.fill.ensures.after (λ y same. same), length-take-le n c.args.lines.now few, c.empty_line.ensures, ← c.args.hour.now.members_are)
    (filled_first empty_line n c.args.lines.now)

pub post_line-requires : goal.post_line-requires
post_line-requires c =
    let hour = c.args.hour.now in
    can_post hour.kept.hour_kept c.args.lines.now c.loop-i.i (omega (arith, hour.records_are)) c.loop-i.invariant c.member_of.ensures
    (read_back (sfits_of c.grains-grains.type_inv) ∙ c.grains-grains.ensures) c.requires.1

pub loop-i-preserved : goal.loop-i-preserved
loop-i-preserved c =
    let hour = c.args.hour.now in
    c.post_line.ensures
    ∙ next_lines hour.kept.hour_kept c.args.lines.now c.loop-i.i (omega (arith, hour.records_are)) c.loop-i.invariant c.member_of.ensures
    (read_back (sfits_of c.grains-grains.type_inv) ∙ c.grains-grains.ensures)
