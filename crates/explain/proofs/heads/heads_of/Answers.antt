-- `explain::heads::heads_of` meets its contract: a record a turn, of which deviation and share are at hand.
use mathlib.Core.Path.{◌≡◌, refl, sym, ◌∙◌}
use Prim.Native.Nat.{◌<◌}
use native.Mathlib.Omega.{arith}
use borrow.Author.Rules.{rules}
use Rattle.whole.proofs.Machine.{read_back}
use Rattle.rules.specs.Inner.Posting.{heads_after}
use Rattle.rules.proofs.Heads.{heads_posted, heads_running}
use Rattle.hour.specs.Held.{held}
use Rattle.explain.proofs.Posting.{not_posted, is_posted}
use Rattle.explain.proofs.heads.heads_of.Goals as goal
use Rattle.explain.proofs.heads.heads_of.Goals.{then-member_of-member, else-member_of-member}

pub loop-i-init : goal.loop-i-init
unfolding heads_after
loop-i-init c = refl

pub post-requires : goal.post-requires
post-requires c =
    let x = c.args.hour.now in
    let here : c.loop-i.i < (held x).count = omega (arith, x.records_are) in (
      record {
        there = here;
        deviation_is = read_back (search rules) ∙ c.requires.deviations_are c.loop-i.i here;
        share_is = read_back (search rules) ∙ c.requires.shares_are c.loop-i.i here;
      },
      λ k. rw c.loop-i.invariant (heads_running x.kept.hour_kept c.args.member c.loop-i.i k (omega arith)),
    )

pub loop-i-preserved : goal.loop-i-preserved
loop-i-preserved c =
    let h = held c.args.hour.now in
    elim c.if-member_of-member.branch [
      | then-member_of-member w ↦ w.heads-is ∙ w.post.ensures ∙ is_posted h c.args.member c.loop-i.i (sym c.member_of.ensures ∙ w.if-member_of-member.true) c.loop-i.invariant
      | else-member_of-member w ↦ w.heads-is ∙ c.loop-i.invariant
          ∙ not_posted h c.args.member c.loop-i.i (λ e. w.if-member_of-member.false (c.member_of.ensures ∙ e))
    ]

pub returns : goal.returns
returns c =
    let x = c.args.hour.now in
    let all : c.loop-i.i ≡ (held x).count = omega (arith, x.records_are) in
    (rw all at c.loop-i.invariant) ∙ heads_posted (held x) c.args.member
