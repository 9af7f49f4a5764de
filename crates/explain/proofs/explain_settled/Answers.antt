-- `explain::explain_settled` meets its contract: the member isn't there, or its heads and the head that decided are worked.
use Prim.Native.Nat.{◌≤◌, ◌<◌}
use native.Mathlib.Omega.{arith}
use Rattle.rules.specs.Record.{members}
use Rattle.hour.specs.Held.{held}
use Rattle.explain.proofs.Answers.{kept, no_member, explained}
use Rattle.explain.proofs.explain_settled.Goals as goal

-- the hour keeps its ranges
pub of-hour-requires : goal.of-hour-requires
of-hour-requires c = kept c.args.file.now c.args.member c.requires

-- return Err(Refusal::NoMember)
pub returns-then-hour-member : goal.returns-then-hour-member
returns-then-hour-member c =
    let past : members (held c.of-hour.result) ≤ c.args.member = omega (arith, c.of-hour.result.members_are) in
    no_member c.args.file.now c.args.member c.requires (rw c.of-hour.ensures at past)

pub heads_of-heads-requires : goal.heads_of-heads-requires
heads_of-heads-requires c = rw c.of-hour.ensures c.requires.worked

pub returns : goal.returns
returns c =
    let there : c.args.member < members (held c.of-hour.result) = omega (arith, c.of-hour.result.members_are) in
    explained c.args.file.now c.args.member c.requires (rw c.of-hour.ensures at there)
    (rw c.of-hour.ensures at c.heads_of-heads.ensures) c.decided-decided.ensures
