-- `bymember::neutrality::round` meets its contract: an amount that is not yet passed is as it was.
use mathlib.Core.Path.{◌≡◌, ◌∙◌, ap}
use lib.IntN.{pos}
use lib.ListN.{get_or}
use native.Mathlib.Omega.{arith}
use borrow.Author.Rules.{rules, sfits_of}
use Rattle.std.proofs.lemmas.List.{get_or_default}
use Rattle.std.proofs.lemmas.List.Edits.{map_over_more}
use Rattle.whole.proofs.Machine.{back, read_back}
use Rattle.rules.specs.Charge.{cents}
use Rattle.bymember.proofs.neutrality.round.Goals as goal

pub loop-own-preserved : goal.loop-own-preserved
loop-own-preserved c =
    let own = get_or c.loop-own.amounts c.loop-own.own-index (pos 0) in
    let rounded : back c.cents.result ≡ cents own = read_back (sfits_of c.cents.type_inv) ∙ c.cents.ensures ∙ ap cents (read_back (search rules)) in
    rw rounded (map_over_more cents c.args.amounts.now c.loop-own.amounts c.loop-own.own-index own c.loop-own-test.true c.loop-own.invariant
    (get_or_default c.loop-own.amounts c.loop-own.own-index (pos 0) own (omega (arith, c.loop-own.auto.amounts))))
