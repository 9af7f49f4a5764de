-- `bymember::neutrality::no_demand` meets its contract: N is asked for only where nobody demands anything.
use mathlib.Core.Path.{◌≡◌, sym, ◌∙◌, ap}
use lib.Dec.{eqb}
use borrow.Author.Tests.{eqb-true}
use Rattle.rules.specs.Neutrality.{hour_demand}
use Rattle.rules.specs.Refusals.{no_demand}
use Rattle.hour.specs.Held.{held}
use Rattle.byarea.proofs.Tallies.{demand_is_hours}
use Rattle.bymember.proofs.neutrality.no_demand.Goals as goal
use Rattle.bymember.proofs.neutrality.no_demand.Goals.{After-nobody_demands}

-- the areas demand together what the hour does
asked : (c : After-nobody_demands) → c.nobody_demands.result ≡ eqb (hour_demand (held c.args.hour.now)) 0
asked c = c.nobody_demands.ensures ∙ ap (λ d. eqb d 0) (demand_is_hours c.args.hour.now c.requires)

-- nobody demands anything
pub left_to_share-requires : goal.left_to_share-requires
left_to_share-requires c = eqb-true _ _ (sym (asked (goal.at.left_to_share-requires c).After-nobody_demands) ∙ c.if-nobody_demands.true)

pub returns-then-nobody_demands : goal.returns-then-nobody_demands
unfolding no_demand
returns-then-nobody_demands c =
    let none : hour_demand (held c.args.hour.now) ≡ 0 =
    eqb-true _ _ (sym (asked (goal.at.returns-then-nobody_demands c).After-nobody_demands) ∙ c.if-nobody_demands.true) in
    rw (c.left_to_share.ensures, none)

pub returns-else-nobody_demands : goal.returns-else-nobody_demands
unfolding no_demand
returns-else-nobody_demands c =
    let some = sym (asked (goal.at.returns-else-nobody_demands c).After-nobody_demands) ∙ c.if-nobody_demands.false in
    rw (some, c.if-nobody_demands.false)
