-- `bymember::neutrality::left_to_share` meets its contract: there is room for 250 deviations and 32 amounts.
use mathlib.Core.Path.{◌≡◌, ◌∙◌, ap}
use mathlib.Core.Bool.{not}
use lib.Dec.{eqb}
use lib.IntN.{ℤ, pos, nat_abs}
use lib.ListN.{length, replicate}
use borrow.Author.Rules.{sfits_of}
use Rattle.whole.proofs.Machine.{zero_test}
use Rattle.rules.specs.Record.{members}
use Rattle.hour.specs.Held.{held}
use Rattle.bymember.specs.Charged.{Charged}
use Rattle.bymember.proofs.Places.{empty}
use Rattle.bymember.proofs.Finals.{charges_bounded, charges_total}
use Rattle.bymember.proofs.Amounts.{deviations_ready, charged, charges_length}
use Rattle.bymember.proofs.neutrality.left_to_share.Goals as goal
use Rattle.bymember.proofs.neutrality.left_to_share.Goals.{After-round}

-- the charges stand in the room
module _ (c : After-round) where
  as_many : length c.round.new.amounts ≡ members (held c.args.hour.now)
  as_many = charges_length (held c.args.hour.now) (empty (pos 0) c.args.hour.now) c.put_amounts.ensures c.round.ensures

  are : Charged (held c.args.hour.now) c.round.new.amounts
  are = charged (held c.args.hour.now) (empty (pos 0) c.args.hour.now) c.put_amounts.ensures c.round.ensures

pub put_amounts-requires : goal.put_amounts-requires
put_amounts-requires c = (
  c.requires,
  deviations_ready (held c.args.hour.now) (replicate 250 (pos 0)) c.args.hour.now.kept.hour_kept.count_most c.put_deviations.ensures,
  empty (pos 0) c.args.hour.now,
)

pub sum_of-requires : goal.sum_of-requires
sum_of-requires c =
    let at = (goal.at.sum_of-requires c).After-round in
    charges_bounded (are at) (as_many at) c.args.hour.now.kept.hour_kept

-- sum_of(places) != 0
pub returns : goal.returns
returns c =
    let at = (goal.at.returns c).After-round in
    ap
    not
    (zero_test c.sum_of.result (sfits_of c.sum_of.type_inv)
    ∙ ap (λ (z : ℤ). eqb (nat_abs z) 0) (c.sum_of.ensures ∙ charges_total (are at) (as_many at)))
