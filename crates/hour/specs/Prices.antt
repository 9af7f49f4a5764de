-- The zone prices of an hour's areas, as the stages take them.
use Rattle.std.specs.Prelude.{cond, List, ℤ, pos, ltb}
use Rattle.whole.specs.Below.{values_below}
use Rattle.rules.specs.Record.{Hour, areas, price}

-- eight zone prices, 0 for areas past the count
unfoldable pub prices_of : Hour → List ℤ
prices_of h = values_below (λ a. cond (ltb a (areas h)) (price h a) (pos 0)) 8
