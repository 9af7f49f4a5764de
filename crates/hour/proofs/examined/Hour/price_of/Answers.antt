-- `Hour::price_of` meets its contract: a record's area is one of the hour's, of which each has its price.
use mathlib.Core.Path.{◌∙◌, ap}
use mathlib.Core.List.{List}
use Prim.Native.Nat.{◌<◌}
use native.Mathlib.Omega.{arith}
use lib.IntN.{ℤ, pos}
use lib.ListN.{get_or}
use borrow.Author.Rules.{rules}
use Rattle.whole.proofs.Machine.{read_back}
use Rattle.rules.specs.Record.{areas, price}
use Rattle.hour.specs.Held.{held}
use Rattle.hour.proofs.Figures.{price_at}
use Rattle.hour.proofs.examined.Hour.price_of.Goals as goal
use Rattle.hour.proofs.examined.Hour.price_of.Goals.{After-area_of}

area_there : (c : After-area_of) → c.area_of.result < areas (held c.args.self.now)
area_there c = omega (arith, c.area_of.ensures, (c.args.self.now.kept.hour_kept.record_kept c.args.i c.requires).area_there)

pub bounds-self-area_of : goal.bounds-self-area_of
bounds-self-area_of c =
    omega (arith, area_there (goal.at.bounds-self-area_of c).After-area_of, c.args.self.now.kept.hour_kept.areas_most)

pub returns : goal.returns
returns c =
    let x = c.args.self.now in
    read_back (search rules)
    ∙ ap (λ (l : List ℤ). get_or l c.area_of.result (pos 0)) x.prices_are
    ∙ price_at (held x) x.kept.hour_kept.areas_most c.area_of.result (area_there (goal.at.returns c).After-area_of)
    ∙ ap (price (held x)) c.area_of.ensures
