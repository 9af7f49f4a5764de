-- `hour::prices` meets its contract. The loop's invariant: of eight zeros the places passed are replaced by their area's price.
use mathlib.Core.Path.{◌∙◌}
use native.Mathlib.Omega.{arith}
use borrow.Author.Rules.{sfits_of}
use Rattle.whole.proofs.Machine.{read_back}
use Rattle.whole.proofs.Filling.{none_filled, next_filled, first_filled}
use Rattle.rules.specs.Record as Record
use Rattle.rules.specs.HourFile.{hour_in}
use Rattle.hour.specs.Prices.{prices_of}
use Rattle.hour.proofs.Figures.{eight_filled}
use Rattle.hour.proofs.prices.Goals as goal

pub loop-a-init : goal.loop-a-init
loop-a-init c = none_filled c.requires.0.hour_kept.areas_most

pub loop-a-preserved : goal.loop-a-preserved
loop-a-preserved c = next_filled c.loop-a.invariant (omega (arith, c.requires.1)) (read_back (sfits_of c.price.type_inv) ∙ c.price.ensures)

pub returns : goal.returns
unfolding prices_of
returns c =
    let h = hour_in c.args.file.now in
    first_filled c.loop-a.invariant (omega (arith, c.requires.1))
    ∙ eight_filled (Record.price h) (Record.areas h) c.requires.0.hour_kept.areas_most
