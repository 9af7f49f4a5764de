-- `byarea::ufe_figures` meets its contract. The loop's invariant: of eight zeros the places passed are replaced by their area's UFE.
use mathlib.Core.Path.{◌∙◌}
use native.Mathlib.Omega.{arith}
use borrow.Author.Rules.{sfits_of}
use Rattle.whole.proofs.Machine.{read_back}
use Rattle.whole.proofs.Filling.{none_filled, next_filled, first_filled}
use Rattle.rules.specs.Record as Record
use Rattle.rules.specs.Ufe as Ufe
use Rattle.hour.specs.Held.{held}
use Rattle.rules.specs.Settling.{ufe_figures}
use Rattle.hour.proofs.Figures.{eight_filled}
use Rattle.byarea.proofs.ufe_figures.Goals as goal

pub loop-a-init : goal.loop-a-init
loop-a-init c = none_filled c.args.hour.now.kept.hour_kept.areas_most

-- ufe[a] = ufe_of(hour, t, a)
pub bounds-ufe-a : goal.bounds-ufe-a
bounds-ufe-a c = omega (arith, c.args.hour.now.kept.hour_kept.areas_most, c.args.hour.now.areas_are)

pub loop-a-preserved : goal.loop-a-preserved
loop-a-preserved c =
    next_filled c.loop-a.invariant (omega (arith, c.args.hour.now.areas_are))
    (read_back (sfits_of c.ufe_of.type_inv) ∙ c.ufe_of.ensures)

pub returns : goal.returns
unfolding ufe_figures
returns c =
    let h = held c.args.hour.now in
    first_filled c.loop-a.invariant (omega (arith, c.args.hour.now.areas_are))
    ∙ eight_filled (Ufe.ufe h) (Record.areas h) c.args.hour.now.kept.hour_kept.areas_most
