-- `byrecord::deviations::deviation_of` meets its contract: a record of an hour that keeps its ranges has room for the formulas.
use mathlib.Core.Path.{◌∙◌, ap}
use borrow.Author.Rules.{sfits_of}
use Rattle.whole.proofs.Machine.{read_back}
use Rattle.rules.specs.Deviation.{deviation}
use Rattle.rules.proofs.Bounds.{entry_room}
use Rattle.byrecord.proofs.deviations.deviation_of.Goals as goal

pub deviation-requires : goal.deviation-requires
deviation-requires c = rw c.entry_of.ensures (entry_room (c.args.hour.now.kept.hour_kept.record_kept c.args.i c.requires).entry_kept)

pub returns : goal.returns
returns c = read_back (sfits_of c.deviation.type_inv) ∙ c.deviation.ensures ∙ ap deviation c.entry_of.ensures
