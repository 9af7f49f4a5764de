-- `deviations::added` is safe: both deviations are small, so that their difference fits.
use Rattle.std.proofs.Common.{rules}
use Rattle.whole.proofs.Machine.{result, ◌:-◌, fits}
use Rattle.rules.proofs.Bounds.{deviation_under}
use Rattle.trial_figures.proofs.deviations.added.Goals as goal

-- deviation(r) - deviation(without)
pub overflow_sub-result : goal.overflow_sub-result
overflow_sub-result c =
    let whole = result c.deviation.ensures (deviation_under c.requires) in
    let less = result c.deviation-2.ensures (deviation_under (search rules)) in
    fits (whole :- less) tt
