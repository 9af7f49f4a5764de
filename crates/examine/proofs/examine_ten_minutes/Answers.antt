-- `examine::examine_ten_minutes` meets its contract: a ten-minute file has no row behind row 5.
use Rattle.std.proofs.Common.{◌∙◌, ap, append-nil}
use Rattle.rules.specs.Refusals.{verdict}
use Rattle.examine.specs.Fault.{examine_rows}
use Rattle.examine.proofs.examine_ten_minutes.Goals as goal

pub returns : goal.returns
unfolding examine_rows
returns c = c.examine_form.ensures ∙ ap verdict (append-nil _)
