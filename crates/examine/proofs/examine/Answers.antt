-- `examine::examine` meets its contract: an hour file has row 14.
use Rattle.rules.specs.Refusals.{file_rows}
use Rattle.examine.specs.Fault.{examine_rows}
use Rattle.examine.proofs.examine.Goals as goal

pub returns : goal.returns
unfolding examine_rows file_rows
returns c = c.examine_form.ensures
