-- `examine::search::examine_hour` meets its contract: row 4, then where the search of the records stops, then what comes behind row 5.
use Rattle.std.proofs.Common.{sym, ◌∙◌}
use Rattle.rules.specs.Refusals.{verdict, word_rows}
use Rattle.rules.proofs.Faults.{fault_record, fault_nowhere}
use Rattle.examine.proofs.Compared.{above_told, nothing_told}
use Rattle.examine.proofs.search.examine_hour.Goals as goal

-- return Err(Refusal::BadHead(w))
pub returns-in-Some : goal.returns-in-Some
unfolding verdict word_rows
returns-in-Some g c = rw (← c.bad_head.ensures, c.in-Some.is)

pub returns-in-Err : goal.returns-in-Err
unfolding verdict word_rows
returns-in-Err g c =
    let head = sym c.bad_head.ensures ∙ c.in_default.is in
    let fifth = fault_record _ _ c.in-Err.i _ c.in-Err.ensures in
    rw (head, fifth)

pub returns-in-Ok-Some : goal.returns-in-Ok-Some
returns-in-Ok-Some g c =
    let told = c.in-Ok-Some.ensures in
    above_told _ _ (sym c.bad_head.ensures ∙ c.in_default.is) (fault_nowhere _ _ told.0) _ c.in-Ok-Some.i (sym c.in-Ok-Some.field-0-is ∙ told.1)

pub returns-in-Ok-None : goal.returns-in-Ok-None
returns-in-Ok-None g c =
    let told = c.in-Ok-None.ensures in
    nothing_told _ _ (sym c.bad_head.ensures ∙ c.in_default.is) (fault_nowhere _ _ told.0) _ (sym c.in-Ok-None.field-0-is ∙ told.1)
