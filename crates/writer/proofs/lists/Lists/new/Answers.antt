-- `writer::lists::Lists::new` meets its contract: row 1 by the tests that led to each answer.
use Rattle.std.proofs.Common.{refl, arith, rules}
use Rattle.std.proofs.lemmas.Bool.Decides.{nat_tests}
use Rattle.rules.specs.HourWords.{hour_from}
use Rattle.rules.specs.Refusals.{bad_lists}
use Rattle.writer.proofs.lists.Lists.new.Goals as goal

pub returns-in_default : goal.returns-in_default
unfolding bad_lists
returns-in_default c = (refl, grind (arith, nat_tests))

pub returns-then-records-ne0 : goal.returns-then-records-ne0
unfolding bad_lists
returns-then-records-ne0 c = (refl, grind (arith, nat_tests))

pub invariant_of-result : goal.invariant_of-result
unfolding hour_from
invariant_of-result c = record { whole = record { head_whole = search rules; records_whole = omega arith; few_records = omega arith } }
