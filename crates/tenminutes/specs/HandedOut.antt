-- What the function for C hands out, as the result that `rules` defines: the answer is its number and place.
use Rattle.std.specs.Prelude.{List, ℤ}
use Rattle.rules.specs.Refusals.{refused_at}
use Rattle.rules.specs.TenMinutes.{TenMinutesSettlement}
use Rattle.answer.specs.declared.NumberedAnswer.{NumberedAnswer}

abbrev pub settlement : NumberedAnswer → List ℤ → TenMinutesSettlement
settlement r after = record { verdict = refused_at r.number r.place; charges = after }
