-- What the function for C hands out, as the result that `rules` defines: the answer is its number and place, the head that decided is counted.
use Rattle.std.specs.Prelude.{ℕ, zero, suc, Option, None, Some}
use Rattle.rules.specs.Explanation.{Explanation}
use Rattle.explain.specs.declared.boundary.NumberedExplained.{NumberedExplained}

-- 0 is none, and the five heads count from 1
abbrev pub head_counted : ℕ → Option ℕ
head_counted zero = None
head_counted (suc k) = Some k

abbrev pub explanation_of : NumberedExplained → Explanation
explanation_of r = record { verdict = record { number = r.number; place = r.place }; heads = r.heads; decided = head_counted r.decided }
