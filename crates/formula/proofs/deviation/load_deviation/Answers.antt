-- `formula::deviation::load_deviation` meets its contract: every step fits, and so what is stored is what is meant.
use mathlib.Core.Path.{◌≡◌, ◌∙◌, ap}
use lib.IntN.{ℤ, pos}
use Rattle.std.specs.Int.{int_max}
use Rattle.whole.proofs.Ranges.{u_zero, u_max}
use Rattle.whole.proofs.Machine.{Num, #, result, ◌:+◌, ◌:-◌, ◌:*◌, fits, stored, bound}
use Rattle.rules.specs.Record.{Entry}
use Rattle.rules.specs.Inner.Kept.{EntryRoom}
use Rattle.rules.specs.Deviation.{load_unavailable, load_deviation}
use Rattle.formula.proofs.Terms.{most_is, S, A, J, N, O}
use Rattle.formula.proofs.deviation.load_deviation.Goals as goal

module _ {r : Entry} (k : EntryRoom r) where
  -- O - N - A
  abbrev owed : Num
  owed = O k :- N k :- A k

  -- max(0, O - N - A), where x is what the call gave
  abbrev unavailable : {x : ℤ} → x ≡ int_max owed.rd (pos 0) → Num
  unavailable e = result (e ∙ ap (λ z. int_max z (pos 0)) (stored owed tt) ∙ most_is owed.z) (u_max u_zero (bound owed tt))

  -- S - ((A - J) + N) - max(0, O - N - A)
  abbrev energy : {x : ℤ} → x ≡ int_max owed.rd (pos 0) → Num
  energy e = S k :- (A k :- J k :+ N k) :- unavailable e

pub returns : goal.returns
unfolding load_unavailable load_deviation
returns c = stored (# (pos 10000) :* energy c.requires c.max.ensures.value) tt

-- r.s - ((r.a - r.j) + r.n) - ((r.o - r.n) - r.a).max(0)
pub overflow_sub-result-3 : goal.overflow_sub-result-3
overflow_sub-result-3 c = fits (energy c.requires c.max.ensures.value) tt

-- 10000 * (r.s - ((r.a - r.j) + r.n) - ((r.o - r.n) - r.a).max(0))
pub overflow_mul-result : goal.overflow_mul-result
overflow_mul-result c = fits (# (pos 10000) :* energy c.requires c.max.ensures.value) tt
