-- `formula::deviation::generator_deviation` meets its contract: every step fits, and so what is stored is what is meant.
use mathlib.Core.Path.{◌≡◌, ◌∙◌, ap}
use lib.IntN.{ℤ, pos}
use Rattle.std.specs.Int.{int_min}
use Rattle.whole.proofs.Ranges.{u_zero, u_min}
use Rattle.whole.proofs.Machine.{Num, #, result, ◌:-◌, ◌:*◌, fits, stored, bound}
use Rattle.rules.specs.Record.{Entry}
use Rattle.rules.specs.Inner.Kept.{EntryRoom}
use Rattle.rules.specs.Deviation.{generator_unavailable, generator_deviation}
use Rattle.formula.proofs.Terms.{least_is, S, A, N, O, M, F, adjusted, ancillary}
use Rattle.formula.proofs.deviation.generator_deviation.Goals as goal

module _ {r : Entry} (k : EntryRoom r) where
  -- S×F - ((A - J)×H - 10,000×N)
  abbrev produced : Num
  produced = S k :* F k :- (adjusted k :- ancillary k)

  -- M - A - (O - N)
  abbrev room : Num
  room = M k :- A k :- (O k :- N k)

  -- 10,000×min(0, M - A - (O - N)), where x is what the call gave
  abbrev unavailable : {x : ℤ} → x ≡ int_min room.rd (pos 0) → Num
  unavailable e = # (pos 10000) :* result (e ∙ ap (λ z. int_min z (pos 0)) (stored room tt) ∙ least_is room.z) (u_min u_zero (bound room tt))

pub returns : goal.returns
unfolding generator_unavailable generator_deviation
returns c = let k = c.requires in stored (produced k :- unavailable k c.min.ensures.value) tt

-- (r.a - r.j) * r.h
pub overflow_mul-result-2 : goal.overflow_mul-result-2
overflow_mul-result-2 c = fits (adjusted c.requires) tt

-- (r.a - r.j) * r.h - 10000 * r.n
pub overflow_sub-result-2 : goal.overflow_sub-result-2
overflow_sub-result-2 c = let k = c.requires in fits (adjusted k :- ancillary k) tt

-- r.s * r.f - ((r.a - r.j) * r.h - 10000 * r.n)
pub overflow_sub-result-3 : goal.overflow_sub-result-3
overflow_sub-result-3 c = fits (produced c.requires) tt

-- 10000 * (r.m - r.a - (r.o - r.n)).min(0)
pub overflow_mul-result-4 : goal.overflow_mul-result-4
overflow_mul-result-4 c = fits (unavailable c.requires c.min.ensures.value) tt

-- r.s * r.f - ((r.a - r.j) * r.h - 10000 * r.n) - 10000 * (r.m - r.a - (r.o - r.n)).min(0)
pub overflow_sub-result-4 : goal.overflow_sub-result-4
overflow_sub-result-4 c = let k = c.requires in fits (produced k :- unavailable k c.min.ensures.value) tt
