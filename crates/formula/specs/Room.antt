-- What a posting asks of its callers: that the count and the sums still fit their words.
use Rattle.std.specs.Prelude.{ℕ, ◌+◌, ◌<◌, ℤ, pos, ◌+ℤ◌, get_or}
use Rattle.std.specs.Int.{w64}
use Rattle.std.proofs.Common.{SFits}
use Rattle.rules.specs.declared.Line.{Line}
use Rattle.rules.specs.declared.Tally.{Tally}

pub record TallyRoom (t : Tally) (a demand : ℕ) (energy : ℤ) : Type 0 where
  pub area_there : a < 8
  pub records_fit : t.records + 1 < 0x1_0000_0000
  pub demand_fits : get_or t.demand a 0 + demand < 0x1_0000_0000
  pub energy_fits : SFits w64 (get_or t.energy a (pos 0) +ℤ energy)

pub record LineRoom (l : Line) (grains : ℤ) : Type 0 where
  pub amount_fits : SFits w64 (l.amount +ℤ grains)
  pub records_fit : l.records + 1 < 0x1_0000_0000
