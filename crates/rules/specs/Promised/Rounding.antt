-- The charge a second way: which whole number of cents is nearest to an exact amount, without a division. It determines the charge, so that
-- nobody need believe how `Charge` computes it. Document 01, "Charge in cents"; document 02, A8.
use Rattle.std.specs.Prelude.{ℕ, ◌*◌, ◌%◌, ◌≤◌, ◌<◌, ◌≡◌, true, ◌↔◌, ◌⊎◌, ℤ, pos, nat_abs, ◌-ℤ◌, ◌*ℤ◌}
use Rattle.rules.specs.Charge.{grains_per_cent, cents_of, cents}
use Rattle.rules.specs.Explanation.{same_sign}

module _ (parts : ℕ) (amount whole : ℤ) where
  -- twice the distance from the exact amount, in parts
  abbrev pub twice_off : ℕ
  twice_off = nat_abs (whole *ℤ pos parts -ℤ amount) * 2

  -- `whole` times so many parts is at most half a unit from the amount, and exactly half a unit only if it is even
  pub record Nearest : Type 0 where
    pub half_at_most : twice_off ≤ parts
    pub even_at_half : twice_off ≡ parts → nat_abs whole % 2 ≡ 0

pub record Rounding : Type 0 where
  -- exactly one whole number is nearest, whatever the unit: the definition's
  pub every_unit : (parts : ℕ) → 0 < parts → (amount whole : ℤ) →
      (whole ≡ cents_of parts amount) ↔ Nearest parts amount whole
  -- a charge
  pub charged : (amount whole : ℤ) → (whole ≡ cents amount) ↔ Nearest grains_per_cent amount whole
  -- it has the sign of the amount, or is 0
  pub keeps_sign : (parts : ℕ) (amount : ℤ) → (cents_of parts amount ≡ pos 0) ⊎ (same_sign amount (cents_of parts amount) ≡ true)
