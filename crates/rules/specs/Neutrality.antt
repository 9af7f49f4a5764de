-- The neutrality amount N, which the pool collects and doesn't pay out, shared over the members; a member's final amount.
-- Document 02, A1.
use Rattle.std.specs.Prelude.{ℕ, Bool, true, cond, ◌&&◌, ℤ, ◌-ℤ◌, eqb}
use Rattle.whole.specs.Below.{sum_below, total_below}
use Rattle.rules.specs.Record.{Hour, members, member_of, entry_of, is_load}
use Rattle.rules.specs.Ufe.{demand}
use Rattle.rules.specs.Share.{all_demand, share}
use Rattle.rules.specs.Charge.{charge}

-- every member takes part
abbrev pub every_member : ℕ → Bool
every_member m = true

module _ (h : Hour) where
  -- N: the sum of all charges
  unfoldable pub neutrality : ℤ
  neutrality = total_below (charge h) (members h)

  -- a member's metered demand: all its loads, all areas
  unfoldable pub member_demand : ℕ → ℕ
  member_demand m = sum_below (λ i. cond (eqb (member_of h i) m && is_load (entry_of h i).kind) (demand h i) 0) h.count

  -- the demand in the hour: T where the members share
  unfoldable pub hour_demand : ℕ
  hour_demand = all_demand every_member member_demand (members h)

  -- a member's share of N in whole cents, by document 01's rule for shares, members in number order
  unfoldable pub neutrality_share : ℕ → ℤ
  neutrality_share m = share every_member member_demand (members h) neutrality m

  -- charge minus share
  unfoldable pub final : ℕ → ℤ
  final m = charge h m -ℤ neutrality_share m
