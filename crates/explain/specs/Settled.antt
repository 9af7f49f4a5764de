-- An hour that settling has accepted, with the charges, shares and deviations that it left.
use Rattle.std.specs.Prelude.{◌≡◌, ℕ, List, ℤ}
use Rattle.rules.specs.Refusals.{accepted, verdict, hour_rows}
use Rattle.rules.specs.HourFile.{hour_in}
use Rattle.bymember.specs.Charged.{Charged}
use Rattle.bymember.specs.Lined.{AllWorked}

pub record Settled (s : List ℕ) (charges shares deviations : List ℤ) : Type 0 where
  pub passes : verdict (hour_rows s) ≡ accepted
  pub charged : Charged (hour_in s) charges
  pub worked : AllWorked (hour_in s) deviations shares
