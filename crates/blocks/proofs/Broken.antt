-- A block is broken where a search finds a word that is.
use Rattle.std.proofs.Common.{◌≡◌, ℕ, refl, Option, None, Some}
use Rattle.std.specs.Option.{is_some}
use Rattle.rules.specs.Refusals.{is_broken}

pub found_broken : (o : Option ℕ) → is_some o ≡ is_broken o
found_broken None = refl
found_broken (Some w) = refl
