-- What the postings to the members' lines ask: deviations and shares that are worked.
use Rattle.std.specs.Prelude.{ℕ, ◌≤◌, ◌<◌, ◌≡◌, List, ℤ, pos, length, get_or}
use Rattle.rules.specs.Record.{Hour, entry_of}
use Rattle.rules.specs.Deviation as Deviation
use Rattle.rules.specs.Charge.{share_of}

-- record i is there, and its deviation and share are worked
pub record Worked (h : Hour) (i : ℕ) (deviation share : ℤ) : Type 0 where
  pub there : i < h.count
  pub deviation_is : deviation ≡ Deviation.deviation (entry_of h i)
  pub share_is : share ≡ share_of h i

-- all deviations and shares are worked
pub record AllWorked (h : Hour) (deviations shares : List ℤ) : Type 0 where
  pub deviations_room : h.count ≤ length deviations
  pub shares_room : h.count ≤ length shares
  pub deviations_are : (i : ℕ) → i < h.count → get_or deviations i (pos 0) ≡ Deviation.deviation (entry_of h i)
  pub shares_are : (i : ℕ) → i < h.count → get_or shares i (pos 0) ≡ share_of h i
