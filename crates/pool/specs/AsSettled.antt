-- What settling answers before it fills a buffer: the verdict and the UFE figures depend on the buffers' lengths, and on nothing that they
-- hold.
use Rattle.std.specs.Prelude.{ℕ, ◌≡◌, Bool, ◌||◌, List, ℤ, length, ltb, Result}
use Rattle.rules.specs.declared.Refusal.{Refusal}
use Rattle.rules.specs.Refusals.{verdict_of, Buffers}
use Rattle.rules.specs.Settling.{figures_of, settle}
use Rattle.pool.specs.declared.Lengths as code

-- buffers of these lengths
pub record HaveLengths (b : Buffers) (x : code.Lengths) : Type 0 where
  pub of_charges : length b.charges ≡ x.charges
  pub of_finals : length b.finals ≡ x.finals
  pub of_lines : length b.lines ≡ x.lines
  pub of_shares : length b.shares ≡ x.shares
  pub of_deviations : length b.deviations ≡ x.deviations

-- some buffer is too short for so many members and records
abbrev pub short_for : (members records : ℕ) → code.Lengths → Bool
short_for members records x = ltb x.charges members || ltb x.finals members || ltb x.lines members
    || ltb x.shares records || ltb x.deviations records

-- the answer that `settle` gives
pub record Says (s : List ℕ) (b : Buffers) (r : Result (List ℤ) Refusal) : Type 0 where
  pub verdict_is : verdict_of r ≡ (settle s b).verdict
  pub ufe_is : figures_of r ≡ (settle s b).ufe

pub record AsSettled (s : List ℕ) (lengths : code.Lengths) (r : Result (List ℤ) Refusal) : Type 0 where
  pub says : (b : Buffers) → HaveLengths b lengths → Says s b r
