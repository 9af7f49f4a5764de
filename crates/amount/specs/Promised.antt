-- What the contracts of `write` and `read` promise, as records: any answer, field and amount that meet them.
use Rattle.std.specs.Prelude.{◌≡◌, List, ℕ, ℤ, Result}
use Rattle.rules.specs.declared.Refusal.{Refusal}
use Rattle.rules.specs.Refusals.{verdict_of}
use Rattle.rules.specs.Settling.{write, read, amount_of}

-- writing z into a field answered this and left that
pub record Wrote (field : List ℕ) (z : ℤ) (answer : Result Unit Refusal) (after : List ℕ) : Type 0 where
  pub verdict_is : verdict_of answer ≡ (write field z).verdict
  pub field_is : after ≡ (write field z).field

-- reading a field answered this
pub record HasRead (field : List ℕ) (r : Result ℤ Refusal) : Type 0 where
  pub verdict_is : verdict_of r ≡ (read field).verdict
  pub amount_is : amount_of r ≡ (read field).amount
