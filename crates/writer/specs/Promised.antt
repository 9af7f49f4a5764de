-- What the contract of `write_hour` promises, as a record: any result and buffer that meet it.
use Rattle.std.specs.Prelude.{◌≡◌, ℕ, List, Result}
use Rattle.rules.specs.declared.Refusal.{Refusal}
use Rattle.rules.specs.Refusals.{verdict_of}
use Rattle.rules.specs.Settling.{length_of, write_hour}

-- writing this head and these records into a buffer answered this and left that
pub record HasFiled (head records file : List ℕ) (r : Result ℕ Refusal) (after : List ℕ) : Type 0 where
  pub verdict_is : verdict_of r ≡ (write_hour head records file).verdict
  pub length_is : length_of r ≡ (write_hour head records file).length
  pub file_is : after ≡ (write_hour head records file).file
