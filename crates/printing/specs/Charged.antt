-- What every line of a member begins with.
use Rattle.std.specs.Prelude.{ℕ, ◌/◌, ◌%◌, List, ◌∷◌, ◌++◌, ℤ}
use Rattle.rules.specs.Text.{bytes, digit_byte}
use Rattle.rules.specs.Statement.{column}

-- the number in two digits, a blank, the charge in 14 columns
abbrev pub charged : (member : ℕ) (charge : ℤ) → List ℕ
charged m charge = digit_byte (m / 10) ∷ digit_byte (m % 10) ∷ bytes " " ++ column charge
