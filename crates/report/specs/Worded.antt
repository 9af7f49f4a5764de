-- What printing an explanation answers and leaves in the caller's slice.
use Rattle.std.specs.Prelude.{ℕ, List}
use Rattle.rules.specs.Explanation.{explanation}
use Rattle.printing.specs.Shown.{Shown, shown}

-- the explanation of any byte string, in a slice with room for the longest
abbrev pub explained : (s out : List ℕ) → Shown
explained s out = shown 165 (explanation s) out
