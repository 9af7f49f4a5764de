-- The caller's buffers, as the contracts name them.
use Rattle.std.specs.Prelude.{List, ℤ}
use Rattle.rules.specs.declared.Line.{Line}
use Rattle.rules.specs.Refusals.{Buffers}

abbrev pub buffers : (charges finals shares deviations : List ℤ) → List Line → Buffers
buffers charges finals shares deviations lines =
    record { charges = charges; finals = finals; shares = shares; deviations = deviations; lines = lines }
