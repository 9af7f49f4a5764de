-- What the function for C hands out, as the result that `rules` defines: the answer is its number and place.
use Rattle.std.specs.Prelude.{ℕ, List}
use Rattle.rules.specs.Settling.{HourWritten}
use Rattle.writer.specs.declared.boundary.NumberedFiled.{NumberedFiled}

abbrev pub hour_written : NumberedFiled → List ℕ → HourWritten
hour_written r after = record { verdict = record { number = r.number; place = r.place }; length = r.length; file = after }
