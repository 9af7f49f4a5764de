-- What the six intervals of a record share, by the record's words.
use Rattle.std.specs.Prelude.{ℕ, pos}
use Rattle.rules.specs.TenMinutes.{kind_in, this_hour, hour_before, next_hour}
use Rattle.tenminutes.specs.declared.interval.Shared.{Shared}

abbrev pub shared_of : (ℕ → ℕ) → Shared
shared_of w = record {
  kind = kind_in w;
  hour = this_hour w;
  before = hour_before w;
  next = next_hour w;
  reading = pos (w 8);
  f = pos (w 6);
  h = pos (w 7);
}
