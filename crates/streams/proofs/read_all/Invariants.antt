-- What was read so far is what the reader lost.
use Rattle.std.proofs.Common.{◌-◌, ◌≤◌, length, take}
use Rattle.std.specs.Io.KnownBytes.{Consumes}
use Rattle.streams.proofs.read_all.Given as goal

abbrev pub invariant-loop-length : goal.invariant-loop-length
invariant-loop-length g l = record {
  within : l.length ≤ length l.room;
  consumed : Consumes (g.R.Read.remaining l.fn.input) (g.R.Read.remaining l.input) (take l.length l.room);
}

abbrev pub decreases-loop-length : goal.decreases-loop-length
decreases-loop-length g l = length l.initial.room - l.length
