-- Which of the two streams failed.
use Rattle.streams.specs.declared.Trouble.{Trouble}
use Rattle.streams.specs.declared.Trouble.TheVariants.{Input, Output}

abbrev pub OfInput : Trouble → Type 0
OfInput (Input why) = Unit {0}
OfInput (Output why) = ⊥

abbrev pub OfOutput : Trouble → Type 0
OfOutput (Input why) = ⊥
OfOutput (Output why) = Unit {0}
