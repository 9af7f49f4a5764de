-- The code's entry as the definitions' entry.
use Rattle.formula.specs.declared.entry.Entry.{Entry}
use Rattle.rules.specs.Record as Record

-- letter by letter
abbrev pub meant : Entry → Record.Entry
meant r = record { kind = r.kind; S = r.s; A = r.a; J = r.j; N = r.n; O = r.o; M = r.m; F = r.f; H = r.h }
