-- A ten-minute record, span by span: a span is words that stand side by side and have one rule. Document 02, A7.
use Rattle.std.specs.Prelude.{ℕ, Bool, false, cond, not, ◌&&◌, leb, ltb}
use Rattle.whole.specs.Below.{first_below}
use Rattle.rules.specs.declared.Kind.{Kind}
use Rattle.rules.specs.declared.Kind.TheVariants.{Generator, RealTimeLoad, ProfileLoad, Import, Export, Unknown}
use Rattle.rules.specs.declared.Rule.{Rule}
use Rattle.rules.specs.Record.{kind_of}
use Rattle.rules.specs.Ranges.{keeps, energy, adjustment, multiplier, unused}
use Rattle.rules.specs.Refusals.{is_broken}

-- a word from `from` on breaks a rule
abbrev pub broken_at : Rule → (word : ℕ → ℕ) → (from w : ℕ) → Bool
broken_at rule word from w = leb from w && not (keeps rule (word w))

-- the words from `from` on, up to `to`, keep a rule
unfoldable pub span_keeps : Rule → (word : ℕ → ℕ) → (from to : ℕ) → Bool
span_keeps rule word from to = not (is_broken (first_below (broken_at rule word from) to))

-- the words that not every kind uses
unfoldable pub kind_keeps : Kind → (ℕ → ℕ) → Bool
kind_keeps Generator word = span_keeps energy word 4 6 && span_keeps multiplier word 6 8 && span_keeps energy word 8 14 && span_keeps energy word 20 26
kind_keeps RealTimeLoad word = span_keeps energy word 4 6 && span_keeps unused word 6 8 && span_keeps energy word 8 14 && span_keeps energy word 20 26
kind_keeps ProfileLoad word = span_keeps unused word 4 8 && span_keeps energy word 8 9 && span_keeps unused word 9 14 && span_keeps energy word 20 26
kind_keeps Import word = span_keeps unused word 4 6 && span_keeps multiplier word 6 8 && span_keeps unused word 8 14 && span_keeps energy word 20 26
kind_keeps Export word = span_keeps unused word 4 8 && span_keeps energy word 8 14 && span_keeps unused word 20 26
kind_keeps Unknown word = false

-- all words
unfoldable pub record_keeps : (members areas : ℕ) → (word : ℕ → ℕ) → Bool
record_keeps members areas word =
    ltb (word 1) members && ltb (word 2) areas && span_keeps energy word 3 4 && span_keeps adjustment word 14 20 && span_keeps unused word 26 30
    && kind_keeps (kind_of (word 0)) word

-- how many of its first words keep their rules, as far as spans tell: all or none
abbrev pub passed : (members areas : ℕ) → (word : ℕ → ℕ) → ℕ
passed members areas word = cond (record_keeps members areas word) 30 0
