-- Whether one of the first words of a block breaks the layout of block b of n, which says that it holds so many records. Document 01,
-- refusal 3.
use Rattle.std.specs.Prelude.{ℕ, Bool, List}
use Rattle.rules.specs.declared.Layout.{Layout}
use Rattle.rules.specs.HourFile.{word}
use Rattle.rules.specs.Ranges.{block_rule, first_broken}
use Rattle.rules.specs.Refusals.{is_broken}

abbrev pub broken_below : (layout : Layout) (words n held b : ℕ) (block : List ℕ) → Bool
broken_below layout words n held b block = is_broken (first_broken (block_rule layout n held b) (word block) words)
