-- A file that tells of a block which isn't there has 3, computed: no law says which of 2 and 3 is the sums' and which the layout's. All
-- refusals of settling are computed in the crate `hourfigures`.
use mathlib.Core.Path.{◌≡◌, refl}
use Rattle.whole.specs.Below
use Rattle.rules.specs.HourFile
use Rattle.rules.specs.Ranges
use Rattle.rules.specs.Refusals
use Rattle.rules.specs.Figures.Files.{word_bytes, sealed, first, plain_head}

pub missing_block : Refusals.verdict (Refusals.file_rows (first 1 (plain_head 2))) ≡ Refusals.refused_at 3 0
unfolding Below.sum_below Below.first_below HourFile.word HourFile.blocks HourFile.block_word HourFile.block_sum HourFile.length_bad
    HourFile.record_count Ranges.keeps Ranges.first_broken Ranges.count_rule Ranges.past_rule Ranges.block_rule Refusals.verdict
    Refusals.bad_length Refusals.bad_sum Refusals.bad_block Refusals.block_rows Refusals.form_rows Refusals.file_rows word_bytes sealed
missing_block = refl
