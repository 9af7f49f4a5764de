-- A refusal of the writer for each row, computed.
use mathlib.Core.Path.{refl}
use Rattle.whole.specs.Below
use Rattle.rules.specs.Record
use Rattle.rules.specs.HourWords
use Rattle.rules.specs.Ranges
use Rattle.rules.specs.Refusals
use Rattle.rules.specs.Settling
use Rattle.rules.specs.Figures.Unwritten.{UnwrittenRight, unwritten_cases}

pub unwritten_right : UnwrittenRight
unfolding Below.first_below Record.signed Record.kind_of HourWords.hour_from HourWords.blocks_for HourWords.file_length Ranges.keeps
    Ranges.first_broken Ranges.area_rule Ranges.head_rule Ranges.rules_of Ranges.record_rule Refusals.verdict Refusals.bad_lists Refusals.bad_head
    Refusals.bad_word Refusals.bad_record Refusals.scheduled_above Refusals.above_maximum Refusals.no_room Refusals.word_rows Refusals.comparison_rows
    Refusals.list_form_rows Refusals.list_rows Refusals.write_hour_rows Settling.write_hour unwritten_cases
unwritten_right = (refl, (refl, (refl, (refl, (refl, (refl, (refl, tt)))))))
