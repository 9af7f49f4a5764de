-- What write_hour prints, computed.
use mathlib.Core.Path.{refl}
use Rattle.whole.specs.Below
use Rattle.rules.specs.Record
use Rattle.rules.specs.Text
use Rattle.rules.specs.HourFile
use Rattle.rules.specs.HourWords
use Rattle.rules.specs.Ranges
use Rattle.rules.specs.Refusals
use Rattle.rules.specs.Statement
use Rattle.rules.specs.RawHour
use Rattle.rules.specs.Figures.Files.{word_bytes}
use Rattle.rules.specs.Figures.Printed.{printed_file}
use Rattle.rules.specs.Figures.Written.{WrittenRight, printed_words, written_cases}

pub written_right : WrittenRight
unfolding Below.sum_below Below.values_below Below.first_below Record.signed Record.kind_of Text.digits_up_to Text.decimal HourFile.word
    HourWords.hour_from HourWords.byte_of HourWords.closing HourWords.open_block HourWords.blocks_for HourWords.held_in HourWords.body_word
    HourWords.open_word HourWords.file_word HourWords.file_byte HourWords.file_length HourWords.file_of Ranges.keeps Ranges.first_broken
    Ranges.area_rule Ranges.head_rule Ranges.rules_of Ranges.record_rule Refusals.verdict Refusals.bad_lists Refusals.bad_head Refusals.bad_word
    Refusals.bad_record Refusals.scheduled_above Refusals.above_maximum Refusals.word_rows Refusals.comparison_rows Refusals.list_form_rows
    Refusals.list_rows Statement.refused_line RawHour.raw_words RawHour.raw_rows RawHour.raw_written word_bytes printed_file printed_words
    written_cases
written_right = (refl, (refl, tt))
