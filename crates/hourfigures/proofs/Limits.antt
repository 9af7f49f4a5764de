-- Records and heads at each limit and one past it, computed.
use mathlib.Core.Path.{refl}
use Rattle.whole.specs.Below
use Rattle.rules.specs.Record
use Rattle.rules.specs.HourFile
use Rattle.rules.specs.HourWords
use Rattle.rules.specs.Ranges
use Rattle.rules.specs.Refusals
use Rattle.rules.specs.Figures.Files.{word_bytes}
use Rattle.rules.specs.Figures.Printed.{printed_file}
use Rattle.rules.specs.Figures.Limits

pub limits_right : Limits.LimitsRight
unfolding Below.values_below Below.first_below Record.signed Record.kind_of HourWords.hour_from Ranges.keeps Ranges.first_broken
    Ranges.area_rule Ranges.head_rule Ranges.rules_of Ranges.record_rule Refusals.bad_head Refusals.bad_word Limits.faults Limits.own_places
    Limits.record_fault Limits.record_limits Limits.head_fault Limits.full_head Limits.head_limits Ranges.count_rule Ranges.past_rule
    Ranges.block_rule Limits.block_fault Limits.block_limits Limits.word_figures
    HourFile.word HourFile.length_bad HourFile.blocks HourFile.block_word HourFile.record_count HourFile.record_word HourFile.hour_of
    HourWords.byte_of word_bytes printed_file
limits_right = record {
  of_records = (refl, (refl, (refl, (refl, (refl, (refl, (refl, (refl, (refl, (refl, (refl, (refl, (refl, (refl, (refl, tt)))))))))))))));
  of_the_head = (refl, (refl, (refl, (refl, (refl, (refl, (refl, (refl, (refl, (refl, (refl, (refl, (refl, (refl, (refl, tt)))))))))))))));
  of_blocks = (refl, (refl, (refl, (refl, (refl, (refl, (refl, (refl, tt))))))));
  of_words = (
    refl,
    (refl, (refl, (refl, (refl, (refl, (refl, (refl, (refl, (refl, (refl, (refl, (refl, (refl, (refl, (refl, (refl, (refl, tt))))))))))))))))),
  );
}
