-- A refusal of settling for each row, computed.
use mathlib.Core.Path.{refl}
use Rattle.whole.specs.Below
use Rattle.rules.specs.Record
use Rattle.rules.specs.Deviation
use Rattle.rules.specs.Ufe
use Rattle.rules.specs.Share
use Rattle.rules.specs.Charge
use Rattle.rules.specs.Neutrality
use Rattle.rules.specs.HourFile
use Rattle.rules.specs.Ranges
use Rattle.rules.specs.Refusals
use Rattle.rules.specs.Settling
use Rattle.rules.specs.Figures.Files.{word_bytes, used_buffers, sealed}
use Rattle.rules.specs.Figures.Refused.{RefusedRight, refusals}

pub refused_right : RefusedRight
unfolding Below.sum_below Below.total_below Below.first_below Record.signed Record.kind_of Record.zone_of Record.tie_in Record.tie_out
    Ufe.area_sum Ufe.losses Ufe.ufe Ufe.area_demand Share.all_demand Charge.amount HourFile.word HourFile.blocks HourFile.block_word
    HourFile.block_sum HourFile.length_bad HourFile.record_count HourFile.record_word HourFile.hour_of Ranges.keeps Ranges.first_broken
    Ranges.count_rule Ranges.past_rule Ranges.block_rule Ranges.area_rule Ranges.head_rule Ranges.rules_of Ranges.record_rule Refusals.verdict
    Refusals.bad_length Refusals.bad_sum Refusals.bad_block Refusals.bad_head Refusals.bad_word Refusals.bad_record Refusals.scheduled_above
    Refusals.above_maximum Refusals.bad_area Refusals.bad_amount Record.actual Record.entry Record.member_of Record.area_of Record.entry_of
    Record.price Record.zone_price Deviation.deviation Deviation.export_deviation Ufe.in_area Share.share_size Share.share Charge.entering
    Charge.share_of Charge.grains Charge.nearest_cent Charge.cents Charge.charge Neutrality.neutrality Neutrality.member_demand
    Neutrality.hour_demand Refusals.no_demand Refusals.too_short Refusals.block_rows Refusals.word_rows Refusals.comparison_rows Refusals.sum_rows
    Refusals.form_rows Refusals.file_rows Refusals.hour_rows Refusals.settle_rows Settling.settle word_bytes used_buffers sealed refusals
refused_right = (refl, (refl, (refl, (refl, (refl, (refl, (refl, (refl, (refl, (refl, (refl, tt)))))))))))
