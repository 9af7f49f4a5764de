-- Half cents, computed: amounts beside a half, hours in which half cents decide on row 12, a ten-minute hour.
use mathlib.Core.Path.{refl}
use Rattle.whole.specs.Below
use Rattle.rules.specs.Record
use Rattle.rules.specs.Deviation
use Rattle.rules.specs.Ufe
use Rattle.rules.specs.Share
use Rattle.rules.specs.Charge
use Rattle.rules.specs.Neutrality
use Rattle.rules.specs.HourFile
use Rattle.rules.specs.Ranges
use Rattle.rules.specs.Refusals
use Rattle.rules.specs.Settling
use Rattle.rules.specs.TenMinutes as Ten
use Rattle.rules.specs.Figures.Files.{word_bytes, used_buffers, sealed}
use Rattle.rules.specs.Figures.HalfCents as Figures

pub half_cents_right : Figures.HalfCentsRight
unfolding Below.count_below Below.sum_below Below.total_below Below.values_below Below.replacing_first Below.first_below Record.signed
    Record.kind_of Record.actual Record.entry Record.member_of Record.area_of Record.entry_of Record.zone_price Record.zone_of Record.tie_in
    Record.tie_out Record.price Deviation.export_deviation Deviation.deviation Ufe.in_area Ufe.area_sum Ufe.losses Ufe.ufe Ufe.area_demand
    Share.better Share.first_largest Share.is_at Share.handed_out Share.all_demand Share.whole_part Share.remainder Share.units_left
    Share.share_size Share.share Charge.entering Charge.nearest_cent Charge.cents Charge.share_of Charge.grains Charge.amount
    Charge.records_of Charge.charge HourFile.word HourFile.blocks HourFile.block_word HourFile.block_sum HourFile.length_bad
    HourFile.record_count HourFile.record_word HourFile.hour_of Ranges.keeps Ranges.first_broken Ranges.count_rule Ranges.past_rule
    Ranges.block_rule Ranges.area_rule Ranges.head_rule Ranges.rules_of Ranges.record_rule Ranges.ten_minutes_head_rule Ranges.ten_minutes_rules_of
    Ranges.ten_minutes_record_rule Refusals.verdict Refusals.bad_length Refusals.bad_sum Refusals.bad_block Refusals.bad_head Refusals.bad_word
    Refusals.bad_record Refusals.scheduled_above Refusals.above_maximum Refusals.bad_area Refusals.bad_amount Neutrality.neutrality
    Neutrality.member_demand Neutrality.hour_demand Neutrality.neutrality_share Neutrality.final Refusals.no_demand Refusals.too_short
    Refusals.block_rows Refusals.word_rows Refusals.comparison_rows Refusals.sum_rows Refusals.form_rows Refusals.file_rows Refusals.hour_rows
    Refusals.settle_rows Settling.line_of Settling.filled Settling.ufe_figures Settling.settle Ten.ramp_part Ten.scheduled_in Ten.actual_in
    Ten.interval_entry Ten.interval_of Ten.incremental Ten.decremental Ten.interval_price Ten.net_deviation Ten.interval_cost
    Ten.ten_minutes_amount Ten.ten_minutes_charge Ten.ten_minutes_rows Ten.settle_ten_minutes word_bytes used_buffers sealed Figures.beside_halves
    Figures.halves_of_24ths Figures.without_demand Figures.halves_by_interval
half_cents_right = record {
  beside_halves_lem = (refl, (refl, (refl, (refl, (refl, (refl, (refl, (refl, (refl, (refl, (refl, tt)))))))))));
  of_24ths = (refl, (refl, (refl, (refl, (refl, (refl, (refl, tt)))))));
  without_demand_lem = (refl, (refl, tt));
  by_interval = refl;
}
