-- The hour with every kind of record, computed.
use mathlib.Core.Path.{refl}
use Rattle.whole.specs.Below
use Rattle.whole.specs.Signed.{min_ℤ, max_ℤ}
use Rattle.rules.specs.Record
use Rattle.rules.specs.Deviation
use Rattle.rules.specs.Ufe
use Rattle.rules.specs.Share
use Rattle.rules.specs.Charge
use Rattle.rules.specs.Neutrality
use Rattle.rules.specs.Text
use Rattle.rules.specs.HourFile
use Rattle.rules.specs.Ranges
use Rattle.rules.specs.Refusals
use Rattle.rules.specs.Settling
use Rattle.rules.specs.Statement
use Rattle.rules.specs.Figures.Files.{word_bytes, sealed}
use Rattle.rules.specs.Figures.EveryKind.{EveryKindRight, every_kind, long_buffers, every_settlement}

pub every_kind_right : EveryKindRight
unfolding Below.count_below Below.sum_below Below.total_below Below.values_below Below.replacing_first Below.first_below min_ℤ max_ℤ
    Record.signed Record.kind_of Record.actual Record.entry Record.member_of Record.area_of Record.entry_of Record.zone_price Record.zone_of
    Record.tie_in Record.tie_out Record.price Deviation.generator_unavailable Deviation.generator_deviation Deviation.load_unavailable
    Deviation.load_deviation Deviation.deviation Ufe.in_area Ufe.area_sum Ufe.losses Ufe.ufe Ufe.area_demand Share.better Share.first_largest
    Share.is_at Share.handed_out Share.all_demand Share.whole_part Share.remainder Share.units_left Share.share_size Share.share Charge.entering
    Charge.nearest_cent Charge.cents Charge.share_of Charge.grains Charge.amount Charge.records_of Charge.charge Text.digits_up_to Text.decimal
    Text.amount_text Text.amount_field HourFile.word HourFile.blocks HourFile.block_word HourFile.block_sum HourFile.length_bad
    HourFile.record_count HourFile.record_word HourFile.hour_of Ranges.keeps Ranges.first_broken Ranges.count_rule Ranges.past_rule
    Ranges.block_rule Ranges.area_rule Ranges.head_rule Ranges.rules_of Ranges.record_rule Refusals.verdict Refusals.bad_length Refusals.bad_sum
    Refusals.bad_block Refusals.bad_head Refusals.bad_word Refusals.bad_record Refusals.scheduled_above Refusals.above_maximum Refusals.bad_area
    Refusals.bad_amount Neutrality.neutrality Neutrality.member_demand Neutrality.hour_demand Neutrality.neutrality_share Neutrality.final
    Refusals.no_demand Refusals.too_short Refusals.out_of_range Refusals.too_narrow Refusals.block_rows Refusals.word_rows Refusals.comparison_rows
    Refusals.sum_rows Refusals.form_rows Refusals.file_rows Refusals.hour_rows Refusals.settle_rows Refusals.write_amount_rows Settling.line_of
    Settling.filled Settling.ufe_figures Settling.settle Settling.write Statement.first_line Statement.column Statement.member_line
    Statement.member_lines Statement.sheet_of Statement.statement word_bytes Deviation.import_deviation Deviation.export_deviation sealed
    every_kind long_buffers every_settlement Charge.pool_total
every_kind_right = record { settled = refl; pooled = refl; stated = refl }
