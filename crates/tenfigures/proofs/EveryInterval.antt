-- Ten-minute files, computed: records and heads at each limit and one past it, an hour with every kind of record, a refusal for each row.
use mathlib.Core.Path.{refl}
use Rattle.whole.specs.Below
use Rattle.whole.specs.Signed.{min_ℤ, max_ℤ}
use Rattle.rules.specs.Record
use Rattle.rules.specs.Deviation
use Rattle.rules.specs.Charge
use Rattle.rules.specs.HourFile
use Rattle.rules.specs.HourWords
use Rattle.rules.specs.Ranges
use Rattle.rules.specs.Refusals
use Rattle.rules.specs.Text
use Rattle.rules.specs.Settling
use Rattle.rules.specs.Statement
use Rattle.rules.specs.TenMinutes as Ten
use Rattle.rules.specs.Figures.Files.{word_bytes, sealed}
use Rattle.rules.specs.Figures.Limits
use Rattle.rules.specs.Figures.EveryInterval as Figures

pub every_interval_right : Figures.EveryIntervalRight
unfolding Below.sum_below Below.total_below Below.values_below Below.replacing_first Below.first_below min_ℤ max_ℤ Record.signed
    Record.kind_of Record.member_of Record.area_of Record.zone_of Deviation.generator_unavailable Deviation.generator_deviation
    Deviation.load_unavailable Deviation.load_deviation Deviation.import_deviation Deviation.export_deviation Deviation.deviation
    Charge.entering Charge.nearest_cent HourFile.word HourFile.blocks HourFile.block_word HourFile.block_sum HourFile.length_bad
    HourFile.record_count HourFile.record_word HourFile.hour_of HourWords.hour_from Ranges.keeps Ranges.first_broken Ranges.count_rule
    Ranges.past_rule Ranges.block_rule Ranges.ten_minutes_head_rule Ranges.ten_minutes_rules_of Ranges.ten_minutes_record_rule Refusals.verdict
    Refusals.bad_length Refusals.bad_sum Refusals.bad_block Refusals.bad_head Refusals.bad_word Refusals.bad_record Refusals.block_rows
    Refusals.word_rows Refusals.form_rows Ten.ramp_part Ten.scheduled_in Ten.actual_in Ten.interval_entry Ten.interval_of Ten.incremental
    Ten.decremental Ten.interval_price Ten.net_deviation Ten.interval_cost Ten.ten_minutes_amount Ten.ten_minutes_charge Ten.ten_minutes_rows
    Ten.settle_ten_minutes word_bytes sealed Limits.faults Limits.own_places Figures.intervals_fault Figures.interval_limits
    Figures.prices_fault Figures.full_prices Figures.price_limits Figures.every_interval Figures.ten_refusals Figures.charges_stated Figures.least_nets
    Text.digits_up_to Text.decimal Text.amount_text Text.amount_field Refusals.out_of_range Refusals.too_narrow Refusals.write_amount_rows
    Settling.write Statement.first_line Statement.column Statement.member_lines Statement.sheet_of Statement.refused_line Statement.charge_line
    Statement.ten_minutes_statement
every_interval_right = record {
  of_records = (refl, (refl, (refl, (refl, (refl, (refl, (refl, (refl, (refl, (refl, (refl, tt)))))))))));
  of_the_head = (refl, (refl, (refl, (refl, (refl, (refl, (refl, (refl, (refl, (refl, (refl, (refl, (refl, (refl, (refl, (refl, (refl, (refl, (refl, tt)))))))))))))))))));
  settled = refl;
  unrounded = refl;
  priced = (refl, (refl, (refl, tt)));
  stated = (refl, (refl, (refl, (refl, tt))));
  refused = (refl, (refl, (refl, (refl, (refl, (refl, (refl, (refl, (refl, tt)))))))));
}
