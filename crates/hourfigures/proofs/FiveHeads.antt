-- Explanations, computed.
use mathlib.Core.Path.{refl}
use Rattle.whole.specs.Below
use Rattle.whole.specs.Signed.{min_ℤ, max_ℤ}
use Rattle.rules.specs.Record
use Rattle.rules.specs.Deviation
use Rattle.rules.specs.Ufe
use Rattle.rules.specs.Share
use Rattle.rules.specs.Charge
use Rattle.rules.specs.Neutrality
use Rattle.rules.specs.Text
use Rattle.rules.specs.HourFile
use Rattle.rules.specs.Ranges
use Rattle.rules.specs.Refusals
use Rattle.rules.specs.Statement
use Rattle.rules.specs.Explanation
use Rattle.rules.specs.Figures.Files.{word_bytes, sealed}
use Rattle.rules.specs.Figures.EveryKind.{every_kind}
use Rattle.rules.specs.Figures.FiveHeads.{ExplainedRight, unscheduled, explanations}

pub explained_right : ExplainedRight
unfolding Below.sum_below Below.total_below Below.first_below min_ℤ max_ℤ Record.signed Record.kind_of Record.actual Record.entry
    Record.member_of Record.area_of Record.entry_of Record.zone_price Record.zone_of Record.tie_in Record.tie_out Record.price
    Deviation.generator_unavailable Deviation.generator_deviation Deviation.load_unavailable Deviation.load_deviation Deviation.deviation
    Ufe.in_area Ufe.area_sum Ufe.losses Ufe.ufe Ufe.area_demand Share.better Share.first_largest Share.is_at Share.handed_out Share.all_demand
    Share.whole_part Share.remainder Share.units_left Share.share_size Share.share Charge.entering Charge.nearest_cent Charge.cents
    Charge.share_of Charge.grains Charge.amount Charge.charge Text.digits_up_to Text.decimal HourFile.word HourFile.blocks HourFile.block_word
    HourFile.block_sum HourFile.length_bad HourFile.record_count HourFile.record_word HourFile.hour_of Ranges.keeps Ranges.first_broken
    Ranges.count_rule Ranges.past_rule Ranges.block_rule Ranges.area_rule Ranges.head_rule Ranges.rules_of Ranges.record_rule Refusals.verdict
    Refusals.bad_length Refusals.bad_sum Refusals.bad_block Refusals.bad_head Refusals.bad_word Refusals.bad_record Refusals.scheduled_above
    Refusals.above_maximum Refusals.bad_area Refusals.bad_amount Neutrality.neutrality Neutrality.member_demand Neutrality.hour_demand
    Refusals.no_demand Refusals.block_rows Refusals.word_rows Refusals.comparison_rows Refusals.sum_rows Refusals.form_rows
    Refusals.file_rows Refusals.hour_rows word_bytes Deviation.import_deviation Deviation.export_deviation Refusals.no_member
    Refusals.explain_rows Statement.refused_line Explanation.priced_sum Explanation.heads Explanation.same_sign Explanation.decided_by
    Explanation.decided Explanation.explain Explanation.signed_decimal Explanation.head_line Explanation.decided_line
    Explanation.explanation_lines Explanation.worded Explanation.explanation sealed every_kind unscheduled explanations Neutrality.neutrality_share
explained_right = (refl, (refl, (refl, (refl, (refl, (refl, (refl, (refl, (refl, (refl, (refl, (refl, tt))))))))))))
