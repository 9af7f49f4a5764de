-- Amounts read and written at each limit and one past it, shares by both engines, columns and lines, computed.
use mathlib.Core.Path.{refl}
use Rattle.whole.specs.Below.{values_below, sum_below, total_below, count_below}
use Rattle.rules.specs.Record
use Rattle.rules.specs.Ufe
use Rattle.rules.specs.HourWords
use Rattle.rules.specs.Share
use Rattle.rules.specs.Text
use Rattle.rules.specs.Refusals
use Rattle.rules.specs.Settling
use Rattle.rules.specs.Statement
use Rattle.rules.specs.Figures.Amounts

pub amounts_right : Amounts.AmountsRight
unfolding values_below sum_below total_below count_below Record.signed Record.kind_of Record.zone_of Record.tie_in Record.tie_out Ufe.in_area
    Ufe.area_sum Ufe.losses Ufe.ufe HourWords.hour_from Share.better Share.first_largest Share.is_at Share.handed_out Share.all_demand
    Share.whole_part Share.remainder Share.units_left Share.share_size Share.ahead Share.ranked_size Share.share Text.digits_up_to Text.decimal
    Text.amount_text Text.amount_field Text.blank_count Text.digit_count Text.digits_value Text.past_blanks Text.sign_at Text.dollars_at
    Text.cents_at Text.with_minus Text.amount_in Refusals.verdict Refusals.out_of_range Refusals.too_narrow Refusals.write_amount_rows
    Settling.empty_line Settling.ufe_figures Settling.write Settling.read Statement.column Statement.member_line Amounts.amounts_read
    Amounts.written Amounts.shares
amounts_right = record {
  of_reading = (refl, (refl, (refl, (refl, (refl, (refl, (refl, (refl, (refl, (refl, (refl, (refl, (refl, (refl, (refl, (refl, (refl, (refl, (refl, (refl, (refl, (refl, (refl, (refl, (refl, (refl, (refl, (refl, tt))))))))))))))))))))))))))));
  of_writing = (refl, (refl, (refl, (refl, (refl, (refl, (refl, (refl, (refl, (refl, (refl, (refl, tt))))))))))));
  of_sharing = (refl, (refl, (refl, (refl, (refl, (refl, tt))))));
}
