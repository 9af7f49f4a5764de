-- The starred figures of document 01, computed.
use mathlib.Core.Path.{refl}
use Rattle.whole.specs.Below.{values_below, sum_below}
use Rattle.whole.specs.Signed.{min_ℤ, max_ℤ}
use Rattle.rules.specs.Record.{signed, kind_of, actual, entry}
use Rattle.rules.specs.Deviation.{generator_unavailable, generator_deviation, load_unavailable, load_deviation, import_deviation}
use Rattle.rules.specs.Deviation.{export_deviation, deviation}
use Rattle.rules.specs.Share.{better, first_largest, is_at, handed_out, all_demand, whole_part, remainder, units_left, share_size, share}
use Rattle.rules.specs.Charge.{nearest_cent, cents}
use Rattle.rules.specs.Text.{digits_up_to, decimal, amount_text, amount_field}
use Rattle.rules.specs.Refusals.{verdict, out_of_range, too_narrow, write_amount_rows}
use Rattle.rules.specs.Settling.{write}
use Rattle.rules.specs.Figures.Starred.{StarredRight, starred}

pub starred_right : StarredRight
unfolding starred values_below sum_below min_ℤ max_ℤ signed kind_of actual entry generator_unavailable generator_deviation load_unavailable
    load_deviation import_deviation export_deviation deviation better first_largest is_at handed_out all_demand whole_part remainder units_left
    share_size share nearest_cent cents digits_up_to decimal amount_text amount_field verdict out_of_range too_narrow write_amount_rows write
starred_right = (refl, (refl, (refl, (refl, (refl, (refl, (refl, (refl, (refl, (refl, (refl, (refl, (refl, (refl, (refl, (refl, (refl, (refl, (refl, tt)))))))))))))))))))
