-- Functions of values: numbers, kinds, answers, entries, tallies, lines.
use contract.Lifetimes.{Lfts}
use Rattle.theorems.specs.Determined.{OneResult}
use Rattle.theorems.proofs.Laws.{agree, number_of_kind, kind_told}
use Rattle.whole.proofs.size_of.Reads as size_of
use Rattle.whole.proofs.with_sign_of.Reads as with_sign_of
use Rattle.answer.proofs.number_of.Reads as number_of
use Rattle.answer.proofs.place_of.Reads as place_of
use Rattle.rules.proofs.Refusal.number.Reads as refusal_number
use Rattle.rules.proofs.Refusal.place.Reads as refusal_place
use Rattle.rules.proofs.KindFromU32.from.Reads as kind_from
use Rattle.rules.proofs.Kind.is_load.Reads as is_load
use Rattle.amount.proofs.decimal.digit.Reads as digit
use Rattle.amount.proofs.decimal.digits.Reads as digits
use Rattle.wordrules.proofs.keeps.Reads as keeps
use Rattle.wordrules.proofs.block_rule.Reads as block_rule
use Rattle.wordrules.proofs.scheduled_above.Reads as scheduled_above
use Rattle.formula.proofs.deviation.deviation.Reads as deviation
use Rattle.formula.proofs.deviation.entering.Reads as entering
use Rattle.formula.proofs.deviation.accounted.Reads as accounted
use Rattle.formula.proofs.posting.empty_tally.Reads as empty_tally
use Rattle.formula.proofs.posting.tallied.Reads as tallied
use Rattle.formula.proofs.posting.empty_line.Reads as empty_line
use Rattle.formula.proofs.posting.line_with.Reads as line_with
use Rattle.formula.proofs.rounding.cents_of.Reads as cents_of
use Rattle.formula.proofs.posting.cents.Reads as cents
use Rattle.formula.proofs.posting.charge_of.Reads as charge_of
use Rattle.byarea.proofs.area_without_demand.Reads as area_without_demand
use Rattle.byarea.proofs.nobody_demands.Reads as nobody_demands
use Rattle.blocks.proofs.signed.Reads as signed
use Rattle.rules.proofs.hourly.Reads as hourly
use Rattle.rules.proofs.ten_minutes.Reads as ten_minutes

pub one_size_of : (κs : Lfts 0) → OneResult (size_of.Learnt κs)
one_size_of κs a x y s t = agree

pub one_with_sign_of : (κs : Lfts 0) → OneResult (with_sign_of.Learnt κs)
one_with_sign_of κs a x y s t = agree

pub one_number_of : (κs : Lfts 0) → OneResult (number_of.Learnt κs)
one_number_of κs a x y s t = agree

pub one_place_of : (κs : Lfts 0) → OneResult (place_of.Learnt κs)
one_place_of κs a x y s t = agree

pub one_refusal_number : (κs : Lfts 0) → OneResult (refusal_number.Learnt κs)
one_refusal_number κs a x y s t = agree

pub one_refusal_place : (κs : Lfts 0) → OneResult (refusal_place.Learnt κs)
one_refusal_place κs a x y s t = agree

pub one_digit : (κs : Lfts 0) → OneResult (digit.Learnt κs)
one_digit κs a x y s t = agree

pub one_digits : (κs : Lfts 0) → OneResult (digits.Learnt κs)
one_digits κs a x y s t = agree

pub one_keeps : (κs : Lfts 0) → OneResult (keeps.Learnt κs)
one_keeps κs a x y s t = agree

pub one_block_rule : (κs : Lfts 0) → OneResult (block_rule.Learnt κs)
one_block_rule κs a x y s t = agree

pub one_scheduled_above : (κs : Lfts 0) → OneResult (scheduled_above.Learnt κs)
one_scheduled_above κs a x y s t p q = let k = number_of_kind a.0 in agree (p k (kind_told a.0)) (q k (kind_told a.0))

pub one_kind_from : (κs : Lfts 0) → OneResult (kind_from.Learnt κs)
one_kind_from κs a x y s t = agree

pub one_is_load : (κs : Lfts 0) → OneResult (is_load.Learnt κs)
one_is_load κs a x y s t = agree

pub one_deviation : (κs : Lfts 0) → OneResult (deviation.Learnt κs)
one_deviation κs a x y s t = agree

pub one_entering : (κs : Lfts 0) → OneResult (entering.Learnt κs)
one_entering κs a x y s t = agree

pub one_accounted : (κs : Lfts 0) → OneResult (accounted.Learnt κs)
one_accounted κs a x y s t = agree

pub one_empty_tally : (κs : Lfts 0) → OneResult (empty_tally.Learnt κs)
one_empty_tally κs a x y s t = agree

pub one_tallied : (κs : Lfts 0) → OneResult (tallied.Learnt κs)
one_tallied κs a x y s t = agree

pub one_empty_line : (κs : Lfts 0) → OneResult (empty_line.Learnt κs)
one_empty_line κs a x y s t = agree

pub one_line_with : (κs : Lfts 0) → OneResult (line_with.Learnt κs)
one_line_with κs a x y s t = agree

pub one_cents_of : (κs : Lfts 0) → OneResult (cents_of.Learnt κs)
one_cents_of κs a x y s t = agree

pub one_cents : (κs : Lfts 0) → OneResult (cents.Learnt κs)
one_cents κs a x y s t = agree

pub one_charge_of : (κs : Lfts 0) → OneResult (charge_of.Learnt κs)
one_charge_of κs a x y s t = agree

pub one_area_without_demand : (κs : Lfts 0) → OneResult (area_without_demand.Learnt κs)
one_area_without_demand κs a x y s t = agree

pub one_nobody_demands : (κs : Lfts 0) → OneResult (nobody_demands.Learnt κs)
one_nobody_demands κs a x y s t = agree

pub one_signed : (κs : Lfts 0) → OneResult (signed.Learnt κs)
one_signed κs a x y s t = agree

pub one_hourly : (κs : Lfts 0) → OneResult (hourly.Learnt κs)
one_hourly κs a x y s t = agree

pub one_ten_minutes : (κs : Lfts 0) → OneResult (ten_minutes.Learnt κs)
one_ten_minutes κs a x y s t = agree
