-- Functions of an hour file or a record of it: words, parts, the head, the tally and its figures, a record's figures, the answers of
-- searches and tests.
use contract.Lifetimes.{Lfts}
use mathlib.Core.Path.{◌≡◌, sym, ◌∙◌, ap}
use mathlib.Core.List.{List}
use Prim.Native.Nat.{ℕ}
use lib.IntN.{ℤ}
use Rattle.rules.specs.Record.{members, areas}
use Rattle.rules.specs.HourFile.{hour_in}
use Rattle.hour.specs.declared.examined.Hour as examined
use Rattle.hour.specs.Prices.{prices_of}
use Rattle.theorems.specs.Determined.{OneResult, OnePart}
use Rattle.theorems.proofs.Laws.{agree, agree_answer, agree_entry, agree_test}
use Rattle.hour.proofs.head_word.Reads as head_word
use Rattle.hour.proofs.records.Reads as records
use Rattle.hour.proofs.body.Reads as body
use Rattle.hour.proofs.record.Reads as record_of
use Rattle.examine.proofs.examine.Reads as examine
use Rattle.hour.proofs.examined.Hour.of.Reads as hour_of
use Rattle.hour.proofs.examined.Hour.record.Reads as hour_record
use Rattle.hour.proofs.examined.Hour.member_of.Reads as member_of
use Rattle.hour.proofs.examined.Hour.area_of.Reads as area_of
use Rattle.hour.proofs.examined.Hour.kind_of.Reads as kind_of
use Rattle.hour.proofs.examined.Hour.price_of.Reads as price_of
use Rattle.hour.proofs.examined.Hour.entry_of.Reads as entry_of
use Rattle.hour.proofs.examined.Hour.demand_of.Reads as demand_of
use Rattle.hour.proofs.part.Record.kind.Reads as kind
use Rattle.hour.proofs.part.Record.member.Reads as member
use Rattle.hour.proofs.part.Record.area.Reads as area
use Rattle.hour.proofs.part.Record.entry.Reads as entry
use Rattle.hour.proofs.part.Record.demand.Reads as demand
use Rattle.byarea.proofs.tally_of.Reads as tally_of
use Rattle.byarea.proofs.ufe_figures.Reads as ufe_figures
use Rattle.bymember.proofs.grains.Reads as grains
use Rattle.bymember.proofs.neutrality.no_demand.Reads as no_demand

pub one_head_word : (κs : Lfts 1) → OneResult (head_word.Learnt κs)
one_head_word κs a x y s t = agree

pub one_records : (κs : Lfts 1) → OneResult (records.Learnt κs)
one_records κs a x y s t = agree

pub one_body : (κs : Lfts 1) → OnePart (body.Learnt κs) (λ x. x.now)
one_body κs a x y s t = agree

pub one_record : (κs : Lfts 1) → OnePart (record_of.Learnt κs) (λ x. x.now)
one_record κs a x y s t = agree

pub one_examine : (κs : Lfts 1) → OneResult (examine.Learnt κs)
one_examine κs a x y s t = agree_answer

-- the file that an hour holds tells its other fields
abbrev fields : examined.Hour → List ℕ × (ℕ × (ℕ × (ℕ × List ℤ)))
fields x = (x.file.now, (x.members, (x.areas, (x.records, x.prices))))

abbrev fields_of : List ℕ → List ℕ × (ℕ × (ℕ × (ℕ × List ℤ)))
fields_of s = let h = hour_in s in (s, (members h, (areas h, (h.count, prices_of h))))

told : (x : examined.Hour) → fields x ≡ fields_of x.file.now
told x = λ k. (x.file.now, (x.members_are k, (x.areas_are k, (x.records_are k, x.prices_are k))))

pub one_hour_of : (κs : Lfts 1) → OnePart (hour_of.Learnt κs) fields
one_hour_of κs a x y s t p q = told x ∙ ap fields_of (agree p q) ∙ sym (told y)

pub one_hour_record : (κs : Lfts 2) → OnePart (hour_record.Learnt κs) (λ x. x.words.now)
one_hour_record κs a x y s t = agree

pub one_member_of : (κs : Lfts 2) → OneResult (member_of.Learnt κs)
one_member_of κs a x y s t = agree

pub one_area_of : (κs : Lfts 2) → OneResult (area_of.Learnt κs)
one_area_of κs a x y s t = agree

pub one_kind_of : (κs : Lfts 2) → OneResult (kind_of.Learnt κs)
one_kind_of κs a x y s t = agree

pub one_price_of : (κs : Lfts 2) → OneResult (price_of.Learnt κs)
one_price_of κs a x y s t = agree

pub one_entry_of : (κs : Lfts 2) → OneResult (entry_of.Learnt κs)
one_entry_of κs a x y s t = agree_entry

pub one_demand_of : (κs : Lfts 2) → OneResult (demand_of.Learnt κs)
one_demand_of κs a x y s t = agree

pub one_kind : (κs : Lfts 2) → OneResult (kind.Learnt κs)
one_kind κs a x y s t = agree

pub one_member : (κs : Lfts 2) → OneResult (member.Learnt κs)
one_member κs a x y s t = agree

pub one_area : (κs : Lfts 2) → OneResult (area.Learnt κs)
one_area κs a x y s t = agree

pub one_entry : (κs : Lfts 2) → OneResult (entry.Learnt κs)
one_entry κs a x y s t = agree_entry

pub one_demand : (κs : Lfts 2) → OneResult (demand.Learnt κs)
one_demand κs a x y s t = agree

pub one_tally_of : (κs : Lfts 2) → OneResult (tally_of.Learnt κs)
one_tally_of κs a x y s t = agree

pub one_ufe_figures : (κs : Lfts 2) → OneResult (ufe_figures.Learnt κs)
one_ufe_figures κs a x y s t = agree

pub one_grains : (κs : Lfts 2) → OneResult (grains.Learnt κs)
one_grains κs a x y s t = agree

pub one_no_demand : (κs : Lfts 2) → OneResult (no_demand.Learnt κs)
one_no_demand κs a x y s t = agree_test
