-- Functions over any kind of file, and over any place where an hour's words stand: whatever the types are that they are compiled for. And those
-- that each kind of file gives of its own.
use contract.Lifetimes.{Lfts}
use denote.RattleType.{RattleType}
use denote.Param.Laws.{Laws, IsCopy}
use mir.Syntax.{Dict}
use Rattle.examine.specs.declared.words.HourWords.{Ghosts as HourGhosts}
use Rattle.examine.specs.declared.words.Words.{Ghosts as WordGhosts}
use Rattle.examine.specs.declared.search.Searched.{Ghosts as SearchedGhosts}
use Rattle.wordrules.specs.declared.form.Form.{Ghosts as FormGhosts}
use Rattle.std.specs.declared.clone.Clone.{Ghosts as CloneGhosts}
use Rattle.theorems.specs.Determined.{OneResult}
use Rattle.theorems.proofs.Laws.{agree, agree_answer, number_of_kind, kind_told}
use Rattle.examine.proofs.search.examine_hour.Reads as examine_hour
use Rattle.examine.proofs.words.RefSliceU8Words.word.Reads as word_of_bytes
use Rattle.examine.proofs.words.RefSliceU32Words.word.Reads as word_of_list
use Rattle.examine.proofs.words.FileHourHourWords.count.Reads as count_in_file
use Rattle.examine.proofs.words.ListHourHourWords.count.Reads as count_in_lists
use Rattle.examine.proofs.search.HourlySearched.passed.Reads as hourly_passed
use Rattle.examine.proofs.search.HourlySearched.above_maximum.Reads as hourly_above_maximum
use Rattle.examine.proofs.search.TenMinutesSearched.passed.Reads as ten_minutes_passed
use Rattle.examine.proofs.search.TenMinutesSearched.above_maximum.Reads as ten_minutes_above_maximum
use Rattle.wordrules.proofs.form.Form.record_keeps.Reads as record_keeps
use Rattle.wordrules.proofs.hour_file.HourlyForm.layout.Reads as hourly_layout
use Rattle.wordrules.proofs.hour_file.HourlyForm.head_rule.Reads as hourly_head_rule
use Rattle.wordrules.proofs.hour_file.HourlyForm.rule_in_use.Reads as hourly_rule_in_use
use Rattle.wordrules.proofs.hour_file.HourlyForm.uses.Reads as hourly_uses
use Rattle.wordrules.proofs.ten_minutes.TenMinutesForm.layout.Reads as ten_minutes_layout
use Rattle.wordrules.proofs.ten_minutes.TenMinutesForm.head_rule.Reads as ten_minutes_head_rule
use Rattle.wordrules.proofs.ten_minutes.TenMinutesForm.rule_in_use.Reads as ten_minutes_rule_in_use
use Rattle.wordrules.proofs.ten_minutes.TenMinutesForm.uses.Reads as ten_minutes_uses

pub one_record_keeps : (F : RattleType) (lf : Laws F) (g : FormGhosts F.Denot) (d : Dict) (κs : Lfts 1) → OneResult (record_keeps.Learnt F lf g d κs)
one_record_keeps F lf g d κs a x y s t p q =
    let k = number_of_kind a.1.1.0 in agree (p k (kind_told a.1.1.0)) (q k (kind_told a.1.1.0))

pub one_examine_hour : (H F P : RattleType) (lh : Laws H) (lf : Laws F) (lp : Laws P) (cp : IsCopy P)
    (h : HourGhosts H.Denot F.Denot P.Denot) (dh : Dict) (sf : SearchedGhosts F.Denot) (df : Dict) (ff : FormGhosts F.Denot) (dff : Dict)
    (w : WordGhosts P.Denot) (dw : Dict) (c : CloneGhosts P.Denot) (dc : Dict) (κs : Lfts 4) →
    OneResult (examine_hour.Learnt H F P lh lf lp cp h dh sf df ff dff w dw c dc κs)
one_examine_hour H F P lh lf lp cp h dh sf df ff dff w dw c dc κs a x y s t = agree_answer

pub one_hourly_layout : (κs : Lfts 0) → OneResult (hourly_layout.Learnt κs)
one_hourly_layout κs a x y s t = agree

pub one_hourly_head_rule : (κs : Lfts 0) → OneResult (hourly_head_rule.Learnt κs)
one_hourly_head_rule κs a x y s t = agree

pub one_hourly_rule_in_use : (κs : Lfts 0) → OneResult (hourly_rule_in_use.Learnt κs)
one_hourly_rule_in_use κs a x y s t = agree

pub one_hourly_uses : (κs : Lfts 0) → OneResult (hourly_uses.Learnt κs)
one_hourly_uses κs a x y s t = agree

pub one_ten_minutes_layout : (κs : Lfts 0) → OneResult (ten_minutes_layout.Learnt κs)
one_ten_minutes_layout κs a x y s t = agree

pub one_ten_minutes_head_rule : (κs : Lfts 0) → OneResult (ten_minutes_head_rule.Learnt κs)
one_ten_minutes_head_rule κs a x y s t = agree

pub one_ten_minutes_rule_in_use : (κs : Lfts 0) → OneResult (ten_minutes_rule_in_use.Learnt κs)
one_ten_minutes_rule_in_use κs a x y s t = agree

pub one_ten_minutes_uses : (κs : Lfts 0) → OneResult (ten_minutes_uses.Learnt κs)
one_ten_minutes_uses κs a x y s t = agree

pub one_hourly_passed : (W : RattleType) (lw : Laws W) (g : WordGhosts W.Denot) (d : Dict) (κs : Lfts 2) → OneResult (hourly_passed.Learnt W lw g d κs)
one_hourly_passed W lw g d κs a x y s t p q = agree (p.0) (q.0)

pub one_hourly_above_maximum : (W : RattleType) (lw : Laws W) (g : WordGhosts W.Denot) (d : Dict) (κs : Lfts 2) →
    OneResult (hourly_above_maximum.Learnt W lw g d κs)
one_hourly_above_maximum W lw g d κs a x y s t = agree

pub one_ten_minutes_passed : (W : RattleType) (lw : Laws W) (g : WordGhosts W.Denot) (d : Dict) (κs : Lfts 2) →
    OneResult (ten_minutes_passed.Learnt W lw g d κs)
one_ten_minutes_passed W lw g d κs a x y s t p q = agree (p.0) (q.0)

pub one_ten_minutes_above_maximum : (W : RattleType) (lw : Laws W) (g : WordGhosts W.Denot) (d : Dict) (κs : Lfts 2) →
    OneResult (ten_minutes_above_maximum.Learnt W lw g d κs)
one_ten_minutes_above_maximum W lw g d κs a x y s t = agree

pub one_word_of_bytes : (κs : Lfts 2) → OneResult (word_of_bytes.Learnt κs)
one_word_of_bytes κs a x y s t = agree

pub one_word_of_list : (κs : Lfts 2) → OneResult (word_of_list.Learnt κs)
one_word_of_list κs a x y s t = agree

pub one_count_in_file : (F : RattleType) (lf : Laws F) (sf : SearchedGhosts F.Denot) (df : Dict) (ff : FormGhosts F.Denot) (dff : Dict) (κs : Lfts 3) →
    OneResult (count_in_file.Learnt F lf sf df ff dff κs)
one_count_in_file F lf sf df ff dff κs a x y s t = agree

pub one_count_in_lists : (F : RattleType) (lf : Laws F) (sf : SearchedGhosts F.Denot) (df : Dict) (ff : FormGhosts F.Denot) (dff : Dict) (κs : Lfts 3) →
    OneResult (count_in_lists.Learnt F lf sf df ff dff κs)
one_count_in_lists F lf sf df ff dff κs a x y s t = agree
