-- Functions of a file of blocks in any layout: words, parts, the sums of the blocks and their layout.
use contract.Lifetimes.{Lfts}
use Rattle.rules.specs.HourFile.{hourly}
use Rattle.theorems.specs.Determined.{OneResult, OnePart}
use Rattle.theorems.proofs.Laws.{agree}
use Rattle.blocks.proofs.whole_word.Reads as whole_word
use Rattle.blocks.proofs.word.Reads as word
use Rattle.blocks.proofs.length_bad.Reads as length_bad
use Rattle.blocks.proofs.count.Reads as count
use Rattle.blocks.proofs.body.Reads as body
use Rattle.blocks.proofs.head_word.Reads as head_word
use Rattle.blocks.proofs.bad_sum.Reads as bad_sum
use Rattle.blocks.proofs.bad_block.Reads as bad_block
use Rattle.blocks.proofs.records.Reads as records
use Rattle.blocks.proofs.record.Reads as record_of

pub one_whole_word : (κs : Lfts 1) → OneResult (whole_word.Learnt κs)
one_whole_word κs a x y s t = agree

pub one_word : (κs : Lfts 1) → OneResult (word.Learnt κs)
one_word κs a x y s t = agree

pub one_length_bad : (κs : Lfts 1) → OneResult (length_bad.Learnt κs)
one_length_bad κs a x y s t = agree

pub one_count : (κs : Lfts 1) → OneResult (count.Learnt κs)
one_count κs a x y s t = agree

pub one_body : (κs : Lfts 1) → OnePart (body.Learnt κs) (λ x. x.now)
one_body κs a x y s t = agree

pub one_head_word : (κs : Lfts 1) → OneResult (head_word.Learnt κs)
one_head_word κs a x y s t = λ p q. agree (p hourly) (q hourly)

pub one_bad_sum : (κs : Lfts 1) → OneResult (bad_sum.Learnt κs)
one_bad_sum κs a x y s t = agree

pub one_bad_block : (κs : Lfts 1) → OneResult (bad_block.Learnt κs)
one_bad_block κs a x y s t = agree

pub one_records : (κs : Lfts 1) → OneResult (records.Learnt κs)
one_records κs a x y s t = agree

pub one_record : (κs : Lfts 1) → OnePart (record_of.Learnt κs) (λ x. x.now)
one_record κs a x y s t = agree
