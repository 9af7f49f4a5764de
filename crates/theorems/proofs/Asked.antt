-- Nothing is asked of a caller: not by a function for C, where nothing would check it, nor by an entry point of a crate, nor by what the programs
-- print with. A `requires` on one of them is refused here.
use contract.Lifetimes.{Lfts}
use Rattle.theorems.specs.Determined.{AsksNothing}
use Rattle.sneupelaar.proofs.sneupelaar_settle.Reads as sneupelaar_settle
use Rattle.sneupelaar.proofs.sneupelaar_write.Reads as sneupelaar_write
use Rattle.sneupelaar.proofs.sneupelaar_read.Reads as sneupelaar_read
use Rattle.writer.proofs.boundary.sneupelaar_write_hour.Reads as sneupelaar_write_hour
use Rattle.sneupelaar.proofs.sneupelaar_body.Reads as sneupelaar_body
use Rattle.explain.proofs.boundary.sneupelaar_explain.Reads as sneupelaar_explain
use Rattle.tenminutes.proofs.boundary.sneupelaar_settle_ten_minutes.Reads as sneupelaar_settle_ten_minutes
use Rattle.pool.proofs.settle.Reads as settle
use Rattle.pool.proofs.settle_unlined.Reads as settle_unlined
use Rattle.explain.proofs.explain.Reads as explain
use Rattle.writer.proofs.write_hour.Reads as write_hour
use Rattle.amount.proofs.write.Reads as write
use Rattle.amount.proofs.read.Reads as read
use Rattle.hour.proofs.body.Reads as body
use Rattle.tenminutes.proofs.settle.Reads as settle_ten_minutes
use Rattle.examine.proofs.examine.Reads as examine
use Rattle.examine.proofs.examine_ten_minutes.Reads as examine_ten_minutes
use Rattle.report.proofs.statement.put_statement.Reads as statement
use Rattle.report.proofs.explanation.put_explanation.Reads as explanation
use Rattle.report.proofs.written.put_written_hour.Reads as write_raw

-- ---- the functions for C

pub asks_nothing_sneupelaar_settle : (κs : Lfts 6) → AsksNothing (sneupelaar_settle.Asked κs)
asks_nothing_sneupelaar_settle κs a = tt

pub asks_nothing_sneupelaar_write : (κs : Lfts 1) → AsksNothing (sneupelaar_write.Asked κs)
asks_nothing_sneupelaar_write κs a = tt

pub asks_nothing_sneupelaar_read : (κs : Lfts 1) → AsksNothing (sneupelaar_read.Asked κs)
asks_nothing_sneupelaar_read κs a = tt

pub asks_nothing_sneupelaar_write_hour : (κs : Lfts 3) → AsksNothing (sneupelaar_write_hour.Asked κs)
asks_nothing_sneupelaar_write_hour κs a = tt

pub asks_nothing_sneupelaar_body : (κs : Lfts 1) → AsksNothing (sneupelaar_body.Asked κs)
asks_nothing_sneupelaar_body κs a = tt

pub asks_nothing_sneupelaar_explain : (κs : Lfts 1) → AsksNothing (sneupelaar_explain.Asked κs)
asks_nothing_sneupelaar_explain κs a = tt

pub asks_nothing_sneupelaar_settle_ten_minutes : (κs : Lfts 2) → AsksNothing (sneupelaar_settle_ten_minutes.Asked κs)
asks_nothing_sneupelaar_settle_ten_minutes κs a = tt

-- ---- settling, explaining, writing, reading

pub asks_nothing_settle : (κs : Lfts 6) → AsksNothing (settle.Asked κs)
asks_nothing_settle κs a = tt

pub asks_nothing_settle_unlined : (κs : Lfts 5) → AsksNothing (settle_unlined.Asked κs)
asks_nothing_settle_unlined κs a = tt

pub asks_nothing_explain : (κs : Lfts 1) → AsksNothing (explain.Asked κs)
asks_nothing_explain κs a = tt

pub asks_nothing_write_hour : (κs : Lfts 3) → AsksNothing (write_hour.Asked κs)
asks_nothing_write_hour κs a = tt

pub asks_nothing_write : (κs : Lfts 1) → AsksNothing (write.Asked κs)
asks_nothing_write κs a = tt

pub asks_nothing_read : (κs : Lfts 1) → AsksNothing (read.Asked κs)
asks_nothing_read κs a = tt

pub asks_nothing_body : (κs : Lfts 1) → AsksNothing (body.Asked κs)
asks_nothing_body κs a = tt

pub asks_nothing_settle_ten_minutes : (κs : Lfts 2) → AsksNothing (settle_ten_minutes.Asked κs)
asks_nothing_settle_ten_minutes κs a = tt

pub asks_nothing_examine_ten_minutes : (κs : Lfts 1) → AsksNothing (examine_ten_minutes.Asked κs)
asks_nothing_examine_ten_minutes κs a = tt

pub asks_nothing_examine : (κs : Lfts 1) → AsksNothing (examine.Asked κs)
asks_nothing_examine κs a = tt

-- ---- what the programs print

pub asks_nothing_put_statement : (κs : Lfts 2) → AsksNothing (statement.Asked κs)
asks_nothing_put_statement κs a = tt

pub asks_nothing_put_explanation : (κs : Lfts 2) → AsksNothing (explanation.Asked κs)
asks_nothing_put_explanation κs a = tt

pub asks_nothing_put_written_hour : (κs : Lfts 2) → AsksNothing (write_raw.Asked κs)
asks_nothing_put_written_hour κs a = tt
