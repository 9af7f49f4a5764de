-- Nothing is asked of a caller in C, where nothing would check it: a `requires` on an exported function is refused here.
use contract.Lifetimes.{Lfts}
use Rattle.theorems.specs.Determined.{AsksNothing}
use Rattle.sneupelaar_c.proofs.sneupelaar_settle.Reads as sneupelaar_settle
use Rattle.sneupelaar_c.proofs.sneupelaar_write.Reads as sneupelaar_write
use Rattle.sneupelaar_c.proofs.sneupelaar_read.Reads as sneupelaar_read
use Rattle.sneupelaar_c.proofs.sneupelaar_body.Reads as sneupelaar_body

pub asks_nothing_sneupelaar_settle : (κs : Lfts 6) → AsksNothing (sneupelaar_settle.Asked κs)
asks_nothing_sneupelaar_settle κs a = tt

pub asks_nothing_sneupelaar_write : (κs : Lfts 1) → AsksNothing (sneupelaar_write.Asked κs)
asks_nothing_sneupelaar_write κs a = tt

pub asks_nothing_sneupelaar_read : (κs : Lfts 1) → AsksNothing (sneupelaar_read.Asked κs)
asks_nothing_sneupelaar_read κs a = tt

pub asks_nothing_sneupelaar_body : (κs : Lfts 1) → AsksNothing (sneupelaar_body.Asked κs)
asks_nothing_sneupelaar_body κs a = tt
