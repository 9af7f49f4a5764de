-- Nothing is asked of a caller in C, where nothing would check it: a `requires` on an exported function is refused here.
use contract.Lifetimes.{Lfts}
use Rattle.theorems.specs.Determined.{AsksNothing}
use Rattle.writer_c.proofs.sneupelaar_write_hour.Reads as sneupelaar_write_hour

pub asks_nothing_sneupelaar_write_hour : (κs : Lfts 3) → AsksNothing (sneupelaar_write_hour.Asked κs)
asks_nothing_sneupelaar_write_hour κs a = tt
