-- Nothing is asked of a caller in C, where nothing would check it: a `requires` on an exported function is refused here.
use contract.Lifetimes.{Lfts}
use Rattle.theorems.specs.Determined.{AsksNothing}
use Rattle.tenminutes_c.proofs.sneupelaar_settle_ten_minutes.Reads as sneupelaar_settle_ten_minutes

pub asks_nothing_sneupelaar_settle_ten_minutes : (κs : Lfts 2) → AsksNothing (sneupelaar_settle_ten_minutes.Asked κs)
asks_nothing_sneupelaar_settle_ten_minutes κs a = tt
