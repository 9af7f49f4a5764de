-- Nothing is asked of a caller in C, where nothing would check it: a `requires` on an exported function is refused here.
use contract.Lifetimes.{Lfts}
use Rattle.theorems.specs.Determined.{AsksNothing}
use Rattle.explain_c.proofs.sneupelaar_explain.Reads as sneupelaar_explain

pub asks_nothing_sneupelaar_explain : (κs : Lfts 1) → AsksNothing (sneupelaar_explain.Asked κs)
asks_nothing_sneupelaar_explain κs a = tt
