-- Every refusal with its number and its place, as figures. Document 01, "Refusal numbers and their order"; document 02, A1, A5 and A6.
use Rattle.std.specs.Prelude.{ℕ, List, [], ◌∷◌, Ok, Err}
use Rattle.rules.specs.declared.Refusal.TheVariants.{BadLength, BadSum, BadBlock, BadHead, BadRecord, BadArea, BadAmount}
use Rattle.rules.specs.declared.Refusal.TheVariants.{OutOfRange, TooNarrow, NotAnAmount, TooShort, NoDemand, NoMember, AboveMaximum}
use Rattle.rules.specs.Refusals.{Verdict, accepted, verdict_of}
use Rattle.rules.specs.declared.Refusal.{Refusal}
use Rattle.rules.specs.Figures.Cases.{Case, ◌is◌, AllRight}

abbrev pub number_and_place : (number place : ℕ) → Verdict
number_and_place number place = record { number = number; place = place }

abbrev pub refused : Refusal → Verdict
refused refusal = verdict_of {T = ℕ} (Err refusal)

abbrev pub answers : List Case
answers =
    accepted is number_and_place 0 0
    ∷ verdict_of {T = ℕ} (Ok 7) is number_and_place 0 0
    ∷ refused BadLength is number_and_place 1 0
    ∷ refused (BadSum 25) is number_and_place 2 25
    ∷ refused (BadBlock 24) is number_and_place 3 24
    ∷ refused (BadHead 127) is number_and_place 4 127
    ∷ refused (BadRecord 249) is number_and_place 5 249
    ∷ refused (BadArea 7) is number_and_place 6 7
    ∷ refused (BadAmount 31) is number_and_place 7 31
    ∷ refused OutOfRange is number_and_place 8 0
    ∷ refused TooNarrow is number_and_place 9 0
    ∷ refused NotAnAmount is number_and_place 10 0
    ∷ refused TooShort is number_and_place 11 0
    ∷ refused NoDemand is number_and_place 12 0
    ∷ refused NoMember is number_and_place 13 0
    ∷ refused (AboveMaximum 248) is number_and_place 14 248
    ∷ []

abbrev pub NumberedRight : Type 0
NumberedRight = AllRight answers
