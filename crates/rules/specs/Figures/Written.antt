-- What the program write_hour prints, as figures: the head and records of document 01's printed case give its file, and a byte too many is
-- refused. Document 02, A2.
use Rattle.std.specs.Prelude.{ℕ, List, [], ◌∷◌, ◌++◌, take, drop}
use Rattle.rules.specs.Text.{bytes}
use Rattle.rules.specs.RawHour.{raw_written}
use Rattle.rules.specs.Figures.Cases.{Case, ◌is◌, AllRight}
use Rattle.rules.specs.Figures.Printed.{printed_file}

-- the 480 bytes of the first body, and two records of 48 bytes from the second
unfoldable pub printed_words : List ℕ
printed_words = take 480 (drop 32 printed_file) ++ take 96 (drop 544 printed_file)

unfoldable pub written_cases : List Case
written_cases =
    raw_written printed_words is printed_file
    ∷ raw_written (printed_words ++ 0 ∷ []) is bytes "refused 1 at 0\n"
    ∷ []

abbrev pub WrittenRight : Type 0
WrittenRight = AllRight written_cases
