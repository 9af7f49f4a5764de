-- The answers of the reader's parts as the parts of document 01, "Text amounts": a value and what is left of the field after it, or none.
use Rattle.std.specs.Prelude.{ℕ, List, drop, Option, None, Some}
use Rattle.rules.specs.Text.{Part}
use Rattle.amount.specs.declared.reading.Cursor.{Cursor}

-- a part of the definitions, whose next place is one of this field
abbrev pub part_of : {A : Type 0} → List ℕ → Option (Part A) → Option (A × List ℕ)
part_of s None = None
part_of s (Some part) = Some (part.value, drop part.next s)

-- what the code answered
abbrev pub taken : {A : Type 0} → Option (A × Cursor) → Option (A × List ℕ)
taken None = None
taken (Some part) = Some (part.0, part.1.left.now)
