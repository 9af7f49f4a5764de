-- What the function that puts a program's text answers and leaves.
use Rattle.std.specs.Prelude.{ℕ, ◌≡◌, ◌≤◌, List, length, take}

-- the count is of bytes in the room, and so many at its start are the text
pub record Puts (text : List ℕ) (count : ℕ) (room : List ℕ) : Type 0 where
  pub within : count ≤ length room
  pub are : take count room ≡ text

-- the text of any bytes is that of their first ones
abbrev pub IsOfFirst : (room : ℕ) (text : List ℕ → List ℕ) → Type 0
IsOfFirst room text = (s : List ℕ) → text (take room s) ≡ text s
