-- How figures are stated: what is computed beside what it must be, in lists.
use Rattle.std.specs.Prelude.{◌≡◌, List, [], ◌∷◌}

infix 70 ◌is◌
pub data Case : Type 1 where
  ◌is◌ : {A : Type 0} → A → A → Case

abbrev pub AllRight : List Case → Type 0
AllRight [] = Unit {0}
AllRight ((found is expected) ∷ cases) = (found ≡ expected) × AllRight cases
