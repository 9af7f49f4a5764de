-- Every answer with its number and its place, computed.
use mathlib.Core.Path.{refl}
use Rattle.rules.specs.Figures.Numbered.{NumberedRight}

pub numbered_right : NumberedRight
numbered_right = (
  refl,
  (refl, (refl, (refl, (refl, (refl, (refl, (refl, (refl, (refl, (refl, (refl, (refl, (refl, (refl, (refl, tt))))))))))))))),
)
