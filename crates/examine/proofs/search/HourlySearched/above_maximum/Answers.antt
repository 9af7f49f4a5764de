-- `examine::search::Hourly::above_maximum` meets its contract: only a generator is asked.
use Rattle.std.proofs.Common.{◌≡◌, false, refl, ◌∙◌, ap}
use Rattle.rules.specs.declared.Kind.{Kind}
use Rattle.rules.specs.declared.Kind.TheVariants.{Generator, RealTimeLoad, ProfileLoad, Import, Export, Unknown}
use Rattle.rules.specs.Record.{kind_of, is_generator}
use Rattle.rules.specs.Refusals.{scheduled_above}
use Rattle.examine.proofs.search.HourlySearched.above_maximum.Goals as goal

no_generator : (kind : Kind) → (kind ≡ Generator → ⊥) → is_generator kind ≡ false
no_generator Generator other = absurd (other refl)
no_generator RealTimeLoad other = refl
no_generator ProfileLoad other = refl
no_generator Import other = refl
no_generator Export other = refl
no_generator Unknown other = refl

pub returns-in_default : goal.returns-in_default
unfolding scheduled_above
returns-in_default g c =
    let is = c.from-kind.ensures ∙ ap kind_of c.word.ensures in
    rw (← is, no_generator c.from-kind.result c.in_default.not-Generator)
