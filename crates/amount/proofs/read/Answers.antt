-- No amount is row 10 of the table, and an amount is itself.
use mathlib.Core.Path.{◌≡◌, refl}
use lib.IntN.{ℤ}
use Rattle.std.specs.Prelude.{Option, None, Some, ok_or}
use Rattle.rules.specs.declared.Refusal.TheVariants.{NotAnAmount}
use Rattle.rules.specs.Text.{amount_in}
use Rattle.rules.specs.Refusals.{verdict_of}
use Rattle.rules.specs.Settling.{amount_of, or_refused, read}
use Rattle.amount.proofs.read.Goals as goal

verdict-told : (o : Option ℤ) → verdict_of (ok_or o NotAnAmount) ≡ (or_refused o).verdict
verdict-told None = refl
verdict-told (Some z) = refl

amount-told : (o : Option ℤ) → amount_of (ok_or o NotAnAmount) ≡ (or_refused o).amount
amount-told None = refl
amount-told (Some z) = refl

pub returns : goal.returns
unfolding read
returns c = rw (c.ok_or.ensures.value, c.amount.ensures) record {
  verdict = verdict-told (amount_in c.args.field.now);
  amount = amount-told (amount_in c.args.field.now);
}
