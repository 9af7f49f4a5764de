-- The digits are counted, then put before the place where they end.
use Prim.Native.Nat.{◌+◌, ◌-◌}
use mathlib.Core.Path.{◌≡◌, ◌∙◌, refl}
use native.Mathlib.Omega.{arith}
use lib.ListN.{length}
use Rattle.rules.specs.Text.{decimal}
use Rattle.rules.proofs.Digits.{decimal_at_most_20}
use Rattle.printing.proofs.Pages.{adds}
use Rattle.printing.proofs.page.Page.number.Goals as goal

pub overflow_add-self : goal.overflow_add-self
overflow_add-self c = omega (arith, decimal_at_most_20 c.args.number, c.digits.ensures, c.requires)

pub put_digits-requires : goal.put_digits-requires
put_digits-requires c = (omega (arith, c.digits.ensures), omega (arith, decimal_at_most_20 c.args.number, c.digits.ensures, c.requires))

pub returns : goal.returns
returns c =
    let d = c.digits.ensures in
    let at : c.args.self.now.at + c.digits.result - length (decimal c.args.number) ≡ c.args.self.now.at = omega (arith, d) in
    adds 20 refl (record { next_is = omega (arith, d); after_is = c.put_digits.ensures ∙ rw at }) (decimal_at_most_20 c.args.number)
