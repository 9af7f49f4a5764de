-- The sign where there is one, and the digits of the size.
use mathlib.Core.Path.{◌≡◌, ◌∙◌, ap, subst}
use native.Mathlib.Omega.{arith}
use mathlib.Core.List.{◌++◌}
use lib.IntN.{nat_abs}
use Rattle.printing.specs.declared.page.Page.{Page}
use Rattle.rules.specs.Text.{bytes, decimal}
use Rattle.printing.specs.Page.{Adds}
use Rattle.rules.proofs.Worded.{signed_below, signed_from_0}
use Rattle.whole.proofs.Machine.{below_0, from_0, read_back}
use Rattle.printing.proofs.Pages.{adds_on, adds_as, adds_within}
use Rattle.printing.proofs.page.Page.signed.Goals as goal
use Rattle.printing.proofs.page.Page.signed.Goals.{then-number-lt0, else-number-lt0}

size : (c : goal.After-number) → c.unsigned_abs.result ≡ nat_abs c.args.number
size c = c.unsigned_abs.ensures.value ∙ ap nat_abs (read_back c.ranges.number)

pub returns : goal.returns
returns c =
    let digits = λ (p : Page) (e : c.if-number-lt0.self ≡ p). subst (λ q. Adds q c.number.new.self 20 (decimal c.unsigned_abs.result)) e c.number.ensures in
    elim c.if-number-lt0.branch [
      | then-number-lt0 w ↦
          let says = ap (λ k. bytes "-" ++ decimal k) (size c) ∙ signed_below c.args.number (below_0 c.ranges.number w.if-number-lt0.true) in
          adds_as says (adds_on w.text.ensures (digits w.text.new.self w.self-is))
      | else-number-lt0 w ↦
          let says = ap decimal (size c) ∙ signed_from_0 c.args.number (from_0 c.ranges.number w.if-number-lt0.false) in
          adds_within 21 (omega arith) (adds_as says (digits c.args.self.now w.self-is))
    ]
