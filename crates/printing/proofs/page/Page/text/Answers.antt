-- The part that is lent comes back as the text.
use mathlib.Core.Path.{refl}
use native.Mathlib.Omega.{arith}
use lib.ListN.{length}
use Prim.Native.Nat.{◌+◌}
use Rattle.printing.proofs.Putting.{part_put, put_as}
use Rattle.printing.proofs.Pages.{adds}
use Rattle.printing.proofs.page.Page.text.Goals as goal

pub returns : goal.returns
returns c =
    let p = c.args.self.now in
    adds _ refl (put_as c.copy_from_slice.ensures.after (part_put p.out.now _ p.at (p.at + length c.args.text.now) (omega arith) c.requires (omega (arith, c.copy_from_slice.ensures.len)))) (omega arith)
