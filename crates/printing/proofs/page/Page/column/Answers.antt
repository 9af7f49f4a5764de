-- The part that is lent comes back as the amount's field.
use mathlib.Core.Path.{◌≡◌, ◌∙◌, ap, refl}
use Prim.Native.Nat.{◌+◌, ◌-◌}
use native.Mathlib.Omega.{arith}
use borrow.Rule.Slice.PartMut.{mid_of, mid_len}
use lib.ListN.{length, replicate}
use Rattle.whole.proofs.Machine.{read_back}
use Rattle.rules.specs.Settling.{write}
use Rattle.rules.specs.Statement.{column}
use Rattle.rules.proofs.Text.{field_has_width, written_in_14}
use Rattle.rules.proofs.Stated.{column_width}
use Rattle.printing.proofs.Putting.{put_as, part_put}
use Rattle.printing.proofs.Pages.{adds}
use Rattle.printing.proofs.page.Page.column.Goals as goal

pub returns : goal.returns
unfolding column
returns c =
    let w = c.write in
    let o = c.args.self.now.out.now in
    let at = c.args.self.now.at in
    let part : length (mid_of at (at + 14 - at) o) ≡ 14 = mid_len at (at + 14) o c.requires.0 ∙ omega arith in
    let field : w.new.field ≡ (write (replicate 14 32) c.args.cents).field =
    w.ensures.field ∙ rw (read_back c.ranges.cents) (written_in_14 (mid_of at (at + 14 - at) o) c.args.cents part c.requires.1) in
    let width : length w.new.field ≡ at + 14 - at = ap length field ∙ field_has_width (replicate 14 32) c.args.cents ∙ omega arith in
    adds 14 refl (put_as field (part_put o w.new.field at (at + 14) (omega arith) c.requires.0 width)) (omega (arith, column_width c.args.cents))
