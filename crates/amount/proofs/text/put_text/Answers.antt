-- The bytes copied stand in their places, the others are as they were.
use mathlib.Core.Path.{◌≡◌, sym, ◌∙◌}
use mathlib.Core.List.{List, append_assoc}
use Prim.Native.Nat.{ℕ, ◌+◌, ◌-◌, ◌≤◌}
use native.Mathlib.Omega.{arith}
use lib.ListN.{length, take, length-drop}
use lib.Seq.{sets, sets-eq}
use borrow.Rule.Slice.PartMut.{put_mid, Post-is}
use Rattle.amount.proofs.Left.{rest_is}
use Rattle.amount.proofs.text.put_text.Goals as goal

put-in : (f : List ℕ) (start end : ℕ) {x t : List ℕ} → x ≡ t → start + length t ≡ end → end ≤ length f →
    put_mid start (end - start) f x ≡ sets f start t
put-in f start end {x} {t} e long h =
    rw (e, Post-is start end f (omega arith), ← long) (sym (sets-eq t f start (omega arith) ∙ append_assoc (take start f) t _))

pub returns : goal.returns
returns c = let a = c.args in
    put-in a.field.now (a.end - a.count) a.end (c.copy_from_slice.ensures.after ∙ rest_is 20 (20 - a.count) a.text.now (sym c.told-text))
    (simp length-drop (omega (arith, c.requires.0))) (omega arith)
