-- `amount::decimal::put_digits` meets its contract: the digits stand at the end of the text, and are put from there.
use Prim.Native.Nat.{ℕ, ◌+◌, ◌-◌}
use mathlib.Core.Path.{◌≡◌}
use mathlib.Core.List.{List}
use native.Mathlib.Omega.{arith}
use lib.ListN.{length, take, drop, replicate}
use lib.Seq.{sets, length-sets, length-take-le, drop_at}
use Rattle.whole.proofs.Stores.{stored_to_the_end}
use Rattle.rules.specs.Text.{decimal}
use Rattle.rules.proofs.Digits.{decimal_at_most_20}
use Rattle.amount.proofs.decimal.put_digits.Goals as goal

-- what is stored up to the end is what stands there
stored_there : (d l : List ℕ) (i : ℕ) → i + length d ≡ length l → drop i (sets l i d) ≡ d
stored_there d l i e = rw (stored_to_the_end d l i e) (drop_at (take i l) d i (length-take-le i l (omega arith)))

pub write_digits-first-requires : goal.write_digits-first-requires
write_digits-first-requires c = omega (arith, decimal_at_most_20 c.args.left)

pub put_text-requires : goal.put_text-requires
put_text-requires c =
    let w = c.write_digits-first in
    let d = decimal c.args.left in
    let whole : length w.new.text ≡ 20 = rw w.ensures.text (length-sets (replicate 20 0) (20 - length d) d) in
    omega (arith, w.ensures.first)

pub returns : goal.returns
returns c =
    let w = c.write_digits-first in
    let d = decimal c.args.left in
    let few = decimal_at_most_20 c.args.left in
    let count : 20 - (20 - length d) ≡ length d = omega arith in
    rw (w.ensures.text, w.ensures.first, count, stored_there d (replicate 20 0) (20 - length d) (omega arith))
    at c.put_text.ensures
