-- `amount::text::write_digits` meets its contract: the last digit is stored first, and the others, those of a tenth, before it.
use mathlib.Core.Path.{◌≡◌, refl, sym, ◌∙◌, ap}
use mathlib.Core.List.{List}
use native.Mathlib.Omega.{arith}
use lib.ListN.{length, set}
use lib.Seq.{sets}
use Rattle.whole.proofs.Stores.{stored_last_first}
use Rattle.rules.specs.Text.{decimal, digit_byte}
use Rattle.rules.proofs.Digits.{decimal_at_least_1, decimal_last, decimal_more, decimal_length_more}
use Prim.Native.Nat.{ℕ, ◌+◌, ◌-◌, ◌/◌, ◌%◌, ◌^◌, ◌≤◌, ◌<◌}
use Rattle.amount.proofs.text.+write_digits.Goals as goal

one_more : (f : List ℕ) (end left : ℕ) → left < 10 ^ 20 → (left / 10 ≡ 0 → ⊥) → length (decimal left) ≤ end →
    sets (set f (end - 1) (digit_byte (left % 10))) (end - 1 - length (decimal (left / 10))) (decimal (left / 10))
    ≡ sets f (end - length (decimal left)) (decimal left)
one_more f end left h m l =
    let more = decimal_length_more left h m in
    let at : end - 1 - length (decimal (left / 10)) ≡ end - length (decimal left) = omega arith in
    let last : end - 1 ≡ end - length (decimal left) + length (decimal (left / 10)) = omega arith in
    rw (at, last) (stored_last_first (decimal (left / 10)) f (end - length (decimal left)) (digit_byte (left % 10))
    ∙ ap (λ (ds : List ℕ). sets f (end - length (decimal left)) ds) (sym (decimal_more left h m)))

-- end - 1
pub overflow_sub-at : goal.overflow_sub-at
overflow_sub-at t c = omega (arith, decimal_at_least_1 c.args.left, c.requires)

-- return at
pub returns-then-tenth-eq0 : goal.returns-then-tenth-eq0
returns-then-tenth-eq0 t c = rw (decimal_last c.args.left c.if-tenth-eq0.true, c.last_digit.ensures) record {
  first = refl;
  text = refl;
}

pub write_digits-requires : goal.write_digits-requires
write_digits-requires t c =
    let more = decimal_length_more c.args.left (omega arith) c.if-tenth-eq0.false in
    (omega arith, omega (arith, more))

-- write_digits(text, at, tenth)
pub returns : goal.returns
returns t c =
    let not-zero = c.if-tenth-eq0.false in
    let fits : c.args.left < 10 ^ 20 = omega arith in
    let more = decimal_length_more c.args.left fits not-zero in
    record {
      first = omega (arith, more);
      text = c.write_digits.ensures.text ∙ rw c.last_digit.ensures
          (one_more c.args.text.now c.args.end c.args.left fits not-zero (omega arith));
    }
