-- Out of range, too narrow, or written; each way answers as `write` of `rules` does.
use Prim.Native.Nat.{ℕ, ◌+◌, ◌-◌, ◌≤◌}
use mathlib.Core.Path.{◌≡◌, refl, ◌∙◌, ap}
use mathlib.Core.List.{List, ◌++◌, append_assoc}
use native.Mathlib.Omega.{arith}
use lib.IntN.{ℤ, nat_abs}
use lib.ListN.{length, drop, replicate, length-replicate, replicate-append-replicate}
use lib.Seq.{drop_at}
use Rattle.whole.proofs.Machine.{read_back}
use Rattle.rules.specs.Text.{amount_field, amount_text}
use Rattle.rules.proofs.Text.{text_fits_14, write_out_of_range, write_too_narrow, write_accepted_at}
use Rattle.amount.proofs.write.Goals as goal
use Rattle.amount.proofs.write.Goals.{After-unsigned_abs, After-write_amount-length}

-- ---- an amount's text in another width: more blanks, or fewer

fewer-blanks : (k m : ℕ) (t : List ℕ) → drop k (replicate (k + m) 32 ++ t) ≡ replicate m 32 ++ t
fewer-blanks k m t = rw (← replicate-append-replicate {A = ℕ} k m 32, append_assoc)
    (drop_at (replicate k 32) (replicate m 32 ++ t) k (length-replicate k 32))

at_width : (z : ℤ) (w : ℕ) → length (amount_text z) ≤ 14 → length (amount_text z) ≤ w →
    replicate (w - 14) 32 ++ drop (6 + (14 - w)) (amount_field 20 z) ≡ amount_field w z
unfolding amount_field
at_width z w short fits =
    let m = 14 - length (amount_text z) - (14 - w) in
    let cut : 20 - length (amount_text z) ≡ 6 + (14 - w) + m = omega arith in
    let blanks : w - 14 + m ≡ w - length (amount_text z) = omega arith in
    rw (cut, fewer-blanks (6 + (14 - w)) m (amount_text z), ← append_assoc, replicate-append-replicate {A = ℕ} (w - 14) m 32, blanks)

-- ---- the needs

-- the size that the code computes; then the range that it is in, and the length and the text that were written
sized : (c : goal.After-unsigned_abs) → c.unsigned_abs.result ≡ nat_abs c.args.cents
sized c = c.unsigned_abs.ensures.value ∙ ap nat_abs (read_back c.ranges.cents)

range : (c : goal.After-write_amount-length) → nat_abs c.args.cents ≤ 999999999999
range c = let e : c.unsigned_abs.result ≡ nat_abs c.args.cents = c.unsigned_abs.ensures.value ∙ ap nat_abs (read_back c.ranges.cents) in omega arith

written : (c : goal.After-write_amount-length) → let z = c.args.cents in
    (length (amount_text z) ≤ 14) × (c.write_amount-length.result ≡ length (amount_text z)) × (c.write_amount-length.new.text ≡ amount_field 20 z)
written c =
    let w = rw (read_back c.ranges.cents) at c.write_amount-length.ensures in
    (text_fits_14 c.args.cents (range c), w.length, w.text)

-- Err(Refusal::OutOfRange)
pub returns-then-unsigned_abs-gt999999999999 : goal.returns-then-unsigned_abs-gt999999999999
returns-then-unsigned_abs-gt999999999999 c =
    rw (write_out_of_range c.args.field.now c.args.cents (omega (arith, sized (goal.at.returns-then-unsigned_abs-gt999999999999 c).After-unsigned_abs))) record {
      verdict = refl;
      field = refl;
    }

-- Err(Refusal::TooNarrow)
pub returns-then-field-length : goal.returns-then-field-length
returns-then-field-length c =
    let s = c.args in
    let w = written (goal.at.returns-then-field-length c).After-write_amount-length in
    rw (write_too_narrow s.field.now s.cents (range (goal.at.returns-then-field-length c).After-write_amount-length) (omega (arith, w.0, w.1))) record {
      verdict = refl;
      field = refl;
    }

-- Ok(())
pub returns : goal.returns
returns c =
    let s = c.args in
    let r = range (goal.at.returns c).After-write_amount-length in
    let w = written (goal.at.returns c).After-write_amount-length in
    let fits : length (amount_text s.cents) ≤ length s.field.now = omega (arith, w.0, w.1) in
    rw (write_accepted_at s.field.now s.cents r fits)
    record {
      verdict = refl;
      field = c.put.ensures ∙ rw w.2 (at_width s.cents (length s.field.now) w.0 fits);
    }
