-- From the contracts of `write` and `read` alone: what was written is read as that amount, what was read is written again as the same
-- bytes, and no second result fits either.
use mathlib.Core.Path.{◌≡◌, refl, sym, ◌∙◌, ap, ap₂}
use mathlib.Core.List.{List}
use Prim.Native.Nat.{ℕ}
use lib.IntN.{ℤ}
use lib.ListN.{length}
use Rattle.std.specs.Prelude.{Result, Ok}
use Rattle.rules.specs.declared.Refusal.{Refusal}
use Rattle.rules.specs.Refusals.{accepted}
use Rattle.rules.specs.Settling.{Written, ReadAmount, write, read, amount_of}
use Rattle.rules.proofs.Rows.{one_answer}
use Rattle.rules.proofs.Text.{written_read, read_written}
use Rattle.amount.specs.Promised.{Wrote, HasRead}

-- ---- no second result fits

pub one_writing : (f : List ℕ) (z : ℤ) (a b : Result Unit Refusal) (g h : List ℕ) → Wrote f z a g → Wrote f z b h → (a ≡ b) × (g ≡ h)
one_writing f z a b g h v w = (one_answer (λ r. tt) (λ x. refl) a b (v.verdict_is ∙ sym w.verdict_is) refl, v.field_is ∙ sym w.field_is)

pub one_reading : (s : List ℕ) (r t : Result ℤ Refusal) → HasRead s r → HasRead s t → r ≡ t
one_reading s r t v w = one_answer amount_of (λ z. refl) r t (v.verdict_is ∙ sym w.verdict_is) (v.amount_is ∙ sym w.amount_is)

-- ---- written, then read

pub written_is_read : (f g : List ℕ) (z : ℤ) (r : Result ℤ Refusal) → Wrote f z (Ok tt) g → HasRead g r → r ≡ Ok z
written_is_read f g z r w h = one_reading g r (Ok z) h (record {
  verdict_is = sym (ap (λ (a : ReadAmount). a.verdict) reads);
  amount_is = sym (ap (λ (a : ReadAmount). a.amount) reads);
})
  where
    reads : read g ≡ record { verdict = accepted; amount = z }
    reads = ap read w.field_is ∙ written_read f z (sym w.verdict_is)

-- ---- read, then written at the same width

pub read_is_written : (s f g : List ℕ) (z : ℤ) (a : Result Unit Refusal) → HasRead s (Ok z) → length f ≡ length s → Wrote f z a g →
    (a ≡ Ok tt) × (g ≡ s)
read_is_written s f g z a h l w = one_writing f z a (Ok tt) g s w (record {
  verdict_is = sym (ap (λ (v : Written). v.verdict) writes);
  field_is = sym (ap (λ (v : Written). v.field) writes);
})
  where
    writes : write f z ≡ record { verdict = accepted; field = s }
    writes = read_written s f z (ap₂ (λ v (y : ℤ). record { verdict = v; amount = y }) (sym h.verdict_is) (sym h.amount_is)) l
