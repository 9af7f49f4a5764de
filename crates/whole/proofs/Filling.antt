-- A loop that fills the first n places of a buffer with f's values, one place a turn: its invariant, and what a turn and the end make of
-- it.
use mathlib.Core.Path.{◌≡◌, sym, ◌∙◌, ap, subst}
use mathlib.Core.List.{List}
use Prim.Native.Nat.{ℕ, ◌+◌, ◌≤◌, ◌<◌, zero-le}
use native.Mathlib.Nat.{le_refl}
use native.Mathlib.Omega.{arith}
use lib.ListN.{length, get_or, set}
use lib.Seq.{set-get_or}
use Rattle.whole.specs.Below.{values_below, replacing_first}
use Rattle.whole.proofs.Buffers.{replacing_none, replacing_all, written_length, written_next, unwritten}

-- i of the n places are filled, and the others are as they were
pub record Filled {ℓ} {A : Type ℓ} (f : ℕ → A) (n i : ℕ) (old out : List A) : Type ℓ where
  pub reached : i ≤ n
  pub room : n ≤ length old
  pub holds : out ≡ replacing_first f i old

module _ {ℓ} {A : Type ℓ} {f : ℕ → A} {n : ℕ} {old : List A} where
  pub none_filled : n ≤ length old → Filled f n 0 old old
  none_filled room = record { reached = zero-le; room = room; holds = sym (replacing_none f old) }

  module _ {i : ℕ} {out : List A} (filled : Filled f n i old out) where
    pub filled_length : length out ≡ length old
    filled_length = written_length f i old out filled.holds (omega arith)

    pub place_there : i < n → i < length out
    place_there l = omega (arith, filled_length)

    pub next_filled : {v : A} → i < n → v ≡ f i → Filled f n (i + 1) old (set out i v)
    next_filled {v} l e = record {
      reached = omega arith;
      room = filled.room;
      holds = written_next f i old out filled.holds v (omega arith) e;
    }

    -- what the coming turns will fill is as it was
    pub not_yet_filled : (k : ℕ) (d : A) → i ≤ k → get_or out k d ≡ get_or old k d
    not_yet_filled = unwritten f i old out filled.holds

    -- a place that is to hold what it held is passed over
    pub passed_over : (d : A) → i < n → f i ≡ get_or old i d → Filled f n (i + 1) old out
    passed_over d l kept =
        subst (Filled f n (i + 1) old) (set-get_or out i d) (next_filled l (not_yet_filled i d (le_refl i) ∙ sym kept))

    -- the loop has ended
    module _ (ended : n ≤ i) where
      all_reached : i ≡ n
      all_reached = omega arith

      pub first_filled : out ≡ replacing_first f n old
      first_filled = filled.holds ∙ ap (λ k. replacing_first f k old) all_reached

      -- where there are no other places
      pub all_filled : length old ≡ n → out ≡ values_below f n
      all_filled e = first_filled ∙ replacing_all f n old e
