-- A loop that adds to one of the first k places of a buffer a turn, in each to what stood there: its invariant, and what a turn and the end
-- make of it.
use mathlib.Core.Path.{◌≡◌, sym, ◌∙◌, ap}
use mathlib.Core.Bool.{cond}
use mathlib.Core.List.{List}
use Prim.Native.Nat.{ℕ, ◌+◌, ◌≤◌, ◌<◌, zero-le}
use native.Mathlib.Omega.{arith}
use lib.Dec.{eqb}
use lib.IntN.{ℤ, pos, ◌+ℤ◌}
use lib.ListN.{length, get_or, set}
use Rattle.whole.specs.Below.{sum_below, total_below, replacing_first}
use Rattle.whole.proofs.Sums.{grown_if, sum_none, sum_add_one}
use Rattle.whole.proofs.Totals.{added_if, total_none, total_add_one}
use Rattle.whole.proofs.Buffers.{get_or_replacing, length_replacing, replacing_ext, replacing_same, replacing_changed}

-- i of the n turns are over: place m holds `after i m`, and the places past the first k are as they were
pub record Added {ℓ} {A : Type ℓ} (after : ℕ → ℕ → A) (k n i : ℕ) (old out : List A) : Type ℓ where
  pub reached : i ≤ n
  pub room : k ≤ length old
  pub holds : out ≡ replacing_first (after i) k old

module _ {ℓ} {A : Type ℓ} {after : ℕ → ℕ → A} {k n : ℕ} {old : List A} where
  none_added : (d : A) → k ≤ length old → ((m : ℕ) → m < k → after 0 m ≡ get_or old m d) → Added after k n 0 old old
  none_added d room same = record { reached = zero-le; room = room; holds = sym (replacing_same (after 0) k old d room same) }

  module _ {i : ℕ} {out : List A} (added : Added after k n i old out) where
    pub added_length : length out ≡ length old
    added_length = ap length added.holds ∙ length_replacing (after i) k old added.room

    pub added_at : (m : ℕ) (d : A) → m < k → get_or out m d ≡ after i m
    added_at m d l = rw added.holds (get_or_replacing (after i) k old m d l)

    -- place m is changed to g of what it held
    next_changed : (g : A → A) (d : A) (m : ℕ) → m < k → i < n →
        ((j : ℕ) → j < k → cond (eqb m j) (g (after i j)) (after i j) ≡ after (i + 1) j) →
        Added after k n (i + 1) old (set out m (g (get_or out m d)))
    next_changed g d m l turn same = record {
      reached = omega arith;
      room = added.room;
      holds = rw added.holds (replacing_changed g (after i) k old m d l ∙ replacing_ext _ (after (i + 1)) k old same);
    }

    pub all_added : n ≤ i → out ≡ replacing_first (after n) k old
    all_added ended = added.holds ∙ ap (λ t. replacing_first (after t) k old) all_turns
      where
        all_turns : i ≡ n
        all_turns = omega arith

-- ---- f's values, each to the place that it is of

module _ (of : ℕ → ℕ) (f : ℕ → ℕ) where
  abbrev pub sums_by : ℕ → ℕ → ℕ
  sums_by i m = sum_below (λ j. cond (eqb (of j) m) (f j) 0) i

  module _ {k n : ℕ} {old : List ℕ} where
    pub no_sum_added : k ≤ length old → ((m : ℕ) → m < k → get_or old m 0 ≡ 0) → Added sums_by k n 0 old old
    no_sum_added room zeros = none_added 0 room (λ m l. sum_none _ ∙ sym (zeros m l))

    pub next_sum : {i : ℕ} {out : List ℕ} {m d : ℕ} → Added sums_by k n i old out → i < n → of i < k → m ≡ of i → d ≡ f i →
        Added sums_by k n (i + 1) old (set out m (get_or out m 0 + d))
    next_sum {i} {out} added turn there at is = rw (at, is) (next_changed added (λ x. x + f i) 0 (of i) there turn (λ j l.
        grown_if (eqb (of i) j) (sums_by i j) (f i) ∙ sym (sum_add_one _ i)))

module _ (of : ℕ → ℕ) (f : ℕ → ℤ) where
  abbrev pub totals_by : ℕ → ℕ → ℤ
  totals_by i m = total_below (λ j. cond (eqb (of j) m) (f j) (pos 0)) i

  module _ {k n : ℕ} {old : List ℤ} where
    pub no_total_added : k ≤ length old → ((m : ℕ) → m < k → get_or old m (pos 0) ≡ pos 0) → Added totals_by k n 0 old old
    no_total_added room zeros = none_added (pos 0) room (λ m l. total_none _ ∙ sym (zeros m l))

    pub next_total : {i : ℕ} {out : List ℤ} {m : ℕ} {v : ℤ} → Added totals_by k n i old out → i < n → of i < k → m ≡ of i →
        v ≡ totals_by i (of i) +ℤ f i → Added totals_by k n (i + 1) old (set out m v)
    next_total {i} {out} added turn there at is =
        rw (is, ← added_at added (of i) (pos 0) there, at) (next_changed added (λ x. x +ℤ f i) (pos 0) (of i) there turn (λ j l.
        added_if (eqb (of i) j) (totals_by i j) (f i) ∙ sym (total_add_one _ i)))
