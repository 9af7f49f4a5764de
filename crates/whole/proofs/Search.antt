-- Laws of the first number below n that passes a test.
use mathlib.Core.Path.{◌≡◌, refl, sym, ◌∙◌, ap, ap₂}
use mathlib.Core.Logic.{◌↔◌}
use mathlib.Core.Bool.{Bool, true, false, cond}
use Rattle.std.specs.Prelude.{Option, None, Some}
use Rattle.std.specs.Option.{option_or}
use Rattle.std.proofs.lemmas.Option.{same_Some}
use Prim.Native.Nat.{ℕ, zero, suc, ◌+◌, ◌≤◌, ◌<◌}
use native.Mathlib.Nat.{not-suc-le-zero}
use native.Mathlib.Numerals.{add-one}
use native.Mathlib.Omega.{arith}
use lib.Dec.{ltb}
use borrow.Author.Tests.{ltb-true, ltb-false}
use Rattle.whole.specs.Below.{first_below}
use Rattle.whole.proofs.Tests.{split, never_some, no_else, last_or_below}

pub first_ext : (p q : ℕ → Bool) (n : ℕ) → ((i : ℕ) → i < n → p i ≡ q i) → first_below p n ≡ first_below q n
unfolding first_below
first_ext p q zero e = refl
first_ext p q (suc n) e =
    ap₂ (λ (o : Option ℕ) (b : Bool). option_or o (cond b (Some n) None)) (first_ext p q n (λ i l. e i (omega arith))) (e n (omega arith))

-- ---- a loop that goes on, at n + 1 and at the code's n + 1, or stops
pub first_on : (p : ℕ → Bool) (i : ℕ) → first_below p i ≡ None → p i ≡ false → first_below p (suc i) ≡ None
unfolding first_below
first_on p i e f = rw (e, f)

pub first_next : (p : ℕ → Bool) (i : ℕ) → first_below p i ≡ None → p i ≡ false → first_below p (i + 1) ≡ None
first_next p i e f = ap (first_below p) (add-one i) ∙ first_on p i e f

pub first_hit : (p : ℕ → Bool) (i n : ℕ) → first_below p i ≡ None → p i ≡ true → i < n → first_below p n ≡ Some i
unfolding first_below
first_hit p i zero e t l = absurd (not-suc-le-zero l)
first_hit p i (suc n) e t l = last_or_below i n l (λ k. rw (← k) (rw (e, t))) (λ k. rw (first_hit p i n e t k))

-- a loop that goes on whatever it has found
pub first_so_far : (p : ℕ → Bool) (i : ℕ) (o : Option ℕ) (b : Bool) → o ≡ first_below p i → b ≡ p i →
    option_or o (cond b (Some i) None) ≡ first_below p (i + 1)
unfolding first_below
first_so_far p i o b e f = ap₂ (λ (o : Option ℕ) (b : Bool). option_or o (cond b (Some i) None)) e f ∙ sym (ap (first_below p) (add-one i))

-- ---- what the search answers
no_pick : (b : Bool) (n : ℕ) → cond b (Some n) None ≡ None → b ≡ false
no_pick true n e = never_some e
no_pick false n e = refl

pub first_none : (p : ℕ → Bool) (n : ℕ) → first_below p n ≡ None → (i : ℕ) → i < n → p i ≡ false
unfolding first_below
first_none p zero e i l = absurd (not-suc-le-zero l)
first_none p (suc n) e i l =
    let f = no_else (first_below p n) (cond (p n) (Some n) None) e in
    last_or_below i n l (λ k. rw k (no_pick (p n) n f.1)) (λ k. first_none p n f.0 i k)

pub none_below : (p : ℕ → Bool) (n : ℕ) → ((i : ℕ) → i < n → p i ≡ false) → first_below p n ≡ None
unfolding first_below
none_below p zero h = refl
none_below p (suc n) h = first_on p n (none_below p n (λ i l. h i (omega arith))) (h n (omega arith))

-- i passes, and nothing before it does
abbrev FirstAt : (ℕ → Bool) → ℕ → ℕ → Type 0
FirstAt p n i = (i < n) × (p i ≡ true) × ((j : ℕ) → j < i → p j ≡ false)

found : (p : ℕ → Bool) (n i : ℕ) → first_below p n ≡ Some i → FirstAt p n i
unfolding first_below
found p zero i e = never_some (sym e)
found p (suc n) i e = step (first_below p n) refl (found p n i) e
  where
    step : (o : Option ℕ) → first_below p n ≡ o → (first_below p n ≡ Some i → FirstAt p n i) → option_or o (cond (p n) (Some n) None) ≡ Some i →
        FirstAt p (suc n) i
    step (Some k) q ih e = let f = ih (q ∙ e) in (omega (arith, f.0), f.1, f.2)
    step None q ih e = split (p n)
        (λ t. let k : n ≡ i = same_Some n i (rw t at e) in rw (← k) (omega arith, t, first_none p n q))
        (λ t. never_some (sym (rw t at e)))

pub first_some : (p : ℕ → Bool) (n i : ℕ) → (first_below p n ≡ Some i) ↔ ((i < n) × (p i ≡ true) × ((j : ℕ) → j < i → p j ≡ false))
first_some p n i = (found p n i, λ f. first_hit p i n (none_below p i f.2) f.1 f.0)

-- ---- a search that is cut off, goes on, or is left to another test

pub first_less : (p : ℕ → Bool) (m n : ℕ) → first_below p m ≡ None → n ≤ m → first_below p n ≡ None
first_less p m n e l = none_below p n (λ i k. first_none p m e i (omega arith))

pub first_more : (p : ℕ → Bool) (n m i : ℕ) → first_below p n ≡ Some i → n ≤ m → first_below p m ≡ Some i
first_more p n m i e l = let f = (first_some p n i).0 e in (first_some p m i).1 (omega (arith, f.0), f.1, f.2)

-- nothing below m: from there on another test may answer, if it too passes nothing below m
pub first_rest : (p q : ℕ → Bool) (m n : ℕ) → first_below p m ≡ None → ((i : ℕ) → i < m → q i ≡ false) →
    ((i : ℕ) → m ≤ i → i < n → p i ≡ q i) → first_below p n ≡ first_below q n
first_rest p q m n e f g = first_ext p q n (λ i l. split (ltb i m)
    (λ t. let k : i < m = ltb-true i m t in first_none p m e i k ∙ sym (f i k))
    (λ t. g i (ltb-false i m t) l))
