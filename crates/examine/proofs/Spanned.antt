-- What spans tell: a record whose spans keep their rules keeps the rule of each of its words.
use mathlib.Core.Path.{◌≡◌, refl}
use mathlib.Core.Bool.{true, false, not}
use Rattle.std.specs.Prelude.{Option, None, Some}
use mathlib.Core.List.{List, [], ◌∷◌, ◌++◌}
use Prim.Native.Nat.{ℕ, zero, suc, ◌≤◌, ◌<◌}
use native.Mathlib.Omega.{arith}
use lib.Dec.{ltb, lit<, lit≤}
use lib.ListN.{get_or}
use borrow.Author.Tests.{le-leb, not-false}
use Rattle.whole.proofs.Tests.{never, both}
use Rattle.whole.proofs.Tables.{EachBelow, at_each}
use Rattle.whole.proofs.Search.{first_none}
use Rattle.rules.specs.declared.Kind.{Kind}
use Rattle.rules.specs.declared.Kind.TheVariants.{Generator, RealTimeLoad, ProfileLoad, Import, Export, Unknown}
use Rattle.rules.specs.declared.Rule.{Rule}
use Rattle.rules.specs.declared.Rule.TheVariants.{Between, LessThan}
use Rattle.rules.specs.Record.{kind_of}
use Rattle.rules.specs.Ranges.{keeps, must_be_zero, energy, adjustment, multiplier, unused, six, ten_minutes_rules_of, ten_minutes_record_rule}
use Rattle.rules.specs.Refusals.{is_broken}
use Rattle.examine.specs.Span.{broken_at, span_keeps, kind_keeps, record_keeps}

-- one more word that keeps its rule
infixl 40 ◌▸◌
abbrev ◌▸◌ : {A B : Type 0} → A → B → A × B
a ▸ b = (a, b)

nowhere : (o : Option ℕ) → not (is_broken o) ≡ true → o ≡ None
nowhere None e = refl
nowhere (Some i) e = never e refl

-- each word from `from` on, up to `to`, keeps a rule
abbrev In : (word : ℕ → ℕ) → Rule → (from to : ℕ) → Type 0
In word rule from to = (w : ℕ) → from ≤ w → w < to → keeps rule (word w) ≡ true

-- a span that keeps its rule
in_span : (word : ℕ → ℕ) (rule : Rule) (from to : ℕ) → span_keeps rule word from to ≡ true → In word rule from to
unfolding span_keeps
in_span word rule from to e w l m = not-false _ (at_w (first_none (broken_at rule word from) to (nowhere _ e) w m))
  where
    at_w : broken_at rule word from w ≡ false → not (keeps rule (word w)) ≡ false
    at_w f = rw (le-leb from w l) at f

module _ (members areas : ℕ) (word : ℕ → ℕ) where
  -- the words that every kind uses, or none
  record Common : Type 0 where
    kind_known : keeps (Between 1 5) (word 0) ≡ true
    member_there : ltb (word 1) members ≡ true
    area_there : ltb (word 2) areas ≡ true
    schedule : span_keeps energy word 3 4 ≡ true
    adjustments : span_keeps adjustment word 14 20 ≡ true
    rest : span_keeps unused word 26 30 ≡ true

  abbrev row : List Rule → ℕ → Rule
  row rules w = get_or (Between 1 5 ∷ LessThan members ∷ LessThan areas ∷ rules) w must_be_zero

  abbrev KeptBy : List Rule → ℕ → Type 0
  KeptBy rules w = keeps (row rules w) (word w) ≡ true

  less_kept : (n v : ℕ) → ltb v n ≡ true → keeps (LessThan n) v ≡ true
  unfolding keeps
  less_kept n v e = e

  -- the rules of the schedules beside, of the multipliers, of the first actual and of the others, and of the ancillary figures
  by_spans : Common → (b m f o a : Rule) → In word b 4 6 → In word m 6 8 → In word f 8 9 → In word o 9 14 → In word a 20 26 →
      EachBelow (KeptBy (energy ∷ b ∷ b ∷ m ∷ m ∷ (f ∷ o ∷ o ∷ o ∷ o ∷ o ∷ []) ++ six adjustment ++ six a)) 30
  by_spans common b m f o a beside multipliers first others ancillary =
      let schedule = in_span word energy 3 4 common.schedule in
      let adjusted = in_span word adjustment 14 20 common.adjustments in
      let zeros = in_span word unused 26 30 common.rest in
      tt ▸ common.kind_known ▸ less_kept members (word 1) common.member_there ▸ less_kept areas (word 2) common.area_there
      ▸ schedule 3 (lit≤ tt) (lit< tt) ▸ beside 4 (lit≤ tt) (lit< tt) ▸ beside 5 (lit≤ tt) (lit< tt)
      ▸ multipliers 6 (lit≤ tt) (lit< tt) ▸ multipliers 7 (lit≤ tt) (lit< tt) ▸ first 8 (lit≤ tt) (lit< tt)
      ▸ others 9 (lit≤ tt) (lit< tt) ▸ others 10 (lit≤ tt) (lit< tt) ▸ others 11 (lit≤ tt) (lit< tt)
      ▸ others 12 (lit≤ tt) (lit< tt) ▸ others 13 (lit≤ tt) (lit< tt) ▸ adjusted 14 (lit≤ tt) (lit< tt)
      ▸ adjusted 15 (lit≤ tt) (lit< tt) ▸ adjusted 16 (lit≤ tt) (lit< tt) ▸ adjusted 17 (lit≤ tt) (lit< tt)
      ▸ adjusted 18 (lit≤ tt) (lit< tt) ▸ adjusted 19 (lit≤ tt) (lit< tt) ▸ ancillary 20 (lit≤ tt) (lit< tt)
      ▸ ancillary 21 (lit≤ tt) (lit< tt) ▸ ancillary 22 (lit≤ tt) (lit< tt) ▸ ancillary 23 (lit≤ tt) (lit< tt)
      ▸ ancillary 24 (lit≤ tt) (lit< tt) ▸ ancillary 25 (lit≤ tt) (lit< tt) ▸ zeros 26 (lit≤ tt) (lit< tt)
      ▸ zeros 27 (lit≤ tt) (lit< tt) ▸ zeros 28 (lit≤ tt) (lit< tt) ▸ zeros 29 (lit≤ tt) (lit< tt)

  each : Common → (K : Kind) → kind_keeps K word ≡ true → EachBelow (KeptBy (ten_minutes_rules_of K)) 30
  unfolding kind_keeps ten_minutes_rules_of
  each common Generator e = let four = both _ _ e in let three = both _ _ four.0 in let two = both _ _ three.0 in
      let actuals = in_span word energy 8 14 three.1 in
      by_spans common energy multiplier energy energy energy (in_span word energy 4 6 two.0) (in_span word multiplier 6 8 two.1)
      (λ w l m. actuals w l (omega arith)) (λ w l m. actuals w (omega arith) m) (in_span word energy 20 26 four.1)
  each common RealTimeLoad e = let four = both _ _ e in let three = both _ _ four.0 in let two = both _ _ three.0 in
      let actuals = in_span word energy 8 14 three.1 in
      by_spans common energy unused energy energy energy (in_span word energy 4 6 two.0) (in_span word unused 6 8 two.1)
      (λ w l m. actuals w l (omega arith)) (λ w l m. actuals w (omega arith) m) (in_span word energy 20 26 four.1)
  each common ProfileLoad e = let four = both _ _ e in let three = both _ _ four.0 in let two = both _ _ three.0 in
      let before-actuals = in_span word unused 4 8 two.0 in
      by_spans common unused unused energy unused energy
      (λ w l m. before-actuals w l (omega arith)) (λ w l m. before-actuals w (omega arith) m)
      (in_span word energy 8 9 two.1) (in_span word unused 9 14 three.1) (in_span word energy 20 26 four.1)
  each common Import e = let four = both _ _ e in let three = both _ _ four.0 in let two = both _ _ three.0 in
      let actuals = in_span word unused 8 14 three.1 in
      by_spans common unused multiplier unused unused energy (in_span word unused 4 6 two.0) (in_span word multiplier 6 8 two.1)
      (λ w l m. actuals w l (omega arith)) (λ w l m. actuals w (omega arith) m) (in_span word energy 20 26 four.1)
  each common Export e = let three = both _ _ e in let two = both _ _ three.0 in
      let before-actuals = in_span word unused 4 8 two.0 in
      let actuals = in_span word energy 8 14 two.1 in
      by_spans common unused unused energy energy unused
      (λ w l m. before-actuals w l (omega arith)) (λ w l m. before-actuals w (omega arith) m)
      (λ w l m. actuals w l (omega arith)) (λ w l m. actuals w (omega arith) m) (in_span word unused 20 26 three.1)
  each common Unknown e = never e refl

  -- a number that names a kind
  known : (k : ℕ) → kind_keeps (kind_of k) word ≡ true → keeps (Between 1 5) k ≡ true
  unfolding kind_of kind_keeps keeps
  known zero e = never e refl
  known (suc zero) e = refl
  known (suc (suc zero)) e = refl
  known (suc (suc (suc zero))) e = refl
  known (suc (suc (suc (suc zero)))) e = refl
  known (suc (suc (suc (suc (suc zero))))) e = refl
  known (suc (suc (suc (suc (suc (suc k)))))) e = never e refl

  pub all_kept : record_keeps members areas word ≡ true → (w : ℕ) → w < 30 →
      keeps (ten_minutes_record_rule members areas (word 0) w) (word w) ≡ true
  unfolding record_keeps ten_minutes_record_rule
  all_kept e w l =
      let all = both _ _ e in
      let five = both _ _ all.0 in
      let four = both _ _ five.0 in
      let three = both _ _ four.0 in
      let two = both _ _ three.0 in
      let common : Common = record {
        kind_known = known (word 0) all.1;
        member_there = two.0;
        area_there = two.1;
        schedule = three.1;
        adjustments = four.1;
        rest = five.1;
      } in
      at_each (KeptBy (ten_minutes_rules_of (kind_of (word 0)))) 30 (each common (kind_of (word 0)) all.1) w l
