-- The rows of a ten-minute record as the tests by which the code chooses from them. Document 02, A7.
use mathlib.Core.Path.{◌≡◌, refl, sym, ◌∙◌, ap}
use mathlib.Core.Bool.{Bool, true, false, cond}
use mathlib.Core.List.{List, ◌∷◌}
use Prim.Native.Nat.{ℕ, ◌+◌, ◌-◌, ◌≤◌}
use native.Mathlib.Omega.{arith}
use lib.ListN.{length, get_or, get_or-eq_default}
use lib.Seq.{get_or-drop}
use lib.Dec.{ltb, eqb}
use borrow.Author.Tests.{le-ltb, ne_eqb}
use Rattle.whole.proofs.Tables.{EachBelow, alike}
use Rattle.rules.specs.declared.Kind.{Kind}
use Rattle.rules.specs.declared.Kind.TheVariants.{Generator, RealTimeLoad, ProfileLoad, Import, Export, Unknown}
use Rattle.rules.specs.declared.Rule.{Rule}
use Rattle.rules.specs.declared.Rule.TheVariants.{Between, LessThan}
use Rattle.rules.specs.Record.{signed, kind_of}
use Rattle.rules.specs.Ranges.{keeps, must_be_zero, energy, adjustment, multiplier, ten_minutes_rules_of, ten_minutes_record_rule}
use Rattle.rules.proofs.RuleTables.{picked, at_picked}

-- the row of a kind, at a word as the document numbers it
abbrev word_of : Kind → ℕ → Rule
word_of K w = get_or (ten_minutes_rules_of K) (w - 3) must_be_zero

row_most : (K : Kind) → length (ten_minutes_rules_of K) ≤ 23
unfolding ten_minutes_rules_of
row_most Generator = omega arith
row_most RealTimeLoad = omega arith
row_most ProfileLoad = omega arith
row_most Import = omega arith
row_most Export = omega arith
row_most Unknown = omega arith

no_word : (K : Kind) (w : ℕ) → 26 ≤ w → word_of K w ≡ must_be_zero
no_word K w l = get_or-eq_default (ten_minutes_rules_of K) must_be_zero {n = w - 3} (omega (arith, row_most K))

-- a word in use has the same rule in all kinds, the generator's
abbrev used_tests : ℕ → Rule
used_tests w = cond (ltb w 6) energy (cond (ltb w 8) multiplier (cond (ltb w 14) energy (cond (ltb w 20) adjustment (cond (ltb w 26) energy must_be_zero))))

pub interval_words : (w : ℕ) → word_of Generator w ≡ used_tests w
unfolding ten_minutes_rules_of
interval_words = alike (word_of Generator) used_tests 26
    ((((((((((((((((((((((((((tt, refl), refl), refl), refl), refl), refl), refl), refl), refl), refl), refl), refl), refl), refl), refl), refl), refl), refl), refl), refl), refl), refl), refl), refl), refl), refl)
    (λ w l. no_word Generator w l ∙ sym (rw (
      le-ltb w 6 (omega arith),
      le-ltb w 8 (omega arith),
      le-ltb w 14 (omega arith),
      le-ltb w 20 (omega arith),
      le-ltb w 26 l,
    )))

-- a kind uses the words where a 1 may stand
abbrev used_by : Kind → ℕ → Bool
used_by K w = keeps (word_of K w) 1

module _ (K : Kind) (tests : ℕ → Bool) where
  used_words : EachBelow (λ w. used_by K w ≡ tests w) 26 → ((w : ℕ) → 26 ≤ w → tests w ≡ false) → (w : ℕ) → used_by K w ≡ tests w
  unfolding keeps
  used_words e past = alike (used_by K) tests 26 e (λ w l. rw (no_word K w l, past w l))

abbrev generator_tests : ℕ → Bool
generator_tests w = ltb w 26

pub generator_uses : (w : ℕ) → used_by Generator w ≡ generator_tests w
unfolding ten_minutes_rules_of keeps signed
generator_uses = used_words Generator generator_tests
    ((((((((((((((((((((((((((tt, refl), refl), refl), refl), refl), refl), refl), refl), refl), refl), refl), refl), refl), refl), refl), refl), refl), refl), refl), refl), refl), refl), refl), refl), refl), refl)
    (λ w l. le-ltb w 26 l)

abbrev real_time_tests : ℕ → Bool
real_time_tests w = cond (ltb w 6) true (cond (ltb w 8) false (ltb w 26))

pub real_time_uses : (w : ℕ) → used_by RealTimeLoad w ≡ real_time_tests w
unfolding ten_minutes_rules_of keeps signed
real_time_uses = used_words RealTimeLoad real_time_tests
    ((((((((((((((((((((((((((tt, refl), refl), refl), refl), refl), refl), refl), refl), refl), refl), refl), refl), refl), refl), refl), refl), refl), refl), refl), refl), refl), refl), refl), refl), refl), refl)
    (λ w l. rw (le-ltb w 6 (omega arith), le-ltb w 8 (omega arith), le-ltb w 26 l))

abbrev profile_tests : ℕ → Bool
profile_tests w = cond (ltb w 4) true (cond (eqb w 8) true (cond (ltb w 14) false (ltb w 26)))

pub profile_uses : (w : ℕ) → used_by ProfileLoad w ≡ profile_tests w
unfolding ten_minutes_rules_of keeps signed
profile_uses = used_words ProfileLoad profile_tests
    ((((((((((((((((((((((((((tt, refl), refl), refl), refl), refl), refl), refl), refl), refl), refl), refl), refl), refl), refl), refl), refl), refl), refl), refl), refl), refl), refl), refl), refl), refl), refl)
    (λ w l. rw (le-ltb w 4 (omega arith), ne_eqb w 8 (λ e. omega arith), le-ltb w 14 (omega arith), le-ltb w 26 l))

abbrev import_tests : ℕ → Bool
import_tests w = cond (ltb w 4) true (cond (ltb w 6) false (cond (ltb w 8) true (cond (ltb w 14) false (ltb w 26))))

pub import_uses : (w : ℕ) → used_by Import w ≡ import_tests w
unfolding ten_minutes_rules_of keeps signed
import_uses = used_words Import import_tests
    ((((((((((((((((((((((((((tt, refl), refl), refl), refl), refl), refl), refl), refl), refl), refl), refl), refl), refl), refl), refl), refl), refl), refl), refl), refl), refl), refl), refl), refl), refl), refl)
    (λ w l. rw (le-ltb w 4 (omega arith), le-ltb w 6 (omega arith), le-ltb w 8 (omega arith), le-ltb w 14 (omega arith), le-ltb w 26 l))

abbrev export_tests : ℕ → Bool
export_tests w = cond (ltb w 4) true (cond (ltb w 8) false (ltb w 20))

pub export_uses : (w : ℕ) → used_by Export w ≡ export_tests w
unfolding ten_minutes_rules_of keeps signed
export_uses = used_words Export export_tests
    ((((((((((((((((((((((((((tt, refl), refl), refl), refl), refl), refl), refl), refl), refl), refl), refl), refl), refl), refl), refl), refl), refl), refl), refl), refl), refl), refl), refl), refl), refl), refl)
    (λ w l. rw (le-ltb w 4 (omega arith), le-ltb w 8 (omega arith), le-ltb w 20 (omega arith)))

rows_picked : (K : Kind) → picked (ten_minutes_rules_of K) (ten_minutes_rules_of Generator) ≡ ten_minutes_rules_of K
unfolding ten_minutes_rules_of keeps signed
rows_picked Generator = refl
rows_picked RealTimeLoad = refl
rows_picked ProfileLoad = refl
rows_picked Import = refl
rows_picked Export = refl
rows_picked Unknown = refl

-- what a kind uses has the generator's rule, and what it does not use is zero
used_or_zero : (K : Kind) (w : ℕ) → word_of K w ≡ cond (used_by K w) (word_of Generator w) must_be_zero
used_or_zero K w = ap (λ (rs : List Rule). get_or rs (w - 3) must_be_zero) (sym (rows_picked K))
    ∙ at_picked (ten_minutes_rules_of K) (ten_minutes_rules_of Generator) (w - 3)

-- from word 3 on a record has the row of its kind
record_words_lem : (members areas kind w : ℕ) → 3 ≤ w → ten_minutes_record_rule members areas kind w ≡ word_of (kind_of kind) w
unfolding ten_minutes_record_rule
record_words_lem members areas kind w l =
    let rules : List Rule = Between 1 5 ∷ LessThan members ∷ LessThan areas ∷ ten_minutes_rules_of (kind_of kind) in
    let e : 3 + (w - 3) ≡ w = omega arith in
    sym (get_or-drop 3 rules (w - 3) must_be_zero ∙ ap (λ (w : ℕ). get_or rules w must_be_zero) e)

pub as_used : (members areas kind w : ℕ) → 3 ≤ w →
    ten_minutes_record_rule members areas kind w ≡ cond (used_by (kind_of kind) w) (word_of Generator w) must_be_zero
as_used members areas kind w l = record_words_lem members areas kind w l ∙ used_or_zero (kind_of kind) w
