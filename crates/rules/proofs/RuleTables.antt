-- Each table of the definitions as the tests by which the code chooses from it. A table is compared entry by entry, once; past its last
-- entry both sides are the default.
use mathlib.Core.Path.{◌≡◌, refl, sym, ◌∙◌, ap}
use mathlib.Core.Bool.{Bool, true, false, cond}
use mathlib.Core.List.{List, [], ◌∷◌}
use Prim.Native.Nat.{ℕ, zero, suc, ◌+◌, ◌-◌, ◌≤◌, ◌<◌}
use native.Mathlib.Omega.{arith}
use lib.IntN.{pos, nat_abs, ◌-ℤ◌}
use lib.ListN.{length, get_or, get_or-eq_default}
use lib.Seq.{get_or-drop}
use lib.Dec.{ltb, leb, eqb}
use borrow.Author.Tests.{eqb-true, eqb-false, lt-ltb, le-ltb, le-leb, lt-leb, ne_eqb}
use Rattle.whole.proofs.Tests.{split}
use Rattle.whole.proofs.Tables.{EachBelow, alike}
use Rattle.rules.specs.declared.Kind.{Kind}
use Rattle.rules.specs.declared.Kind.TheVariants.{Generator, RealTimeLoad, ProfileLoad, Import, Export, Unknown}
use Rattle.rules.specs.declared.Rule.{Rule}
use Rattle.rules.specs.declared.Rule.TheVariants.{Any, Between, LessThan}
use Rattle.rules.specs.Record.{signed, kind_of, is_generator}
use Rattle.rules.specs.Ranges.{keeps, must_be_zero, count_rules, area_rule, energy, adjustment, multiplier, rules_of, record_rule}

-- ---- the size of a negative number in two's complement

pub size_below : (x : ℕ) → x < 4294967296 → nat_abs (pos x -ℤ pos 4294967296) ≡ (4294967295 - x) + 1
size_below x l = rw (lt-ltb x 4294967296 l) (omega arith)

-- ---- a word that must be zero

pub zero_kept : (v : ℕ) → keeps must_be_zero v ≡ eqb v 0
unfolding keeps
zero_kept v = split (eqb v 0)
    (λ t. rw (t, eqb-true v 0 t))
    (λ t. rw (t, le-leb 0 v (omega arith), lt-leb v 0 (omega (arith, eqb-false v 0 t))))

-- ---- words of a block

module _ (mark place count past : Rule) where
  abbrev block_tests : ℕ → Rule
  block_tests w = cond (eqb w 0) mark (cond (eqb w 1) place (cond (eqb w 2) count (cond (ltb w 7) must_be_zero (cond (eqb w 7) Any past))))

  abbrev block_table : List Rule
  block_table = mark ∷ place ∷ count ∷ must_be_zero ∷ must_be_zero ∷ must_be_zero ∷ must_be_zero ∷ Any ∷ []

  pub block_words : (w : ℕ) → get_or block_table w past ≡ block_tests w
  block_words = alike (λ w. get_or block_table w past) block_tests 8
      ((((((((tt, refl), refl), refl), refl), refl), refl), refl), refl)
      (λ w l. get_or-eq_default block_table past l
      ∙ sym (rw (
        ne_eqb w 0 (λ e. omega arith),
        ne_eqb w 1 (λ e. omega arith),
        ne_eqb w 2 (λ e. omega arith),
        le-ltb w 7 (omega arith),
        ne_eqb w 7 (λ e. omega arith),
      )))

-- ---- words of the head

abbrev count_tests : ℕ → Rule
count_tests w = cond (leb w 9) (Between 1 32) (cond (eqb w 10) (Between 1 4) (cond (eqb w 11) (Between 1 8) must_be_zero))

pub count_words : (w : ℕ) → get_or count_rules (w - 9) must_be_zero ≡ count_tests w
count_words = alike (λ w. get_or count_rules (w - 9) must_be_zero) count_tests 12
    ((((((((((((tt, refl), refl), refl), refl), refl), refl), refl), refl), refl), refl), refl), refl)
    (λ w l. get_or-eq_default count_rules must_be_zero {n = w - 9} (omega arith)
    ∙ sym (rw (lt-leb w 9 (omega arith), ne_eqb w 10 (λ e. omega arith), ne_eqb w 11 (λ e. omega arith))))

module _ (zones : ℕ) where
  abbrev area_table : List Rule
  area_table = LessThan zones ∷ Between 0 10000000 ∷ Between 0 10000000 ∷ must_be_zero ∷ []

  abbrev area_tests : ℕ → Rule
  area_tests w = cond (eqb w 0) (LessThan zones) (cond (ltb w 3) (Between 0 10000000) must_be_zero)

  pub area_words : (w : ℕ) → area_rule zones w ≡ area_tests w
  unfolding area_rule
  area_words = alike (λ w. get_or area_table w must_be_zero) area_tests 4
      ((((tt, refl), refl), refl), refl)
      (λ w l. get_or-eq_default area_table must_be_zero l ∙ sym (rw (ne_eqb w 0 (λ e. omega arith), le-ltb w 3 (omega arith))))

-- ---- words of a record

-- the row of a kind, at a word as the document numbers it
abbrev word_of : Kind → ℕ → Rule
word_of K w = get_or (rules_of K) (w - 3) must_be_zero

row_most : (K : Kind) → length (rules_of K) ≤ 9
unfolding rules_of
row_most Generator = omega arith
row_most RealTimeLoad = omega arith
row_most ProfileLoad = omega arith
row_most Import = omega arith
row_most Export = omega arith
row_most Unknown = omega arith

no_word : (K : Kind) (w : ℕ) → 12 ≤ w → word_of K w ≡ must_be_zero
no_word K w l = get_or-eq_default (rules_of K) must_be_zero {n = w - 3} (omega (arith, row_most K))

abbrev generator_tests : ℕ → Rule
generator_tests w = cond (eqb w 5) adjustment (cond (ltb w 9) energy (cond (ltb w 11) multiplier must_be_zero))

pub generator_words : (w : ℕ) → word_of Generator w ≡ generator_tests w
unfolding rules_of
generator_words = alike (word_of Generator) generator_tests 12
    ((((((((((((tt, refl), refl), refl), refl), refl), refl), refl), refl), refl), refl), refl), refl)
    (λ w l. no_word Generator w l ∙ sym (rw (ne_eqb w 5 (λ e. omega arith), le-ltb w 9 (omega arith), le-ltb w 11 (omega arith))))

-- a kind uses the words where a 1 may stand
abbrev used_by : Kind → ℕ → Bool
used_by K w = keeps (word_of K w) 1

module _ (K : Kind) (tests : ℕ → Bool) where
  used_words : EachBelow (λ w. used_by K w ≡ tests w) 12 → ((w : ℕ) → 12 ≤ w → tests w ≡ false) → (w : ℕ) → used_by K w ≡ tests w
  unfolding keeps
  used_words e past = alike (used_by K) tests 12 e (λ w l. rw (no_word K w l, past w l))

pub generator_uses : (w : ℕ) → used_by Generator w ≡ ltb w 11
unfolding rules_of keeps signed
generator_uses = used_words Generator (λ w. ltb w 11)
    ((((((((((((tt, refl), refl), refl), refl), refl), refl), refl), refl), refl), refl), refl), refl)
    (λ w l. le-ltb w 11 (omega arith))

pub load_uses : (w : ℕ) → used_by RealTimeLoad w ≡ ltb w 8
unfolding rules_of keeps signed
load_uses = used_words RealTimeLoad (λ w. ltb w 8)
    ((((((((((((tt, refl), refl), refl), refl), refl), refl), refl), refl), refl), refl), refl), refl)
    (λ w l. le-ltb w 8 (omega arith))

abbrev import_tests : ℕ → Bool
import_tests w = cond (eqb w 4) false (cond (ltb w 7) true (cond (ltb w 9) false (ltb w 11)))

pub import_uses : (w : ℕ) → used_by Import w ≡ import_tests w
unfolding rules_of keeps signed
import_uses = used_words Import import_tests
    ((((((((((((tt, refl), refl), refl), refl), refl), refl), refl), refl), refl), refl), refl), refl)
    (λ w l. rw (ne_eqb w 4 (λ e. omega arith), le-ltb w 7 (omega arith), le-ltb w 9 (omega arith), le-ltb w 11 (omega arith)))

pub export_uses : (w : ℕ) → used_by Export w ≡ ltb w 6
unfolding rules_of keeps signed
export_uses = used_words Export (λ w. ltb w 6)
    ((((((((((((tt, refl), refl), refl), refl), refl), refl), refl), refl), refl), refl), refl), refl)
    (λ w l. le-ltb w 6 (omega arith))

-- ---- kinds

-- a number that names none of the five
pub kind_unknown : (k : ℕ) → (k ≡ 1 → ⊥) → (k ≡ 2 → ⊥) → (k ≡ 3 → ⊥) → (k ≡ 4 → ⊥) → (k ≡ 5 → ⊥) → kind_of k ≡ Unknown
unfolding kind_of
kind_unknown zero a b c d e = refl
kind_unknown (suc zero) a b c d e = absurd (a refl)
kind_unknown (suc (suc zero)) a b c d e = absurd (b refl)
kind_unknown (suc (suc (suc zero))) a b c d e = absurd (c refl)
kind_unknown (suc (suc (suc (suc zero)))) a b c d e = absurd (d refl)
kind_unknown (suc (suc (suc (suc (suc zero))))) a b c d e = absurd (e refl)
kind_unknown (suc (suc (suc (suc (suc (suc k)))))) a b c d e = refl

-- no number but 1 is a generator's
pub no_generator : (k : ℕ) → (k ≡ 1 → ⊥) → is_generator (kind_of k) ≡ false
unfolding kind_of
no_generator zero other = refl
no_generator (suc zero) other = absurd (other refl)
no_generator (suc (suc zero)) other = refl
no_generator (suc (suc (suc zero))) other = refl
no_generator (suc (suc (suc (suc zero)))) other = refl
no_generator (suc (suc (suc (suc (suc zero))))) other = refl
no_generator (suc (suc (suc (suc (suc (suc k)))))) other = refl

-- of a row beside another: the other's rule where a 1 may stand, zero elsewhere
abbrev pub picked : List Rule → List Rule → List Rule
picked [] gs = []
picked (r ∷ rs) [] = cond (keeps r 1) must_be_zero must_be_zero ∷ picked rs []
picked (r ∷ rs) (g ∷ gs) = cond (keeps r 1) g must_be_zero ∷ picked rs gs

pub at_picked : (rs gs : List Rule) (j : ℕ) →
    get_or (picked rs gs) j must_be_zero ≡ cond (keeps (get_or rs j must_be_zero) 1) (get_or gs j must_be_zero) must_be_zero
unfolding keeps
at_picked [] gs j = refl
at_picked (r ∷ rs) [] zero = refl
at_picked (r ∷ rs) [] (suc j) = at_picked rs [] j
at_picked (r ∷ rs) (g ∷ gs) zero = refl
at_picked (r ∷ rs) (g ∷ gs) (suc j) = at_picked rs gs j

rows_picked : (K : Kind) → picked (rules_of K) (rules_of Generator) ≡ rules_of K
unfolding rules_of keeps signed
rows_picked Generator = refl
rows_picked RealTimeLoad = refl
rows_picked ProfileLoad = refl
rows_picked Import = refl
rows_picked Export = refl
rows_picked Unknown = refl

-- what a kind uses has the generator's rule, and what it does not use is zero
pub used_or_zero : (K : Kind) (w : ℕ) → word_of K w ≡ cond (used_by K w) (word_of Generator w) must_be_zero
used_or_zero K w = ap (λ (rs : List Rule). get_or rs (w - 3) must_be_zero) (sym (rows_picked K)) ∙ at_picked (rules_of K) (rules_of Generator) (w - 3)

-- from word 3 on a record has the row of its kind
pub record_words_lem : (members areas kind w : ℕ) → 3 ≤ w → record_rule members areas kind w ≡ word_of (kind_of kind) w
unfolding record_rule
record_words_lem members areas kind w l =
    let rules : List Rule = Between 1 5 ∷ LessThan members ∷ LessThan areas ∷ rules_of (kind_of kind) in
    let e : 3 + (w - 3) ≡ w = omega arith in
    sym (get_or-drop 3 rules (w - 3) must_be_zero ∙ ap (λ (w : ℕ). get_or rules w must_be_zero) e)
