-- The law that is applied everywhere: two things that are equal to a third are equal. And the forms in which contracts say a result.
use mathlib.Core.Path.{◌≡◌, refl, sym, ◌∙◌, ap}
use mathlib.Core.Bool.{Bool, true, false}
use Rattle.std.specs.Prelude.{Option, Result}
use Prim.Native.Nat.{ℕ}
use Rattle.rules.specs.declared.Kind.{Kind}
use Rattle.rules.specs.declared.Kind.TheVariants.{Generator, RealTimeLoad, ProfileLoad, Import, Export, Unknown}
use Rattle.rules.specs.declared.Refusal.{Refusal}
use Rattle.rules.specs.Record as Record
use Rattle.rules.specs.Refusals.{Verdict, verdict_of, place_zero_if, is_broken}
use Rattle.rules.proofs.Rows.{one_answer}
use Rattle.formula.specs.declared.entry.Entry.{Entry}
use Rattle.formula.specs.Meant.{meant}

pub agree : {A : Type 0} {a b c : A} → a ≡ c → b ≡ c → a ≡ b
agree p q = p ∙ sym q

-- a row's number and place tell the answer
pub agree_answer : {a b : Result (Unit {0}) Refusal} {v : Verdict} → verdict_of a ≡ v → verdict_of b ≡ v → a ≡ b
agree_answer {a} {b} p q = one_answer (λ r. tt) (λ x. refl) a b (agree p q) refl

-- a test that is told as place 0 or none
pub agree_test : {b c : Bool} {o : Option ℕ} → place_zero_if b ≡ o → place_zero_if c ≡ o → b ≡ c
agree_test {b} {c} p q = sym (test_told b) ∙ ap is_broken (agree p q) ∙ test_told c
  where
    test_told : (b : Bool) → is_broken (place_zero_if b) ≡ b
    test_told true = refl
    test_told false = refl

-- an entry's letters tell the entry
pub agree_entry : {r t : Entry} {e : Record.Entry} → meant r ≡ e → meant t ≡ e → r ≡ t
agree_entry {r} {t} p q = ap coded (agree p q)
  where
    coded : Record.Entry → Entry
    coded e = record { kind = e.kind; s = e.S; a = e.A; j = e.J; n = e.N; o = e.O; m = e.M; f = e.F; h = e.H }

-- a number for each kind
pub number_of_kind : Kind → ℕ
number_of_kind Generator = 1
number_of_kind RealTimeLoad = 2
number_of_kind ProfileLoad = 3
number_of_kind Import = 4
number_of_kind Export = 5
number_of_kind Unknown = 0

pub kind_told : (k : Kind) → Record.kind_of (number_of_kind k) ≡ k
unfolding number_of_kind Record.kind_of
kind_told Generator = refl
kind_told RealTimeLoad = refl
kind_told ProfileLoad = refl
kind_told Import = refl
kind_told Export = refl
kind_told Unknown = refl
