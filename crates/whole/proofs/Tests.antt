-- What tests say: a Bool taken apart with its equation, a conjunction that holds, a disjunction that fails, an option that is none, one
-- that was found.
use mathlib.Core.Path.{◌≡◌, refl, sym, ◌∙◌}
use mathlib.Core.Bool.{Bool, true, false, not, cond, ◌&&◌, ◌||◌, true≢false}
use Rattle.std.specs.Prelude.{Option, None, Some}
use Rattle.std.specs.Option.{option_or}
use Rattle.std.proofs.lemmas.Option.{none-some}
use Prim.Native.Nat.{ℕ, ◌<◌, suc}
use native.Mathlib.Omega.{arith}
use lib.Dec.{T, eqb}
use borrow.Author.Tests.{eqb-true, eqb-false}

-- a test, with what it says
pub split {ℓ} : {X : Type ℓ} (b : Bool) → (b ≡ true → X) → (b ≡ false → X) → X
split true f g = f refl
split false f g = g refl

pub never {ℓ} : {X : Type ℓ} {b : Bool} → b ≡ true → b ≡ false → X
never t f = absurd (true≢false (sym t ∙ f))

pub both : (a b : Bool) → (a && b) ≡ true → (a ≡ true) × (b ≡ true)
both true b e = (refl, e)
both false b e = never e refl

pub neither : (a b : Bool) → (a || b) ≡ false → (a ≡ false) × (b ≡ false)
neither true b e = never refl e
neither false b e = (refl, e)

-- the second test, where the first has passed
pub and_ext : (a b c : Bool) → (a ≡ true → b ≡ c) → (a && b) ≡ (a && c)
and_ext true b c f = f refl
and_ext false b c f = refl

pub and_mono : (a b c : Bool) → (b ≡ true → c ≡ true) → (a && b) ≡ true → (a && c) ≡ true
and_mono true b c f e = f e
and_mono false b c f e = e

-- what holds of both branches, each under what the test says
pub cond_ind {ℓ κ} : {A : Type ℓ} (c : Bool) (x y : A) (P : A → Type κ) → (T c → P x) → (T (not c) → P y) → P (cond c x y)
cond_ind true x y P f g = f tt
cond_ind false x y P f g = g tt

pub never_some {κ} : {A : Type 0} {X : Type κ} {a : A} → Some a ≡ None → X
never_some {a = a} e = absurd (none-some a (sym e))

pub no_else : (a b : Option ℕ) → option_or a b ≡ None → (a ≡ None) × (b ≡ None)
no_else None b e = (refl, e)
no_else (Some i) b e = never_some e

-- a number below n + 1 is n or below n
pub last_or_below {ℓ} : {X : Type ℓ} (i n : ℕ) → i < suc n → (i ≡ n → X) → (i < n → X) → X
last_or_below i n l f g = split (eqb i n) (λ t. f (eqb-true i n t)) (λ t. g (omega (arith, eqb-false i n t)))

-- two tests, one after the other
pub cond_both : (b c : Bool) (d : ℕ) → cond (b && c) d 0 ≡ cond b (cond c d 0) 0
cond_both true c d = refl
cond_both false c d = refl

-- the first branch, where its test has passed
pub cond_ext {ℓ} : {A : Type ℓ} (c : Bool) (x y z : A) → (c ≡ true → x ≡ y) → cond c x z ≡ cond c y z
cond_ext true x y z f = f refl
cond_ext false x y z f = refl

-- what was found after a test
pub if_some : {A : Type 0} (b : Bool) (o : Option A) (a : A) → cond b o None ≡ Some a → (b ≡ true) × (o ≡ Some a)
if_some true o a e = (refl, e)
if_some false o a e = never_some (sym e)

pub all_three : (a b c : Bool) → (a && b && c) ≡ true → (a ≡ true) × (b ≡ true) × (c ≡ true)
all_three a b c e = let f = both (a && b) c e in let g = both a b f.0 in (g.0, g.1, f.1)
