-- When a promise leaves no second result, and what it gives; and when nothing is asked for it. A promise is a function's contract as its callers read it: a claim about the
-- arguments, the result and what the arguments are at exit.
use Rattle.std.specs.Prelude.{◌≡◌}

module _ {A X S : Type 0} (promise : A → X → S → Type 0) where
  -- two results that keep the promise are the same
  abbrev pub OneResult : Type 0
  OneResult = (a : A) (x y : X) (s t : S) → promise a x s → promise a y t → x ≡ y

  -- and so is what they leave in a buffer
  abbrev pub OneOutcome : {B : Type 0} → (S → B) → Type 0
  OneOutcome buffer = (a : A) (x y : X) (s t : S) → promise a x s → promise a y t → (x ≡ y) × (buffer s ≡ buffer t)

  -- of a result that is a part of what was lent: what the part holds
  abbrev pub OnePart : {B : Type 0} → (X → B) → Type 0
  OnePart holds = (a : A) (x y : X) (s t : S) → promise a x s → promise a y t → holds x ≡ holds y

  -- whatever keeps the promise has this property
  abbrev pub Gives : (A → X → S → Type 0) → Type 0
  Gives property = (a : A) (x : X) (s : S) → promise a x s → property a x s

-- what callers have to show before a call holds of all arguments: nothing is asked of them
abbrev pub AsksNothing : {A : Type 0} → (asked : A → Type 0) → Type 0
AsksNothing {A} asked = (a : A) → asked a
