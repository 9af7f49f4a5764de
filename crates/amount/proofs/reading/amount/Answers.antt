-- The amount, part after part on what is left.
use mathlib.Core.Path.{◌≡◌, sym, ◌∙◌, ap}
use mathlib.Core.List.{List}
use Prim.Native.Nat.{ℕ}
use lib.ListN.{drop}
use native.Mathlib.Omega.{arith}
use Rattle.rules.specs.Text.{blank_count}
use Rattle.amount.proofs.Left.{sign_missing, dollars_missing, cents_missing, more_left, nothing_left, dollars_small, cents_small}
use Rattle.amount.proofs.reading.amount.Goals as goal
use Rattle.amount.proofs.reading.amount.Goals.{After-sign}

-- the field past its blanks
past : (c : goal.After-sign) → c.blanks.result.left.now ≡ drop (blank_count c.args.field.now) c.args.field.now
past c = c.blanks.ensures ∙ ap (λ (s : List ℕ). drop (blank_count s) s) c.start.ensures

-- no sign
pub returns-in_default : goal.returns-in_default
returns-in_default c = sign_missing c.args.field.now (past (goal.at.returns-in_default c).After-sign) c.in_default.ensures

-- no dollars
pub returns-in_default-dollars : goal.returns-in_default-dollars
returns-in_default-dollars c =
    dollars_missing c.args.field.now (past (goal.at.returns-in_default-dollars c).After-sign) c.in-Some.ensures c.in_default-dollars.ensures

-- no cents
pub returns-in_default-cents : goal.returns-in_default-cents
returns-in_default-cents c = cents_missing c.args.field.now (past (goal.at.returns-in_default-cents c).After-sign) c.in-Some.ensures
    c.in-Some-dollars.ensures c.in_default-cents.ensures

-- !after_cents.left.is_empty()
pub returns-then-not-is_empty : goal.returns-then-not-is_empty
returns-then-not-is_empty c = more_left c.args.field.now (past (goal.at.returns-then-not-is_empty c).After-sign) c.in-Some.ensures
    c.in-Some-dollars.ensures c.in-Some-cents.ensures (sym c.is_empty.ensures ∙ c.if-not-is_empty.true)

-- 100 * dollars
pub overflow_mul-dollars : goal.overflow_mul-dollars
overflow_mul-dollars c = omega (arith, dollars_small _ c.in-Some-dollars.ensures)

-- 100 * dollars + cents
pub overflow_add-dollars : goal.overflow_add-dollars
overflow_add-dollars c = omega (arith, dollars_small _ c.in-Some-dollars.ensures, cents_small _ c.in-Some-cents.ensures)

pub signed-requires : goal.signed-requires
signed-requires c = omega (arith, dollars_small _ c.in-Some-dollars.ensures, cents_small _ c.in-Some-cents.ensures)

pub returns : goal.returns
returns c = c.signed.ensures
    ∙ nothing_left c.args.field.now (past (goal.at.returns c).After-sign) c.in-Some.ensures c.in-Some-dollars.ensures c.in-Some-cents.ensures
    (sym c.is_empty.ensures ∙ c.if-not-is_empty.false)
