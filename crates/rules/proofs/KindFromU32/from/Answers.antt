-- A number as a kind: number by number, and none for those past 5.
use mathlib.Core.Path.{◌≡◌, refl}
use mathlib.Core.Logic.{◌≢◌}
use Prim.Native.Nat.{ℕ, zero, suc}
use native.Mathlib.Omega.{arith}
use borrow.Author.Rules.{rules}
use Rattle.rules.specs.declared.Kind.TheVariants.{Unknown}
use Rattle.rules.specs.Record.{kind_of}
use Rattle.rules.proofs.KindFromU32.from.Goals as goal

-- a number that is none of the five names no kind
unknown : (k : ℕ) → k ≢ 1 → k ≢ 2 → k ≢ 3 → k ≢ 4 → k ≢ 5 → Unknown ≡ kind_of k
unfolding kind_of
unknown zero a b c d e = refl
unknown (suc zero) a b c d e = absurd (a refl)
unknown (suc (suc zero)) a b c d e = absurd (b refl)
unknown (suc (suc (suc zero))) a b c d e = absurd (c refl)
unknown (suc (suc (suc (suc zero)))) a b c d e = absurd (d refl)
unknown (suc (suc (suc (suc (suc zero))))) a b c d e = absurd (e refl)
unknown (suc (suc (suc (suc (suc (suc k)))))) a b c d e = refl

-- 1 => Kind::Generator
pub returns-in-1 : goal.returns-in-1
unfolding kind_of
returns-in-1 c = rw c.in-1.is

-- 2 => Kind::RealTimeLoad
pub returns-in-2 : goal.returns-in-2
unfolding kind_of
returns-in-2 c = rw c.in-2.is

-- 3 => Kind::ProfileLoad
pub returns-in-3 : goal.returns-in-3
unfolding kind_of
returns-in-3 c = rw c.in-3.is

-- 4 => Kind::Import
pub returns-in-4 : goal.returns-in-4
unfolding kind_of
returns-in-4 c = rw c.in-4.is

-- 5 => Kind::Export
pub returns-in-5 : goal.returns-in-5
unfolding kind_of
returns-in-5 c = rw c.in-5.is

-- _ => Kind::Unknown
pub returns-in_default : goal.returns-in_default
returns-in_default c = unknown c.args.word (search rules) (search rules) (search rules) (search rules) (omega arith)
