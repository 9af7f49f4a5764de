-- A link in one byte: the record that a byte names. A file has at most 64 records, so that 64 names none.
use Rattle.std.specs.Prelude.{ℕ, ◌≡◌, refl, Bool, true, false, cond, eqb, Option, None, Some}
use Rattle.std.proofs.Common.{sym, eqb-true}

abbrev pub named_by : ℕ → Option ℕ
named_by k = cond (eqb k 64) None (Some k)

-- the byte of what is named
abbrev pub byte_of : Option ℕ → ℕ
byte_of None = 64
byte_of (Some i) = i

tested : (b : Bool) (k : ℕ) → (b ≡ true → k ≡ 64) → byte_of (cond b None (Some k)) ≡ k
tested true k e = sym (e refl)
tested false k e = refl

-- no byte is lost
pub byte_kept : (k : ℕ) → byte_of (named_by k) ≡ k
byte_kept k = tested (eqb k 64) k (eqb-true k 64)
