-- The parts of document 01's formulas as the code works them: each with its range, so that every step fits.
use mathlib.Core.Path.{◌≡◌, refl}
use Prim.Native.Nat.{zero, suc}
use native.Mathlib.Omega.{arith}
use borrow.Author.Tests.{lt-ltb, le-leb}
use lib.IntN.{ℤ, pos, negsuc}
use Rattle.std.specs.Int.{int_min, int_max}
use Rattle.whole.specs.Signed.{min_ℤ, max_ℤ}
use Rattle.whole.proofs.Machine.{Num, #, at, at0, ◌:-◌, ◌:*◌}
use Rattle.rules.specs.Record.{Entry}
use Rattle.rules.specs.Inner.Kept.{EntryRoom}

-- std's lesser and greater of a number and zero, as the definitions have them
pub least_is : (z : ℤ) → int_min z (pos 0) ≡ min_ℤ (pos 0) z
unfolding min_ℤ
least_is (pos zero) = refl
least_is (pos (suc n)) = rw (lt-ltb 0 (suc n) (omega arith), le-leb 0 (suc n) (omega arith))
least_is (negsuc n) = refl

pub most_is : (z : ℤ) → int_max z (pos 0) ≡ max_ℤ (pos 0) z
unfolding max_ℤ
most_is (pos zero) = refl
most_is (pos (suc n)) = rw (lt-ltb 0 (suc n) (omega arith), le-leb 0 (suc n) (omega arith))
most_is (negsuc n) = refl

module _ {r : Entry} (k : EntryRoom r) where
  open k use {S_in, A_in, J_in, N_in, O_in, M_in, F_in, H_in}

  abbrev pub S : Num
  S = at0 S_in

  abbrev pub A : Num
  A = at0 A_in

  abbrev pub J : Num
  J = at J_in

  abbrev pub N : Num
  N = at0 N_in

  abbrev pub O : Num
  O = at0 O_in

  abbrev pub M : Num
  M = at0 M_in

  abbrev pub F : Num
  F = at0 F_in

  abbrev pub H : Num
  H = at0 H_in

  -- (A - J)×H
  abbrev pub adjusted : Num
  adjusted = (A :- J) :* H

  -- 10,000×N
  abbrev pub ancillary : Num
  ancillary = # (pos 10000) :* N
