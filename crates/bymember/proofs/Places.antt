-- Room for a number a member: of 32 places, which nothing is written to yet, as many as there are members.
use mathlib.Core.Path.{◌∙◌}
use Prim.Native.Nat.{◌≤◌}
use native.Mathlib.Omega.{arith}
use lib.ListN.{take, replicate, get_or-replicate}
use lib.Seq.{length-take-le, get_or-take}
use Rattle.hour.specs.declared.examined.Hour.{Hour}
use Rattle.hour.specs.Held.{held}
use Rattle.bymember.specs.Charged.{Empty}

module _ {A : Type 0} (nothing : A) (x : Hour) where
  few : x.members ≤ 32
  few = omega (arith, x.members_are, x.kept.hour_kept.members_most)

  pub empty : Empty nothing (held x) (take x.members (replicate 32 nothing))
  empty = record {
    as_many = length-take-le x.members (replicate 32 nothing) few ∙ x.members_are;
    zeros = λ m l. get_or-take x.members (replicate 32 nothing) m nothing (omega (arith, x.members_are))
        ∙ get_or-replicate 32 m nothing nothing (omega (arith, x.members_are, few));
  }
