-- `bymember::neutrality::put_finals` meets its contract: N as it was added up, the demands as they were put, the sizes as the engine shares
-- them.
use mathlib.Core.Path.{◌≡◌, ◌∙◌, ap}
use mathlib.Core.List.{List}
use Prim.Native.Nat.{ℕ}
use native.Mathlib.Omega.{arith}
use lib.IntN.{ℤ, nat_abs}
use lib.ListN.{length, take, replicate}
use lib.Seq.{length-take-le}
use borrow.Author.Rules.{sfits_of}
use Rattle.whole.proofs.Machine.{back, read_back}
use Rattle.rules.specs.Record.{members}
use Rattle.rules.specs.Neutrality.{neutrality}
use Rattle.share.specs.Shareable.{shares_in}
use Rattle.hour.specs.declared.examined.Hour.{Hour}
use Rattle.hour.specs.Held.{held}
use Rattle.bymember.specs.Charged.{Charged, Sized}
use Rattle.bymember.proofs.Places.{empty}
use Rattle.bymember.proofs.Finals.{charges_bounded, charges_total, charged_alone, Asked, shareable, sized, sizes_bounded, taken_off}
use Rattle.bymember.proofs.neutrality.put_finals.Goals as goal
use Rattle.bymember.proofs.neutrality.put_finals.Goals.{After-unsigned_abs}

-- the members' charges are added up
alone : (x : Hour) {charges : List ℤ} → Charged (held x) charges → length (take x.members charges) ≡ members (held x)
alone x {charges} c = length-take-le x.members charges (omega (arith, c.room, x.members_are)) ∙ x.members_are

-- N is added up and the demands are put
module _ (c : After-unsigned_abs) where
  abbrev x : Hour
  x = c.args.hour.now

  all_is : back c.sum_of-all.result ≡ neutrality (held x)
  all_is = read_back (sfits_of c.sum_of-all.type_inv) ∙ c.sum_of-all.ensures ∙ charges_total (charged_alone c.requires.0 x.members_are) (alone x c.requires.0)

  size_is : c.unsigned_abs.result ≡ nat_abs (neutrality (held x))
  size_is = c.unsigned_abs.ensures.value ∙ ap nat_abs all_is

  asked : Asked (held x) (take x.members (replicate 32 0)) c.put_demands.new.demands
  asked = record {
    kept = x.kept.hour_kept;
    room = (empty {A = ℕ} 0 x).as_many;
    put = c.put_demands.ensures;
  }

  -- the engine has answered: the sizes stand in the room
  sizes : {got : List ℕ} → got ≡ shares_in c.put_demands.new.demands c.unsigned_abs.result c.put_demands.new.demands →
      Sized (held x) (back c.sum_of-all.result) got
  sizes shared = sized asked all_is (shared ∙ ap (λ u. shares_in c.put_demands.new.demands u c.put_demands.new.demands) size_is)

pub sum_of-all-requires : goal.sum_of-all-requires
sum_of-all-requires c =
    let x = c.args.hour.now in
    charges_bounded (charged_alone c.requires.0 x.members_are) (alone x c.requires.0) x.kept.hour_kept

pub put_demands-requires : goal.put_demands-requires
put_demands-requires c = empty {A = ℕ} 0 c.args.hour.now

pub share_in_place-requires : goal.share_in_place-requires
share_in_place-requires c = rw (size_is c) (shareable (asked c))

pub take_off-requires : goal.take_off-requires
take_off-requires c =
    let z = sizes (goal.at.take_off-requires c).After-unsigned_abs c.share_in_place.ensures in (
      charges_bounded c.requires.0 z.as_many c.args.hour.now.kept.hour_kept,
      omega (arith, z.as_many, c.requires.1),
      sizes_bounded c.requires.0 z c.args.hour.now.kept.hour_kept,
    )

pub returns : goal.returns
returns c = taken_off c.requires.0 (sizes (goal.at.returns c).After-unsigned_abs c.share_in_place.ensures) c.args.finals.now c.take_off.ensures
