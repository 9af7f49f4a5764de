-- `tenminutes::charges::interval_cost` meets its contract: the zone's prices stand in the head.
use mathlib.Core.Path.{◌≡◌, ◌∙◌, ap}
use mathlib.Core.Bool.{cond}
use Prim.Native.Nat.{ℕ, ◌+◌, ◌*◌, ◌<◌}
use native.Mathlib.Omega.{arith}
use lib.IntN.{ℤ, pos, ◌*ℤ◌}
use mathlib.Core.List.{List}
use lib.Signed.{lt_z}
use borrow.Author.Rules.{sfits_of}
use Rattle.whole.proofs.Machine.{Num, at, result, gives, stored, read_back}
use Rattle.rules.specs.Record.{signed, zones}
use Rattle.rules.specs.TenMinutes.{ten_minutes_in, incremental, decremental, interval_price}
use Rattle.rules.specs.Inner.Kept.{TenMinutesFileKept}
use Rattle.tenminutes.proofs.charges.interval_cost.Goals as goal

grouped : (a b c : ℕ) → a + (b + c) ≡ a + b + c
grouped a b c = omega arith

module _ {s : List ℕ} {z k : ℕ} (kept : TenMinutesFileKept s) (there : z < zones (ten_minutes_in s)) (few : k < 6) where
  up_is : {p : ℤ} → p ≡ signed ((ten_minutes_in s).head (48 + (12 * z + k))) → p ≡ incremental (ten_minutes_in s) z k
  unfolding incremental
  up_is e = e ∙ ap (λ w. signed ((ten_minutes_in s).head w)) (grouped 48 (12 * z) k)

  down_is : {p : ℤ} → p ≡ signed ((ten_minutes_in s).head (54 + (12 * z + k))) → p ≡ decremental (ten_minutes_in s) z k
  unfolding decremental
  down_is e = e ∙ ap (λ w. signed ((ten_minutes_in s).head w)) (grouped 54 (12 * z) k)

  abbrev up : {p : ℤ} → p ≡ signed ((ten_minutes_in s).head (48 + (12 * z + k))) → Num
  up e = result (up_is e) (kept.hour_kept.incremental_in z k there few)

  abbrev down : {p : ℤ} → p ≡ signed ((ten_minutes_in s).head (54 + (12 * z + k))) → Num
  down e = result (down_is e) (kept.hour_kept.decremental_in z k there few)

abbrev by : (n i d : ℤ) → ℤ
by n i d = n *ℤ cond (lt_z n (pos 0)) d (cond (lt_z (pos 0) n) i (pos 0))

alike : (a b c n i d r : ℤ) → r ≡ by a b c → a ≡ n → b ≡ i → c ≡ d → r ≡ by n i d
alike a b c n i d r e a-is b-is c-is = rw (← a-is, ← b-is, ← c-is) e

pub cost-requires : goal.cost-requires
cost-requires c =
    let kept = c.args.hour.now.kept in (
      gives 6144000000000 (at c.requires.2) tt tt,
      gives 100000 (up kept c.requires.0 c.requires.1 c.price-incremental.ensures) tt tt,
      gives 100000 (down kept c.requires.0 c.requires.1 c.price-decremental.ensures) tt tt,
    )

pub returns : goal.returns
unfolding interval_price
returns c =
    let kept = c.args.hour.now.kept in
    read_back (sfits_of c.cost.type_inv)
    ∙ alike _ _ _ _ _ _ _ c.cost.ensures (stored (at c.requires.2) tt)
    (stored (up kept c.requires.0 c.requires.1 c.price-incremental.ensures) tt)
    (stored (down kept c.requires.0 c.requires.1 c.price-decremental.ensures) tt)
