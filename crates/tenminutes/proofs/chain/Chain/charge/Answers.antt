-- `tenminutes::chain::Chain::charge` meets its contract: the amount of the member's nets, in cents.
use mathlib.Core.Path.{◌≡◌, ◌∙◌, ap}
use mathlib.Core.List.{List}
use Prim.Native.Nat.{ℕ}
use lib.IntN.{ℤ}
use borrow.Author.Rules.{sfits_of}
use Rattle.whole.specs.Below.{total_below}
use Rattle.whole.proofs.Machine.{Num, result, stored, read_back}
use Rattle.rules.specs.Charge.{cents_of}
use Rattle.rules.specs.Record.{Hour, zones}
use Rattle.rules.specs.TenMinutes.{ten_minutes_amount, ten_minutes_charge}
use Rattle.rules.specs.Inner.Kept.{TenMinutesKept}
use Rattle.rules.proofs.IntervalBounds.{amount_under}
use Rattle.tenminutes.specs.Room.{zone_in, NetsAfter, cost_in}
use Rattle.tenminutes.proofs.Adding.{none_yet, amount_is}
use Rattle.tenminutes.proofs.chain.Chain.charge.Goals as goal

module _ {h : Hour} {m : ℕ} {nets : List (List ℤ)} (kept : TenMinutesKept h) (after : NetsAfter h m h.count nets) where
  amount_worked : {a : ℤ} → a ≡ total_below (λ z. total_below (cost_in h z (zone_in nets z)) 6) (zones h) → a ≡ ten_minutes_amount h m
  unfolding ten_minutes_amount
  amount_worked e = e ∙ amount_is (record { member = m; nets = after }) (zones h) kept.zones_most

  abbrev exact : {a : ℤ} → a ≡ total_below (λ z. total_below (cost_in h z (zone_in nets z)) 6) (zones h) → Num
  exact e = result (amount_worked e) (amount_under kept m)

pub put_nets-requires : goal.put_nets-requires
put_nets-requires c = (c.requires, none_yet _ c.args.member)

pub returns : goal.returns
unfolding ten_minutes_charge
returns c =
    read_back (sfits_of c.cents_of.type_inv) ∙ c.cents_of.ensures
    ∙ ap (cents_of 240000000) (stored (exact c.args.self.now.hour.kept.hour_kept c.put_nets.ensures c.amount.ensures) tt)
