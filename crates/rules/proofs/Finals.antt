-- What document 02, A1, asks of the finals, proved of what settling leaves in the buffers, for every input.
use Prim.Native.Nat.{ℕ, ◌*◌, ◌≤◌, ◌<◌}
use native.Mathlib.Nat.{mul-le-mul}
use native.Mathlib.Omega.{arith}
use mathlib.Core.Path.{◌≡◌}
use mathlib.Core.Bool.{not, ◌&&◌}
use Rattle.std.specs.Prelude.{None}
use mathlib.Core.List.{List}
use lib.IntN.{pos, nat_abs}
use lib.Dec.{eqb}
use borrow.Author.Tests.{eqb-true, eq-eqb, not-false}
use Rattle.whole.proofs.Linear.{abs_zero}
use Rattle.whole.proofs.Sums.{sum_at}
use Rattle.whole.proofs.Buffers.{get_or_replacing, drop_replacing, length_replacing}
use Rattle.rules.specs.Record.{Hour, members}
use Rattle.rules.specs.Share.{all_demand}
use Rattle.rules.specs.Charge.{charge}
use Rattle.rules.specs.Neutrality.{member_demand, hour_demand, neutrality, final}
use Rattle.rules.specs.HourFile.{hour_in}
use Rattle.rules.specs.Refusals.{accepted, verdict, Buffers, no_demand, file_rows}
use Rattle.rules.specs.Settling.{filled}
use Rattle.rules.specs.Promised.Finals.{NeutralOutcome, Neutrality}
use Rattle.rules.specs.Inner.Kept.{HourKept}
use Rattle.rules.proofs.Rows.{no_place, accepts_when_whole, file_numbered, form_whole, demand_whole, settle_whole, settle_fills}
use Rattle.rules.proofs.Kept.{file_kept}
use Rattle.rules.proofs.Demands.{Room, buffers_room}
use Rattle.rules.proofs.NoDemand.{settle_held, statement_held, explain_held}
use Rattle.rules.proofs.Neutral.{hour_demand_by_area, hour_demand_most, neutrality_under, neutral_alike}

-- row 12: where nobody demands anything, N is 0
shareable : (h : Hour) → no_demand h ≡ None → hour_demand h ≡ 0 → neutrality h ≡ pos 0
unfolding no_demand
shareable h whole z =
    let some = no_place (eqb (hour_demand h) 0 && not (eqb (nat_abs (neutrality h)) 0)) whole in
    abs_zero (neutrality h) (eqb-true _ _ (not-false _ (rw (eq-eqb (hour_demand h) 0 z) at some)))

filled_neutral : (h : Hour) (b : Buffers) → Room h b → no_demand h ≡ None → NeutralOutcome h b (filled h b)
unfolding filled
filled_neutral h b room whole = record {
  neutral = neutral_alike h (shareable h whole)
      (λ m l. get_or_replacing (charge h) (members h) b.charges m (pos 0) l)
      (λ m l. get_or_replacing (final h) (members h) b.finals m (pos 0) l);
  past_finals = drop_replacing (final h) (members h) b.finals;
  same_length = length_replacing (final h) (members h) b.finals room.finals_room;
}

-- D is at most T, and T×|N| is at most 7×10^18 and a little
products : {h : Hour} → HourKept h → (m : ℕ) → m < members h → member_demand h m * nat_abs (neutrality h) < 10000000000000000000
unfolding hour_demand all_demand
products {h} kept m l =
    let d : member_demand h m ≤ 25000000 = omega (arith, sum_at (member_demand h) (members h) m l, hour_demand_most kept) in
    omega (arith, mul-le-mul d (neutrality_under kept).under)

passed : (s : List ℕ) → verdict (file_rows s) ≡ accepted → HourKept (hour_in s)
passed s e = (file_kept s (form_whole s ((accepts_when_whole (file_rows s) (file_numbered s)).0 e))).hour_kept

pub neutrality_shared : Neutrality
neutrality_shared = record {
  settle_held = settle_held;
  statement_held = statement_held;
  explain_held = explain_held;
  settled = λ s b a.
      let h = hour_in s in
      let p = settle_whole s b a in
      rw (settle_fills s b a).0 (filled_neutral h b (buffers_room h b p.1) (demand_whole s p.0));
  all_demand_lem = λ s e. hour_demand_by_area (passed s e);
  products = λ s e m l. products (passed s e) m l;
}
