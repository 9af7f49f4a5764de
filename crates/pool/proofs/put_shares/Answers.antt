-- `pool::put_shares` meets its contract: there is room for 250 records.
use mathlib.Core.Path.{sym, ◌∙◌}
use Prim.Native.Nat.{◌≤◌}
use native.Mathlib.Omega.{arith}
use lib.Seq.{length-take-le}
use Rattle.pool.proofs.put_shares.Goals as goal
use Rattle.pool.proofs.put_shares.Goals.{Start}

few : (c : goal.Start) → c.args.hour.now.records ≤ 250
few c = omega (arith, c.args.hour.now.records_are, c.args.hour.now.kept.hour_kept.count_most)

-- &mut room[..hour.records]
pub slice_bounds-room-end : goal.slice_bounds-room-end
slice_bounds-room-end c = few (goal.at.slice_bounds-room-end c).Start

-- its length
pub slice_bounds-put_shares-end : goal.slice_bounds-put_shares-end
slice_bounds-put_shares-end c = sym (length-take-le _ _ (few (goal.at.slice_bounds-put_shares-end c).Start))

pub put_shares-requires : goal.put_shares-requires
put_shares-requires c = record {
  figures_of = c.requires.0;
  places = length-take-le _ _ (few (goal.at.put_shares-requires c).Start) ∙ c.args.hour.now.records_are;
  room_out = c.requires.1;
}
