-- `byrecord::shares::put_shares` meets its contract: the records' places are cleared, the areas shared, and the room cleared.
use mathlib.Core.Path.{◌≡◌, ◌∙◌, ap}
use mathlib.Core.List.{List, ◌++◌}
use native.Mathlib.Omega.{arith}
use lib.IntN.{ℤ, pos}
use lib.ListN.{drop, replicate}
use lib.Seq.{length-take-le}
use Rattle.whole.specs.Below.{replacing_first}
use Rattle.whole.proofs.Buffers.{filled_first, filled_all}
use Rattle.byrecord.proofs.Hour.{ready, shared_over, room_cleared}
use Rattle.byrecord.proofs.shares.put_shares.Goals as goal
use Rattle.byrecord.proofs.shares.put_shares.Goals.{After-fill}

-- the records' places hold 0
zeros : (c : goal.After-fill) → c.fill.new.self ++ drop c.args.hour.now.records c.args.out.now ≡ replacing_first (λ i. pos 0) c.args.hour.now.records c.args.out.now
zeros c =
    ap (λ (l : List ℤ). l ++ drop c.args.hour.now.records c.args.out.now) (c.fill.ensures.after (λ y e. e)
    ∙ ap (λ n. replicate n (pos 0)) (length-take-le c.args.hour.now.records c.args.out.now (omega (arith, c.requires.room_out, c.args.hour.now.records_are))))
    ∙ filled_first (pos 0) c.args.hour.now.records c.args.out.now

pub share_areas-requires : goal.share_areas-requires
share_areas-requires c = ready c.requires c.args.hour.now.records_are (zeros (goal.at.share_areas-requires c).After-fill)

pub returns : goal.returns
returns c =
    let counted = c.args.hour.now.records_are in
    let cleared = zeros (goal.at.returns c).After-fill in record {
      shares = shared_over c.requires counted cleared c.share_areas.ensures;
      room = room_cleared c.requires counted cleared c.share_areas.new.room c.share_areas.auto.room
          (c.fill-2.ensures.after (λ y e. e) ∙ filled_all 0 c.share_areas.new.room);
    }
