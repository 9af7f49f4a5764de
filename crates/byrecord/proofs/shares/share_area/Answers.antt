-- `byrecord::shares::share_area` meets its contract: an area without UFE changes nothing; for any other the demands as they were put, the
-- sizes that the engine leaves in their places, and their signs.
use mathlib.Core.Path.{◌≡◌, sym, ◌∙◌, ap}
use mathlib.Core.List.{List, ◌++◌}
use Prim.Native.Nat.{ℕ, ◌≤◌}
use lib.IntN.{nat_abs}
use lib.ListN.{length, take, drop}
use lib.Seq.{length-take-le}
use Rattle.whole.specs.Below.{replacing_first}
use Rattle.whole.proofs.Machine.{read_back}
use Rattle.rules.specs.Ufe.{ufe}
use Rattle.share.specs.Shareable.{shares_in}
use Rattle.share.proofs.Shared.{shared_first}
use Rattle.hour.specs.Held.{held}
use Rattle.byrecord.specs.Shared.{with_sizes}
use Rattle.byrecord.proofs.Areas.{nothing_to_write, Asked, loads_fit, shareable, sized, area_shared}
use Rattle.byrecord.proofs.shares.share_area.Goals as goal
use Rattle.byrecord.proofs.shares.share_area.Goals.{After-put_demands-loads, After-size_of}

-- the demands are put
asked : (c : goal.After-put_demands-loads) →
    Asked c.args.hour.now c.args.a c.args.figure c.args.room.now c.args.out.now c.put_demands-loads.result c.put_demands-loads.new.demands
asked c = record { up_to = c.requires; counted = c.put_demands-loads.ensures.loads; holds = c.put_demands-loads.ensures.demands }

-- the size that the engine is asked to share is the UFE's
size_is : (c : goal.After-size_of) → c.size_of.result ≡ nat_abs (ufe (held c.args.hour.now) c.args.a)
size_is c = c.size_of.ensures ∙ ap nat_abs (read_back c.ranges.figure ∙ c.requires.figure_of)

-- what the engine leaves in the room, asked for that size
shared : (room : List ℕ) (loads size given : ℕ) {sizes : List ℕ} → loads ≤ length room → given ≡ size →
    sizes ≡ shares_in (take loads room) given (take loads room) → sizes ++ drop loads room ≡ shares_in (take loads room) size room
shared room loads size given fit same answer =
    shared_first room loads size fit (answer ∙ ap (λ u. shares_in (take loads room) u (take loads room)) same)

-- the first return: an area without UFE
pub returns-then-figure-eq0 : goal.returns-then-figure-eq0
returns-then-figure-eq0 c = nothing_to_write c.requires c.if-figure-eq0.true

-- &mut room[..loads]
pub slice_bounds-share_in_place-end : goal.slice_bounds-share_in_place-end
slice_bounds-share_in_place-end c = loads_fit (asked (goal.at.slice_bounds-share_in_place-end c).After-put_demands-loads)

-- its length
pub slice_bounds-share_in_place-end-2 : goal.slice_bounds-share_in_place-end-2
slice_bounds-share_in_place-end-2 c =
    sym (length-take-le c.put_demands-loads.result c.put_demands-loads.new.demands
    (loads_fit (asked (goal.at.slice_bounds-share_in_place-end-2 c).After-put_demands-loads)))

pub share_in_place-requires : goal.share_in_place-requires
share_in_place-requires c =
    let now = goal.at.share_in_place-requires c in
    rw (size_is now.After-size_of) (shareable (asked now.After-put_demands-loads))

pub put_area-requires : goal.put_area-requires
put_area-requires c =
    let asked-at = asked (goal.at.put_area-requires c).After-put_demands-loads in
    sized asked-at (shared _ _ _ _ (loads_fit asked-at) (size_is (goal.at.put_area-requires c).After-size_of) c.share_in_place.ensures)

-- the end: an area with UFE
pub returns : goal.returns
returns c =
    let asked-at = asked (goal.at.returns c).After-put_demands-loads in
    let hour = held c.args.hour.now in
    let out = c.args.out.now in
    let got = c.share_in_place.new.places ++ drop c.put_demands-loads.result c.put_demands-loads.new.demands in
    area_shared asked-at (shared _ _ _ _ (loads_fit asked-at) (size_is (goal.at.returns c).After-size_of) c.share_in_place.ensures) (
    c.put_area.ensures
    ∙ ap (λ u. replacing_first (with_sizes hour c.args.a u got out) hour.count out) (read_back c.ranges.figure))
