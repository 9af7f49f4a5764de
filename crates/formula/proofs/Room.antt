-- In an hour that keeps its ranges every posting has room: what the callers of `tallied` and `line_with` show.
use Prim.Native.Nat.{ℕ, ◌+◌, ◌≤◌, ◌<◌}
use native.Mathlib.Omega.{arith}
use lib.Dec.{eqb}
use lib.ListN.{get_or}
use Rattle.whole.proofs.Tests.{cond_ind}
use Rattle.whole.proofs.Ranges.{◌u+◌, u_fits}
use Rattle.whole.proofs.Sums.{count_most}
use Rattle.rules.specs.Record.{Hour, member_of, area_of, entry_of, is_load}
use Rattle.rules.specs.Ufe.{demand}
use Rattle.rules.specs.Charge.{grains}
use Rattle.rules.specs.Inner.Posting.{accounted, demand_by, demand_of, tally_after}
use Rattle.rules.specs.Inner.Kept.{HourKept}
use Rattle.rules.proofs.Posting.{tally_records, tally_demand, tally_energy, line_after}
use Rattle.rules.proofs.Bounds.{accounted_under, demand_running, energy_running, grains_under, amount_running}
use Rattle.formula.specs.Room.{TallyRoom, LineRoom}

module _ {h : Hour} (kept : HourKept h) (n : ℕ) (there : n < h.count) where
  area_there : area_of h n < 8
  area_there = omega (arith, (kept.record_kept n there).area_there, kept.areas_most)

  demand_most : demand_of h n ≤ 100000
  unfolding demand_by
  demand_most = cond_ind (is_load (entry_of h n).kind) (demand h n) 0 (λ d. d ≤ 100000) (λ t. (kept.record_kept n there).demand_most)
      (λ t. omega arith)

  demand_fits : get_or (tally_after h n).demand (area_of h n) 0 + demand_of h n < 0x1_0000_0000
  demand_fits = rw (tally_demand h (area_of h n) area_there n) (omega (arith, demand_running kept (area_of h n) n (omega arith), demand_most))

  -- The tally of the records before one has room for it.
  pub tally_room : TallyRoom (tally_after h n) (area_of h n) (demand_of h n) (accounted (entry_of h n))
  tally_room = record {
    area_there = area_there;
    records_fit = omega (arith, tally_records h n, kept.count_most);
    demand_fits = demand_fits;
    energy_fits = rw (tally_energy h (area_of h n) area_there n)
        (u_fits (energy_running kept (area_of h n) n (omega arith) u+ accounted_under (kept.record_kept n there).entry_kept) tt);
  }

  -- The line of its member has room for its grains.
  pub line_room : LineRoom (line_after h n (member_of h n)) (grains h n)
  line_room = record {
    amount_fits = u_fits (amount_running kept (member_of h n) n (omega arith) u+ grains_under kept n there) tt;
    records_fit = omega (arith, count_most (λ i. eqb (member_of h i) (member_of h n)) n, kept.count_most);
  }
