-- Deviations and shares that are written to buffers with room for them are worked, for the postings to the lines.
use mathlib.Core.Path.{◌≡◌, ap}
use mathlib.Core.List.{List}
use Prim.Native.Nat.{◌≤◌}
use native.Mathlib.Omega.{arith}
use lib.IntN.{ℤ, pos}
use lib.ListN.{length}
use Rattle.whole.specs.Below.{replacing_first}
use Rattle.whole.proofs.Buffers.{get_or_replacing, length_replacing}
use Rattle.rules.specs.Record.{Hour, entry_of}
use Rattle.rules.specs.Deviation.{deviation}
use Rattle.rules.specs.Charge.{share_of}
use Rattle.bymember.specs.Lined.{AllWorked}

pub all_worked : (h : Hour) (old-deviations old-shares : List ℤ) {deviations shares : List ℤ} →
    h.count ≤ length old-deviations → h.count ≤ length old-shares →
    deviations ≡ replacing_first (λ i. deviation (entry_of h i)) h.count old-deviations →
    shares ≡ replacing_first (share_of h) h.count old-shares → AllWorked h deviations shares
all_worked h old-deviations old-shares deviations_room shares_room put-deviations put-shares = record {
  deviations_room =
      omega (arith, ap length put-deviations, length_replacing (λ i. deviation (entry_of h i)) h.count old-deviations deviations_room);
  shares_room = omega (arith, ap length put-shares, length_replacing (share_of h) h.count old-shares shares_room);
  deviations_are = λ i l. rw put-deviations (get_or_replacing _ h.count old-deviations i (pos 0) l);
  shares_are = λ i l. rw put-shares (get_or_replacing _ h.count old-shares i (pos 0) l);
}
