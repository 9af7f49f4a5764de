-- What settling's promise says to a caller that lends no lines, and room for every hour: the verdict is that of the rows without 11, and of an
-- accepted hour every figure stands in its place.
use mathlib.Core.Path.{◌≡◌, sym, ◌∙◌, ap}
use mathlib.Core.List.{List}
use Prim.Native.Nat.{ℕ, ◌≤◌, ◌<◌}
use native.Mathlib.Omega.{arith}
use lib.IntN.{ℤ, pos}
use lib.ListN.{length, get_or}
use Rattle.whole.specs.Below.{replacing_first}
use Rattle.whole.proofs.Buffers.{get_or_replacing, length_replacing}
use Rattle.std.specs.Prelude.{Result}
use Rattle.rules.specs.declared.Refusal.{Refusal}
use Rattle.rules.specs.Record.{members, entry_of}
use Rattle.rules.specs.Deviation.{deviation}
use Rattle.rules.specs.Charge.{share_of, charge}
use Rattle.rules.specs.Neutrality.{final}
use Rattle.rules.specs.Refusals.{accepted, verdict_of, verdict, hour_rows, Buffers}
use Rattle.rules.specs.Settling.{filled}
use Rattle.rules.specs.Inner.Kept.{FileKept}
use Rattle.rules.proofs.Rows.{settle_verdict, settle_fills}
use Rattle.rules.proofs.Stated.{accepted_kept, room_for_all}
use Rattle.rules.specs.HourFile.{hour_in}
use Rattle.pool.specs.Unlined.{Unlined, with_lines, own_lines, FitsUnlined}

-- room for every hour
pub record Rooms (b : Unlined) : Type 0 where
  pub charges_room : 32 ≤ length b.charges
  pub finals_room : 32 ≤ length b.finals
  pub shares_room : 250 ≤ length b.shares
  pub deviations_room : 250 ≤ length b.deviations

-- figures stand in a buffer's first places
pub record StandIn (figure : ℕ → ℤ) (n : ℕ) (buffer : List ℤ) : Type 0 where
  pub room : n ≤ length buffer
  pub figures_are : (k : ℕ) → k < n → get_or buffer k (pos 0) ≡ figure k

-- the figures of an hour that was accepted
pub record Figured (s : List ℕ) (after : Unlined) : Type 0 where
  pub kept : FileKept s
  pub charges : StandIn (charge (hour_in s)) (members (hour_in s)) after.charges
  pub finals : StandIn (final (hour_in s)) (members (hour_in s)) after.finals
  pub shares : StandIn (share_of (hour_in s)) (hour_in s).count after.shares
  pub deviations : StandIn (λ i. deviation (entry_of (hour_in s) i)) (hour_in s).count after.deviations

stand_in : (figure : ℕ → ℤ) (n : ℕ) (old : List ℤ) {new : List ℤ} → n ≤ length old → new ≡ replacing_first figure n old → StandIn figure n new
stand_in figure n old enough put = record {
  room = rw (put, length_replacing figure n old enough) enough;
  figures_are = λ k l. rw put (get_or_replacing figure n old k (pos 0) l);
}

module _ {s : List ℕ} {b after : Unlined} {r : Result (List ℤ) Refusal} (rooms : Rooms b) (settled : FitsUnlined s b r after) where
  -- the buffers that were settled into
  abbrev lent : Buffers
  lent = with_lines b own_lines

  pub same_verdict : verdict_of r ≡ verdict (hour_rows s)
  same_verdict = settled.fits.verdict_is ∙ settle_verdict s lent
      ∙ room_for_all s lent rooms.charges_room rooms.finals_room (omega arith) rooms.shares_room rooms.deviations_room

  pub figured : verdict_of r ≡ accepted → Figured s after
  unfolding filled
  figured accepts =
      let kept = accepted_kept s (sym same_verdict ∙ accepts) in
      let most-members = kept.hour_kept.members_most in
      let most-records = kept.hour_kept.count_most in
      let all_filled : with_lines after settled.lines ≡ filled (hour_in s) lent =
      settled.fits.buffers_are ∙ (settle_fills s lent (sym settled.fits.verdict_is ∙ accepts)).0 in
      record {
        kept = kept;
        charges = stand_in _ _ b.charges (omega (arith, rooms.charges_room)) (ap (λ (x : Buffers). x.charges) all_filled);
        finals = stand_in _ _ b.finals (omega (arith, rooms.finals_room)) (ap (λ (x : Buffers). x.finals) all_filled);
        shares = stand_in _ _ b.shares (omega (arith, rooms.shares_room)) (ap (λ (x : Buffers). x.shares) all_filled);
        deviations = stand_in _ _ b.deviations (omega (arith, rooms.deviations_room)) (ap (λ (x : Buffers). x.deviations) all_filled);
      }
