-- An hour in which nobody demands anything: no record has a share, and the members' exact amounts are added up record by record.
use mathlib.Core.Path.{◌≡◌, sym, ◌∙◌, ap}
use mathlib.Core.List.{List, map}
use Prim.Native.Nat.{ℕ, ◌+◌, ◌≤◌, ◌<◌}
use native.Mathlib.Nat.{le_of_lt}
use native.Mathlib.Omega.{arith}
use lib.IntN.{ℤ, pos, ◌+ℤ◌}
use lib.ListN.{length, get_or, set}
use mir.Syntax.{w64}
use mir.Val.{SFits}
use Rattle.std.proofs.lemmas.List.{get_or-map, length-map}
use Rattle.whole.specs.Below.{replacing_first}
use Rattle.whole.proofs.Buffers.{get_or_replacing, length_replacing}
use Rattle.whole.proofs.Adding.{Added, totals_by, added_at, next_total, all_added}
use Rattle.whole.proofs.Machine.{Num, result, ◌:+◌, fits, stored, back}
use Rattle.rules.specs.Record.{Hour, members, member_of, area_of, entry_of}
use Rattle.rules.specs.Deviation.{deviation}
use Rattle.rules.specs.Charge.{share_of, grains, amount, cents, charge}
use Rattle.rules.specs.Neutrality.{hour_demand}
use Rattle.rules.specs.Inner.Kept.{HourKept}
use Rattle.rules.proofs.Fair.{none_to_share}
use Rattle.rules.proofs.Bounds.{grains_under, amount_running}
use Rattle.rules.proofs.Neutral.{no_area_demands}
use Rattle.bymember.specs.Charged.{Charged, Deviated, Empty}

module _ {h : Hour} (kept : HourKept h) where
  pub no_share : hour_demand h ≡ 0 → (i : ℕ) → i < h.count → pos 0 ≡ share_of h i
  no_share none i there =
      sym (none_to_share h i there (no_area_demands kept none (area_of h i) (kept.record_kept i there).area_there))

  abbrev pub amounts_after : ℕ → ℕ → ℤ
  amounts_after = totals_by (member_of h) (grains h)

  -- the records before i are in the amounts, and its member and grains are read
  module _ {i : ℕ} {old out : List ℤ} {m : ℕ} {g : ℤ} (added : Added amounts_after (members h) h.count i old out)
      (there : i < h.count) (member_is : m ≡ member_of h i) (grains-is : g ≡ grains h i) where
    member_there : member_of h i < members h
    member_there = (kept.record_kept i there).member_there

    so_far : get_or out m (pos 0) ≡ amounts_after i (member_of h i)
    so_far = ap (λ (k : ℕ). get_or out k (pos 0)) member_is ∙ added_at added (member_of h i) (pos 0) member_there

    abbrev more : Num
    more = result so_far (amount_running kept (member_of h i) i (le_of_lt there)) :+ result grains-is (grains_under kept i there)

    pub grains_fit : SFits w64 (back (get_or out m (pos 0)) +ℤ back g)
    grains_fit = fits more tt

    pub grains_added : Added amounts_after (members h) h.count (i + 1) old (set out m (back (back (get_or out m (pos 0)) +ℤ back g)))
    grains_added = next_total (member_of h) (grains h) added there member_there member_is (stored more tt)

  pub amounts_are : {i : ℕ} {old out : List ℤ} → Added amounts_after (members h) h.count i old out → h.count ≤ i →
      out ≡ replacing_first (amount h) (members h) old
  unfolding amount
  amounts_are added ended = all_added added ended

-- the deviations are put where there is room for them
pub deviations_ready : (h : Hour) (lent : List ℤ) {deviations : List ℤ} → h.count ≤ length lent →
    deviations ≡ replacing_first (λ i. deviation (entry_of h i)) h.count lent → Deviated h deviations
deviations_ready h lent room put = record {
  room = rw (put, length_replacing (λ i. deviation (entry_of h i)) h.count lent room) room;
  deviations_are = λ i l. rw put (get_or_replacing (λ i. deviation (entry_of h i)) h.count lent i (pos 0) l);
}

-- the amounts are added up where nothing stood, and rounded they are the hour's charges
module _ (h : Hour) {lent amounts charges : List ℤ} (empty : Empty (pos 0) h lent)
    (put : amounts ≡ replacing_first (amount h) (members h) lent) (rounded : charges ≡ map cents amounts) where
  amounts_length : length amounts ≡ members h
  amounts_length = ap length put ∙ length_replacing (amount h) (members h) lent (omega (arith, empty.as_many)) ∙ empty.as_many

  pub charges_length : length charges ≡ members h
  charges_length = ap length rounded ∙ length-map amounts cents ∙ amounts_length

  pub charged : Charged h charges
  unfolding charge
  charged = record {
    room = omega (arith, charges_length);
    charges_are = λ m l. rw rounded (get_or-map cents amounts m (pos 0) (pos 0) (omega (arith, amounts_length))
        ∙ ap cents (rw put (get_or_replacing (amount h) (members h) lent m (pos 0) l)));
  }
