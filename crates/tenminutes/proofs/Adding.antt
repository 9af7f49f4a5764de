-- A member's nets, record by record, and what they cost.
use mathlib.Core.Path.{◌≡◌, refl, sym, ◌∙◌, ap}
use mathlib.Core.Bool.{Bool, true, false, cond, ◌&&◌}
use mathlib.Core.List.{List, []}
use Prim.Native.Nat.{ℕ, ◌+◌, ◌≤◌, ◌<◌}
use native.Mathlib.Nat.{le_refl}
use native.Mathlib.Omega.{arith}
use lib.IntN.{ℤ, pos, +ℤ_idr, ◌+ℤ◌}
use lib.Dec.{eqb}
use lib.ListN.{length, get_or, set, replicate, length-set, get_or-replicate}
use lib.Seq.{get_or-set_same, get_or-set_other}
use borrow.Author.Tests.{eq-eqb, ne_eqb, eqb-true, eqb-false}
use Rattle.whole.specs.Below.{total_below, values_below}
use Rattle.whole.proofs.Tests.{split, never}
use Rattle.whole.proofs.Totals.{total_ext, total_none, total_add_one}
use Rattle.whole.proofs.Buffers.{length_values, get_or_values}
use Rattle.rules.specs.Record.{Hour, member_of, area_of, zone_of}
use Rattle.rules.specs.Charge.{entering}
use Rattle.rules.specs.TenMinutes.{interval_of, net_deviation, interval_cost}
use Rattle.rules.specs.Inner.Kept.{TenMinutesKept}
use Rattle.rules.proofs.IntervalBounds.{net_running}
use Rattle.tenminutes.specs.Room.{adds, zone_in, net_in, NetsAfter, NetsOfOne, NetsInZone, cost_in, Spare}

-- ---- all records

module _ {h : Hour} {m n : ℕ} {nets : List (List ℤ)} (after : NetsAfter h m n nets) where
  pub spare : TenMinutesKept h → n ≤ h.count → (z : ℕ) → z < 4 → Spare (zone_in nets z)
  spare kept few z l = record {
    intervals = after.intervals z l;
    small = λ k j. rw (after.net_is z k l j) (net_running kept m z k n j few);
  }

  -- the member has no part in record n
  pub not_its : (member_of h n ≡ m → ⊥) → NetsAfter h m (n + 1) nets
  not_its other = record {
    zones = after.zones;
    intervals = after.intervals;
    net_is = λ z k l j. after.net_is z k l j ∙ sym (total_add_one (adds h m z k) n ∙ rw (ne_eqb (member_of h n) m other) (+ℤ_idr _));
  }

  -- record n is the member's, and its intervals are added to its zone's
  module _ {f : ℕ → ℤ} {zone : ℕ} (mine : member_of h n ≡ m) (zone-is : zone ≡ zone_of h (area_of h n)) (few : zone < 4)
      (f-is : (k : ℕ) → k < 6 → f k ≡ entering (interval_of h n k)) where
    abbrev row : List ℤ
    row = values_below (λ k. get_or (zone_in nets zone) k (pos 0) +ℤ f k) 6

    inside : zone < length nets
    inside = omega (arith, after.zones)

    there : zone_in (set nets zone row) zone ≡ row
    there = get_or-set_same nets zone row [] inside

    elsewhere : (z : ℕ) → (z ≡ zone → ⊥) → zone_in (set nets zone row) z ≡ zone_in nets z
    elsewhere z apart = get_or-set_other nets zone z row [] apart

    intervals_of : (z : ℕ) → z < 4 → length (zone_in (set nets zone row) z) ≡ 6
    intervals_of z l = split (eqb z zone)
        (λ t. rw (eqb-true z zone t) (ap length there ∙ length_values _ 6))
        (λ t. ap length (elsewhere z (eqb-false z zone t)) ∙ after.intervals z l)

    chosen : (a b : Bool) (x e : ℤ) → a ≡ true → x +ℤ cond b e (pos 0) ≡ x +ℤ cond (a && b) e (pos 0)
    chosen true b x e t = refl
    chosen false b x e t = never t refl

    one_more : (z k : ℕ) → z < 4 → k < 6 →
        net_in nets z k +ℤ cond (eqb (zone_of h (area_of h n)) z) (entering (interval_of h n k)) (pos 0) ≡ total_below (adds h m z k) (n + 1)
    one_more z k l j = rw (after.net_is z k l j) (
        chosen (eqb (member_of h n) m) (eqb (zone_of h (area_of h n)) z) (total_below (adds h m z k) n)
        (entering (interval_of h n k)) (eq-eqb (member_of h n) m mine)
        ∙ sym (total_add_one (adds h m z k) n))

    net_of : (z k : ℕ) → z < 4 → k < 6 → net_in (set nets zone row) z k ≡ total_below (adds h m z k) (n + 1)
    net_of z k l j = split (eqb z zone)
        (λ t. let same : z ≡ zone = eqb-true z zone t in
        ap (λ (a : ℕ). net_in (set nets zone row) a k) same
        ∙ ap (λ (r : List ℤ). get_or r k (pos 0)) there
        ∙ get_or_values _ 6 k (pos 0) j
        ∙ rw (f-is k j) (sym (ap (λ (a : ℕ). net_in nets a k +ℤ cond (eqb (zone_of h (area_of h n)) a) (entering (interval_of h n k)) (pos 0)) same
        ∙ rw (eq-eqb (zone_of h (area_of h n)) zone (sym zone-is)) refl))
        ∙ one_more z k l j)
        (λ t. let apart : z ≡ zone → ⊥ = eqb-false z zone t in
        ap (λ (r : List ℤ). get_or r k (pos 0)) (elsewhere z apart)
        ∙ sym (+ℤ_idr (net_in nets z k))
        ∙ sym (rw (ne_eqb (zone_of h (area_of h n)) z (λ e. apart (sym (zone-is ∙ e)))) refl)
        ∙ one_more z k l j)

    pub its_own : NetsAfter h m (n + 1) (set nets zone row)
    its_own = record { zones = length-set nets zone row ∙ after.zones; intervals = intervals_of; net_is = net_of }

pub none_yet : (h : Hour) (m : ℕ) → NetsAfter h m 0 (replicate 4 (replicate 6 (pos 0)))
none_yet h m = record {
  zones = refl;
  intervals = λ z l. rw (zone-is z l) refl;
  net_is = λ z k l j. rw (zone-is z l) (get_or-replicate 6 k (pos 0) (pos 0) j) ∙ sym (total_none (adds h m z k));
}
  where
    zone-is : (z : ℕ) → z < 4 → zone_in (replicate 4 (replicate 6 (pos 0))) z ≡ replicate 6 (pos 0)
    zone-is z l = get_or-replicate 4 z (replicate 6 (pos 0)) [] l

-- ---- what the nets cost

module _ {h : Hour} {z : ℕ} {zone : List ℤ} (own : NetsInZone h z zone) where
  pub cost_is : (k : ℕ) → k < 6 → cost_in h z zone k ≡ interval_cost h own.member z k
  unfolding interval_cost net_deviation
  cost_is k j = rw (own.net_is k j)

  pub zone_cost_is : (n : ℕ) → n ≤ 6 → total_below (cost_in h z zone) n ≡ total_below (interval_cost h own.member z) n
  zone_cost_is n few = total_ext _ _ n (λ k j. cost_is k (omega arith))

module _ {h : Hour} {nets : List (List ℤ)} (own : NetsOfOne h nets) where
  abbrev pub in_zone : (z : ℕ) → z < 4 → NetsInZone h z (zone_in nets z)
  in_zone z l = record { member = own.member; net_is = λ k j. own.nets.net_is z k l j }

  pub amount_is : (n : ℕ) → n ≤ 4 →
      total_below (λ z. total_below (cost_in h z (zone_in nets z)) 6) n ≡ total_below (λ z. total_below (interval_cost h own.member z) 6) n
  amount_is n few = total_ext _ _ n (λ z l. zone_cost_is (in_zone z (omega arith)) 6 (le_refl 6))
