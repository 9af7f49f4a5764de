-- An area's loads: how the code tells them, what they demand, and the two loops over them: the demands are put, then the shares.
use mathlib.Core.Path.{◌≡◌, refl, sym, ◌∙◌, ap, ap₂}
use mathlib.Core.Bool.{true, cond}
use mathlib.Core.List.{List}
use Prim.Native.Nat.{ℕ, ◌+◌, ◌≤◌, ◌<◌, zero-le}
use native.Mathlib.Omega.{arith}
use lib.Dec.{eqb}
use lib.IntN.{ℤ, pos}
use lib.ListN.{length, get_or, set}
use Rattle.whole.specs.Below.{one_if, gathered_below}
use Rattle.whole.specs.Signed.{with_sign_of}
use Rattle.whole.proofs.Tests.{split, both}
use Rattle.whole.proofs.Sums.{count_most}
use Rattle.whole.proofs.Gathering.{count_none, count_add_one, gathered_none, gathered_next, gathered_length}
use Rattle.whole.proofs.Filling.{Filled, none_filled, next_filled, passed_over}
use Rattle.rules.specs.Record.{Hour, area_of, is_load}
use Rattle.rules.specs.Ufe.{in_area, demand}
use Rattle.rules.specs.Inner.Posting.{demand_by, demand_of}
use Rattle.byrecord.specs.Shared.{loads_before, with_sizes}

-- a load demands its D
pub load_demands : (h : Hour) (a i : ℕ) → in_area h a is_load i ≡ true → demand_of h i ≡ demand h i
unfolding in_area demand_by
load_demands h a i t = rw (both (eqb (area_of h i) a) _ t).1

-- the next record is counted if it is one
counted_on : (h : Hour) (a i : ℕ) {loads more : ℕ} → loads ≡ loads_before h a i → more ≡ loads + one_if (in_area h a is_load i) →
    more ≡ loads_before h a (i + 1)
counted_on h a i counted one =
    one ∙ ap (λ (k : ℕ). k + one_if (in_area h a is_load i)) counted ∙ sym (count_add_one (in_area h a is_load) i)

-- ---- the demands of an area's loads are put, those of the first i records

pub record DemandsPut (h : Hour) (a i loads : ℕ) (lent room : List ℕ) : Type 0 where
  pub reached : i ≤ h.count
  pub counted : loads ≡ loads_before h a i
  pub holds : room ≡ gathered_below (in_area h a is_load) (demand h) i lent

module _ {h : Hour} {a : ℕ} {lent : List ℕ} where
  pub no_demand_put : DemandsPut h a 0 0 lent lent
  no_demand_put = record {
    reached = zero-le;
    counted = sym (count_none (in_area h a is_load));
    holds = sym (gathered_none (in_area h a is_load) (demand h) lent);
  }

  module _ {i loads : ℕ} {room : List ℕ} (put : DemandsPut h a i loads lent room) where
    pub room_kept : length room ≡ length lent
    room_kept = ap length put.holds ∙ gathered_length (in_area h a is_load) (demand h) lent i

    pub place_next : i < length lent → loads < length room
    place_next l = omega (arith, room_kept, put.counted, count_most (in_area h a is_load) i)

    pub next_demand : {more : ℕ} {next : List ℕ} → i < h.count → more ≡ loads + one_if (in_area h a is_load i) →
        next ≡ cond (in_area h a is_load i) (set room loads (demand h i)) room → DemandsPut h a (i + 1) more lent next
    next_demand l one stored = record {
      reached = omega arith;
      counted = counted_on h a i put.counted one;
      holds =
          stored
          ∙ ap₂ (λ (k : ℕ) (l : List ℕ). cond (in_area h a is_load i) (set l k (demand h i)) l) put.counted put.holds
          ∙ sym (gathered_next (in_area h a is_load) (demand h) lent i);
    }

    pub all_demands_put : h.count ≤ i →
        (loads ≡ loads_before h a h.count) × (room ≡ gathered_below (in_area h a is_load) (demand h) h.count lent)
    all_demands_put ended =
        let e : i ≡ h.count = omega (arith, put.reached) in
        (put.counted ∙ ap (loads_before h a) e, put.holds ∙ ap (λ n. gathered_below (in_area h a is_load) (demand h) n lent) e)

-- ---- the shares of an area's loads are put, those of the first i records

pub record SharesPut (h : Hour) (a : ℕ) (figure : ℤ) (sizes : List ℕ) (i loads : ℕ) (lent out : List ℤ) : Type 0 where
  pub counted : loads ≡ loads_before h a i
  pub filled : Filled (with_sizes h a figure sizes lent) h.count i lent out

module _ {h : Hour} {a : ℕ} {figure : ℤ} {sizes : List ℕ} {lent : List ℤ} where
  pub no_share_put : h.count ≤ length lent → SharesPut h a figure sizes 0 0 lent lent
  no_share_put room = record { counted = sym (count_none (in_area h a is_load)); filled = none_filled room }

  module _ {i loads : ℕ} {out : List ℤ} (put : SharesPut h a figure sizes i loads lent out) where
    pub loads_few : loads ≤ i
    loads_few = omega (arith, put.counted, count_most (in_area h a is_load) i)

    pub next_share : {more : ℕ} {next : List ℤ} → i < h.count → more ≡ loads + one_if (in_area h a is_load i) →
        next ≡ cond (in_area h a is_load i) (set out i (with_sign_of figure (get_or sizes loads 0))) out →
        SharesPut h a figure sizes (i + 1) more lent next
    unfolding with_sizes
    next_share l one stored = record {
      counted = counted_on h a i put.counted one;
      filled = rw stored (split (in_area h a is_load i)
          (λ t. rw t (next_filled put.filled l (rw (t, put.counted) refl)))
          (λ f. rw f (passed_over put.filled (pos 0) l (rw f refl))));
    }
