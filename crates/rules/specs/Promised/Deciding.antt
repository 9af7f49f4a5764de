-- What is asked of an explanation, as statements about the definitions: the heads are the tariff's and add up to what settling writes into
-- the member's line, the head named is the one that decided, and the refusals come in their order. Document 02, A5.
use Rattle.std.specs.Prelude.{ℕ, ◌≤◌, ◌<◌, ◌≡◌, ◌↔◌, true, List, [], ◌∷◌, ℤ, pos, neg_ℤ, nat_abs, ◌*ℤ◌, get_or, Option, None, Some}
use Rattle.whole.specs.Below.{total_below}
use Rattle.rules.specs.Record.{Hour, members, zones, zone_price, entry_of, is_generator, is_load, is_import, is_export}
use Rattle.rules.specs.Charge.{share_of}
use Rattle.rules.specs.HourFile.{hour_in}
use Rattle.rules.specs.Refusals.{accepted, refused_at, verdict, hour_rows, explain_rows, Buffers}
use Rattle.rules.specs.Settling.{settle, empty_line}
use Rattle.rules.specs.Explanation.{no_heads, head_at, same_sign, explain}
use Rattle.rules.specs.Promised.Tariff.{gen_dev, load_dev, imp_dev, exp_dev, coordinator_sum, UFEC}
use Rattle.rules.specs.Promised.Demands.{Accepts, ByTheTable}

-- the five heads a second way: the terms of a member's IEC, in every zone
module _ (h : Hour) (m : ℕ) where
  abbrev pub in_every_zone : (ℕ → ℤ) → ℤ
  in_every_zone term = total_below term (zones h)

  unfoldable pub tariff_heads : List ℤ
  tariff_heads = let sum = coordinator_sum h (share_of h) m in let P = zone_price h in
      in_every_zone (λ x. sum x is_generator (λ i. gen_dev (entry_of h i)) *ℤ P x)
      ∷ in_every_zone (λ x. neg_ℤ (sum x is_load (λ i. load_dev (entry_of h i)) *ℤ P x))
      ∷ in_every_zone (λ x. sum x is_import (λ i. imp_dev (entry_of h i)) *ℤ P x)
      ∷ in_every_zone (λ x. neg_ℤ (sum x is_export (λ i. exp_dev (entry_of h i)) *ℤ P x))
      ∷ in_every_zone (λ x. UFEC h (share_of h) m x)
      ∷ []

-- head k decided on the charge: it has its sign, none with that sign is larger in size, and none before it is as large
pub record Decides (charge : ℤ) (heads : List ℤ) (k : ℕ) : Type 0 where
  pub one_of_five : k < 5
  pub sign_is : same_sign charge (head_at heads k) ≡ true
  pub largest : (j : ℕ) → j < 5 → same_sign charge (head_at heads j) ≡ true → nat_abs (head_at heads j) ≤ nat_abs (head_at heads k)
  pub first : (j : ℕ) → j < k → same_sign charge (head_at heads j) ≡ true → nat_abs (head_at heads j) < nat_abs (head_at heads k)

-- what is said of a member with this exact amount and this charge
pub record Explains (h : Hour) (m : ℕ) (amount charge : ℤ) (heads : List ℤ) (decided : Option ℕ) : Type 0 where
  pub by_formula : heads ≡ tariff_heads h m
  pub add_up : total_below (head_at heads) 5 ≡ amount
  -- a head is named exactly if it decided
  pub decides : (k : ℕ) → (decided ≡ Some k) ↔ Decides charge heads k
  -- a charge other than zero always has one, and a charge of zero none
  pub always_one : (charge ≡ pos 0 → ⊥) → (k : ℕ) × (decided ≡ Some k)
  pub none_for_zero : (decided ≡ None) ↔ (charge ≡ pos 0)

pub record Explaining : Type 0 where
  pub by_the_table : (s : List ℕ) (m : ℕ) → ByTheTable (explain_rows s m) (explain s m).verdict
  pub nothing_said : (s : List ℕ) (m : ℕ) → ((explain s m).verdict ≡ accepted → ⊥) →
      ((explain s m).heads ≡ no_heads) × ((explain s m).decided ≡ None)
  -- an hour that settling accepts, into any buffers, is explained to each of its members, by the line and the charge that settling wrote
  pub explained : (s : List ℕ) (b : Buffers) (m : ℕ) → Accepts s b → m < members (hour_in s) →
      ((explain s m).verdict ≡ accepted)
      × Explains (hour_in s) m
      (get_or (settle s b).buffers.lines m empty_line).amount (get_or (settle s b).buffers.charges m (pos 0))
      (explain s m).heads (explain s m).decided
  -- no two heads decide, not on a tie either
  pub one_decides : (charge : ℤ) (heads : List ℤ) (j k : ℕ) → Decides charge heads j → Decides charge heads k → j ≡ k
  -- 13 exactly where every row of the hour is passed and the member's number isn't below the member count
  pub no_member : (s : List ℕ) (m : ℕ) →
      ((explain s m).verdict ≡ refused_at 13 0) ↔ ((verdict (hour_rows s) ≡ accepted) × (members (hour_in s) ≤ m))
  pub refused_alike : (s : List ℕ) (m : ℕ) → (verdict (hour_rows s) ≡ accepted → ⊥) → (explain s m).verdict ≡ verdict (hour_rows s)
