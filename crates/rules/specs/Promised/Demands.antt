-- The customer's three demands as statements about the definitions, and that no second result fits. Minutes, demands 1 to 3.
use Rattle.std.specs.Prelude.{ℕ, suc, ◌+◌, ◌*◌, ◌/◌, ◌%◌, ◌≤◌, ◌<◌, ◌≡◌, ◌↔◌, true, cond, not, ◌&&◌, List, [], ◌∷◌, ◌++◌, ℤ, pos, nat_abs, ◌+ℤ◌, ◌-ℤ◌, ◌*ℤ◌, length, drop, get_or, replicate, eqb, None, Some, Result}
use Rattle.whole.specs.Below.{sum_below, total_below, product_below}
use Rattle.whole.specs.Signed.{with_sign_of}
use Rattle.rules.specs.declared.Refusal.{Refusal}
use Rattle.rules.specs.Record.{Hour, members, zones, areas, price, member_of, area_of, entry_of, is_load}
use Rattle.rules.specs.Ufe.{in_area, ufe, demand, area_demand}
use Rattle.rules.specs.Share.{ranked_size}
use Rattle.rules.specs.Charge.{entering, share_of, records_of, grains_per_cent, charge, pool_total}
use Rattle.rules.specs.Neutrality.{final}
use Rattle.rules.specs.Text.{bytes, digit_byte, amount_text, amount_field}
use Rattle.rules.specs.HourFile.{hour_in}
use Rattle.rules.specs.Refusals.{Row, row, Verdict, accepted, refused_at, verdict_of, verdict, hour_rows, write_amount_rows, read_amount_rows, Buffers, settle_rows}
use Rattle.rules.specs.Settling.{settle, no_figures, figures_of, write, read, empty_line}
use Rattle.rules.specs.Statement.{member_line}
use Rattle.rules.specs.Promised.Tariff.{dev_as, ufe_of_territory, IEC}
use Rattle.rules.specs.Promised.Rounding.{Nearest}

abbrev pub Accepts : List ℕ → Buffers → Type 0
Accepts s b = (settle s b).verdict ≡ accepted

-- ---- DEMAND 1: refused exactly when the table says, with its number and place, and nothing changed.
-- Document 01, "Refusal numbers and their order"; what is read is "Text amounts"

-- every row is whole
abbrev pub AllWhole : List Row → Type 0
AllWhole [] = Unit {0}
AllWhole (row n broken ∷ rows) = (broken ≡ None) × AllWhole rows

-- a row of this number is broken at this place, and every row before it is whole
pub record FirstBrokenRow (rows : List Row) (number place : ℕ) : Type 0 where
  pub before : List Row
  pub after : List Row
  pub in_order : rows ≡ before ++ row number (Some place) ∷ after
  pub whole_before : AllWhole before

-- a verdict given exactly as a table says
pub record ByTheTable (rows : List Row) (told : Verdict) : Type 0 where
  -- accepted exactly when every row is whole
  pub accepts : (told ≡ accepted) ↔ AllWhole rows
  -- refused with a number and a place exactly when that row is the first that is broken, at that place
  pub refuses : (n p : ℕ) → (told ≡ refused_at (suc n) p) ↔ FirstBrokenRow rows (suc n) p

-- any blanks and the text of an amount in range
pub record IsTextOf (z : ℤ) (s : List ℕ) : Type 0 where
  pub in_range : nat_abs z ≤ 999999999999
  pub blanks : ℕ
  pub spelled : s ≡ replicate blanks 32 ++ amount_text z

pub record Demand1 : Type 0 where
  pub settle_by_the_table : (s : List ℕ) (b : Buffers) → ByTheTable (settle_rows s b) (settle s b).verdict
  pub settle_changes_nothing : (s : List ℕ) (b : Buffers) → (Accepts s b → ⊥) → ((settle s b).buffers ≡ b) × ((settle s b).ufe ≡ no_figures)
  pub write_by_the_table : (f : List ℕ) (z : ℤ) → ByTheTable (write_amount_rows (length f) z) (write f z).verdict
  pub write_changes_nothing : (f : List ℕ) (z : ℤ) → ((write f z).verdict ≡ accepted → ⊥) → (write f z).field ≡ f
  pub read_checks : (s : List ℕ) → (read s).verdict ≡ verdict (read_amount_rows s)
  pub read_accepts : (s : List ℕ) (z : ℤ) → (read s ≡ record { verdict = accepted; amount = z }) ↔ IsTextOf z s
  pub read_refuses : (s : List ℕ) → (read s ≡ record { verdict = refused_at 10 0; amount = pos 0 }) ↔ ((z : ℤ) → IsTextOf z s → ⊥)

-- ---- DEMAND 2: every figure by the formulas of 003 (`Tariff`), every text with its sign (document 01, "Text amounts")

-- the share of record i, its leftover unit by rank
unfoldable pub ranked_share : Hour → ℕ → ℤ
ranked_share h i = let a = area_of h i in with_sign_of (ufe h a) (ranked_size (in_area h a is_load) (demand h) h.count (nat_abs (ufe h a)) i)

-- a member's exact amount a second way: its IEC in every zone
unfoldable pub all_zones : Hour → ℕ → ℤ
all_zones h m = total_below (IEC h (share_of h) m) (zones h)

-- what an accepted settling of this hour answers and leaves in the buffers, place by place
pub record ByFormula (h : Hour) (before : Buffers) (ufes : List ℤ) (after : Buffers) : Type 0 where
  pub ufe_is : (a : ℕ) → a < areas h → get_or ufes a (pos 0) ≡ ufe_of_territory h a
  -- eight figures, 0 for areas past the count
  pub eight_figures : length ufes ≡ 8
  pub past_areas : (a : ℕ) → areas h ≤ a → a < 8 → get_or ufes a (pos 0) ≡ pos 0
  pub deviation_is : (i : ℕ) → i < h.count → get_or after.deviations i (pos 0) ≡ dev_as (entry_of h i).kind (entry_of h i)
  pub share_is : (i : ℕ) → i < h.count → get_or after.shares i (pos 0) ≡ ranked_share h i
  -- the nearest cent to the exact amount, which the line holds; `Rounding` says that no other charge is
  pub charge_is : (m : ℕ) → m < members h → Nearest grains_per_cent (all_zones h m) (get_or after.charges m (pos 0))
  pub line_is : (m : ℕ) → m < members h → get_or after.lines m empty_line ≡ record { amount = all_zones h m; records = records_of h m }
  -- a member without records pays nothing
  pub no_records : (m : ℕ) → m < members h → records_of h m ≡ 0 →
      (get_or after.charges m (pos 0) ≡ pos 0) × (get_or after.lines m empty_line ≡ empty_line)
  pub past_charges : drop (members h) after.charges ≡ drop (members h) before.charges
  pub past_lines : drop (members h) after.lines ≡ drop (members h) before.lines
  pub past_shares : drop h.count after.shares ≡ drop h.count before.shares
  pub past_deviations : drop h.count after.deviations ≡ drop h.count before.deviations
  pub same_lengths : (length after.charges ≡ length before.charges) × (length after.lines ≡ length before.lines)
      × (length after.shares ≡ length before.shares) × (length after.deviations ≡ length before.deviations)

pub record Demand2 : Type 0 where
  pub settled : (s : List ℕ) (b : Buffers) → Accepts s b → ByFormula (hour_in s) b (settle s b).ufe (settle s b).buffers
  -- written, then read; read, then written at the same width
  pub written_read : (f : List ℕ) (z : ℤ) → (write f z).verdict ≡ accepted →
      read (write f z).field ≡ record { verdict = accepted; amount = z }
  pub read_written : (s f : List ℕ) (z : ℤ) → read s ≡ record { verdict = accepted; amount = z } → length f ≡ length s →
      write f z ≡ record { verdict = accepted; field = s }
  -- the statement shows every charge and every final whole
  pub printed : (s : List ℕ) → verdict (hour_rows s) ≡ accepted → let h = hour_in s in (m : ℕ) → m < members h →
      (length (amount_text (charge h m)) ≤ 14) × (length (amount_text (final h m)) ≤ 14)
      × (member_line m (charge h m) (final h m) ≡
      digit_byte (m / 10) ∷ digit_byte (m % 10) ∷ bytes " " ++ amount_field 14 (charge h m)
      ++ bytes " " ++ amount_field 14 (final h m) ++ bytes "\n")

-- ---- DEMAND 3: the sums come out whole, without fractions. Document 01, "The sums": the exact fraction, and how both are compared

module _ (h : Hour) where
  -- an area's T where it isn't 0
  unfoldable pub non_zero_T : ℕ → ℕ
  non_zero_T a = cond (eqb (area_demand h a) 0) 1 (area_demand h a)

  -- the product of all the areas' T that aren't 0, and of the other areas'
  unfoldable pub all_T : ℕ
  all_T = product_below non_zero_T (areas h)

  unfoldable pub other_T : ℕ → ℕ
  other_T a = product_below (λ b. cond (eqb b a) 1 (non_zero_T b)) (areas h)

  -- a record's exact fraction of its area's UFE, D×U/T, times that product; 0 where T is 0, and for what is no load
  unfoldable pub exact_fraction : ℕ → ℤ
  exact_fraction i = let a = area_of h i in
      cond (is_load (entry_of h i).kind && not (eqb (area_demand h a) 0)) (pos (demand h i) *ℤ ufe h a *ℤ pos (other_T a)) (pos 0)

  -- the tariff's unrounded amount of a member in grains, times that product
  unfoldable pub unrounded : ℕ → ℤ
  unrounded m = total_below (λ i. cond (eqb (member_of h i) m)
      (price h (area_of h i) *ℤ (entering (entry_of h i) *ℤ pos all_T +ℤ exact_fraction i)) (pos 0)) h.count

  -- the sizes of the zone prices at a member's load records
  unfoldable pub load_prices : ℕ → ℕ
  load_prices m = sum_below (λ i. cond (is_load (entry_of h i).kind && eqb (member_of h i) m) (nat_abs (price h (area_of h i))) 0) h.count

  -- an hour's figures as somebody gives them: the UFE of each area, the share of each record, the charge of each member
  pub record Fair (ufeAt shareAt chargeAt : ℕ → ℤ) : Type 0 where
    -- each area's UFE is that of the formula, so that shares and UFE of zero don't do
    pub by_formula : (a : ℕ) → a < areas h → ufeAt a ≡ ufe h a
    -- the shares of each area add up exactly to its UFE
    pub exact : (a : ℕ) → a < areas h → total_below (λ i. cond (eqb (area_of h i) a) (shareAt i) (pos 0)) h.count ≡ ufeAt a
    -- each less than one unit from its exact fraction: the share times T against D×U
    pub near : (i : ℕ) → i < h.count → is_load (entry_of h i).kind ≡ true → (area_demand h (area_of h i) ≡ 0 → ⊥) →
        nat_abs (shareAt i *ℤ pos (area_demand h (area_of h i)) -ℤ pos (demand h i) *ℤ ufeAt (area_of h i)) < area_demand h (area_of h i)
    pub none_to_share : (i : ℕ) → i < h.count → area_demand h (area_of h i) ≡ 0 → shareAt i ≡ pos 0
    -- half a cent, and one unit at the size of the zone's price for each load record
    pub charged : (m : ℕ) → m < members h → nat_abs (chargeAt m *ℤ pos (10000000 * all_T) -ℤ unrounded m) ≤ (5000000 + load_prices m) * all_T
    -- half a cent a member
    pub pooled : nat_abs (total_below chargeAt (members h) *ℤ pos 10000000 -ℤ pool_total h) ≤ 5000000 * members h

  -- the figures that a settling answered and left in the buffers
  abbrev pub FairOutcome : List ℤ → Buffers → Type 0
  FairOutcome ufes after =
      Fair (λ a. get_or ufes a (pos 0)) (λ i. get_or after.shares i (pos 0)) (λ m. get_or after.charges m (pos 0))

abbrev pub Demand3 : Type 0
Demand3 = (s : List ℕ) (b : Buffers) → Accepts s b → FairOutcome (hour_in s) (settle s b).ufe (settle s b).buffers

-- ---- no second result fits

-- what settling answered and left behind is what `settle` says
pub record Fits (s : List ℕ) (b : Buffers) (answered : Result (List ℤ) Refusal) (after : Buffers) : Type 0 where
  pub verdict_is : verdict_of answered ≡ (settle s b).verdict
  pub ufe_is : figures_of answered ≡ (settle s b).ufe
  pub buffers_are : after ≡ (settle s b).buffers

abbrev pub OneSettlement : Type 0
OneSettlement = (s : List ℕ) (b : Buffers) (r t : Result (List ℤ) Refusal) (x y : Buffers) → Fits s b r x → Fits s b t y → (r ≡ t) × (x ≡ y)
