-- Document 01's formulas and the second reading of 003, D 2.1 and D 2.2, give the same deviations, UFE and amounts; and UFE is a sum
-- over records.
use mathlib.Core.Path.{◌≡◌, refl, sym, ◌∙◌, ap, ap₂}
use mathlib.Core.Bool.{Bool, true, false, cond, ◌&&◌, ◌||◌, and-false}
use Prim.Native.Nat.{ℕ, ◌<◌}
use native.Mathlib.Omega.{arith}
use lib.Dec.{eqb}
use lib.IntN.{ℤ, pos, +ℤ_idl, +ℤ_idr, *ℤ-zero, ◌+ℤ◌, ◌-ℤ◌, ◌*ℤ◌}
use borrow.Author.Tests.{eqb-true}
use Rattle.whole.specs.Below.{total_below}
use Rattle.whole.proofs.Tests.{both, cond_ext}
use Rattle.whole.proofs.Linear.{zr, all3, all4, all5, all6}
use Rattle.whole.proofs.Totals.{total_ext, total_add, total_neg, total_mul, total_swap, total_pick}
use Rattle.rules.specs.declared.Kind.{Kind}
use Rattle.rules.specs.declared.Kind.TheVariants.{Generator, RealTimeLoad, ProfileLoad, Import, Export, Unknown}
use Rattle.rules.specs.Record.{Hour, Entry, kind_number, zones, zone_price, zone_of, tie_in, tie_out, price, member_of, area_of}
use Rattle.rules.specs.Record.{actual, entry, entry_of, is_generator, is_real_time, is_profile, is_load, is_import, is_export}
use Rattle.rules.specs.Deviation.{units_per_kwh, generator_unavailable, generator_deviation, load_unavailable, load_deviation}
use Rattle.rules.specs.Deviation.{import_deviation, export_deviation, deviation, deviation_as}
use Rattle.rules.specs.Ufe.{in_area, area_sum, losses, ufe}
use Rattle.rules.specs.Charge.{entering_as, entering, share_of, grains, amount}
use Rattle.rules.specs.Inner.Posting.{accounted_as, accounted}
use Rattle.rules.specs.Promised.Tariff.{gen_dev, load_dev, imp_dev, exp_dev, dev_as, transmission_losses, ufe_of_territory, coordinator_sum}
use Rattle.rules.specs.Promised.Tariff.{UFEC, IEC}
use Rattle.rules.specs.Promised.Demands.{all_zones}

-- ---- deviations

-- The four formulas. Those of loads and exports take 10,000 out of a sum in which 003's terms each have it.
pub generator_renders : (r : Entry) → generator_deviation r ≡ gen_dev r
unfolding generator_deviation generator_unavailable gen_dev
generator_renders r = refl

load_units : (s a n u : ℤ) →
    units_per_kwh *ℤ (s -ℤ (a +ℤ n) -ℤ u) ≡ units_per_kwh *ℤ s -ℤ (units_per_kwh *ℤ a +ℤ units_per_kwh *ℤ n) -ℤ units_per_kwh *ℤ u
load_units = all4 _ (λ s a n u. simp zr (omega arith))

pub load_renders : (r : Entry) → load_deviation r ≡ load_dev r
unfolding load_deviation load_unavailable load_dev
load_renders r = load_units r.S (r.A -ℤ r.J) r.N (load_unavailable r)

-- An import's A is its S.
pub import_deemed : (w : ℕ → ℕ) → is_import (entry w).kind ≡ true → (entry w).A ≡ (entry w).S
unfolding actual entry
import_deemed w is_import_lem = rw is_import_lem

pub import_renders : (r : Entry) → r.A ≡ r.S → import_deviation r ≡ imp_dev r
unfolding import_deviation imp_dev
import_renders r deemed = rw deemed

pub export_units : (s a j : ℤ) → units_per_kwh *ℤ (s -ℤ a -ℤ j) ≡ units_per_kwh *ℤ s -ℤ units_per_kwh *ℤ a -ℤ units_per_kwh *ℤ j
export_units = all3 _ (λ s a j. simp zr (omega arith))

pub export_renders : (r : Entry) → export_deviation r ≡ exp_dev r
unfolding export_deviation exp_dev
export_renders r = export_units r.S r.A r.J

renders_as : (k : Kind) (r : Entry) → (is_import k ≡ true → r.A ≡ r.S) → deviation_as r k ≡ dev_as k r
renders_as Generator r deemed = generator_renders r
renders_as RealTimeLoad r deemed = load_renders r
renders_as ProfileLoad r deemed = load_renders r
renders_as Import r deemed = import_renders r (deemed refl)
renders_as Export r deemed = export_renders r
renders_as Unknown r deemed = refl

-- A record's deviation is the one of 003 for its kind.
pub deviation_renders : (h : Hour) (i : ℕ) → let r = entry_of h i in deviation r ≡ dev_as r.kind r
unfolding deviation entry_of
deviation_renders h i = let w = h.rec i in renders_as (entry w).kind (entry w) (import_deemed w)

-- ---- UFE

-- a record is of one kind, so a test for two is passed by one of them at most
either_kind : (b p q : Bool) (z : ℤ) → (p ≡ true → q ≡ false) →
    cond (b && (p || q)) z (pos 0) ≡ cond (b && p) z (pos 0) +ℤ cond (b && q) z (pos 0)
either_kind false p q z e = refl
either_kind true true q z e = rw (e refl) (sym (+ℤ_idr z))
either_kind true false q z e = sym (+ℤ_idl _)

module _ (h : Hour) (a : ℕ) where
  -- a sum over two kinds is the two sums
  kinds_apart : (p q : Kind → Bool) (figure : Entry → ℤ) → ((k : Kind) → p k ≡ true → q k ≡ false) →
      area_sum h a (λ k. p k || q k) figure ≡ area_sum h a p figure +ℤ area_sum h a q figure
  unfolding area_sum in_area
  kinds_apart p q figure e =
      total_ext _ _ h.count (λ i l. either_kind (eqb (area_of h i) a) (p (entry_of h i).kind) (q (entry_of h i).kind)
      (figure (entry_of h i)) (e (entry_of h i).kind))
      ∙ total_add _ _ h.count

  loads_apart : area_sum h a is_load (λ r. r.A) ≡ area_sum h a is_real_time (λ r. r.A) +ℤ area_sum h a is_profile (λ r. r.A)
  loads_apart = kinds_apart is_real_time is_profile (λ r. r.A) (λ k e. rw (eqb-true (kind_number k) 2 e))

  -- what is lost of an import, by its A or by its S
  import_losses : area_sum h a is_import (λ r. r.A *ℤ (units_per_kwh -ℤ r.H)) ≡ area_sum h a is_import (λ r. r.S *ℤ (units_per_kwh -ℤ r.H))
  unfolding area_sum in_area entry_of
  import_losses = total_ext _ _ h.count (λ i l. let w = h.rec i in
      cond_ext (eqb (area_of h i) a && is_import (entry w).kind) _ _ _
      (λ t. ap (λ (A : ℤ). A *ℤ (units_per_kwh -ℤ (entry w).H)) (import_deemed w (both (eqb (area_of h i) a) _ t).1)))

  losses_apart : losses h a ≡ transmission_losses h a
  unfolding losses transmission_losses
  losses_apart =
      kinds_apart is_generator is_import (λ r. r.A *ℤ (units_per_kwh -ℤ r.H)) (λ k e. rw (eqb-true (kind_number k) 1 e))
      ∙ ap (λ (lost : ℤ). area_sum h a is_generator (λ r. r.A *ℤ (units_per_kwh -ℤ r.H)) +ℤ lost) import_losses

  -- An area's UFE is that of 003 for its territory, which adds up the two kinds of load apart, and the losses of generators and imports.
  pub ufe_renders : ufe h a ≡ ufe_of_territory h a
  unfolding ufe ufe_of_territory
  ufe_renders = ap₂ (λ (load lost : ℤ). units_per_kwh *ℤ
      (tie_in h a -ℤ tie_out h a +ℤ area_sum h a is_generator (λ r. r.A) -ℤ load) -ℤ lost) loads_apart losses_apart

-- ---- UFE as a sum over records

-- a record's part of what is generated, of what loads take, and of what is lost
accounted_parts : (here : Bool) (k : Kind) (A H : ℤ) →
    cond here (accounted_as k A H) (pos 0)
    ≡ units_per_kwh *ℤ cond (here && is_generator k) A (pos 0) -ℤ units_per_kwh *ℤ cond (here && is_load k) A (pos 0)
    -ℤ cond (here && (is_generator k || is_import k)) (A *ℤ (units_per_kwh -ℤ H)) (pos 0)
unfolding accounted_as
accounted_parts false k A H = refl
accounted_parts true Generator A H = ap (λ (x : ℤ). x -ℤ A *ℤ (units_per_kwh -ℤ H)) (sym (+ℤ_idr (units_per_kwh *ℤ A)))
accounted_parts true RealTimeLoad A H = simp (+ℤ_idl, +ℤ_idr)
accounted_parts true ProfileLoad A H = simp (+ℤ_idl, +ℤ_idr)
accounted_parts true Import A H = simp +ℤ_idl
accounted_parts true Export A H = refl
accounted_parts true Unknown A H = refl

ties_apart : (x y g l t : ℤ) →
    units_per_kwh *ℤ (x -ℤ y +ℤ g -ℤ l) -ℤ t ≡ units_per_kwh *ℤ (x -ℤ y) +ℤ (units_per_kwh *ℤ g -ℤ units_per_kwh *ℤ l -ℤ t)
ties_apart = all5 _ (λ x y g l t. simp zr (omega arith))

module _ (h : Hour) (a : ℕ) where
  accounted_sums : total_below (λ i. cond (eqb (area_of h i) a) (accounted (entry_of h i)) (pos 0)) h.count
      ≡ units_per_kwh *ℤ area_sum h a is_generator (λ r. r.A) -ℤ units_per_kwh *ℤ area_sum h a is_load (λ r. r.A) -ℤ losses h a
  unfolding accounted area_sum in_area losses
  accounted_sums =
      total_ext _ _ h.count (λ i l. accounted_parts (eqb (area_of h i) a) (entry_of h i).kind (entry_of h i).A (entry_of h i).H)
      ∙ simp (total_add, total_neg, total_mul)

  -- An area's UFE is what its ties bring, and what each of its records is accounted for: so postings can add it up.
  pub ufe_by_record : ufe h a
      ≡ units_per_kwh *ℤ (tie_in h a -ℤ tie_out h a) +ℤ total_below (λ i. cond (eqb (area_of h i) a) (accounted (entry_of h i)) (pos 0)) h.count
  unfolding ufe
  ufe_by_record =
      ties_apart (tie_in h a) (tie_out h a) (area_sum h a is_generator (λ r. r.A)) (area_sum h a is_load (λ r. r.A)) (losses h a)
      ∙ ap (λ (t : ℤ). units_per_kwh *ℤ (tie_in h a -ℤ tie_out h a) +ℤ t) (sym accounted_sums)

-- ---- the charge on a coordinator

-- a record's part of the five sums of IEC: it is in those of its own kind alone
entering_parts : (r : Entry) (k : Kind) (d allocated : ℤ) (member zone : Bool) → d ≡ dev_as k r →
    cond (is_generator k && member && zone) (gen_dev r) (pos 0) -ℤ cond (is_load k && member && zone) (load_dev r) (pos 0)
    +ℤ cond (is_import k && member && zone) (imp_dev r) (pos 0) -ℤ cond (is_export k && member && zone) (exp_dev r) (pos 0)
    +ℤ cond (is_load k && member && zone) allocated (pos 0)
    ≡ cond zone (cond member (entering_as k d +ℤ cond (is_load k) allocated (pos 0)) (pos 0)) (pos 0)
entering_parts r k d s b false e = simp and-false
entering_parts r k d s false true e = simp and-false
entering_parts r Generator d s true true e = rw e (simp +ℤ_idr)
entering_parts r RealTimeLoad d s true true e = rw e (simp (+ℤ_idl, +ℤ_idr))
entering_parts r ProfileLoad d s true true e = rw e (simp (+ℤ_idl, +ℤ_idr))
entering_parts r Import d s true true e = rw e (simp (+ℤ_idl, +ℤ_idr))
entering_parts r Export d s true true e = rw e (simp (+ℤ_idl, +ℤ_idr))
entering_parts r Unknown d s true true e = refl

-- a record that is no load has no share
pub only_loads_share : (h : Hour) (i : ℕ) → cond (is_load (entry_of h i).kind) (share_of h i) (pos 0) ≡ share_of h i
unfolding share_of
only_loads_share h i = once (is_load (entry_of h i).kind) _
  where
    once : (b : Bool) (z : ℤ) → cond b (cond b z (pos 0)) (pos 0) ≡ cond b z (pos 0)
    once true z = refl
    once false z = refl

price_first : (g l i e u p : ℤ) → (g -ℤ l) *ℤ p +ℤ i *ℤ p -ℤ e *ℤ p +ℤ u *ℤ p ≡ p *ℤ (g -ℤ l +ℤ i -ℤ e +ℤ u)
price_first = all6 _ (λ g l i e u p. simp zr (omega arith))

times_cond : (p : ℤ) (b : Bool) (z : ℤ) → p *ℤ cond b z (pos 0) ≡ cond b (p *ℤ z) (pos 0)
times_cond p true z = refl
times_cond p false z = *ℤ-zero p

module _ (h : Hour) (allocated : ℕ → ℤ) (j : ℕ) where
  -- what record i enters with, where it is the coordinator's
  abbrev enters : ℕ → ℤ
  enters i = cond (eqb (member_of h i) j) (entering (entry_of h i) +ℤ cond (is_load (entry_of h i).kind) (allocated i) (pos 0)) (pos 0)

  -- IEC is a sum over records too
  iec_by_record : (x : ℕ) →
      IEC h allocated j x ≡ total_below (λ i. cond (eqb (zone_of h (area_of h i)) x) (zone_price h x *ℤ enters i) (pos 0)) h.count
  unfolding IEC UFEC coordinator_sum entering
  iec_by_record x =
      price_first (over is_generator (at gen_dev)) (over is_load (at load_dev)) (over is_import (at imp_dev)) (over is_export (at exp_dev))
      (over is_load allocated) P
      -- the five sums as one
      ∙ simp (← total_add, ← total_neg, ← total_mul)
      (total_ext _ _ h.count (λ i l. let r = entry_of h i in let z = eqb (zone_of h (area_of h i)) x in
      ap (λ (y : ℤ). P *ℤ y) (entering_parts r r.kind (deviation r) (allocated i) (eqb (member_of h i) j) z (deviation_renders h i))
      ∙ times_cond P z (enters i)))
    where
      P : ℤ
      P = zone_price h x

      over : (Kind → Bool) → (ℕ → ℤ) → ℤ
      over = coordinator_sum h allocated j x

      at : (Entry → ℤ) → ℕ → ℤ
      at figure i = figure (entry_of h i)

module _ (h : Hour) (m : ℕ) where
  -- a record enters in its own zone alone, and at that zone's price
  in_own_zone : (i : ℕ) → zone_price h (zone_of h (area_of h i)) *ℤ enters h (share_of h) m i ≡ cond (eqb (member_of h i) m) (grains h i) (pos 0)
  unfolding grains price
  in_own_zone i = rw (only_loads_share h i) (times_cond (zone_price h (zone_of h (area_of h i))) (eqb (member_of h i) m) _)

  -- A member's exact amount is its charge by 003, IEC, over all zones, with the shares as the UFE's allocation.
  pub amount_is_IEC : ((i : ℕ) → i < h.count → zone_of h (area_of h i) < zones h) → amount h m ≡ all_zones h m
  unfolding amount all_zones
  amount_is_IEC there = sym (
      total_ext _ _ (zones h) (λ x l. iec_by_record h (share_of h) m x)
      ∙ total_swap (λ x i. cond (eqb (zone_of h (area_of h i)) x) (zone_price h x *ℤ enters h (share_of h) m i) (pos 0)) (zones h) h.count
      ∙ total_ext _ _ h.count (λ i l. total_pick
      (λ x. zone_price h x *ℤ enters h (share_of h) m i) (zones h) (zone_of h (area_of h i)) (there i l) ∙ in_own_zone i))
