-- A member's heads: postings give them, they add up to its exact amount, they are the terms of its IEC over all zones, and how large they
-- can be. Document 02, A5.
use mathlib.Core.Path.{◌≡◌, refl, sym, ◌∙◌, ap}
use mathlib.Core.Bool.{Bool, true, false, cond, ◌&&◌, and-false}
use mathlib.Core.List.{List, [], ◌∷◌}
use Prim.Native.Nat.{ℕ, zero, suc, ◌≤◌, ◌<◌}
use native.Mathlib.Omega.{arith}
use lib.Dec.{eqb}
use lib.ListN.{length}
use lib.IntN.{ℤ, pos, neg_ℤ, +ℤ_idl, +ℤ_idr, zero-*ℤ, *ℤ-zero, *ℤ_comm, ◌+ℤ◌, ◌*ℤ◌}
use Rattle.whole.specs.Below.{total_below}
use Rattle.whole.specs.Signed.{Under}
use Rattle.whole.proofs.Tests.{both, cond_ext}
use Rattle.whole.proofs.Linear.{zr, all2, all3}
use Rattle.whole.proofs.Ranges.{u_le, u_neg, u_lit, u_zero}
use Rattle.whole.proofs.Totals.{total_ext, total_add, total_neg, total_times, total_swap, total_pick}
use Rattle.rules.specs.declared.Kind.{Kind}
use Rattle.rules.specs.declared.Kind.TheVariants.{Generator, RealTimeLoad, ProfileLoad, Import, Export, Unknown}
use Rattle.rules.specs.Record.{Hour, Entry, zones, zone_price, zone_of, price, member_of, area_of, entry_of}
use Rattle.rules.specs.Record.{is_generator, is_load, is_import, is_export}
use Rattle.rules.specs.Deviation.{generator_deviation, load_deviation, import_deviation, export_deviation, deviation, deviation_as}
use Rattle.rules.specs.Charge.{entering_as, entering, share_of, grains, amount}
use Rattle.rules.specs.Explanation.{priced_sum, heads, head_at}
use Rattle.rules.specs.Inner.Posting.{head_with, heads_with, heads_after}
use Rattle.rules.specs.Inner.Kept.{HourKept, EntryKept}
use Rattle.rules.specs.Promised.Tariff.{coordinator_sum, UFEC}
use Rattle.rules.specs.Promised.Deciding.{in_every_zone, tariff_heads}
use Rattle.rules.proofs.Tariff.{generator_renders, load_renders, import_deemed, import_renders, export_renders, only_loads_share}
use Rattle.rules.proofs.Bounds.{generator_under, load_under, import_under, export_under, priced_running}

-- ---- postings give the heads

five : {g l i e u g' l' i' e' u' : ℤ} → g ≡ g' → l ≡ l' → i ≡ i' → e ≡ e' → u ≡ u' →
    g ∷ l ∷ i ∷ e ∷ u ∷ [] ≡ g' ∷ l' ∷ i' ∷ e' ∷ u' ∷ []
five p q r s t = cc

same : (z : ℤ) → z ≡ z +ℤ pos 0
same z = sym (+ℤ_idr z)

nothing : (p z : ℤ) → z +ℤ p *ℤ pos 0 ≡ z +ℤ pos 0
nothing p z = rw (*ℤ-zero p) refl

no_share : (p z : ℤ) {s : ℤ} → pos 0 ≡ s → z +ℤ p *ℤ s ≡ z +ℤ pos 0
no_share p z e = rw (← e) (nothing p z)

-- a record adds to the head of its kind and to the share, where it is the member's
posted_under : (member : Bool) (k : Kind) (r : Entry) (p s g l i e u : ℤ) → cond (is_load k) s (pos 0) ≡ s →
    cond member (heads_with (g ∷ l ∷ i ∷ e ∷ u ∷ []) k (p *ℤ entering_as k (deviation_as r k)) (p *ℤ s)) (g ∷ l ∷ i ∷ e ∷ u ∷ [])
    ≡ (g +ℤ cond (member && is_generator k) (p *ℤ generator_deviation r) (pos 0))
    ∷ (l +ℤ cond (member && is_load k) (p *ℤ neg_ℤ (load_deviation r)) (pos 0))
    ∷ (i +ℤ cond (member && is_import k) (p *ℤ import_deviation r) (pos 0))
    ∷ (e +ℤ cond (member && is_export k) (p *ℤ neg_ℤ (export_deviation r)) (pos 0))
    ∷ (u +ℤ cond (member && is_load k) (p *ℤ s) (pos 0))
    ∷ []
unfolding head_with heads_with
posted_under false k r p s g l i e u own = five (same g) (same l) (same i) (same e) (same u)
posted_under true Generator r p s g l i e u own = five refl (same l) (same i) (same e) (no_share p u own)
posted_under true RealTimeLoad r p s g l i e u own = five (same g) refl (same i) (same e) refl
posted_under true ProfileLoad r p s g l i e u own = five (same g) refl (same i) (same e) refl
posted_under true Import r p s g l i e u own = five (same g) (same l) refl (same e) (no_share p u own)
posted_under true Export r p s g l i e u own = five (same g) (same l) (same i) refl (no_share p u own)
posted_under true Unknown r p s g l i e u own =
    five (same g) (same l) (same i) (same e) (no_share p (u +ℤ p *ℤ pos 0) own ∙ +ℤ_idr (u +ℤ p *ℤ pos 0) ∙ nothing p u)

module _ (h : Hour) (m : ℕ) where
  -- over the first n records, as `priced_sum` over all
  abbrev priced_below : (Kind → Bool) → (ℕ → ℤ) → ℕ → ℤ
  priced_below kinds figure =
      total_below (λ i. cond (eqb (member_of h i) m && kinds (entry_of h i).kind) (price h (area_of h i) *ℤ figure i) (pos 0))

  abbrev heads_below : ℕ → List ℤ
  heads_below n =
      priced_below is_generator (λ i. generator_deviation (entry_of h i)) n
      ∷ priced_below is_load (λ i. neg_ℤ (load_deviation (entry_of h i))) n
      ∷ priced_below is_import (λ i. import_deviation (entry_of h i)) n
      ∷ priced_below is_export (λ i. neg_ℤ (export_deviation (entry_of h i))) n
      ∷ priced_below is_load (share_of h) n
      ∷ []

  after_below : (n : ℕ) → heads_after h m n ≡ heads_below n
  unfolding heads_after total_below entering deviation
  after_below zero = refl
  after_below (suc n) = rw (after_below n) (posted_under (eqb (member_of h n) m) (entry_of h n).kind (entry_of h n)
      (price h (area_of h n)) (share_of h n) _ _ _ _ _ (only_loads_share h n))

  pub heads_posted : heads_after h m h.count ≡ heads h m
  unfolding heads priced_sum
  heads_posted = after_below h.count

-- ---- they add up

alone : (p d : ℤ) {s : ℤ} → pos 0 ≡ s → p *ℤ d ≡ p *ℤ (d +ℤ s)
alone p d e = rw (← e, +ℤ_idr d) refl

together : (p d s : ℤ) → p *ℤ d +ℤ p *ℤ s ≡ p *ℤ (d +ℤ s)
together = all3 _ (λ p d s. simp zr (omega arith))

-- a record stands under the head of its kind and under the share, with all that it enters with
member_parts : (member : Bool) (k : Kind) (r : Entry) (p s : ℤ) → cond (is_load k) s (pos 0) ≡ s →
    cond (member && is_generator k) (p *ℤ generator_deviation r) (pos 0) +ℤ cond (member && is_load k) (p *ℤ neg_ℤ (load_deviation r)) (pos 0)
    +ℤ cond (member && is_import k) (p *ℤ import_deviation r) (pos 0) +ℤ cond (member && is_export k) (p *ℤ neg_ℤ (export_deviation r)) (pos 0)
    +ℤ cond (member && is_load k) (p *ℤ s) (pos 0)
    ≡ cond member (p *ℤ (entering_as k (deviation_as r k) +ℤ s)) (pos 0)
member_parts false k r p s own = refl
member_parts true Generator r p s own = simp +ℤ_idr (alone p (generator_deviation r) own)
member_parts true RealTimeLoad r p s own = simp (+ℤ_idl, +ℤ_idr) (together p (neg_ℤ (load_deviation r)) s)
member_parts true ProfileLoad r p s own = simp (+ℤ_idl, +ℤ_idr) (together p (neg_ℤ (load_deviation r)) s)
member_parts true Import r p s own = simp (+ℤ_idl, +ℤ_idr) (alone p (import_deviation r) own)
member_parts true Export r p s own = simp (+ℤ_idl, +ℤ_idr) (alone p (neg_ℤ (export_deviation r)) own)
member_parts true Unknown r p s own = sym (*ℤ-zero p) ∙ alone p (pos 0) own

-- The five heads add up to the member's exact amount.
pub heads_add_up : (h : Hour) (m : ℕ) → total_below (head_at (heads h m)) 5 ≡ amount h m
unfolding total_below heads priced_sum amount grains entering deviation
heads_add_up h m = simp +ℤ_idl (simp (← total_add) (total_ext _ _ h.count (λ i l.
    member_parts (eqb (member_of h i) m) (entry_of h i).kind (entry_of h i) (price h (area_of h i)) (share_of h i) (only_loads_share h i))))

-- ---- they are the tariff's

times_neg : (p f : ℤ) → p *ℤ neg_ℤ f ≡ neg_ℤ (p *ℤ f)
times_neg = all2 _ (λ p f. simp zr (omega arith))

-- a record counts in its own zone alone, at that zone's price
at_zone : (kind member zone : Bool) (f P : ℤ) →
    cond (kind && member && zone) f (pos 0) *ℤ P ≡ cond zone (cond (member && kind) (P *ℤ f) (pos 0)) (pos 0)
at_zone kind member false f P = rw (and-false (kind && member)) (zero-*ℤ P)
at_zone kind false true f P = rw (and-false kind) (zero-*ℤ P)
at_zone false true true f P = zero-*ℤ P
at_zone true true true f P = *ℤ_comm f P

neg_cond : (b : Bool) (p f : ℤ) → cond b (p *ℤ neg_ℤ f) (pos 0) ≡ neg_ℤ (cond b (p *ℤ f) (pos 0))
neg_cond true p f = times_neg p f
neg_cond false p f = refl

module _ (h : Hour) (m : ℕ) where
  -- a figure that is another on the records in hand
  priced_ext : (kinds : Kind → Bool) (f g : ℕ → ℤ) → ((i : ℕ) → kinds (entry_of h i).kind ≡ true → f i ≡ g i) →
      priced_sum h m kinds f ≡ priced_sum h m kinds g
  unfolding priced_sum
  priced_ext kinds f g e = total_ext _ _ h.count (λ i l. cond_ext (eqb (member_of h i) m && kinds (entry_of h i).kind) _ _ _
      (λ t. ap (λ (z : ℤ). price h (area_of h i) *ℤ z) (e i (both (eqb (member_of h i) m) _ t).1)))

  priced_neg : (kinds : Kind → Bool) (f : ℕ → ℤ) → priced_sum h m kinds (λ i. neg_ℤ (f i)) ≡ neg_ℤ (priced_sum h m kinds f)
  unfolding priced_sum
  priced_neg kinds f =
      total_ext _ _ h.count (λ i l. neg_cond (eqb (member_of h i) m && kinds (entry_of h i).kind) (price h (area_of h i)) (f i))
      ∙ total_neg _ h.count

  module _ (there : (i : ℕ) → i < h.count → zone_of h (area_of h i) < zones h) where
    by_zone : (kinds : Kind → Bool) (f : ℕ → ℤ) →
        priced_sum h m kinds f ≡ in_every_zone h m (λ x. coordinator_sum h (share_of h) m x kinds f *ℤ zone_price h x)
    unfolding priced_sum coordinator_sum price
    by_zone kinds f = sym (
        total_ext _ _ (zones h) (λ x l. sym (total_times _ (zone_price h x) h.count) ∙ total_ext _ _ h.count (λ i k.
        at_zone (kinds (entry_of h i).kind) (eqb (member_of h i) m) (eqb (zone_of h (area_of h i)) x) (f i) (zone_price h x)))
        ∙ total_swap (λ x i. cond (eqb (zone_of h (area_of h i)) x) (priced i x) (pos 0)) (zones h) h.count
        ∙ total_ext _ _ h.count (λ i l. total_pick (priced i) (zones h) (zone_of h (area_of h i)) (there i l)))
      where
        priced : ℕ → ℕ → ℤ
        priced i x = cond (eqb (member_of h i) m && kinds (entry_of h i).kind) (zone_price h x *ℤ f i) (pos 0)

    -- taken off in every zone
    off_by_zone : (kinds : Kind → Bool) (f g : ℕ → ℤ) → ((i : ℕ) → f i ≡ g i) → priced_sum h m kinds (λ i. neg_ℤ (f i))
        ≡ in_every_zone h m (λ x. neg_ℤ (coordinator_sum h (share_of h) m x kinds g *ℤ zone_price h x))
    off_by_zone kinds f g e =
        priced_neg kinds f ∙ ap neg_ℤ (priced_ext kinds f g (λ i t. e i) ∙ by_zone kinds g) ∙ sym (total_neg _ (zones h))

    -- The heads are the terms of the member's IEC over all zones.
    pub heads_by_tariff : heads h m ≡ tariff_heads h m
    unfolding heads tariff_heads UFEC entry_of
    heads_by_tariff = five
        (priced_ext is_generator _ _ (λ i t. generator_renders (entry_of h i)) ∙ by_zone is_generator _)
        (off_by_zone is_load _ _ (λ i. load_renders (entry_of h i)))
        (priced_ext is_import _ _ (λ i t. import_renders (entry_of h i) (import_deemed (h.rec i) t)) ∙ by_zone is_import _)
        (off_by_zone is_export _ _ (λ i. export_renders (entry_of h i)))
        (by_zone is_load (share_of h))

-- ---- how large they can be

each_of_five : {K : ℕ} {g l i e u : ℤ} → Under g K → Under l K → Under i K → Under e K → Under u K →
    (k : ℕ) → Under (head_at (g ∷ l ∷ i ∷ e ∷ u ∷ []) k) K
each_of_five p q r s t zero = p
each_of_five p q r s t (suc zero) = q
each_of_five p q r s t (suc (suc zero)) = r
each_of_five p q r s t (suc (suc (suc zero))) = s
each_of_five p q r s t (suc (suc (suc (suc zero)))) = t
each_of_five p q r s t (suc (suc (suc (suc (suc k))))) = u_zero

module _ {h : Hour} (kept : HourKept h) (m : ℕ) where
  entry_kept : (i : ℕ) → i < h.count → EntryKept (entry_of h i)
  entry_kept i l = (kept.record_kept i l).entry_kept

  -- No head is over 2.8×10^18 grains in size, however far the records are posted.
  pub heads_running : (n k : ℕ) → n ≤ h.count → Under (head_at (heads_after h m n) k) 2800000000000000000
  heads_running n k l = rw (after_below h m n) (each_of_five
      (priced_running kept m n is_generator _ l (λ i t. u_le (generator_under (entry_kept i t)) (omega arith)))
      (priced_running kept m n is_load _ l (λ i t. u_le (u_neg (load_under (entry_kept i t))) (omega arith)))
      (priced_running kept m n is_import _ l (λ i t. u_le (import_under (entry_kept i t)) (omega arith)))
      (priced_running kept m n is_export _ l (λ i t. u_le (u_neg (export_under (entry_kept i t))) (omega arith)))
      (priced_running kept m n is_load _ l (λ i t. u_le (u_lit (share_of h i)) (omega arith)))
      k)

  pub five_heads : (n : ℕ) → length (heads_after h m n) ≡ 5
  five_heads n = rw (after_below h m n)
