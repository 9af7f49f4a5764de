-- All steps together: what may be shared can be divided, and with the bound down to which the units left over suffice, the sizes are those
-- of the shares. And the first of more places lent.
use mathlib.Core.Path.{◌≡◌, refl, sym, ◌∙◌, ap, ap₂}
use mathlib.Core.List.{List, ◌++◌}
use Prim.Native.Nat.{ℕ, ◌+◌, ◌≤◌, ◌<◌}
use native.Mathlib.Nat.{le_refl}
use native.Mathlib.Omega.{arith}
use lib.Dec.{ltb}
use lib.ListN.{length, take, drop}
use lib.Seq.{length-take-le}
use borrow.Author.Tests.{ne_eqb}
use Rattle.whole.specs.Below.{one_if, count_below, replacing_first}
use Rattle.whole.proofs.Sums.{sum_at}
use Rattle.whole.proofs.Buffers.{replacing_all, replacing_ext, replacing_same}
use Rattle.rules.specs.Share.{share_size, ahead, ranked_size}
use Rattle.rules.proofs.Shares.{left_few, ranked, nothing_without_demand}
use Rattle.share.specs.Shareable.{at, everyone, demanded, Shareable, shares_in}
use Rattle.share.specs.Steps.{Dividing, Suffices, whole_of, rest_of, left_of, count_above, size_of}
use Rattle.share.proofs.Parts.{demanded_is, some_demand}
use Rattle.share.proofs.Above.{by_threshold}

-- ---- once the demands are added up

module _ {places : List ℕ} {size : ℕ} (s : Shareable places size places) (t : ℕ) (e : t ≡ demanded places) where
  -- nobody demands anything: the places hold 0 as it is
  pub nothing_shared : t ≡ 0 → places ≡ shares_in places size places
  nothing_shared z = sym (replacing_same _ (length places) places 0 (le_refl (length places)) (λ i l.
      nothing_without_demand everyone (at places) (length places) size i (sym e ∙ z)
      ∙ omega (arith, sum_at (at places) (length places) i l, demanded_is places)))

  -- somebody does
  pub can_divide : (t ≡ 0 → ⊥) → Dividing places size t
  can_divide some = record { sum_is = e; some = omega (arith, some); products_fit = s.products_fit }

-- ---- once the units left over are known

module _ {demands : List ℕ} {size t : ℕ} (d : Dividing demands size t) (units : ℕ) (e : units ≡ left_of demands size) where
  abbrev n : ℕ
  n = length demands

  pub few_left : units ≤ count_above demands size 0
  few_left = rw e (left_few everyone (at demands) n size (some_demand d))

  -- a share is the whole part, and a unit where fewer stand ahead than units are left over
  size_is : (i : ℕ) → i < n →
      share_size everyone (at demands) n size i ≡
      whole_of demands size i + one_if (ltb (count_below (λ j. ahead (rest_of demands size) j i) n) units)
  unfolding ranked_size
  size_is i l = ranked everyone (at demands) n size i l ∙ rw (ne_eqb (demanded demands) 0 (λ z. omega (arith, some_demand d)), e)

  -- they suffice down to this bound
  pub sizes_are : {bound spare : ℕ} → Suffices demands size units bound spare → {out : List ℕ} →
      out ≡ replacing_first (size_of demands size bound spare) n demands → out ≡ shares_in demands size demands
  sizes_are {bound} {spare} cut put = put ∙ replacing_ext _ _ n demands (λ i l. sym (size_is i l ∙
      rw (by_threshold (rest_of demands size) n i l units bound spare cut.with_spare cut.enough)))

-- ---- the first n of more places lent

module _ (places : List ℕ) (n size : ℕ) (l : n ≤ length places) where
  -- past the sizes stands what stood there
  pub shared_first : {sizes : List ℕ} → sizes ≡ shares_in (take n places) size (take n places) →
      sizes ++ drop n places ≡ shares_in (take n places) size places
  unfolding replacing_first
  shared_first shared = ap₂ (λ (a b : List ℕ). a ++ b)
      (shared ∙ replacing_all _ (length (take n places)) (take n places) refl)
      (ap (λ (k : ℕ). drop k places) (sym (length-take-le n places l)))
