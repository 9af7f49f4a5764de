-- From shares to cents: a record's share, a member's exact amount in grains, its charge, the pool's total.
-- Document 01, "The sums", shares to charge; document 02, A8; 003, D 2.1 and D 2.2.
use Rattle.std.specs.Prelude.{ℕ, ◌+◌, ◌*◌, ◌/◌, ◌%◌, Bool, cond, ◌&&◌, ◌||◌, ℤ, pos, neg_ℤ, nat_abs, ◌+ℤ◌, ◌-ℤ◌, ◌*ℤ◌, ltb, eqb}
use Rattle.whole.specs.Below.{count_below, total_below}
use Rattle.whole.specs.Signed.{with_sign_of}
use Rattle.rules.specs.declared.Kind.{Kind}
use Rattle.rules.specs.declared.Kind.TheVariants.{Generator, RealTimeLoad, ProfileLoad, Import, Export, Unknown}
use Rattle.rules.specs.Record.{Hour, Entry, areas, price, member_of, area_of, entry_of, is_generator, is_load, is_import, is_export}
use Rattle.rules.specs.Deviation.{generator_deviation, load_deviation, import_deviation, export_deviation, deviation}
use Rattle.rules.specs.Ufe.{in_area, area_sum, ufe, demand}
use Rattle.rules.specs.Share.{share}

-- "A member's exact amount": the deviation as it enters, added for generators and imports, taken off for loads and exports
abbrev pub entering_as : Kind → ℤ → ℤ
entering_as Generator d = d
entering_as RealTimeLoad d = neg_ℤ d
entering_as ProfileLoad d = neg_ℤ d
entering_as Import d = d
entering_as Export d = neg_ℤ d
entering_as Unknown d = pos 0

unfoldable pub entering : Entry → ℤ
entering r = entering_as r.kind (deviation r)

-- "A unit times a price is 1/10,000,000 cent": a cent in grains
abbrev pub grains_per_cent : ℕ
grains_per_cent = 10000000

abbrev pub is_odd : ℕ → Bool
is_odd n = eqb (n % 2) 1

-- "Round halves to the even cent" (document 02, A8), where a cent has so many parts: one cent more than the whole cents is due where more than
-- half a cent is left, or exactly half and the number of whole cents is odd
abbrev pub one_more : (parts whole left : ℕ) → Bool
one_more parts whole left = ltb parts (2 * left) || (eqb (2 * left) parts && is_odd whole)

-- "Charge in cents": a size to the nearest cent
unfoldable pub nearest_cent : (parts size : ℕ) → ℕ
nearest_cent parts size = let whole = size / parts in cond (one_more parts whole (size % parts)) (whole + 1) whole

-- a number of such parts, in cents
abbrev pub cents_of : (parts : ℕ) → ℤ → ℤ
cents_of parts g = with_sign_of g (nearest_cent parts (nat_abs g))

unfoldable pub cents : ℤ → ℤ
cents g = cents_of grains_per_cent g

module _ (h : Hour) where
  -- "Shares go to load records only": an area's UFE over its loads
  unfoldable pub share_of : ℕ → ℤ
  share_of i = cond (is_load (entry_of h i).kind) (share (in_area h (area_of h i) is_load) (demand h) h.count (ufe h (area_of h i)) i) (pos 0)

  -- a record in its member's amount: the zone price of its area times (its deviation as it enters, plus its share)
  unfoldable pub grains : ℕ → ℤ
  grains i = price h (area_of h i) *ℤ (entering (entry_of h i) +ℤ share_of i)

  -- "A member's exact amount in grains"; positive means that the member pays
  unfoldable pub amount : ℕ → ℤ
  amount m = total_below (λ i. cond (eqb (member_of h i) m) (grains i) (pos 0)) h.count

  unfoldable pub records_of : ℕ → ℕ
  records_of m = count_below (λ i. eqb (member_of h i) m) h.count

  unfoldable pub charge : ℕ → ℤ
  charge m = cents (amount m)

  -- "The pool's total": over the areas, the zone price times (generator, minus load, plus import, minus export deviations, plus UFE)
  unfoldable pub pool_total : ℤ
  pool_total = total_below (λ a. price h a *ℤ (
      area_sum h a is_generator generator_deviation -ℤ area_sum h a is_load load_deviation
      +ℤ area_sum h a is_import import_deviation -ℤ area_sum h a is_export export_deviation
      +ℤ ufe h a)) (areas h)
