-- Unaccounted for energy of an area, and what its loads demanded. Document 01, "The sums", UFE; 003, D 2.2.
use Rattle.std.specs.Prelude.{ℕ, Bool, cond, ◌&&◌, ◌||◌, ℤ, pos, nat_abs, ◌+ℤ◌, ◌-ℤ◌, ◌*ℤ◌, eqb}
use Rattle.whole.specs.Below.{total_below}
use Rattle.rules.specs.declared.Kind.{Kind}
use Rattle.rules.specs.Record.{Hour, Entry, tie_in, tie_out, area_of, entry_of, is_generator, is_import, is_load}
use Rattle.rules.specs.Deviation.{units_per_kwh, multiplier_one}
use Rattle.rules.specs.Share.{all_demand}

module _ (h : Hour) (a : ℕ) where
  -- the records of area a that are of some kinds
  unfoldable pub in_area : (Kind → Bool) → ℕ → Bool
  in_area kinds i = eqb (area_of h i) a && kinds (entry_of h i).kind

  -- the sum of a figure over them
  unfoldable pub area_sum : (Kind → Bool) → (Entry → ℤ) → ℤ
  area_sum kinds figure = total_below (λ i. cond (in_area kinds i) (figure (entry_of h i)) (pos 0)) h.count

  -- losses: the sum of A×(10,000 - H) over its generators and imports
  unfoldable pub losses : ℤ
  losses = area_sum (λ k. is_generator k || is_import k) (λ r. r.A *ℤ (multiplier_one -ℤ r.H))

  -- 10,000×(tie in - tie out + sum of generator A - sum of load A, both kinds) - losses
  unfoldable pub ufe : ℤ
  ufe = units_per_kwh *ℤ (tie_in h a -ℤ tie_out h a +ℤ area_sum is_generator (λ r. r.A) -ℤ area_sum is_load (λ r. r.A)) -ℤ losses

-- D: the record's A, an energy, which is never below 0
abbrev pub D : Entry → ℕ
D r = nat_abs r.A

abbrev pub demand : Hour → ℕ → ℕ
demand h i = D (entry_of h i)

-- T: the area's sum of D over its loads
unfoldable pub area_demand : Hour → ℕ → ℕ
area_demand h a = all_demand (in_area h a is_load) (demand h) h.count
