-- The steps of sharing: the units that the whole parts leave over, the bound down to which they suffice, and the sizes. Nothing is held for
-- a demand: its whole part and its remainder are worked out again where they are needed.
use Rattle.std.specs.Prelude.{◌≡◌, Bool, ◌&&◌, ◌||◌, List, ℕ, ◌+◌, ◌*◌, ◌≤◌, ◌<◌, ltb, eqb, length}
use Rattle.whole.specs.Below.{one_if, count_below}
use Rattle.rules.specs.Share.{whole_part, remainder, units_left}
use Rattle.share.specs.Shareable.{at, everyone, demanded}

-- ---- dividing

-- t is the sum of the demands, and not 0; the products fit
pub record Dividing (demands : List ℕ) (size t : ℕ) : Type 0 where
  pub sum_is : t ≡ demanded demands
  pub some : 0 < t
  pub products_fit : (i : ℕ) → i < length demands → at demands i * size < 10000000000000000000

-- a demand's whole part, its remainder, and the units left over
abbrev pub whole_of : List ℕ → ℕ → ℕ → ℕ
whole_of demands size = whole_part everyone (at demands) (length demands) size

abbrev pub rest_of : List ℕ → ℕ → ℕ → ℕ
rest_of demands size = remainder everyone (at demands) (length demands) size

abbrev pub left_of : List ℕ → ℕ → ℕ
left_of demands size = units_left everyone (at demands) (length demands) size

-- ---- the bound down to which the units suffice

-- how many remainders are above a bound: of the demands before i, and of all
abbrev pub above_before : List ℕ → ℕ → ℕ → ℕ → ℕ
above_before demands size bound i = count_below (λ j. ltb bound (rest_of demands size j)) i

abbrev pub count_above : List ℕ → ℕ → ℕ → ℕ
count_above demands size bound = above_before demands size bound (length demands)

-- how far the search is: at least as many remainders as units are above low, and `spare` fewer than units above high
pub record Between (demands : List ℕ) (size units low high spare : ℕ) : Type 0 where
  pub ordered : low ≤ high
  pub above_low : units ≤ count_above demands size low
  pub above_high : count_above demands size high + spare ≡ units

-- a unit for every remainder above the bound, and `spare` more; the remainders from the bound on could take them all
pub record Suffices (demands : List ℕ) (size units bound spare : ℕ) : Type 0 where
  pub with_spare : count_above demands size bound + spare ≡ units
  pub enough : (x : ℕ) → x < bound → units ≤ count_above demands size x

-- ---- the sizes

-- how many of the demands before i have this remainder
abbrev pub equal_before : List ℕ → ℕ → ℕ → ℕ → ℕ
equal_before demands size bound i = count_below (λ j. eqb (rest_of demands size j) bound) i

-- a remainder above the bound gets a unit, and of those equal to it the first `spare`
abbrev pub gets_unit : ℕ → ℕ → ℕ → ℕ → Bool
gets_unit bound spare rest before = ltb bound rest || (eqb rest bound && ltb before spare)

abbrev pub size_of : List ℕ → ℕ → ℕ → ℕ → ℕ → ℕ
size_of demands size bound spare i =
    whole_of demands size i + one_if (gets_unit bound spare (rest_of demands size i) (equal_before demands size bound i))
