-- How far the UFE of an hour is shared, area by area, and where an area's loads have their demands and then their sizes: in a room lent.
use Rattle.std.specs.Prelude.{ℕ, ◌≤◌, ◌<◌, ◌≡◌, true, cond, List, ℤ, pos, length, get_or, ltb}
use Rattle.whole.specs.Below.{count_below}
use Rattle.whole.specs.Signed.{with_sign_of}
use Rattle.rules.specs.Record.{Hour, areas, area_of, is_load}
use Rattle.rules.specs.Ufe.{in_area, ufe}
use Rattle.rules.specs.Charge.{share_of}
use Rattle.rules.specs.Settling.{ufe_figures}
use Rattle.hour.specs.declared.examined.Hour as examined
use Rattle.hour.specs.Held.{held}

module _ (h : Hour) (a : ℕ) where
  -- how many of area a's loads stand before record i: where a load has its demand and its size
  abbrev pub loads_before : ℕ → ℕ
  loads_before i = count_below (in_area h a is_load) i

  -- a record's share once the areas before a are shared
  unfoldable pub shares_below : ℕ → ℤ
  shares_below i = cond (ltb (area_of h i) a) (share_of h i) (pos 0)

  -- what stands at a record's place once the sizes of area a's loads are put there, with the sign of its UFE
  unfoldable pub with_sizes : ℤ → List ℕ → List ℤ → ℕ → ℤ
  with_sizes figure sizes out i = cond (in_area h a is_load i) (with_sign_of figure (get_or sizes (loads_before i) 0)) (get_or out i (pos 0))

-- the figures are the hour's, and there is a place for each record's share, and one for each record in the room
pub record Sharing (x : examined.Hour) (figures : List ℤ) (room : List ℕ) (out : List ℤ) : Type 0 where
  pub figures_of : figures ≡ ufe_figures (held x)
  pub places : length room ≡ (held x).count
  pub room_out : (held x).count ≤ length out

-- no share is put yet
pub record Cleared (x : examined.Hour) (figures : List ℤ) (room : List ℕ) (out : List ℤ) : Type 0 where
  pub sharing : Sharing x figures room out
  pub zeros : (i : ℕ) → i < (held x).count → get_or out i (pos 0) ≡ pos 0

-- the areas before a are shared, and a is there to be shared with its UFE
pub record SharedUpTo (x : examined.Hour) (a : ℕ) (figure : ℤ) (room : List ℕ) (out : List ℤ) : Type 0 where
  pub there : a < areas (held x)
  pub figure_of : figure ≡ ufe (held x) a
  pub places : length room ≡ (held x).count
  pub room_out : (held x).count ≤ length out
  pub shared : (i : ℕ) → i < (held x).count → get_or out i (pos 0) ≡ shares_below (held x) a i

-- sizes of area a's loads in their order, each small enough for a sign, and room for the records' shares
pub record Sized (x : examined.Hour) (a : ℕ) (sizes : List ℕ) (out : List ℤ) : Type 0 where
  pub as_many : length sizes ≡ (held x).count
  pub room : length sizes ≤ length out
  pub small : (i : ℕ) → i < (held x).count → in_area (held x) a is_load i ≡ true →
      get_or sizes (loads_before (held x) a i) 0 < 9223372036854775808
