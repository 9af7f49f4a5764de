-- How far an hour is charged and the neutrality amount shared: what the functions that go on from there ask of their callers.
use Rattle.std.specs.Prelude.{ℕ, ◌≤◌, ◌<◌, ◌≡◌, List, ℤ, pos, nat_abs, ◌-ℤ◌, length, get_or}
use Rattle.whole.specs.Signed.{Under, with_sign_of}
use Rattle.rules.specs.Record.{Hour, members, entry_of}
use Rattle.rules.specs.Deviation.{deviation}
use Rattle.rules.specs.Share.{share_size}
use Rattle.rules.specs.Charge.{charge}
use Rattle.rules.specs.Neutrality.{every_member, member_demand, neutrality}

-- the hour's charges stand in the first places
pub record Charged (h : Hour) (charges : List ℤ) : Type 0 where
  pub room : members h ≤ length charges
  pub charges_are : (m : ℕ) → m < members h → get_or charges m (pos 0) ≡ charge h m

-- a place a member, and nothing in it yet
pub record Empty {A : Type 0} (nothing : A) (h : Hour) (places : List A) : Type 0 where
  pub as_many : length places ≡ members h
  pub zeros : (m : ℕ) → m < members h → get_or places m nothing ≡ nothing

-- each record's deviation stands in its place
pub record Deviated (h : Hour) (deviations : List ℤ) : Type 0 where
  pub room : h.count ≤ length deviations
  pub deviations_are : (i : ℕ) → i < h.count → get_or deviations i (pos 0) ≡ deviation (entry_of h i)

-- at most 32 numbers, in the first places, that are at most so large
pub record Bounded (numbers : List ℤ) (n most : ℕ) : Type 0 where
  pub few : n ≤ 32
  pub room : n ≤ length numbers
  pub small : (m : ℕ) → m < n → Under (get_or numbers m (pos 0)) most

-- a charge less its share, which takes the sign of what is shared
abbrev pub less_share : (charges : List ℤ) (all : ℤ) (sizes : List ℕ) → ℕ → ℤ
less_share charges all sizes m = get_or charges m (pos 0) -ℤ with_sign_of all (get_or sizes m 0)

-- the size of a member's share of N
unfoldable pub size_of : Hour → ℕ → ℕ
size_of h m = share_size every_member (member_demand h) (members h) (nat_abs (neutrality h)) m

-- N is worked, and the size of each member's share of it stands in its place
pub record Sized (h : Hour) (all : ℤ) (sizes : List ℕ) : Type 0 where
  pub all_is : all ≡ neutrality h
  pub as_many : length sizes ≡ members h
  pub sizes_are : (m : ℕ) → m < members h → get_or sizes m 0 ≡ size_of h m
