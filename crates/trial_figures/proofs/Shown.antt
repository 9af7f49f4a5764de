-- Small demands can be shared, and the shares have room for a sign.
use mathlib.Core.Path.{◌≡◌, ap}
use mathlib.Core.List.{List, [], ◌∷◌}
use Prim.Native.Nat.{ℕ, zero, suc, ◌≤◌, ◌<◌}
use native.Mathlib.Omega.{arith}
use lib.ListN.{length, get_or, take}
use Rattle.whole.proofs.Buffers.{length_replacing, get_or_replacing}
use Rattle.rules.specs.Share.{share_size}
use Rattle.rules.proofs.Shares.{size_at_most}
use Rattle.share.specs.Shareable.{at, everyone, Shareable, shares_in}
use Rattle.share.proofs.Uses.{ufe_shareable}
use Rattle.trial_figures.specs.Small.{Small}

pub small_take : (ds : List ℕ) → Small ds → (n : ℕ) → Small (take n ds)
small_take ds s zero = tt
small_take [] s (suc n) = tt
small_take (d ∷ ds) s (suc n) = (s.0, small_take ds s.1 n)

pub small_at : (ds : List ℕ) → Small ds → (i : ℕ) → i < length ds → get_or ds i 0 ≤ 1000
small_at [] s i l = omega arith
small_at (d ∷ ds) s zero l = s.0
small_at (d ∷ ds) s (suc i) l = small_at ds s.1 i (omega arith)

pub small_fits : (ds : List ℕ) → Small ds → (i : ℕ) → i < length ds → get_or ds i 0 < 9223372036854775808
small_fits ds s i l = omega (arith, small_at ds s i l)

module _ (ds : List ℕ) (s : Small ds) (few : length ds ≤ 3) (size : ℕ) (most : size ≤ 1000) where
  pub shareable : Shareable ds size ds
  shareable = ufe_shareable ds size ds (omega arith) (omega arith) (λ i l. omega (arith, small_at ds s i l)) (omega arith)

  pub share_fits : (got : List ℕ) → got ≡ shares_in ds size ds → (i : ℕ) → i < length got → get_or got i 0 < 9223372036854775808
  share_fits got e i l =
      let sizes = share_size everyone (at ds) (length ds) size in
      let k : i < length ds = omega (arith, ap length e, length_replacing sizes (length ds) ds (omega arith)) in
      rw (e, get_or_replacing sizes (length ds) ds i 0 k) (omega (arith, size_at_most everyone (at ds) (length ds) size i k))
