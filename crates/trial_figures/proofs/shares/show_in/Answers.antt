-- `shares::show_in` is safe: what it shares is small, so it can be shared, and every share has room for a sign.
use Rattle.std.proofs.Common.{◌≡◌, ◌≤◌, nat_abs, ℤ, ℕ, w64, SFits, to_z}
use mir.Val.{of_z}
use mir.ValLaws.{to_z-of_z}
use Rattle.trial_figures.proofs.Shown.{shareable, share_fits}
use Rattle.trial_figures.proofs.shares.show_in.Goals as goal

size_most : (u : ℤ) (size : ℕ) → SFits w64 u → nat_abs u ≤ 1000 → size ≡ nat_abs (to_z w64 (of_z w64 u)) → size ≤ 1000
size_most u size ok most is = rw (is, to_z-of_z w64 u ok) most

pub share_in_place-requires : goal.share_in_place-requires
share_in_place-requires g c =
    shareable c.args.places.now c.requires.0 c.requires.1 c.size_of.result (size_most c.args.u c.size_of.result c.ranges.u c.requires.2 c.size_of.ensures)

-- print_sizes(output, u, places)
pub print_sizes-requires-2 : goal.print_sizes-requires-2
print_sizes-requires-2 g c =
    share_fits c.args.places.now c.requires.0 c.requires.1 c.size_of.result (size_most c.args.u c.size_of.result c.ranges.u c.requires.2 c.size_of.ensures) _
    c.share_in_place.ensures
