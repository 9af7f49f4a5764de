-- `shares::show` is safe: of three small demands the first are as small.
use Rattle.std.proofs.Common.{◌≤◌, ℕ, List, [], ◌∷◌, length, take, w64, length-take-le}
use mir.ValLaws.{to_z-of_z}
use Rattle.trial_figures.proofs.Shown.{small_take}
use Rattle.trial_figures.proofs.shares.show.Goals as goal

few : (n : ℕ) (demands : List ℕ) → n ≤ length demands → n ≤ 3 → length (take n demands) ≤ 3
few n demands within at_most = rw (length-take-le n demands within) at_most

pub show_in-requires : goal.show_in-requires
show_in-requires g c =
    let asked = c.requires in
    let demands = c.args.first ∷ c.args.second ∷ c.args.third ∷ [] in
    rw
    (to_z-of_z w64 c.args.u c.ranges.u)
    (small_take demands (asked.2, (asked.3, (asked.4, tt))) c.args.n, few c.args.n demands asked.1 asked.1, asked.0)
