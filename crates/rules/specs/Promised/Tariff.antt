-- The formulas of 003, D 2.1 and D 2.2, read a second time: in its own letters, its own order and its own sums by
-- Scheduling Coordinator and Zone. Demand 2 says that both readings give the same numbers, so that a slip in one breaks a proof.
-- What Ia means is read in 000, D 3.19: document 02, A3.
-- A GMM is given in ten-thousandths: an energy times a GMM, and any other energy times 10,000, are in units.
use Rattle.std.specs.Prelude.{ℕ, Bool, cond, ◌&&◌, ℤ, pos, ◌+ℤ◌, ◌-ℤ◌, ◌*ℤ◌, eqb}
use Rattle.whole.specs.Below.{total_below}
use Rattle.whole.specs.Signed.{min_ℤ, max_ℤ}
use Rattle.rules.specs.declared.Kind.{Kind}
use Rattle.rules.specs.declared.Kind.TheVariants.{Generator, RealTimeLoad, ProfileLoad, Import, Export, Unknown}
use Rattle.rules.specs.Record.{Hour, Entry, zone_price, zone_of, tie_in, tie_out, member_of, area_of, entry_of, is_generator, is_real_time}
use Rattle.rules.specs.Record.{is_profile, is_load, is_import, is_export}
use Rattle.rules.specs.Ufe.{area_sum}

abbrev pub in_units : ℤ → ℤ
in_units energy = pos 10000 *ℤ energy

-- ---- D 2.1, deviations: G, L, I, E with their subscripts s, a, adj, a/s, oblig

unfoldable pub gen_dev : Entry → ℤ
gen_dev i =
    let Gs = i.S in let GMMf = i.F in let Ga = i.A in let Gadj = i.J in let GMMah = i.H in let Gas = i.N in
    let unavailAncServ = min_ℤ (pos 0) (i.M -ℤ Ga -ℤ (i.O -ℤ Gas)) in
    Gs *ℤ GMMf -ℤ ((Ga -ℤ Gadj) *ℤ GMMah -ℤ in_units Gas) -ℤ in_units unavailAncServ

unfoldable pub load_dev : Entry → ℤ
load_dev i =
    let Ls = i.S in let La = i.A in let Ladj = i.J in let Las = i.N in
    let unavailDispLoad = max_ℤ (pos 0) ((i.O -ℤ Las) -ℤ La) in
    in_units Ls -ℤ (in_units (La -ℤ Ladj) +ℤ in_units Las) -ℤ in_units unavailDispLoad

-- 000, D 3.19: the actual import Ia is deemed to be equal to the scheduled import Is, in the deviation and in the losses
abbrev pub actual_import : Entry → ℤ
actual_import q = q.S

unfoldable pub imp_dev : Entry → ℤ
imp_dev q = let Is = q.S in let GMMt = q.F in let Ia = actual_import q in let Iadj = q.J in let GMMahq = q.H in let Ias = q.N in
    Is *ℤ GMMt -ℤ (Ia -ℤ Iadj) *ℤ GMMahq +ℤ in_units Ias

unfoldable pub exp_dev : Entry → ℤ
exp_dev q = let Es = q.S in let Ea = q.A in let Eadj = q.J in
    in_units Es -ℤ in_units Ea -ℤ in_units Eadj

abbrev pub dev_as : Kind → Entry → ℤ
dev_as Generator i = gen_dev i
dev_as RealTimeLoad i = load_dev i
dev_as ProfileLoad i = load_dev i
dev_as Import i = imp_dev i
dev_as Export i = exp_dev i
dev_as Unknown i = pos 0

-- ---- D 2.2, UFE of utility service territory k: I - E + G - (RTM + LPM) - TL

unfoldable pub transmission_losses : Hour → ℕ → ℤ
transmission_losses h k =
    area_sum h k is_generator (λ i. i.A *ℤ (pos 10000 -ℤ i.H)) +ℤ area_sum h k is_import (λ q. actual_import q *ℤ (pos 10000 -ℤ q.H))

unfoldable pub ufe_of_territory : Hour → ℕ → ℤ
ufe_of_territory h k =
    let Ik = tie_in h k in let Ek = tie_out h k in let Gk = area_sum h k is_generator (λ i. i.A) in
    let RTMk = area_sum h k is_real_time (λ i. i.A) in let LPMk = area_sum h k is_profile (λ i. i.A) in
    in_units (Ik -ℤ Ek +ℤ Gk -ℤ (RTMk +ℤ LPMk)) -ℤ transmission_losses h k

-- ---- D 2.1 and D 2.2, the charge on Scheduling Coordinator j for Zone x, before rounding, with an allocation of the UFE

module _ (h : Hour) (allocated : ℕ → ℤ) (j x : ℕ) where
  -- the sum of a figure over the coordinator's records of some kinds in the zone
  unfoldable pub coordinator_sum : (Kind → Bool) → (ℕ → ℤ) → ℤ
  coordinator_sum kinds figure = total_below (λ i.
      cond (kinds (entry_of h i).kind && eqb (member_of h i) j && eqb (zone_of h (area_of h i)) x) (figure i) (pos 0)) h.count

  unfoldable pub UFEC : ℤ
  UFEC = coordinator_sum is_load allocated *ℤ zone_price h x

  unfoldable pub IEC : ℤ
  IEC = let P = zone_price h x in
      (coordinator_sum is_generator (λ i. gen_dev (entry_of h i)) -ℤ coordinator_sum is_load (λ i. load_dev (entry_of h i))) *ℤ P
      +ℤ coordinator_sum is_import (λ i. imp_dev (entry_of h i)) *ℤ P
      -ℤ coordinator_sum is_export (λ i. exp_dev (entry_of h i)) *ℤ P
      +ℤ UFEC
