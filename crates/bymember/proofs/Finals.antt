-- The steps to the finals: charges added up to N, members' demands gathered, the engine asked with them, each share taken off its charge.
use mathlib.Core.Path.{◌≡◌, refl, sym, ◌∙◌, ap, ap₂}
use mathlib.Core.Bool.{cond}
use mathlib.Core.List.{List}
use Prim.Native.Nat.{ℕ, ◌+◌, ◌≤◌, ◌<◌}
use native.Mathlib.Nat.{le_refl, le_of_lt}
use native.Mathlib.Omega.{arith}
use lib.Dec.{eqb}
use lib.IntN.{ℤ, pos, nat_abs, ◌+ℤ◌, ◌-ℤ◌}
use lib.ListN.{length, take, get_or}
use lib.Seq.{length-take-le, get_or-take}
use mir.Syntax.{w64}
use mir.Val.{SFits, to_z}
use Rattle.whole.specs.Below.{sum_below, total_below, replacing_first}
use Rattle.whole.specs.Signed.{with_sign_of, Under}
use Rattle.whole.proofs.Sums.{all_count, sum_ext, sum_prefix, sum_at}
use Rattle.whole.proofs.Totals.{total_ext, total_add_one, total_under}
use Rattle.whole.proofs.Ranges.{u_le}
use Rattle.whole.proofs.Buffers.{get_or_replacing, length_replacing, replacing_ext}
use Rattle.whole.proofs.Adding.{Added, sums_by, all_added}
use Rattle.whole.proofs.Machine.{Num, local, result, ◌:+◌, fits, stored, back}
use Rattle.rules.specs.Record.{Hour, members, member_of}
use Rattle.rules.specs.Share.{all_demand, share_size, share}
use Rattle.rules.specs.Charge.{charge}
use Rattle.rules.specs.Neutrality.{every_member, member_demand, hour_demand, neutrality, neutrality_share, final}
use Rattle.rules.specs.Inner.Posting.{demand_of}
use Rattle.rules.specs.Inner.Kept.{HourKept}
use Rattle.rules.proofs.Shares.{gathered_shares, size_at_most}
use Rattle.rules.proofs.Bounds.{charge_under}
use Rattle.rules.proofs.Neutral.{member_demand_by_record, hour_demand_most, neutrality_under}
use Rattle.share.specs.Shareable.{at, everyone, demanded, Shareable, shares_in}
use Rattle.share.proofs.Uses.{neutrality_shareable}
use Rattle.bymember.specs.Charged.{Charged, Bounded, less_share, size_of, Sized}

-- ---- N: a few numbers are added up, and one more

module _ (f : ℕ → ℤ) (m : ℕ) (few : m < 32) (small : (i : ℕ) → i ≤ m → Under (f i) 400000000000) (sum : ℕ) {x : ℤ}
    (so_far : to_z w64 sum ≡ total_below f m) (next : x ≡ f m) where
  running : Under (total_below f m) 12800000000000
  running = u_le (total_under f 400000000000 m (λ i l. small i (le_of_lt l))) (omega (arith, few))

  abbrev more : Num
  more = local so_far running :+ result next (small m (le_refl m))

  pub number_fits : SFits w64 (to_z w64 sum +ℤ back x)
  number_fits = fits more tt

  pub number_added : back (to_z w64 sum +ℤ back x) ≡ total_below f (m + 1)
  number_added = stored more tt ∙ sym (total_add_one f m)

-- the charges of an hour, of which the sum is N
module _ {h : Hour} {charges : List ℤ} (c : Charged h charges) {n : ℕ} (all : n ≡ members h) where
  pub charges_bounded : HourKept h → Bounded charges n 400000000000
  charges_bounded kept = record {
    few = omega (arith, all, kept.members_most);
    room = omega (arith, all, c.room);
    small = λ m l. rw (c.charges_are m (omega (arith, all))) (u_le (charge_under kept m) (omega arith));
  }

  pub charges_total : total_below (λ m. get_or charges m (pos 0)) n ≡ neutrality h
  unfolding neutrality
  charges_total = ap (total_below (λ m. get_or charges m (pos 0))) all ∙ total_ext _ (charge h) (members h) c.charges_are

-- the members' charges alone, the first of those places
pub charged_alone : {h : Hour} {charges : List ℤ} {n : ℕ} → Charged h charges → n ≡ members h → Charged h (take n charges)
charged_alone {charges = charges} {n = n} c all = record {
  room = omega (arith, all, c.room, length-take-le n charges (omega (arith, all, c.room)));
  charges_are = λ m l. get_or-take n charges m (pos 0) (omega (arith, all)) ∙ c.charges_are m l;
}

module _ {h : Hour} (kept : HourKept h) where
  -- ---- the members' demands, record by record

  abbrev pub demands_after : ℕ → ℕ → ℕ
  demands_after = sums_by (member_of h) (demand_of h)

  pub demand_running : (i m : ℕ) → i ≤ h.count → m < members h → demands_after i m ≤ 25000000
  unfolding hour_demand all_demand
  demand_running i m l there = omega (
    arith,
    sum_prefix (λ j. cond (eqb (member_of h j) m) (demand_of h j) 0) i h.count l,
    member_demand_by_record h m,
    sum_at (member_demand h) (members h) m there,
    hour_demand_most kept,
  )

  pub demands_are : {i : ℕ} {old out : List ℕ} → Added demands_after (members h) h.count i old out → h.count ≤ i →
      out ≡ replacing_first (member_demand h) (members h) old
  demands_are {i} {old} added ended =
      all_added added ended ∙ replacing_ext _ (member_demand h) (members h) old (λ m l. sym (member_demand_by_record h m))

-- ---- the engine is asked: in `demands` stand the members', which were put where `lent` was

pub record Asked (h : Hour) (lent demands : List ℕ) : Type 0 where
  pub kept : HourKept h
  pub room : length lent ≡ members h
  pub put : demands ≡ replacing_first (member_demand h) (members h) lent

module _ {h : Hour} {lent demands : List ℕ} (q : Asked h lent demands) where
  abbrev n : ℕ
  n = members h

  abbrev N : ℕ
  N = nat_abs (neutrality h)

  as_many : length demands ≡ n
  as_many = ap length q.put ∙ length_replacing (member_demand h) n lent (omega (arith, q.room)) ∙ q.room

  demand_at : (m : ℕ) → m < n → at demands m ≡ member_demand h m
  demand_at m l = rw q.put (get_or_replacing (member_demand h) n lent m 0 l)

  all_demanded : demanded demands ≡ hour_demand h
  unfolding hour_demand all_demand
  all_demanded = ap (sum_below (at demands)) as_many ∙ sum_ext (at demands) (member_demand h) n demand_at

  pub shareable : Shareable demands N demands
  shareable = neutrality_shareable demands N demands (le_refl (length demands)) (omega (arith, as_many, q.kept.members_most))
      (omega (arith, all_demanded, hour_demand_most q.kept)) (omega (arith, (neutrality_under q.kept).under))

  -- the sizes stand where the demands stood
  module _ {got : List ℕ} (shared : got ≡ shares_in demands N demands) where
    got_as_many : length got ≡ n
    got_as_many = ap length shared ∙ length_replacing _ (length demands) demands (le_refl (length demands)) ∙ as_many

    everybody_takes_part : (m : ℕ) → m < n → share_size everyone (at demands) n N m ≡ size_of h m
    unfolding size_of
    everybody_takes_part m l =
        rw (all_count n, all_count m)
        at (gathered_shares every_member (member_demand h) (at demands) n N (λ j k t. rw (all_count j) (demand_at j k)) m l refl)

    got_at : (m : ℕ) → m < n → get_or got m 0 ≡ size_of h m
    got_at m l =
        ap (λ (g : List ℕ). get_or g m 0) shared
        ∙ get_or_replacing _ (length demands) demands m 0 (omega (arith, as_many))
        ∙ ap (λ (k : ℕ). share_size everyone (at demands) k N m) as_many
        ∙ everybody_takes_part m l

-- N, as it was added up, and the engine's sizes are all that is needed to take the shares off
pub sized : {h : Hour} {lent demands got : List ℕ} {all : ℤ} → Asked h lent demands → all ≡ neutrality h →
    got ≡ shares_in demands (nat_abs (neutrality h)) demands → Sized h all got
sized q all_is shared = record { all_is = all_is; as_many = got_as_many q shared; sizes_are = got_at q shared }

-- ---- the shares are taken off

module _ {h : Hour} {charges : List ℤ} (c : Charged h charges) {all : ℤ} {sizes : List ℕ} (z : Sized h all sizes) where
  pub sizes_bounded : HourKept h → (m : ℕ) → m < length sizes → get_or sizes m 0 ≤ 400000000000
  unfolding size_of
  sizes_bounded kept m l =
      let there : m < members h = omega (arith, z.as_many) in
      omega (
        arith,
        z.sizes_are m there,
        size_at_most every_member (member_demand h) (members h) (nat_abs (neutrality h)) m there,
        (neutrality_under kept).under,
      )

  pub taken_off : (before : List ℤ) {after : List ℤ} → after ≡ replacing_first (less_share charges all sizes) (length sizes) before →
      after ≡ replacing_first (final h) (members h) before
  unfolding final neutrality_share share size_of
  taken_off before e = e
      ∙ ap (λ k. replacing_first (less_share charges all sizes) k before) z.as_many
      ∙ replacing_ext _ (final h) (members h) before (λ m l. ap₂ ◌-ℤ◌ (c.charges_are m l)
      (ap₂ with_sign_of z.all_is (z.sizes_are m l)))
