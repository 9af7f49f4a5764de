-- An area's UFE over its loads: what is asked of the engine, and that its sizes, with the UFE's sign, are the shares of the area's records.
use mathlib.Core.Path.{◌≡◌, sym, ◌∙◌, ap, ap₂}
use mathlib.Core.Bool.{Bool, true, false, cond}
use mathlib.Core.List.{List}
use Prim.Native.Nat.{ℕ, ◌+◌, ◌≤◌, ◌<◌}
use native.Mathlib.Nat.{le_refl}
use native.Mathlib.Omega.{arith}
use lib.Dec.{ltb, eqb}
use lib.IntN.{ℤ, pos, nat_abs}
use lib.ListN.{length, get_or, take}
use lib.Seq.{length-take-le, get_or-take}
use mir.Syntax.{w64}
use mir.Val.{of_z, to_z}
use borrow.Author.Tests.{lt-ltb, le-ltb, eq-eqb, eqb-true, eqb-false, ltb-true, ltb-false}
use Rattle.whole.specs.Below.{replacing_first, gathered_below}
use Rattle.whole.specs.Signed.{with_sign_of}
use Rattle.whole.proofs.Tests.{split, both}
use Rattle.whole.proofs.Ranges.{u_fits}
use Rattle.whole.proofs.Machine.{read_back, zero_bits}
use Rattle.whole.proofs.Sums.{count_most}
use Rattle.whole.proofs.Gathering.{passer_before, passer_at, gathered_length, gathered_at}
use Rattle.whole.proofs.Buffers.{get_or_replacing, length_replacing, replacing_ext, replacing_same}
use Rattle.rules.specs.Record.{Hour, area_of, entry_of, is_load}
use Rattle.rules.specs.Ufe.{in_area, ufe, demand}
use Rattle.rules.specs.Share.{share_size}
use Rattle.rules.specs.Charge.{share_of}
use Rattle.rules.specs.Inner.Kept.{HourKept}
use Rattle.rules.proofs.Shares.{gathered_shares, size_at_most}
use Rattle.rules.proofs.Fair.{share_in}
use Rattle.rules.proofs.Bounds.{ufe_under}
use Rattle.share.specs.Shareable.{at, everyone, Shareable, shares_in}
use Rattle.share.proofs.Uses.{ufe_shareable}
use Rattle.hour.specs.declared.examined.Hour as examined
use Rattle.hour.specs.Held.{held}
use Rattle.byrecord.specs.Shared.{loads_before, shares_below, with_sizes, SharedUpTo, Sized}

-- ---- a record's share before and after its area's turn

module _ (h : Hour) (a i : ℕ) where
  -- the size of record i's part of area a's UFE
  abbrev size_of : ℕ
  size_of = share_size (in_area h a is_load) (demand h) h.count (nat_abs (ufe h a)) i

  own_share : area_of h i ≡ a → share_of h i ≡ with_sign_of (ufe h a) size_of
  own_share e = rw (eq-eqb (area_of h i) a e) at (share_in h a i)

  own_before : area_of h i ≡ a → shares_below h a i ≡ pos 0
  unfolding shares_below
  own_before e = rw (le-ltb (area_of h i) a (omega arith))

  own_after : area_of h i ≡ a → shares_below h (a + 1) i ≡ share_of h i
  unfolding shares_below
  own_after e = rw (lt-ltb (area_of h i) (a + 1) (omega arith))

  -- another area is before a + 1 if it is before a
  passed : (area_of h i ≡ a → ⊥) → ltb (area_of h i) a ≡ ltb (area_of h i) (a + 1)
  passed e = split (ltb (area_of h i) a)
      (λ t. t ∙ sym (lt-ltb (area_of h i) (a + 1) (omega (arith, ltb-true (area_of h i) a t))))
      (λ f. f ∙ sym (le-ltb (area_of h i) (a + 1) (omega (arith, ltb-false (area_of h i) a f))))

  -- what has no share of area a's UFE is as it was
  unshared : (area_of h i ≡ a → share_of h i ≡ pos 0) → shares_below h a i ≡ shares_below h (a + 1) i
  unfolding shares_below
  unshared none = split (eqb (area_of h i) a)
      (λ t. let e = eqb-true (area_of h i) a t in own_before e ∙ sym (own_after e ∙ none e))
      (λ f. ap (λ (b : Bool). cond b (share_of h i) (pos 0)) (passed (eqb-false (area_of h i) a f)))

  load_there : in_area h a is_load i ≡ true → area_of h i ≡ a
  unfolding in_area
  load_there t = eqb-true (area_of h i) a (both (eqb (area_of h i) a) _ t).0

  no_load_no_share : in_area h a is_load i ≡ false → area_of h i ≡ a → share_of h i ≡ pos 0
  unfolding in_area share_of
  no_load_no_share f e = let g : is_load (entry_of h i).kind ≡ false = rw (eq-eqb (area_of h i) a e) at f in rw g

-- ---- the turn of area a

module _ {x : examined.Hour} {a : ℕ} {figure : ℤ} {room : List ℕ} {out : List ℤ} (p : SharedUpTo x a figure room out) where
  abbrev hour : Hour
  hour = held x

  abbrev ranges : HourKept hour
  ranges = x.kept.hour_kept

  -- its UFE is a number of 64 bits
  pub figure_read : to_z w64 (of_z w64 figure) ≡ figure
  figure_read = rw p.figure_of (read_back (u_fits (ufe_under ranges a p.there) tt))

  -- an area without UFE shares nothing, so that nothing is to be written
  no_ufe_no_share : ufe hour a ≡ pos 0 → (i : ℕ) → i < hour.count → area_of hour i ≡ a → share_of hour i ≡ pos 0
  no_ufe_no_share z i l e = own_share hour a i e ∙ ap₂ with_sign_of z nothing
    where
      nothing : size_of hour a i ≡ 0
      nothing =
          let none = ap nat_abs z in
          omega (arith, size_at_most (in_area hour a is_load) (demand hour) hour.count (nat_abs (ufe hour a)) i l)

  pub nothing_to_write : of_z w64 figure ≡ 0 → out ≡ replacing_first (shares_below hour (a + 1)) hour.count out
  nothing_to_write z = sym (replacing_same _ hour.count out (pos 0) p.room_out (λ i l.
      sym (p.shared i l ∙ unshared hour a i (no_ufe_no_share none i l))))
    where
      none : ufe hour a ≡ pos 0
      none = zero_bits (u_fits (ufe_under ranges a p.there) tt) (ap (of_z w64) (sym p.figure_of) ∙ z)

-- ---- an area with UFE, over its loads

-- what the engine is asked: in the first places of `room` stand the demands of the area's loads, so many
pub record Asked (x : examined.Hour) (a : ℕ) (figure : ℤ) (lent : List ℕ) (out : List ℤ) (loads : ℕ) (room : List ℕ) : Type 0 where
  pub up_to : SharedUpTo x a figure lent out
  pub counted : loads ≡ loads_before (held x) a (held x).count
  pub holds : room ≡ gathered_below (in_area (held x) a is_load) (demand (held x)) (held x).count lent

module _ {x : examined.Hour} {a : ℕ} {figure : ℤ} {lent : List ℕ} {out : List ℤ} {loads : ℕ} {room : List ℕ}
    (q : Asked x a figure lent out loads room) where
  abbrev h : Hour
  h = held x

  abbrev n : ℕ
  n = h.count

  abbrev U : ℕ
  U = nat_abs (ufe h a)

  abbrev load : ℕ → Bool
  load = in_area h a is_load

  abbrev place : ℕ → ℕ
  place = loads_before h a

  abbrev demands : List ℕ
  demands = take loads room

  room_kept : length room ≡ length lent
  room_kept = ap length q.holds ∙ gathered_length load (demand h) lent n

  pub loads_fit : loads ≤ length room
  loads_fit = omega (arith, room_kept, q.up_to.places, q.counted, count_most load n)

  as_many : length demands ≡ loads
  as_many = length-take-le loads room loads_fit

  before_all : (j : ℕ) → j < n → load j ≡ true → place j < loads
  before_all j l t = omega (arith, q.counted, passer_before load j n t l)

  demand_at : (j : ℕ) → j < n → load j ≡ true → at demands (place j) ≡ demand h j
  demand_at j l t =
      get_or-take loads room (place j) 0 (before_all j l t)
      ∙ rw q.holds (gathered_at load (demand h) lent n (omega (arith, q.up_to.places)) j 0 l t)

  demand_small : (k : ℕ) → k < length demands → at demands k ≤ 100000
  demand_small k m = passer_at load n k (omega (arith, as_many, q.counted)) (λ j l t e.
      rw (← e) (rw (demand_at j l t) (x.kept.hour_kept.record_kept j l).demand_most))

  U_most : U ≤ 1000000000000
  U_most = (ufe_under x.kept.hour_kept a q.up_to.there).under

  few : length demands ≤ n
  few = omega (arith, as_many, loads_fit, room_kept, q.up_to.places)

  pub shareable : Shareable demands U demands
  shareable =
      ufe_shareable demands U demands (le_refl (length demands)) (omega (arith, few, x.kept.hour_kept.count_most)) demand_small U_most

  -- the sizes stand where the demands stood
  module _ {got : List ℕ} (shared : got ≡ shares_in demands U room) where
    sizes_kept : length got ≡ n
    sizes_kept =
        ap length shared
        ∙ length_replacing _ (length demands) room (omega (arith, as_many, loads_fit))
        ∙ room_kept
        ∙ q.up_to.places

    got_at : (j : ℕ) → j < n → load j ≡ true → get_or got (place j) 0 ≡ size_of h a j
    got_at j l t =
        ap (λ (g : List ℕ). get_or g (place j) 0) shared
        ∙ get_or_replacing _ (length demands) room (place j) 0 (omega (arith, as_many, before_all j l t))
        ∙ ap (λ (m : ℕ). share_size everyone (at demands) m U (place j)) (as_many ∙ q.counted)
        ∙ gathered_shares load (demand h) (at demands) n U demand_at j l t

    pub sized : Sized x a got out
    sized = record {
      as_many = sizes_kept;
      room = omega (arith, sizes_kept, q.up_to.room_out);
      small = λ j l t. rw (got_at j l t) (omega (arith, size_at_most load (demand h) n U j l, U_most));
    }

    -- the area's loads have their shares, and all others what they had
    one_more : (i : ℕ) → i < n → with_sizes h a (ufe h a) got out i ≡ shares_below h (a + 1) i
    unfolding with_sizes
    one_more i l = split (load i)
        (λ t. let e = load_there h a i t in rw (t, got_at i l t) (sym (own_after h a i e ∙ own_share h a i e)))
        (λ f. rw f (q.up_to.shared i l ∙ unshared h a i (no_load_no_share h a i f)))

    pub area_shared : {next : List ℤ} → next ≡ replacing_first (with_sizes h a figure got out) n out →
        next ≡ replacing_first (shares_below h (a + 1)) n out
    area_shared put = put ∙ rw q.up_to.figure_of (replacing_ext _ _ n out one_more)
