-- From no area shared to all: into a buffer whose places for records were cleared, one area after the other.
use mathlib.Core.Path.{◌≡◌, refl, sym, ◌∙◌, ap}
use mathlib.Core.List.{List}
use Prim.Native.Nat.{ℕ, ◌+◌, ◌≤◌, ◌<◌, zero-le}
use native.Mathlib.Omega.{arith}
use lib.IntN.{ℤ, pos}
use lib.ListN.{length, get_or}
use borrow.Author.Tests.{lt-ltb, le-ltb}
use Rattle.whole.specs.Below.{values_below, replacing_first}
use Rattle.whole.proofs.Buffers.{get_or_replacing, length_replacing, replacing_all, replacing_ext, replacing_same, replacing_twice}
use Rattle.rules.specs.Record.{Hour, areas, area_of}
use Rattle.rules.specs.Charge.{share_of}
use Rattle.hour.specs.declared.examined.Hour as examined
use Rattle.hour.specs.Held.{held}
use Rattle.hour.proofs.Figures.{figure_at}
use Rattle.byrecord.specs.Shared.{shares_below, Sharing, Cleared, SharedUpTo}

-- ---- the buffer as it was lent, and once the first places, so many as there are records, are 0

module _ {x : examined.Hour} {figures lent cleared : List ℤ} {room : List ℕ} {n : ℕ} (sharing : Sharing x figures room lent)
    (counted : n ≡ (held x).count) (zeros : cleared ≡ replacing_first (λ i. pos 0) n lent) where
  zeros_first : cleared ≡ replacing_first (λ i. pos 0) (held x).count lent
  zeros_first = zeros ∙ ap (λ m. replacing_first (λ i. pos 0) m lent) counted

  pub ready : Cleared x figures room cleared
  ready =
      let same = ap length zeros_first ∙ length_replacing (λ i. pos 0) (held x).count lent sharing.room_out in
      record {
        sharing = record {
          figures_of = sharing.figures_of;
          places = sharing.places;
          room_out = omega (arith, same, sharing.room_out);
        };
        zeros = λ i m. rw zeros_first (get_or_replacing (λ i. pos 0) (held x).count lent i (pos 0) m);
      }

  -- nothing of the zeros is left
  pub shared_over : {out : List ℤ} → out ≡ replacing_first (share_of (held x)) (held x).count cleared →
      out ≡ replacing_first (share_of (held x)) (held x).count lent
  shared_over e = e ∙ rw zeros_first (replacing_twice (λ i. pos 0) (share_of (held x)) (held x).count lent)

  -- the room is cleared after the last area, whatever it then held
  pub room_cleared : (used : List ℕ) {left : List ℕ} → length used ≡ length room → left ≡ replacing_first (λ i. 0) (length used) used →
      left ≡ replacing_first (λ i. 0) (held x).count room
  room_cleared used kept e =
      e
      ∙ replacing_all (λ i. 0) (length used) used refl
      ∙ ap (values_below (λ i. 0)) (kept ∙ sharing.places)
      ∙ sym (replacing_all (λ i. 0) (held x).count room sharing.places)

-- ---- area by area

-- the areas before a are shared, in a room that is as long as ever
pub record AreasShared (x : examined.Hour) (a : ℕ) (cleared : List ℤ) (room : List ℕ) (out : List ℤ) : Type 0 where
  pub reached : a ≤ areas (held x)
  pub places : length room ≡ (held x).count
  pub holds : out ≡ replacing_first (shares_below (held x) a) (held x).count cleared

module _ {x : examined.Hour} {figures : List ℤ} {room₀ : List ℕ} {cleared : List ℤ} (z : Cleared x figures room₀ cleared) where
  abbrev h : Hour
  h = held x

  abbrev count : ℕ
  count = h.count

  pub none_shared : AreasShared x 0 cleared room₀ cleared
  unfolding shares_below
  none_shared = record {
    reached = zero-le;
    places = z.sharing.places;
    holds = sym (replacing_same (shares_below h 0) count cleared (pos 0) z.sharing.room_out (λ i l.
        rw (le-ltb (area_of h i) 0 zero-le) (sym (z.zeros i l))));
  }

  -- an area's figure is one of eight
  pub area_place : (a : ℕ) → a < areas h → a < 8
  area_place a there = omega (arith, x.kept.hour_kept.areas_most)

  module _ {a : ℕ} {room : List ℕ} {out : List ℤ} (w : AreasShared x a cleared room out) where
    pub same_room : length out ≡ length cleared
    same_room = ap length w.holds ∙ length_replacing (shares_below h a) count cleared z.sharing.room_out

    pub shared_so_far : a < areas h → SharedUpTo x a (get_or figures a (pos 0)) room out
    shared_so_far there = record {
      there = there;
      figure_of = rw z.sharing.figures_of (figure_at h x.kept.hour_kept.areas_most a there);
      places = w.places;
      room_out = omega (arith, same_room, z.sharing.room_out);
      shared = λ i l. rw w.holds (get_or_replacing (shares_below h a) count cleared i (pos 0) l);
    }

    pub next_area : {room' : List ℕ} {out' : List ℤ} → a < areas h → out' ≡ replacing_first (shares_below h (a + 1)) count out →
        length room' ≡ length room → AreasShared x (a + 1) cleared room' out'
    next_area there e l = record {
      reached = omega arith;
      places = l ∙ w.places;
      holds = e ∙ rw w.holds (replacing_twice (shares_below h a) (shares_below h (a + 1)) count cleared);
    }

    pub all_shared : areas h ≤ a → out ≡ replacing_first (share_of h) count cleared
    unfolding shares_below
    all_shared ended =
        w.holds
        ∙ replacing_ext (shares_below h a) (share_of h) count cleared (λ i l.
        rw (lt-ltb (area_of h i) a (omega (arith, (x.kept.hour_kept.record_kept i l).area_there))))
