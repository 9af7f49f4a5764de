-- Settling's answers, row by row, and what they leave: refused, nothing is changed; accepted, each buffer is filled with figures that are
-- worked once.
use mathlib.Core.Path.{◌≡◌, sym, ◌∙◌, ap}
use mathlib.Core.Bool.{Bool, true, false, ◌||◌}
use Rattle.std.specs.Prelude.{None, Some, Ok, Err}
use mathlib.Core.List.{List, [], ◌∷◌}
use Prim.Native.Nat.{ℕ, ◌≤◌, ◌<◌}
use native.Mathlib.Omega.{arith}
use lib.IntN.{ℤ, pos}
use lib.ListN.{length, take, get_or}
use lib.Seq.{length-take-le, get_or-take}
use lib.Dec.{ltb}
use Rattle.whole.specs.Below.{replacing_first}
use Rattle.whole.proofs.Buffers.{replacing_ext, get_or_replacing, length_replacing}
use Rattle.rules.specs.declared.Refusal.{Refusal}
use Rattle.rules.specs.declared.Refusal.TheVariants.{BadArea, TooShort, NoDemand}
use Rattle.rules.specs.declared.Line.{Line}
use Rattle.rules.specs.Record.{Hour, members, entry_of}
use Rattle.rules.specs.Deviation.{deviation}
use Rattle.rules.specs.Charge.{share_of, cents, charge}
use Rattle.rules.specs.Neutrality.{final}
use Rattle.rules.specs.Refusals.{row, accepted, refusal_verdict, verdict, place_zero_if, Buffers, bad_area, no_demand, too_short}
use Rattle.rules.specs.Refusals.{sum_rows, file_rows, settle_rows}
use Rattle.rules.specs.Settling.{line_of, filled, ufe_figures, settle, empty_line}
use Rattle.rules.specs.Inner.Posting.{lines_after}
use Rattle.rules.specs.Promised.Demands.{Accepts, Fits}
use Rattle.rules.specs.Inner.Kept.{FileKept}
use Rattle.rules.proofs.Rows.{file_decides, file_passed, never_accepted}
use Rattle.rules.proofs.Rows.{settle_verdict, settle_whole, settle_changes_nothing, settle_fills}
use Rattle.rules.proofs.Kept.{passed_kept}
use Rattle.rules.proofs.Bounds.{row_7_never}
use Rattle.rules.proofs.Demands.{Room, buffers_room}
use Rattle.rules.proofs.Posting.{lines_are}
use Rattle.rules.specs.HourFile.{hour_in}
use Rattle.bymember.specs.Lined.{AllWorked}
use Rattle.bymember.specs.Charged.{Charged}
use Rattle.bymember.proofs.Worked.{all_worked}
use Rattle.pool.specs.declared.Lengths as code
use Rattle.pool.specs.AsSettled.{HaveLengths, short_for, Says}
use Rattle.pool.specs.Buffers.{buffers}

module _ (s : List ℕ) (b : Buffers) where
  abbrev h : Hour
  h = hour_in s

  -- ---- the answer

  refused_with : (a : Refusal) → verdict (settle_rows s b) ≡ refusal_verdict a → Says s b (Err a)
  refused_with a e = record {
    verdict_is = sym (settle_verdict s b ∙ e);
    ufe_is = sym (settle_changes_nothing s b (λ yes. never_accepted a (sym e ∙ sym (settle_verdict s b) ∙ yes))).1;
  }

  pub file_refused : (a : Refusal) → refusal_verdict a ≡ verdict (file_rows s) → Says s b (Err a)
  file_refused a examined = refused_with a (file_decides s b (λ e. never_accepted a (examined ∙ e)) ∙ sym examined)

  -- once rows 1 to 5 and 14 are passed; row 7 is then whole
  module _ (passed : verdict (file_rows s) ≡ accepted) (kept : FileKept s) where
    rest : verdict (settle_rows s b) ≡ verdict (row 6 (bad_area h) ∷ row 7 None ∷ row 12 (no_demand h) ∷ row 11 (too_short h b) ∷ [])
    unfolding sum_rows
    rest = file_passed s b passed
        ∙ ap (λ o. verdict (row 6 (bad_area h) ∷ row 7 o ∷ row 12 (no_demand h) ∷ row 11 (too_short h b) ∷ [])) (row_7_never kept.hour_kept)

    pub area-refused : {i : ℕ} → bad_area h ≡ Some i → Says s b (Err (BadArea i))
    unfolding verdict
    area-refused {i} e = refused_with (BadArea i) (rest ∙ rw e)

    pub demand-refused : bad_area h ≡ None → no_demand h ≡ Some 0 → Says s b (Err NoDemand)
    unfolding verdict
    demand-refused areas-pass e = refused_with NoDemand (rest ∙ rw (areas-pass, e))

    -- and rows 6 and 12: what is left is whether a buffer is too short
    module _ (areas-pass : bad_area h ≡ None) (demand-passes : no_demand h ≡ None) {x : code.Lengths} (lengths : HaveLengths b x)
        {m r : ℕ} (members_are : m ≡ members h) (records_are : r ≡ h.count) where
      last : verdict (settle_rows s b) ≡ verdict (row 11 (place_zero_if (short_for m r x)) ∷ [])
      unfolding verdict too_short
      last = rest ∙ rw (
        areas-pass,
        demand-passes,
        lengths.of_charges,
        lengths.of_finals,
        lengths.of_lines,
        lengths.of_shares,
        lengths.of_deviations,
        members_are,
        records_are,
      )

      pub some-short : short_for m r x ≡ true → Says s b (Err TooShort)
      unfolding verdict
      some-short t = refused_with TooShort (last ∙ rw t)

      pub all_pass : short_for m r x ≡ false → {figures : List ℤ} → figures ≡ ufe_figures h → Says s b (Ok figures)
      unfolding verdict
      all_pass f {figures} e =
          let passes : verdict (settle_rows s b) ≡ accepted = last ∙ rw f in record {
            verdict_is = sym (settle_verdict s b ∙ passes);
            ufe_is = e ∙ sym (settle_fills s b (settle_verdict s b ∙ passes)).1;
          }

  -- ---- the buffers

  pub unchanged : {a : Refusal} → Says s b (Err a) → Fits s b (Err a) b
  unchanged {a} said =
      let same = (settle_changes_nothing s b (λ e. never_accepted a (said.verdict_is ∙ e))).0 in
      record { verdict_is = said.verdict_is; ufe_is = said.ufe_is; buffers_are = sym same }

  module _ {figures : List ℤ} (said : Says s b (Ok figures)) where
    hour_accepted : Accepts s b
    hour_accepted = sym said.verdict_is

    pub kept : FileKept s
    kept = passed_kept s (settle_whole s b hour_accepted).0

    pub room : Room h b
    room = buffers_room h b (settle_whole s b hour_accepted).1

    pub can-share : (figures ≡ ufe_figures h) × (h.count ≤ length b.shares)
    can-share = (said.ufe_is ∙ (settle_fills s b hour_accepted).1, room.shares_room)

    -- deviations and shares are put
    module _ {deviations shares : List ℤ}
        (put-deviations : deviations ≡ replacing_first (λ i. deviation (entry_of h i)) h.count b.deviations)
        (put-shares : shares ≡ replacing_first (share_of h) h.count b.shares) where
      pub can-put-lines : AllWorked h deviations shares × (members h ≤ length b.lines)
      can-put-lines = (
        all_worked h b.deviations b.shares room.deviations_room room.shares_room put-deviations put-shares,
        room.lines_room,
      )

      -- and the lines
      module _ {lines : List Line} (put-lines : lines ≡ lines_after h b.lines h.count) {n : ℕ} (all : n ≡ members h) where
        lines-written : lines ≡ replacing_first (line_of h) (members h) b.lines
        lines-written = put-lines ∙ lines_are h b.lines (λ i l. (kept.hour_kept.record_kept i l).member_there)

        line_at : (m : ℕ) → m < members h → get_or lines m empty_line ≡ line_of h m
        line_at m l = rw lines-written (get_or_replacing (line_of h) (members h) b.lines m empty_line l)

        pub lines-there : n ≤ length lines
        lines-there =
            omega (arith, all, room.lines_room, ap length lines-written, length_replacing (line_of h) (members h) b.lines room.lines_room)

        -- the lines of the members
        pub as-many : length (take n lines) ≡ n
        as-many = length-take-le n lines lines-there

        pub can-put-charges : length (take n lines) ≤ length b.charges
        can-put-charges = omega (arith, as-many, all, room.charges_room)

        charge-at : (m : ℕ) → m < members h → cents (get_or (take n lines) m empty_line).amount ≡ charge h m
        unfolding line_of charge
        charge-at m l = ap (λ (x : Line). cents x.amount) (get_or-take n lines m empty_line (omega (arith, all)) ∙ line_at m l)

        module _ {charges : List ℤ}
            (put-charges : charges
            ≡ replacing_first (λ m. cents (get_or (take n lines) m empty_line).amount) (length (take n lines)) b.charges) where
          charges-written : charges ≡ replacing_first (charge h) (members h) b.charges
          charges-written = put-charges
              ∙ ap (λ k. replacing_first (λ m. cents (get_or (take n lines) m empty_line).amount) k b.charges) (as-many ∙ all)
              ∙ replacing_ext _ _ (members h) b.charges charge-at

          pub can-put-finals : Charged h charges × (members h ≤ length b.finals)
          can-put-finals = (
            record {
              room = rw (charges-written, length_replacing (charge h) (members h) b.charges room.charges_room) room.charges_room;
              charges_are = λ m l. rw charges-written (get_or_replacing (charge h) (members h) b.charges m (pos 0) l);
            },
            room.finals_room,
          )

          pub all_filled : {finals : List ℤ} → finals ≡ replacing_first (final h) (members h) b.finals →
              Fits s b (Ok figures) (buffers charges finals shares deviations lines)
          unfolding filled
          all_filled put-finals = record {
            verdict_is = said.verdict_is;
            ufe_is = said.ufe_is;
            buffers_are = (λ k. buffers (charges-written k) (put-finals k) (put-shares k) (put-deviations k) (lines-written k))
                ∙ sym (settle_fills s b hour_accepted).0;
          }
