-- What is answered, refused or explained, is what `explain` says.
use mathlib.Core.Path.{◌≡◌, refl, sym, ◌∙◌, ap, ap₂}
use Rattle.std.specs.Prelude.{Option, Result, Ok, Err}
use mathlib.Core.List.{List}
use Prim.Native.Nat.{ℕ, ◌≤◌, ◌<◌}
use lib.IntN.{ℤ, pos}
use lib.ListN.{get_or, replicate}
use native.Mathlib.Nat.{le_refl}
use borrow.Author.Tests.{eqb-false}
use Rattle.rules.specs.declared.Refusal.{Refusal}
use Rattle.rules.specs.declared.Refusal.TheVariants.{NoMember}
use Rattle.rules.specs.declared.Explained.{Explained}
use Rattle.rules.specs.Record.{members}
use Rattle.rules.specs.Charge.{charge}
use Rattle.rules.specs.Refusals.{accepted, refusal_verdict, verdict_of, verdict, hour_rows, explain_rows}
use Rattle.rules.specs.Explanation.{heads, decided, decided_by, explanation_of, explain}
use Rattle.rules.specs.Promised.Demands.{AllWhole}
use Rattle.rules.specs.Inner.Kept.{FileKept}
use Rattle.whole.proofs.Ranges.{u_fits}
use Rattle.whole.proofs.Machine.{back, read_back}
use Rattle.rules.proofs.Bounds.{charge_under}
use Rattle.rules.proofs.Stated.{accepted_kept}
use Rattle.rules.proofs.Rows.{accepts_when_whole, hour_numbered, numbered, never_accepted}
use Rattle.rules.proofs.Explaining.{rows_refused_alike, rows_member, rows_no_member, explain_accepted, explain_refused}
use Rattle.rules.specs.HourFile.{hour_in}
use Rattle.explain.specs.Settled.{Settled}
use Rattle.pool.specs.Unlined.{Unlined, unlined, FitsUnlined}
use Rattle.pool.proofs.Rooms.{Rooms, same_verdict, figured}

-- the room that explaining has for settling: room for every hour
abbrev pub room : Unlined
room = unlined (replicate 32 (pos 0)) (replicate 32 (pos 0)) (replicate 250 (pos 0)) (replicate 250 (pos 0))

room_for_all : Rooms room
room_for_all = record {
  charges_room = le_refl 32;
  finals_room = le_refl 32;
  shares_room = le_refl 250;
  deviations_room = le_refl 250;
}

module _ (s : List ℕ) (m : ℕ) where
  refused_with : (e : Refusal) → refusal_verdict e ≡ verdict (explain_rows s m) → explanation_of (Err e) ≡ explain s m
  refused_with e v = rw (explain_refused s m (eqb-false _ _ (rw v at (numbered e))), v) refl

  -- what settling refuses
  pub refused_alike : {after : Unlined} {r : Result (List ℤ) Refusal} {e : Refusal} → FitsUnlined s room r after → r ≡ Err e →
      explanation_of (Err e) ≡ explain s m
  refused_alike {e = e} settled is =
      let v : refusal_verdict e ≡ verdict (hour_rows s) = sym (ap verdict_of is) ∙ same_verdict room_for_all settled in
      refused_with e (v ∙ sym (rows_refused_alike s m (λ a. never_accepted e (v ∙ a))))

  -- what it accepts
  module _ {charges shares deviations : List ℤ} (p : Settled s charges shares deviations) where
    pub kept : FileKept s
    kept = accepted_kept s p.passes

    whole : AllWhole (hour_rows s)
    whole = (accepts_when_whole (hour_rows s) (hour_numbered s)).0 p.passes

    pub no_member : members (hour_in s) ≤ m → explanation_of (Err NoMember) ≡ explain s m
    no_member l = refused_with NoMember (sym (rows_no_member s m whole l))

    module _ (there : m < members (hour_in s)) where
      -- the charge as it is read
      charge_is : back (get_or charges m (pos 0)) ≡ charge (hour_in s) m
      charge_is = rw (p.charged.charges_are m there) (read_back (u_fits (charge_under kept.hour_kept m) tt))

      pub explained : {told : Explained} → told.heads ≡ heads (hour_in s) m →
          told.decided ≡ decided_by (back (get_or charges m (pos 0))) told.heads → explanation_of (Ok told) ≡ explain s m
      unfolding decided
      explained x y =
          ap₂ (λ (hs : List ℤ) (d : Option ℕ). record { verdict = accepted; heads = hs; decided = d }) x (y ∙ ap₂ decided_by charge_is x)
          ∙ sym (explain_accepted s m (rows_member s m whole there))

-- what settling leaves of an hour that it accepts
pub settled : {s : List ℕ} {after : Unlined} {r : Result (List ℤ) Refusal} {figures : List ℤ} → FitsUnlined s room r after →
    r ≡ Ok figures → Settled s after.charges after.shares after.deviations
settled fits is = let left = figured room_for_all fits (ap verdict_of is) in record {
  passes = sym (same_verdict room_for_all fits) ∙ ap verdict_of is;
  charged = record { room = left.charges.room; charges_are = left.charges.figures_are };
  worked = record {
    deviations_room = left.deviations.room;
    shares_room = left.shares.room;
    deviations_are = left.deviations.figures_are;
    shares_are = left.shares.figures_are;
  };
}
