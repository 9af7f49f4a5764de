-- Lines to which an hour's records are posted: none is lost, and each has room for the next record.
use mathlib.Core.Path.{◌≡◌, ◌∙◌, ap}
use mathlib.Core.List.{List}
use Prim.Native.Nat.{ℕ, ◌+◌, ◌≤◌, ◌<◌}
use native.Mathlib.Nat.{le_of_lt}
use native.Mathlib.Numerals.{add-one}
use native.Mathlib.Omega.{arith}
use lib.IntN.{ℤ}
use lib.ListN.{length, get_or}
use Rattle.whole.proofs.Buffers.{get_or_replacing, length_replacing}
use Rattle.rules.specs.declared.Line.{Line}
use Rattle.rules.specs.Record.{Hour, members, member_of}
use Rattle.rules.specs.Charge.{grains}
use Rattle.rules.specs.Inner.Posting.{lines_with, lines_after}
use Rattle.rules.specs.Settling.{empty_line}
use Rattle.rules.specs.Inner.Kept.{HourKept}
use Rattle.rules.proofs.Posting.{line_after, lines_after_lem}
use Rattle.formula.specs.Room.{LineRoom}
use Rattle.formula.proofs.Room as Room

module _ {h : Hour} (kept : HourKept h) (old : List Line) where
  member_before : (n : ℕ) → n ≤ h.count → (i : ℕ) → i < n → member_of h i < members h
  member_before n all i l = (kept.record_kept i (omega arith)).member_there

  -- as many lines as before
  pub lines_length : (n : ℕ) → n ≤ h.count → members h ≤ length old → length (lines_after h old n) ≡ length old
  lines_length n all room = ap length (lines_after_lem h old n (member_before n all)) ∙ length_replacing (line_after h n) (members h) old room

  module _ (i : ℕ) (there : i < h.count) where
    line_at : get_or (lines_after h old i) (member_of h i) empty_line ≡ line_after h i (member_of h i)
    line_at = ap (λ (ls : List Line). get_or ls (member_of h i) empty_line) (lines_after_lem h old i (member_before i (le_of_lt there)))
        ∙ get_or_replacing (line_after h i) (members h) old (member_of h i) empty_line (kept.record_kept i there).member_there

    line_room : LineRoom (get_or (lines_after h old i) (member_of h i) empty_line) (grains h i)
    line_room = rw line_at (Room.line_room kept i there)

    -- the next posting, as its member and its grains were read
    module _ {ls : List Line} {m : ℕ} {g : ℤ} (posted : ls ≡ lines_after h old i) (member_is : m ≡ member_of h i)
        (grains-is : g ≡ grains h i) where
      pub can_post : members h ≤ length old → (m < length ls) × LineRoom (get_or ls m empty_line) g
      can_post room = rw (posted, member_is, grains-is)
          (omega (arith, lines_length i (le_of_lt there) room, (kept.record_kept i there).member_there), line_room)

      pub next_lines : lines_with ls m g ≡ lines_after h old (i + 1)
      unfolding lines_after
      next_lines = rw (posted, member_is, grains-is, add-one)
