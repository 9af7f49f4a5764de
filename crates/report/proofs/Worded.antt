-- An explanation's text, by what explaining answers and by the input that asks for it.
use mathlib.Core.Path.{◌≡◌, refl, sym}
use mathlib.Core.List.{List}
use Prim.Native.Nat.{ℕ, ◌≤◌}
use lib.ListN.{length}
use Rattle.std.specs.Prelude.{Ok, Err}
use Rattle.rules.specs.declared.Refusal.{Refusal}
use Rattle.rules.specs.declared.Explained.{Explained}
use Rattle.rules.specs.Refusals.{refusal_verdict}
use Rattle.rules.specs.Statement.{refused_line}
use Rattle.rules.specs.Explanation.{explain, explanation_lines, member_asked, hour_asked, explanation, explanation_of, worded}
use Rattle.rules.proofs.Worded.{four_bytes}
use Rattle.rules.proofs.Rows.{numbered}

pub worded_refused : (r : Refusal) → refused_line (refusal_verdict r) ≡ worded (explanation_of (Err r))
unfolding worded
worded_refused r = sym (rw (numbered r) refl)

pub worded_accepted : (told : Explained) → explanation_lines told.heads told.decided ≡ worded (explanation_of (Ok told))
unfolding worded
worded_accepted told = refl

-- of an input with four bytes or more
pub asked : (s : List ℕ) → 4 ≤ length s → worded (explain (hour_asked s) (member_asked s)) ≡ explanation s
asked s l = sym (four_bytes s l)
