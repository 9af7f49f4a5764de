-- In either case the text ends where the field does.
use Prim.Native.Nat.{ℕ, ◌+◌, ◌-◌, ◌≤◌, ◌<◌}
use mathlib.Core.Path.{◌≡◌, ◌∙◌, ap}
use mathlib.Core.List.{List, ◌++◌}
use native.Mathlib.Omega.{arith}
use lib.ListN.{length, drop, replicate, length-append, length-replicate, length-drop}
use lib.Seq.{sets, take_at, length-take-le}
use Rattle.whole.proofs.Stores.{stored_to_the_end}
use Rattle.amount.proofs.writing.put.Goals as goal

module _ (f t : List ℕ) (whole : length t ≡ 20) where
  abbrev wider : ℕ
  wider = length f - 14

  abbrev first : ℕ
  first = 6 + (14 - length f)

  in-narrower : length f < 14 → {g : List ℕ} → g ≡ sets f (length f - length f) (drop (20 - length f) t) →
      g ≡ replicate wider 32 ++ drop first t
  in-narrower h e =
      let start : length f - length f ≡ 0 = omega arith in
      let from : 20 - length f ≡ first = omega arith in
      let no-blank : wider ≡ 0 = omega arith in
      e ∙ rw (start, from, no-blank) (stored_to_the_end (drop first t) f 0 (simp length-drop (omega arith)))

  in-wider : 14 ≤ length f → sets (replicate wider 32 ++ drop wider f) wider (drop 6 t) ≡ replicate wider 32 ++ drop first t
  in-wider h =
      let from : first ≡ 6 = omega arith in
      rw from (stored_to_the_end (drop 6 t) (replicate wider 32 ++ drop wider f) wider to_the_end
      ∙ rw (take_at (replicate wider 32) (drop wider f) wider (length-replicate wider 32)))
    where
      to_the_end : wider + length (drop 6 t) ≡ length (replicate wider 32 ++ drop wider f)
      to_the_end = simp (length-append, length-replicate, length-drop) (omega arith)

-- return, where width < 14
pub returns-then-width-lt14 : goal.returns-then-width-lt14
returns-then-width-lt14 c = in-narrower c.args.field.now c.args.text.now c.told-text (omega arith) c.put_text.ensures

-- text::put_text(field, width, text, 14), at the end
pub returns : goal.returns
returns c =
    let f = c.args.field.now in
    let blank : c.fill.new.self ≡ replicate (length f - 14) 32 = c.fill.ensures.after (λ y e. e)
    ∙ ap (λ (n : ℕ). replicate {A = ℕ} n 32) (length-take-le (length f - 14) f (omega arith)) in
    c.put_text-2.ensures ∙ rw blank (in-wider f c.args.text.now c.told-text (omega arith))
