-- A refusal where there are under four bytes, or the text of what is explained.
use mathlib.Core.Path.{◌≡◌, sym, ◌∙◌, ap, ap₂}
use Prim.Native.Nat.{◌-◌}
use native.Mathlib.Omega.{arith}
use lib.ListN.{length, take, drop, length-drop}
use lib.Seq.{take_all}
use Rattle.rules.specs.Explanation as Explanation
use Rattle.rules.proofs.Worded.{too_few_bytes}
use Rattle.printing.proofs.Pages.{adds_as, adds_within}
use Rattle.report.proofs.Worded.{asked}
use Rattle.report.proofs.explanation.put_asked.Goals as goal

-- return printing::put_refused(page, Answer::BadLength)
pub returns-then-input-lt4 : goal.returns-then-input-lt4
returns-then-input-lt4 c =
    adds_within _ (omega arith) (adds_as (sym (too_few_bytes c.args.input.now c.if-input-lt4.true)) c.put_refused.ensures)

-- put_explained(page, explained)
pub returns : goal.returns
returns c =
    let s = c.args.input.now in
    let hour : take (length s - 4) (drop 4 s) ≡ drop 4 s = take_all (length s - 4) (drop 4 s) (omega (arith, length-drop 4 s)) in
    let said = ap Explanation.worded (c.explain-explained.ensures ∙ ap₂ Explanation.explain hour c.whole_word-member.ensures) in
    adds_as (said ∙ asked s c.if-input-lt4.false) c.put_explained.ensures
