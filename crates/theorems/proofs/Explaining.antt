-- Explanations: no second result fits the contracts, and what the pages say of them, said of the contracts as their callers read them. What
-- is read from their text stands in `SixLines`.
use mathlib.Core.Path.{◌≡◌, refl, sym, ◌∙◌, ap, ap₂, subst}
use Rattle.std.specs.Prelude.{Option, None, Some, Result, Ok, Err}
use mathlib.Core.List.{List}
use Prim.Native.Nat.{ℕ, zero, suc}
use contract.Lifetimes.{Lfts}
use Rattle.rules.specs.declared.Explained.{Explained}
use Rattle.rules.specs.declared.Refusal.{Refusal}
use Rattle.rules.specs.Refusals.{accepted, refused_at, verdict_of, Buffers}
use Rattle.rules.proofs.Rows.{one_answer}
use Rattle.rules.specs.Settling.{Settlement}
use Rattle.rules.specs.Explanation as Explanation
use Rattle.rules.proofs.Explaining.{explain_verdict, explaining}
use Rattle.rules.proofs.Finals.{neutrality_shared}
use Rattle.rules.proofs.Engines.{engines}
use Rattle.rules.proofs.Worded.{cut_input_same}
use Rattle.printing.proofs.Showing.{whole_text}
use Rattle.pool.specs.Buffers.{buffers}
use Rattle.explain.specs.HandedOut.{explanation_of, head_counted}
use Rattle.printing.specs.Page.{page_shows}
use Rattle.printing.proofs.Pages.{one_page}
use Rattle.theorems.specs.Determined.{OneResult, OneOutcome, Gives}
use Rattle.theorems.specs.Demanded.{KeepsExplaining, ExplainsSettled}
use Rattle.theorems.specs.Texts.{IsPut, IsPutOfCut}
use Rattle.theorems.proofs.Laws.{agree}
use Rattle.printing.proofs.explanation.put_six_lines.Reads as put_six_lines
use Rattle.explain.proofs.explain.Reads as explain
use Rattle.report.proofs.explanation.put_explanation.Reads as explanation
use Rattle.pool.proofs.settle.Reads as settle
use Rattle.sneupelaar.proofs.sneupelaar_settle.Reads as sneupelaar_settle
use Rattle.explain.proofs.boundary.sneupelaar_explain.Reads as sneupelaar_explain

-- ---- no second result fits

pub one_put_six_lines : (κs : Lfts 2) → OneOutcome (put_six_lines.Learnt κs) (λ s. page_shows s.0.now)
one_put_six_lines κs a x y s t p q = (refl, one_page p q)

-- what is explained, whatever was answered
abbrev told_of : Result Explained Refusal → Explained
told_of r = record { heads = (Explanation.explanation_of r).heads; decided = (Explanation.explanation_of r).decided }

told_verdict : (r : Result Explained Refusal) → (Explanation.explanation_of r).verdict ≡ verdict_of r
told_verdict (Ok e) = refl
told_verdict (Err refusal) = refl

pub one_explain : (κs : Lfts 1) → OneResult (explain.Learnt κs)
one_explain κs a x y s t p q =
    let same = agree p q in
    one_answer told_of (λ e. refl) x y
    (sym (told_verdict x) ∙ ap (λ (e : Explanation.Explanation). e.verdict) same ∙ told_verdict y)
    (ap (λ (e : Explanation.Explanation). record { heads = e.heads; decided = e.decided }) same)

pub one_explanation : (κs : Lfts 2) → OneOutcome (explanation.Learnt κs) (λ s. s.1.0.now)
one_explanation κs a x y s t p q = (agree p.0 q.0, agree p.1 q.1)

-- a count tells the head
count_of : Option ℕ → ℕ
count_of None = 0
count_of (Some k) = suc k

counted : (n : ℕ) → count_of (head_counted n) ≡ n
unfolding count_of
counted zero = refl
counted (suc k) = refl

pub one_sneupelaar_explain : (κs : Lfts 1) → OneResult (sneupelaar_explain.Learnt κs)
one_sneupelaar_explain κs a x y s t p q =
    ap (λ (n : ℕ). record { number = x.number; place = x.place; heads = x.heads; decided = n }) (sym (counted x.decided))
    ∙ ap (λ (e : Explanation.Explanation). record { number = e.verdict.number; place = e.verdict.place; heads = e.heads; decided = count_of e.decided })
    (agree p q)
    ∙ ap (λ (n : ℕ). record { number = y.number; place = y.place; heads = y.heads; decided = n }) (counted y.decided)

-- ---- what document 02, A5, asks

keeps : {s : List ℕ} {m : ℕ} {e : Explanation.Explanation} → e ≡ Explanation.explain s m → KeepsExplaining s m e
keeps {s} {m} e = subst (KeepsExplaining s m) (sym e) (record {
  by_the_table = explain_verdict s m;
  nothing_said = explaining.nothing_said s m;
  explained = λ b. explaining.explained s b m;
  no_member = explaining.no_member s m;
  refused_alike = explaining.refused_alike s m;
  held_to_demand = neutrality_shared.explain_held s m;
  held_to_maximum = engines.explained s m;
})

pub explain_keeps : (κs : Lfts 1) → Gives (explain.Learnt κs) (λ a x s. KeepsExplaining a.0.now a.1.0 (Explanation.explanation_of x))
explain_keeps κs a x s p = keeps p

pub sneupelaar_explain_keeps : (κs : Lfts 1) → Gives (sneupelaar_explain.Learnt κs) (λ a x s.
    KeepsExplaining a.0.now a.1.0 (explanation_of x))
sneupelaar_explain_keeps κs a x s p = keeps p

-- ---- settled, then explained: the heads add up to what settling wrote into the member's line, and the head named decided on the charge
-- that it wrote

pub settled_is_explained : (κs : Lfts 6) (μs : Lfts 1) → Gives (settle.Learnt κs) (λ a x s. verdict_of x ≡ accepted →
    Gives (explain.Learnt μs) (λ b y t. ExplainsSettled a.0.now
    (buffers s.1.1.0.now s.1.1.1.0.now s.1.1.1.1.0.now s.1.1.1.1.1.0.now s.1.0.now)
    b.0.now b.1.0 (Explanation.explanation_of y).heads (Explanation.explanation_of y).decided))
settled_is_explained κs μs a x s p accepts b y t q same there =
    let lent = buffers a.1.1.0.now a.1.1.1.0.now a.1.1.1.1.0.now a.1.1.1.1.1.0.now a.1.0.now in
    let e = ((keeps (rw same at q)).explained lent (sym p.verdict_is ∙ accepts) there).1 in
    rw (ap (λ (z : Buffers). z.lines) p.buffers_are, ap (λ (z : Buffers). z.charges) p.buffers_are) e

-- the same for C
pub sneupelaar_settled_is_explained : (κs : Lfts 6) (μs : Lfts 1) → Gives (sneupelaar_settle.Learnt κs) (λ a x s.
    x.number ≡ 0 → x.place ≡ 0 →
    Gives (sneupelaar_explain.Learnt μs) (λ b y t. ExplainsSettled a.0.now
    (buffers s.1.1.0.now s.1.1.1.0.now s.1.1.1.1.0.now s.1.1.1.1.1.0.now s.1.0.now)
    b.0.now b.1.0 y.heads (head_counted y.decided)))
sneupelaar_settled_is_explained κs μs a x s p number place b y t q same there =
    let lent = buffers a.1.1.0.now a.1.1.1.0.now a.1.1.1.1.0.now a.1.1.1.1.1.0.now a.1.0.now in
    let accepts = sym (ap (λ (z : Settlement). z.verdict) p) ∙ ap₂ refused_at number place in
    let e = ((keeps (rw same at q)).explained lent accepts there).1 in
    rw (ap (λ (z : Settlement). z.buffers.lines) p, ap (λ (z : Settlement). z.buffers.charges) p) e

-- ---- the text

-- with room, the bytes put are the six lines or the refusal's, all of it and nothing else
pub explanation_is_put : (κs : Lfts 2) → Gives (explanation.Learnt κs) (λ a x s.
    IsPut 165 (Explanation.explanation a.0.now) a.1.0.now x s.1.0.now)
explanation_is_put κs a x s p room = whole_text (record { count_is = p.0; out_is = p.1 }) room

-- a reader that stops one byte past the longest input prints what its whole input asks for
pub cut_input_is_put : (κs : Lfts 2) (input : List ℕ) → Gives (explanation.Learnt κs) (λ a x s.
    IsPutOfCut 13317 165 Explanation.explanation input a.0.now a.1.0.now x s.1.0.now)
cut_input_is_put κs input a x s p cut room =
    explanation_is_put κs a x s p room ∙ ap Explanation.explanation cut ∙ cut_input_same input
