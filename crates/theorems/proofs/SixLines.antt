-- What is read from the text of an explanation, said of its contract as callers read it: it is what was answered, and it is tied to what
-- settling wrote and to the numbers that an explanation hands out.
use mathlib.Core.Path.{◌≡◌, sym, ◌∙◌, ap, ap₂}
use Rattle.std.specs.Prelude.{Option}
use mathlib.Core.List.{List}
use Prim.Native.Nat.{ℕ, ◌<◌, ◌≤◌}
use lib.IntN.{ℤ}
use lib.ListN.{length, take}
use contract.Lifetimes.{Lfts}
use Rattle.rules.specs.Record.{members}
use Rattle.rules.specs.HourFile.{hour_in}
use Rattle.rules.specs.Refusals.{Verdict, accepted, refused_at, verdict_of, Buffers}
use Rattle.rules.specs.Settling.{Settlement, settle as settling}
use Rattle.rules.specs.Explanation as Explanation
use Rattle.rules.specs.Promised.Demands.{Accepts}
use Rattle.rules.specs.Promised.SixLines.{SaysHeads, answer_to}
use Rattle.rules.proofs.SixLines.{long_enough, six_lines}
use Rattle.pool.specs.Buffers.{buffers}
use Rattle.explain.specs.HandedOut.{explanation_of}
use Rattle.theorems.specs.Determined.{Gives}
use Rattle.theorems.specs.Demanded.{ExplainsOutcome}
use Rattle.theorems.specs.Texts.{SaysRefusal, SaysAnswer, TellsAnswer, SaysOutcome, SaysExplained}
use Rattle.theorems.proofs.Explaining.{explanation_is_put}
use Rattle.explain.proofs.explain.Reads as explain
use Rattle.report.proofs.explanation.put_explanation.Reads as explanation
use Rattle.pool.proofs.settle.Reads as settle
use Rattle.sneupelaar.proofs.sneupelaar_settle.Reads as sneupelaar_settle
use Rattle.explain.proofs.boundary.sneupelaar_explain.Reads as sneupelaar_explain

-- ---- what the bytes say

-- read, the bytes put say exactly what is answered
pub explanation_says : (κs : Lfts 2) → Gives (explanation.Learnt κs) (λ a x s. SaysAnswer a.0.now a.1.0.now x s.1.0.now)
explanation_says κs a x s p room hs d = rw (explanation_is_put κs a x s p room) (six_lines.read_back a.0.now hs d)

pub explanation_says_refusal : (κs : Lfts 2) → Gives (explanation.Learnt κs) (λ a x s.
    SaysRefusal 165 a.0.now (answer_to a.0.now).verdict a.1.0.now x s.1.0.now)
explanation_says_refusal κs a x s p room bytes refused =
    rw (explanation_is_put κs a x s p room) (six_lines.refused_read a.0.now bytes refused)

pub explanation_tells : (κs μs : Lfts 2) → Gives (explanation.Learnt κs) (λ a x s. 165 ≤ length a.1.0.now →
    Gives (explanation.Learnt μs) (λ b y t. 165 ≤ length b.1.0.now →
    TellsAnswer a.0.now (take x s.1.0.now) b.0.now (take y t.1.0.now)))
explanation_tells κs μs a x s p room b y t q room₂ bytes bytes₂ same = six_lines.tells a.0.now b.0.now bytes bytes₂
    (sym (explanation_is_put κs a x s p room) ∙ same ∙ explanation_is_put μs b y t q room₂)

-- ---- settled, then printed: what is read from the text adds up to what settling wrote into the member's line, and decided on the charge that
-- it wrote

said_outcome : (input : List ℕ) (b : Buffers) {file : List ℕ} → Accepts file b → 4 ≤ length input → Explanation.hour_asked input ≡ file →
    Explanation.member_asked input < members (hour_in file) → (hs : List ℤ) (d : Option ℕ) → SaysHeads (Explanation.explanation input) hs d →
    ExplainsOutcome (hour_in file) (settling file b).buffers (Explanation.member_asked input) hs d
said_outcome input b {file} accepts long same there hs d says =
    rw same at (six_lines.as_settled input b hs d long (rw same accepts) (rw same there) says)

pub settled_is_said : (κs : Lfts 6) (μs : Lfts 2) → Gives (settle.Learnt κs) (λ a x s. verdict_of x ≡ accepted →
    Gives (explanation.Learnt μs) (λ b y t. SaysOutcome a.0.now
    (buffers s.1.1.0.now s.1.1.1.0.now s.1.1.1.1.0.now s.1.1.1.1.1.0.now s.1.0.now)
    b.0.now b.1.0.now (take y t.1.0.now)))
settled_is_said κs μs a x s p accepts b y t q long same room there hs d says =
    let lent = buffers a.1.1.0.now a.1.1.1.0.now a.1.1.1.1.0.now a.1.1.1.1.1.0.now a.1.0.now in
    let e = said_outcome b.0.now lent (sym p.verdict_is ∙ accepts) long same there hs d
    (rw (explanation_is_put μs b y t q room) at says) in
    rw (ap (λ (z : Buffers). z.lines) p.buffers_are, ap (λ (z : Buffers). z.charges) p.buffers_are) e

-- the same for C
pub sneupelaar_settled_is_said : (κs : Lfts 6) (μs : Lfts 2) → Gives (sneupelaar_settle.Learnt κs) (λ a x s. x.number ≡ 0 → x.place ≡ 0 →
    Gives (explanation.Learnt μs) (λ b y t. SaysOutcome a.0.now
    (buffers s.1.1.0.now s.1.1.1.0.now s.1.1.1.1.0.now s.1.1.1.1.1.0.now s.1.0.now)
    b.0.now b.1.0.now (take y t.1.0.now)))
sneupelaar_settled_is_said κs μs a x s p number place b y t q long same room there hs d says =
    let lent = buffers a.1.1.0.now a.1.1.1.0.now a.1.1.1.1.0.now a.1.1.1.1.1.0.now a.1.0.now in
    let accepts = sym (ap (λ (z : Settlement). z.verdict) p) ∙ ap₂ refused_at number place in
    let e = said_outcome b.0.now lent accepts long same there hs d (rw (explanation_is_put μs b y t q room) at says) in
    rw (ap (λ (z : Settlement). z.buffers.lines) p, ap (λ (z : Settlement). z.buffers.charges) p) e

-- ---- explained, then printed: the text says the numbers that were handed out

said_explained : (input : List ℕ) {file : List ℕ} {m : ℕ} {e : Explanation.Explanation} → e ≡ Explanation.explain file m →
    4 ≤ length input → Explanation.hour_asked input ≡ file → Explanation.member_asked input ≡ m → e.verdict ≡ accepted →
    SaysHeads (Explanation.explanation input) e.heads e.decided
said_explained input {file} {m} {e} is long same same-member accepts = (six_lines.read_back input e.heads e.decided).1
    (long_enough input long ∙ ap₂ Explanation.explain same same-member ∙ sym is
    ∙ ap (λ (v : Verdict). record { verdict = v; heads = e.heads; decided = e.decided }) accepts)

pub explained_is_said : (κs : Lfts 1) (μs : Lfts 2) → Gives (explain.Learnt κs) (λ a x s. Gives (explanation.Learnt μs) (λ b y t.
    SaysExplained a.0.now a.1.0 (Explanation.explanation_of x) b.0.now b.1.0.now (take y t.1.0.now)))
explained_is_said κs μs a x s p b y t q long same same-member room accepts =
    rw (explanation_is_put μs b y t q room) (said_explained b.0.now p long same same-member accepts)

-- the same for C
pub sneupelaar_explained_is_said : (κs : Lfts 1) (μs : Lfts 2) → Gives (sneupelaar_explain.Learnt κs) (λ a x s.
    Gives (explanation.Learnt μs) (λ b y t.
    SaysExplained a.0.now a.1.0 (explanation_of x) b.0.now b.1.0.now (take y t.1.0.now)))
sneupelaar_explained_is_said κs μs a x s p b y t q long same same-member room accepts =
    rw (explanation_is_put μs b y t q room) (said_explained b.0.now p long same same-member accepts)
