-- The functions for C: an answer's number and place are its verdict, and where a body stands in the file.
use Prim.Native.Nat.{ℕ, ◌+◌, ◌*◌, ◌<◌}
use mathlib.Core.Path.{◌≡◌, sym, ◌∙◌, ap}
use mathlib.Core.Bool.{◌||◌}
use mathlib.Core.List.{List}
use native.Mathlib.Omega.{arith}
use lib.ListN.{length, take, drop}
use lib.Dec.{leb}
use borrow.Author.Tests.{leb-true, leb-false}
use Rattle.whole.proofs.Tests.{split}
use Rattle.rules.specs.HourFile.{hourly, length_bad, blocks, body}
use Rattle.rules.proofs.Words.{body_length, body_empty_bad, body_empty_past}
use Rattle.sneupelaar.specs.declared.Part.{Part}
use Rattle.sneupelaar.specs.HandedOut.{body_part}

-- ---- where a body stands

module _ (s : List ℕ) (b : ℕ) where
  -- the bytes from there on, so many, are the body
  pub part_is_body : take (body_part s b).length (drop (body_part s b).from s) ≡ body hourly s b
  unfolding body_part body
  part_is_body = split (length_bad hourly s || leb (blocks s) b) (λ t. rw t) (λ f. rw f)

  -- what the contract says of the part handed out
  pub handed_out : {p : Part} → body_part s b ≡ p → (p ≡ body_part s b) × (take p.length (drop p.from s) ≡ body hourly s b)
  handed_out e = (sym e, ap (λ (q : Part). take q.length (drop q.from s)) (sym e) ∙ part_is_body)

  pub record Absent : Type 0 where
    pub empty : length (body hourly s b) ≡ 0
    pub part : body_part s b ≡ record { from = 0; length = 0 }

  pub record There : Type 0 where
    pub full : length (body hourly s b) ≡ 480
    pub part : body_part s b ≡ record { from = 512 * b + 32; length = 480 }
    pub before_end : b < blocks s

  pub absent_or_there : {P : Type 0} → (Absent → P) → (There → P) → P
  unfolding body_part
  absent_or_there absent there = split (length_bad hourly s)
      (λ bad. absent (record { empty = ap length (body_empty_bad hourly s b bad); part = rw bad }))
      (λ good. split (leb (blocks s) b)
      (λ past. absent (record { empty = ap length (body_empty_past hourly s b (leb-true _ _ past)); part = rw (good, past) }))
      (λ within. let before_end = leb-false _ _ within in
      there (record { full = body_length hourly s b good before_end; part = rw (good, within); before_end = before_end })))

  pub none_there : {n : ℕ} → n ≡ length (body hourly s b) → n ≡ 0 → body_part s b ≡ record { from = 0; length = 0 }
  none_there e z = absent_or_there (λ a. a.part) (λ t. absurd (omega (arith, e, z, t.full)))

  pub one_there : {n : ℕ} → n ≡ length (body hourly s b) → (n ≡ 0 → ⊥) →
      (body_part s b ≡ record { from = 512 * b + 32; length = n }) × (b < blocks s)
  one_there e some = absent_or_there (λ a. absurd (some (e ∙ a.empty))) (λ t. (t.part ∙ rw (sym (e ∙ t.full)), t.before_end))
