-- Settling for a caller that lends no lines: 32 are made for it, as many as an hour can have members, and let go again.
use Rattle.std.specs.Prelude.{ℕ, List, ℤ, Result, replicate}
use Rattle.rules.specs.declared.Line.{Line}
use Rattle.rules.specs.declared.Refusal.{Refusal}
use Rattle.rules.specs.Refusals.{Buffers}
use Rattle.rules.specs.Settling.{empty_line}
use Rattle.rules.specs.Promised.Demands.{Fits}
use Rattle.pool.specs.Buffers.{buffers}

-- the caller's four buffers
pub record Unlined : Type 0 where
  pub charges : List ℤ
  pub finals : List ℤ
  pub shares : List ℤ
  pub deviations : List ℤ

abbrev pub unlined : (charges finals shares deviations : List ℤ) → Unlined
unlined charges finals shares deviations = record { charges = charges; finals = finals; shares = shares; deviations = deviations }

abbrev pub with_lines : Unlined → List Line → Buffers
with_lines b lines = buffers b.charges b.finals b.shares b.deviations lines

abbrev pub own_lines : List Line
own_lines = replicate 32 empty_line

-- what was answered and left behind is what `settle` says, with the lines that it was let see
pub record FitsUnlined (s : List ℕ) (b : Unlined) (answered : Result (List ℤ) Refusal) (after : Unlined) : Type 0 where
  pub lines : List Line
  pub fits : Fits s (with_lines b own_lines) answered (with_lines after lines)
