-- Explanations as figures: an hour in which a member has every kind of record, who decides on ties and signs, and refusals in their order.
-- Document 02, A5.
use Rattle.std.specs.Prelude.{ℕ, List, [], ◌∷◌, ◌++◌, ℤ, pos, neg_ℤ, replicate, None, Some}
use Rattle.rules.specs.Text.{bytes}
use Rattle.rules.specs.Refusals.{refused_at}
use Rattle.rules.specs.Explanation.{Explanation, decided_by, explain, explanation}
use Rattle.rules.specs.Figures.Cases.{Case, ◌is◌, AllRight}
use Rattle.rules.specs.Figures.Files.{word_bytes, first, other, plain_head}
use Rattle.rules.specs.Figures.EveryKind.{every_kind}

-- all five heads are 0, and none decided
abbrev pub unexplained : (number place : ℕ) → Explanation
unexplained number place = record { verdict = refused_at number place; heads = replicate 5 (pos 0); decided = None }

abbrev pub grains_of : (generation load import' export' share : ℤ) → List ℤ
grains_of g l i e s = g ∷ l ∷ i ∷ e ∷ s ∷ []

-- of member 0, alone in the hour
unfoldable pub unscheduled : List ℕ
unscheduled = first 1 (plain_head 2) ++ other 1 1 0 (2 ∷ 0 ∷ 0 ∷ 0 ∷ 1 ∷ [])

unfoldable pub explanations : List Case
explanations =
    explanation (word_bytes (1 ∷ []) ++ every_kind) is bytes
    "generation -720000000\nload 4140000000\nimport 4750000000\nexport -300000000\nshare 1962204000\ndecided import\n"
    -- a member with a load of either kind
    ∷ explanation (word_bytes (2 ∷ []) ++ every_kind) is bytes
    "generation 0\nload 930000000\nimport 0\nexport 0\nshare 27777796000\ndecided share\n"
    -- a load that takes a kWh unscheduled: its share takes off again what it adds
    ∷ explanation (word_bytes (0 ∷ []) ++ unscheduled) is bytes
    "generation 0\nload 50000000\nimport 0\nexport 0\nshare -50000000\ndecided none\n"
    -- the first of two that are as large; the smaller with the charge's sign; a charge of zero, whatever the heads
    ∷ decided_by (pos 1) (grains_of (pos 3) (pos 7) (neg_ℤ (pos 9)) (pos 7) (pos 0)) is Some 1
    ∷ decided_by (neg_ℤ (pos 1)) (grains_of (pos 9) (neg_ℤ (pos 4)) (pos 0) (neg_ℤ (pos 5)) (neg_ℤ (pos 5))) is Some 3
    ∷ decided_by (pos 0) (grains_of (pos 4999999) (pos 0) (pos 0) (pos 0) (pos 0)) is None
    -- a share of one grain; heads of 0, which have no sign; a sixth number, which is no head
    ∷ decided_by (pos 1) (grains_of (pos 0) (pos 0) (pos 0) (pos 0) (pos 1)) is Some 4
    ∷ decided_by (neg_ℤ (pos 1)) (grains_of (pos 0) (pos 0) (pos 0) (pos 0) (pos 0)) is None
    ∷ decided_by (pos 1) (replicate 5 (pos 0) ++ pos 1 ∷ []) is None
    -- three bytes; an hour with a price of 1,000,001, to a member that isn't there; an hour that is accepted, to such a member
    ∷ explanation (replicate 3 0) is bytes "refused 1 at 0\n"
    ∷ explain (first 0 (7 ∷ 2 ∷ 1 ∷ 1 ∷ 1000001 ∷ [])) 2 is unexplained 4 12
    ∷ explain (first 0 (plain_head 2)) 2 is unexplained 13 0
    ∷ []

abbrev pub ExplainedRight : Type 0
ExplainedRight = AllRight explanations
