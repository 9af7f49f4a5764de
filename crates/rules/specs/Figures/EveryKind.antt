-- An hour with every kind of record in two areas, in zones of different prices and with different ties, as a figure: what settling writes, the
-- pool's total and the statement. Each letter of a kind's formula has a value of its own there, and each kind that can fall short of its
-- obligation does so once and once doesn't. N is 3,223 cents, of which one is left over once the whole cents are shared. Documents 01 and
-- 02, A1.
use Rattle.std.specs.Prelude.{ℕ, ◌≡◌, List, [], ◌∷◌, ◌++◌, ℤ, pos, neg_ℤ, replicate}
use Rattle.rules.specs.declared.Line.{Line}
use Rattle.rules.specs.Text.{bytes}
use Rattle.rules.specs.Charge.{pool_total}
use Rattle.rules.specs.HourFile.{hour_in}
use Rattle.rules.specs.Refusals.{accepted, Buffers}
use Rattle.rules.specs.Settling.{Settlement, settle}
use Rattle.rules.specs.Statement.{statement}
use Rattle.rules.specs.Figures.Files.{first, other}

-- three members; zone 0 at 5,000 and zone 1 at 3,000 below zero; area 0 in zone 1 with 40 coming in and 15 going out, area 1 in zone 0 with
-- 5 and 30
abbrev pub two_zones : List ℕ
two_zones = 7 ∷ 3 ∷ 2 ∷ 2 ∷ 5000 ∷ 4294964296 ∷ 0 ∷ 0 ∷ 1 ∷ 40 ∷ 15 ∷ 0 ∷ 0 ∷ 5 ∷ 30 ∷ 0 ∷ []

unfoldable pub every_kind : List ℕ
every_kind = first 1 two_zones ++ other 1 7 0 (
    -- kind ∷ member ∷ area ∷ S ∷ A ∷ J ∷ N ∷ O ∷ M ∷ F ∷ H ∷ zero
    1 ∷ 0 ∷ 0 ∷ 1000 ∷ 900 ∷ 60 ∷ 35 ∷ 0 ∷ 2000 ∷ 9900 ∷ 9700 ∷ 0
    ∷ 2 ∷ 1 ∷ 0 ∷ 1000 ∷ 870 ∷ 20 ∷ 12 ∷ 0 ∷ 0 ∷ 0 ∷ 0 ∷ 0
    ∷ 4 ∷ 1 ∷ 1 ∷ 300 ∷ 0 ∷ 50 ∷ 20 ∷ 0 ∷ 0 ∷ 10000 ∷ 9000 ∷ 0
    ∷ 5 ∷ 1 ∷ 0 ∷ 200 ∷ 180 ∷ 30 ∷ 0 ∷ 0 ∷ 0 ∷ 0 ∷ 0 ∷ 0
    -- J is 40 below zero, then 15 below zero
    ∷ 1 ∷ 1 ∷ 1 ∷ 1000 ∷ 1100 ∷ 4294967256 ∷ 25 ∷ 700 ∷ 1700 ∷ 9800 ∷ 9600 ∷ 0
    ∷ 3 ∷ 2 ∷ 1 ∷ 500 ∷ 450 ∷ 4294967281 ∷ 30 ∷ 500 ∷ 0 ∷ 0 ∷ 0 ∷ 0
    ∷ 2 ∷ 2 ∷ 0 ∷ 100 ∷ 101 ∷ 7 ∷ 0 ∷ 0 ∷ 0 ∷ 0 ∷ 0 ∷ 0 ∷ [])

-- buffers that hold something else, one place longer than needed
unfoldable pub long_buffers : Buffers
long_buffers = record {
  charges = replicate 4 (pos 9);
  finals = replicate 4 (pos 4);
  shares = replicate 8 (pos 8);
  deviations = replicate 8 (pos 7);
  lines = replicate 4 (record { amount = pos 6; records = 5 });
}

abbrev pub below : ℕ → ℤ
below n = neg_ℤ (pos n)

abbrev pub line : ℤ → ℕ → Line
line amount records = record { amount = amount; records = records }

unfoldable pub every_settlement : Settlement
every_settlement = record {
  verdict = accepted;
  ufe = below 730000 ∷ pos 5510000 ∷ replicate 6 (pos 0);
  buffers = record {
    charges = below 631 ∷ pos 983 ∷ pos 2871 ∷ pos 9 ∷ [];
    finals = below 631 ∷ below 990 ∷ pos 1621 ∷ pos 4 ∷ [];
    shares = pos 0 ∷ below 654068 ∷ pos 0 ∷ pos 0 ∷ pos 0 ∷ pos 5510000 ∷ below 75932 ∷ pos 8 ∷ [];
    deviations =
        pos 2102000 ∷ pos 1380000 ∷ pos 950000 ∷ below 100000 ∷ below 144000 ∷ below 150000 ∷ pos 60000 ∷ pos 7 ∷ [];
    lines = line (below 6306000000) 1 ∷ line (pos 9832204000) 4 ∷ line (pos 28707796000) 2 ∷ line (pos 6) 5 ∷ [];
  };
}

pub record EveryKindRight : Type 0 where
  pub settled : settle every_kind long_buffers ≡ every_settlement
  -- what the three lines add up to
  pub pooled : pool_total (hour_in every_kind) ≡ pos 32234000000
  pub stated : statement every_kind ≡
      bytes "hour 7 members 3 records 7\n00          -6.31          -6.31\n"
      ++ bytes "01          +9.83          -9.90\n02         +28.71         +16.21\n"
