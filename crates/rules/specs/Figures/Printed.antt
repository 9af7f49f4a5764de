-- The printed case of document 01, "The printed statement": its file, and what settling and the
-- statement say of it. The finals repeat the charges, since N is 0: document 02, A1.
use Rattle.std.specs.Prelude.{ℕ, ◌≡◌, List, [], ◌∷◌, ◌++◌, pos, neg_ℤ, replicate}
use Rattle.rules.specs.Text.{bytes}
use Rattle.rules.specs.Refusals.{accepted}
use Rattle.rules.specs.Settling.{Settlement, settle}
use Rattle.rules.specs.Statement.{statement}
use Rattle.rules.specs.Figures.Files.{block, used_buffers}

-- hour 7, two members, one zone at 5,000, one area with both ties 0; a generator of member 0, a load of member 1
unfoldable pub printed_file : List ℕ
printed_file =
    block (1 ∷ 0 ∷ 1 ∷ 0 ∷ 0 ∷ 0 ∷ 0 ∷ 4294962283 ∷ 7 ∷ 2 ∷ 1 ∷ 1 ∷ 5000 ∷ [])
    ++ block (
    2 ∷ 1 ∷ 2 ∷ 0 ∷ 0 ∷ 0 ∷ 0 ∷ 4294941517
    ∷ 1 ∷ 0 ∷ 0 ∷ 1000 ∷ 900 ∷ 0 ∷ 0 ∷ 0 ∷ 2000 ∷ 10000 ∷ 10000 ∷ 0
    ∷ 2 ∷ 1 ∷ 0 ∷ 1000 ∷ 870 ∷ 0 ∷ 0 ∷ 0 ∷ 0 ∷ 0 ∷ 0 ∷ 0 ∷ [])

unfoldable pub printed_settlement : Settlement
printed_settlement = record {
  verdict = accepted;
  ufe = pos 300000 ∷ replicate 7 (pos 0);
  buffers = record {
    charges = pos 500 ∷ neg_ℤ (pos 500) ∷ pos 9 ∷ [];
    finals = pos 500 ∷ neg_ℤ (pos 500) ∷ pos 4 ∷ [];
    shares = pos 0 ∷ pos 300000 ∷ pos 8 ∷ [];
    deviations = pos 1000000 ∷ pos 1300000 ∷ pos 7 ∷ [];
    lines = record { amount = pos 5000000000; records = 1 }
        ∷ record { amount = neg_ℤ (pos 5000000000); records = 1 }
        ∷ record { amount = pos 6; records = 5 } ∷ [];
  };
}

pub record PrintedRight : Type 0 where
  pub settled : settle printed_file used_buffers ≡ printed_settlement
  pub stated : statement printed_file ≡
      bytes "hour 7 members 2 records 2\n00          +5.00          +5.00\n01          -5.00          -5.00\n"
