-- The complete result of each entry point, refused or accepted: settling an hour, writing an hour file, writing an amount, reading one.
-- Document 01, "The sums" (last paragraph), "Text amounts", "Refusal numbers and their order"; finals: document 02, A1; hour files: A2.
use Rattle.std.specs.Prelude.{ℕ, Bool, cond, List, ℤ, pos, length, replicate, ltb, eqb, Option, None, Some, Result, Ok, Err}
use Rattle.whole.specs.Below.{values_below, replacing_first}
use Rattle.rules.specs.declared.Line.{Line}
use Rattle.rules.specs.declared.Refusal.{Refusal}
use Rattle.rules.specs.Record.{Hour, members, areas, entry_of}
use Rattle.rules.specs.Deviation.{deviation}
use Rattle.rules.specs.Ufe.{ufe}
use Rattle.rules.specs.Charge.{share_of, amount, records_of, charge}
use Rattle.rules.specs.Neutrality.{final}
use Rattle.rules.specs.Text.{amount_field, amount_in}
use Rattle.rules.specs.HourFile.{hourly, hour_in}
use Rattle.rules.specs.HourWords.{hour_from, file_byte, file_length}
use Rattle.rules.specs.Refusals.{Verdict, accepted, refused_at, verdict, Buffers, settle_rows, write_hour_rows, write_amount_rows}

abbrev pub is_accepted : Verdict → Bool
is_accepted v = eqb v.number 0

-- ---- settling

-- nothing posted yet, as of a member without records
unfoldable pub empty_line : Line
empty_line = record { amount = pos 0; records = 0 }

-- a member's exact amount and its record count
unfoldable pub line_of : Hour → ℕ → Line
line_of h m = record { amount = amount h m; records = records_of h m }

-- one charge, one final and one line a member, one share and one deviation a record; places past those are unchanged
unfoldable pub filled : Hour → Buffers → Buffers
filled h b = record {
  charges = replacing_first (charge h) (members h) b.charges;
  finals = replacing_first (final h) (members h) b.finals;
  shares = replacing_first (share_of h) h.count b.shares;
  deviations = replacing_first (λ i. deviation (entry_of h i)) h.count b.deviations;
  lines = replacing_first (line_of h) (members h) b.lines;
}

-- eight UFE figures, 0 for areas past the count
unfoldable pub ufe_figures : Hour → List ℤ
ufe_figures h = values_below (λ a. cond (ltb a (areas h)) (ufe h a) (pos 0)) 8

abbrev pub no_figures : List ℤ
no_figures = replicate 8 (pos 0)

-- what settling answers beside the buffers
abbrev pub figures_of : Result (List ℤ) Refusal → List ℤ
figures_of (Ok figures) = figures
figures_of (Err refusal) = no_figures

pub record Settlement : Type 0 where
  pub verdict : Verdict
  pub ufe : List ℤ
  pub buffers : Buffers

-- a refusal changes no buffer, and all its UFE figures are 0
unfoldable pub settle : List ℕ → Buffers → Settlement
settle s b = let v = verdict (settle_rows s b) in let h = hour_in s in
    cond (is_accepted v)
    (record { verdict = v; ufe = ufe_figures h; buffers = filled h b })
    (record { verdict = v; ufe = no_figures; buffers = b })

-- ---- writing an hour file from a head and records

pub record HourWritten : Type 0 where
  pub verdict : Verdict
  -- of the file written, in bytes
  pub length : ℕ
  pub file : List ℕ

-- what writing an hour file answers beside the buffer
abbrev pub length_of : Result ℕ Refusal → ℕ
length_of (Ok size) = size
length_of (Err refusal) = 0

-- the buffer's first bytes are the file, and those past its last block are unchanged; a refusal changes none, and its length is 0
unfoldable pub write_hour : (head records file : List ℕ) → HourWritten
write_hour head records file = let v = verdict (write_hour_rows head records (length file)) in let h = hour_from hourly head records in
    cond (is_accepted v)
    (record { verdict = v; length = file_length hourly h; file = replacing_first (file_byte hourly h) (file_length hourly h) file })
    (record { verdict = v; length = 0; file = file })

-- ---- writing an amount into a field, whose length is the width

pub record Written : Type 0 where
  pub verdict : Verdict
  pub field : List ℕ

unfoldable pub write : List ℕ → ℤ → Written
write field z = let v = verdict (write_amount_rows (length field) z) in
    record { verdict = v; field = cond (is_accepted v) (amount_field (length field) z) field }

-- ---- reading an amount; a refused reading gives amount 0

pub record ReadAmount : Type 0 where
  pub verdict : Verdict
  pub amount : ℤ

abbrev pub or_refused : Option ℤ → ReadAmount
or_refused None = record { verdict = refused_at 10 0; amount = pos 0 }
or_refused (Some z) = record { verdict = accepted; amount = z }

-- what reading answers
abbrev pub amount_of : Result ℤ Refusal → ℤ
amount_of (Ok z) = z
amount_of (Err refusal) = pos 0

unfoldable pub read : List ℕ → ReadAmount
read field = or_refused (amount_in field)
