-- What the functions for C hand out, as the results that `rules` defines: an answer is its number and place, a body is where it stands.
use Rattle.std.specs.Prelude.{ℕ, ◌+◌, ◌*◌, cond, ◌||◌, List, leb}
use Rattle.rules.specs.HourFile.{hourly, length_bad, blocks}
use Rattle.rules.specs.Refusals.{Buffers}
use Rattle.rules.specs.Settling.{Settlement, Written, ReadAmount}
use Rattle.answer.specs.declared.NumberedAnswer.{NumberedAnswer}
use Rattle.sneupelaar.specs.declared.NumberedReading.{NumberedReading}
use Rattle.sneupelaar.specs.declared.NumberedSettled.{NumberedSettled}
use Rattle.sneupelaar.specs.declared.Part.{Part}

abbrev pub settlement : NumberedSettled → Buffers → Settlement
settlement r after = record { verdict = record { number = r.number; place = r.place }; ufe = r.ufe; buffers = after }

abbrev pub written : NumberedAnswer → List ℕ → Written
written r after = record { verdict = record { number = r.number; place = r.place }; field = after }

abbrev pub read_amount : NumberedReading → ReadAmount
read_amount r = record { verdict = record { number = r.number; place = r.place }; amount = r.amount }

-- the 480 bytes after a block's first 32; where the file has no such body, no bytes from its start
unfoldable pub body_part : List ℕ → ℕ → Part
body_part s b =
    cond (length_bad hourly s || leb (blocks s) b) (record { from = 0; length = 0 }) (record { from = 512 * b + 32; length = 480 })
