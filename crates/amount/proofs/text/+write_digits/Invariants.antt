-- `amount::text::write_digits` ends: what is left falls.
use Rattle.amount.proofs.text.+write_digits.Given as goal

abbrev pub decreases-write_digits : goal.decreases-write_digits
decreases-write_digits l = l.left
