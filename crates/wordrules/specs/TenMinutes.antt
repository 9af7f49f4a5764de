-- The file of ten-minute settlement keeps the laws.
use Rattle.std.specs.Prelude.{refl}
use Rattle.std.proofs.Common.{arith}
use borrow.Author.Tests.{lt-ltb, le-ltb}
use Rattle.rules.specs.Ranges.{keeps, ten_minutes_head_rule, ten_minutes_rules_of, ten_minutes_record_rule, ten_minutes_form}
use Rattle.rules.proofs.Layouts.{ten_minutes_fits}
use Rattle.rules.proofs.IntervalTables.{as_used}
use Rattle.wordrules.specs.Laws.{FormLaws}

pub ten_minutes_laws : FormLaws ten_minutes_rules_of ten_minutes_form 96
unfolding ten_minutes_head_rule ten_minutes_record_rule keeps
ten_minutes_laws = record {
  fits = ten_minutes_fits;
  few_blocks = omega arith;
  front_any = λ zones areas w v l. rw (lt-ltb w 9 (omega arith));
  counts_before = omega arith;
  zeros_inside = omega arith;
  zero_from = λ zones areas w l. rw (
    le-ltb w 9 (omega arith),
    le-ltb w 12 (omega arith),
    le-ltb w 16 (omega arith),
    le-ltb w 48 (omega arith),
    le-ltb w 96 l,
  );
  nine_words = omega arith;
  named = λ members areas kind. (refl, refl, refl);
  used_or_zero = as_used;
}
