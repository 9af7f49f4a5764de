-- The hour file keeps the laws.
use Rattle.std.specs.Prelude.{refl}
use Rattle.std.proofs.Common.{◌∙◌, arith}
use borrow.Author.Tests.{lt-ltb, le-ltb}
use Rattle.rules.specs.Record.{kind_of}
use Rattle.rules.specs.Ranges.{keeps, head_rule, rules_of, record_rule, hourly_form}
use Rattle.rules.proofs.Layouts.{hourly_fits}
use Rattle.rules.proofs.RuleTables.{record_words_lem, used_or_zero}
use Rattle.wordrules.specs.Laws.{FormLaws}

pub hourly_laws : FormLaws rules_of hourly_form 48
unfolding head_rule record_rule keeps
hourly_laws = record {
  fits = hourly_fits;
  few_blocks = omega arith;
  front_any = λ zones areas w v l. rw (lt-ltb w 9 (omega arith));
  counts_before = omega arith;
  zeros_inside = omega arith;
  zero_from = λ zones areas w l. rw (le-ltb w 9 (omega arith), le-ltb w 12 (omega arith), le-ltb w 16 (omega arith), le-ltb w 48 l);
  nine_words = omega arith;
  named = λ members areas kind. (refl, refl, refl);
  used_or_zero = λ members areas kind w l. record_words_lem members areas kind w l ∙ used_or_zero (kind_of kind) w;
}
