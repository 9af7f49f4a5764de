-- `examine::search::TenMinutes::passed` meets its contract: spans tell of all words.
use Rattle.std.proofs.Common.{refl, sym, ◌∙◌}
use Rattle.examine.proofs.Spanned.{all_kept}
use Rattle.examine.proofs.search.TenMinutesSearched.passed.Goals as goal

pub returns-then-record_keeps-clause-kept : goal.returns-then-record_keeps-clause-kept
returns-then-record_keeps-clause-kept g c = all_kept _ _ _ (sym c.record_keeps.ensures ∙ c.if-record_keeps.true)

pub returns-then-record_keeps-clause-told : goal.returns-then-record_keeps-clause-told
returns-then-record_keeps-clause-told g c = rw (sym c.record_keeps.ensures ∙ c.if-record_keeps.true) refl

pub returns-else-record_keeps-clause-told : goal.returns-else-record_keeps-clause-told
returns-else-record_keeps-clause-told g c = rw (sym c.record_keeps.ensures ∙ c.if-record_keeps.false) refl
