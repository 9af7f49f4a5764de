-- `examine::spans::span_keeps` meets its contract: the closure says of each word whether it keeps the rule.
use Rattle.std.proofs.Common.{not, refl, ap, rules}
use Rattle.rules.specs.Ranges.{keeps}
use Rattle.examine.specs.Span.{span_keeps}
use Rattle.examine.proofs.Ranges.{none_from}
use Rattle.examine.proofs.spans.span_keeps.Goals as goal

pub returns : goal.returns
unfolding span_keeps
returns g c =
    none_from (λ w. not (keeps c.args.rule (g.W.Words.at c.args.words.now w))) _ _ _ _ _ _ refl c.all.ensures.ran
    (λ x b q k. (search rules, ap not (search rules)))
