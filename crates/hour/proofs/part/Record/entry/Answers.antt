-- `Record::entry` meets its contract, letter by letter: each is one word of the part.
use mathlib.Core.Path.{◌∙◌, ap}
use lib.IntN.{pos}
use borrow.Author.Rules.{sfits_of}
use Rattle.whole.proofs.Machine.{read_back}
use Rattle.rules.specs.Record.{actual, entry, signed}
use Rattle.hour.proofs.part.Record.entry.Goals as goal

pub returns : goal.returns
unfolding entry
returns c = λ k. record {
  kind = c.kind-kind.ensures k;
  S = (read_back (sfits_of c.from.type_inv) ∙ c.from.ensures ∙ ap pos c.whole_word-scheduled.ensures) k;
  A = (read_back (sfits_of c.from-2.type_inv) ∙ c.from-2.ensures ∙ ap pos (c.actual.ensures ∙ λ l. actual (c.kind-kind.ensures l) (c.whole_word-scheduled.ensures l) (c.whole_word.ensures l))) k;
  J = (read_back (sfits_of c.signed.type_inv) ∙ c.signed.ensures ∙ ap signed c.whole_word-2.ensures) k;
  N = (read_back (sfits_of c.from-3.type_inv) ∙ c.from-3.ensures ∙ ap pos c.whole_word-3.ensures) k;
  O = (read_back (sfits_of c.from-4.type_inv) ∙ c.from-4.ensures ∙ ap pos c.whole_word-4.ensures) k;
  M = (read_back (sfits_of c.from-5.type_inv) ∙ c.from-5.ensures ∙ ap pos c.whole_word-5.ensures) k;
  F = (read_back (sfits_of c.from-6.type_inv) ∙ c.from-6.ensures ∙ ap pos c.whole_word-6.ensures) k;
  H = (read_back (sfits_of c.from-7.type_inv) ∙ c.from-7.ensures ∙ ap pos c.whole_word-7.ensures) k;
}
