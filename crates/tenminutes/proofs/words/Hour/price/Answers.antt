-- `tenminutes::words::Hour::price` meets its contract: a word of the head with its sign.
use mathlib.Core.Path.{◌∙◌, ap}
use borrow.Author.Rules.{sfits_of}
use Rattle.whole.proofs.Machine.{read_back}
use Rattle.rules.specs.Record.{signed}
use Rattle.tenminutes.proofs.Inside.{head_inside, head_there}
use Rattle.tenminutes.proofs.words.Hour.price.Goals as goal

pub whole_word-requires : goal.whole_word-requires
whole_word-requires c = head_inside c.args.self.now.kept c.args.w c.requires.1

pub returns : goal.returns
returns c =
    read_back (sfits_of c.signed.type_inv) ∙ c.signed.ensures
    ∙ ap signed (c.whole_word.ensures ∙ head_there c.args.self.now.kept c.args.w c.requires.1 c.requires.0)
