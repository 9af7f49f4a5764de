-- `tenminutes::words::Hour::new` meets its contract: the head lies whole in the first block.
use mathlib.Core.Path.{◌∙◌}
use native.Mathlib.Omega.{arith}
use Rattle.tenminutes.proofs.Inside.{head_inside, head_there}
use Rattle.tenminutes.proofs.words.Hour.new.Goals as goal

-- blocks::whole_word(file, 9)
pub whole_word-requires : goal.whole_word-requires
whole_word-requires c = head_inside c.requires 9 (omega arith)

-- blocks::whole_word(file, 10)
pub whole_word-requires-2 : goal.whole_word-requires-2
whole_word-requires-2 c = head_inside c.requires 10 (omega arith)

pub invariant_of-result : goal.invariant_of-result
invariant_of-result c = record {
  kept = c.requires;
  members_are = c.whole_word.ensures ∙ head_there c.requires 9 (omega arith) (omega arith);
  zones_are = c.whole_word-2.ensures ∙ head_there c.requires 10 (omega arith) (omega arith);
}
