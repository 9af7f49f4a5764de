-- `writer::block::put_block` meets its contract: each call stores the words that come next, and the zeros go on to where the block ends.
use Rattle.std.proofs.Common.{◌≡◌, ℕ, ◌+◌, ◌-◌, ◌*◌, [], ◌∷◌, length, get_or, drop, sym, ap, ◌∙◌, arith, length-drop, length-take-le}
use Rattle.std.proofs.Math.ListN.{replicate}
use Rattle.writer.specs.Stored.{closed_block, block_bytes}
use Rattle.writer.proofs.Storing.{Begun, begun_none, begun_words, zeros_end}
use Rattle.writer.proofs.Sums.{closed_front, closed_body, closed_past}
use Rattle.writer.proofs.block.put_block.Goals as goal

pub returns : goal.returns
unfolding block_bytes
returns c =
    let given = c.args in
    let old = given.block.now in
    let body = given.body.now in
    let room = c.requires.0 in
    let few = c.requires.1 in
    let f = closed_block given.mark given.position given.count body in
    let front : Begun f old 8 c.put_words.new.block =
    begun_words begun_none
    (λ k. get_or (given.mark ∷ given.position ∷ given.count ∷ 0 ∷ 0 ∷ 0 ∷ 0 ∷ c.closing_word-closing.result ∷ []) k 0) 8
    (λ i l. closed_front given.mark given.position given.count body _ c.closing_word-closing.ensures i l) c.put_words.ensures in
    let words : Begun f old (8 + length body) c.put_words-2.new.block =
    begun_words front (λ k. get_or body k 0) (length body) (λ i l. sym (closed_body _ _ _ body i)) c.put_words-2.ensures in
    let from : ℕ = 32 + 4 * length body in
    let whole : length c.put_words-2.new.block ≡ 512 = omega arith in
    let rest : ℕ = length c.put_words-2.new.block - from in
    zeros_end words (λ w l. closed_past given.mark given.position given.count body w l) from rest 512 c.fill.new.self (omega arith) (omega arith) room
    (c.fill.ensures.after (λ y k. k)
    ∙ ap (λ (n : ℕ). replicate n 0) (length-take-le rest (drop from c.put_words-2.new.block) (omega (arith, length-drop from c.put_words-2.new.block))))
