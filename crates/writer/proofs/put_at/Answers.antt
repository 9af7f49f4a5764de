-- `writer::put_at` meets its contract: the part that is lent comes back as the block's bytes.
use Rattle.std.proofs.Common.{ℕ, ◌+◌, ◌*◌, List, ◌++◌, take, ap₂, arith}
use borrow.Rule.Slice.PartMut.{Post-is}
use Rattle.writer.specs.Stored.{block_placed}
use Rattle.writer.proofs.put_at.Goals as goal

pub returns : goal.returns
unfolding block_placed
returns c =
    let given = c.args in
    let file = given.file.now in
    let from = 512 * given.b in
    let rest = Post-is from (from + 512) file (omega arith) in
    ap₂ (λ (bytes after : List ℕ). take from file ++ (bytes ++ after)) c.put_block.ensures rest
