-- `writer::block::put_word` meets its contract: the four bytes of the word take the place of those that stood there.
use Rattle.std.proofs.Common.{◌≡◌, ℕ, ◌+◌, ◌*◌, ◌/◌, ◌%◌, List, [], ◌∷◌, ◌++◌, take, ◌∙◌, ap₂, arith}
use Rattle.std.specs.Int.{to_le_bytes, w32}
use borrow.Rule.Slice.PartMut.{Post-is}
use Rattle.whole.specs.Below.{values_below}
use Rattle.rules.specs.HourWords.{byte_of}
use Rattle.writer.specs.Stored.{word_stored}
use Rattle.writer.proofs.block.put_word.Goals as goal

four_bytes : (v : ℕ) → to_le_bytes w32 v ≡ values_below (byte_of v) 4
unfolding values_below byte_of
four_bytes v =
    let third : v / 65536 % 256 ≡ v / 256 / 256 % 256 = omega arith in
    let fourth : v / 16777216 % 256 ≡ v / 256 / 256 / 256 % 256 = omega arith in
    ap₂ (λ (x y : ℕ). v % 256 ∷ v / 256 % 256 ∷ x ∷ y ∷ []) third fourth

pub returns : goal.returns
unfolding word_stored
returns c =
    let at = 4 * c.args.k in
    ap₂ (λ (bytes after : List ℕ). take at c.args.block.now ++ (bytes ++ after))
    (c.copy_from_slice.ensures.after ∙ c.to_le_bytes.ensures ∙ four_bytes c.args.v)
    (Post-is at (at + 4) c.args.block.now (omega arith))
