-- `writer::lists::Lists::first_refusal` meets its contract: what the search answers, then row 11.
use Rattle.std.proofs.Common.{◌≡◌, [], ◌∷◌, sym, ◌∙◌, arith}
use Rattle.std.proofs.lemmas.Result.{err_from_is_err_and}
use Rattle.rules.specs.Refusals.{row, no_room, verdict, write_hour_rows}
use Rattle.writer.specs.Lists.{hour_of_lists}
use Rattle.writer.proofs.Said.{few_blocks, no_room_lem, has_room, search_refused, search_passed}
use Rattle.writer.proofs.lists.Lists.first_refusal.Goals as goal
use Rattle.writer.proofs.lists.Lists.first_refusal.Goals.{In_ok-examine}

-- they are passed: the room decides
room-decides : (c : goal.In_ok-examine) →
    let lists = c.args.self.now in
    verdict (write_hour_rows lists.head.now lists.records.now c.args.room)
    ≡ verdict (row 11 (no_room (hour_of_lists lists.head.now lists.records.now) c.args.room) ∷ [])
room-decides c =
    let lists = c.args.self.now in
    search_passed lists.head.now lists.records.now c.args.room lists.whole
    (sym c.in_ok-examine.ensures)

-- self.examine()?
pub returns-in_err-examine : goal.returns-in_err-examine
returns-in_err-examine c =
    let lists = c.args.self.now in
    let told = err_from_is_err_and c.from_residual.result c.from_residual.ensures.1 in
    rw (told.1, told.2) (search_refused lists.head.now lists.records.now c.args.room lists.whole _ c.in_err-examine.ensures)

-- 512 * self.blocks()
pub overflow_mul-blocks : goal.overflow_mul-blocks
overflow_mul-blocks c =
    let lists = c.args.self.now in
    omega (arith, c.blocks-2.ensures, few_blocks lists.head.now lists.records.now lists.whole)

-- return Err(Refusal::TooShort)
pub returns-then-room-blocks : goal.returns-then-room-blocks
unfolding verdict
returns-then-room-blocks c =
    let lists = c.args.self.now in
    let room = no_room_lem lists.head.now lists.records.now c.args.room _ c.blocks-2.ensures c.if-room-blocks.true in
    sym (room-decides (goal.at.returns-then-room-blocks c).In_ok-examine ∙ rw room)

-- Ok(())
pub returns : goal.returns
unfolding verdict
returns c =
    let lists = c.args.self.now in
    let room = has_room lists.head.now lists.records.now c.args.room _ c.blocks-2.ensures c.if-room-blocks.false in
    sym (room-decides (goal.at.returns c).In_ok-examine ∙ rw room)
