-- `writer::put_file` meets its contract. The loop's invariant: the blocks so far, and past them the buffer as it was; and the records that are
-- left.
use Rattle.std.proofs.Common.{◌≡◌, ◌+◌, ◌*◌, drop}
use Rattle.whole.proofs.Filling.{Filled}
use Rattle.rules.specs.HourFile.{hourly}
use Rattle.rules.specs.HourWords.{file_byte, file_length}
use Rattle.writer.specs.Lists.{hour_of_lists}
use Rattle.writer.proofs.put_file.Given as goal

abbrev pub invariant-loop-i : goal.invariant-loop-i
invariant-loop-i l =
    let h = hour_of_lists l.lists.head.now l.lists.records.now in
    let n = l.i-iterator.count in record {
      by_ten : l.i-iterator.iter.size ≡ 120;
      left : l.i-iterator.iter.rest.now ≡ drop (120 * n) l.lists.records.now;
      filled : Filled (file_byte hourly h) (file_length hourly h) (512 * (1 + n)) l.initial.file l.file;
    }
