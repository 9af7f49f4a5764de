-- `writer::write_hour` meets its contract: refused, nothing is touched; accepted, the buffer begins with the file.
use Rattle.std.proofs.Common.{◌≡◌, ℕ, List, length, sym, ap, ◌∙◌, ap₂}
use Rattle.std.proofs.lemmas.Result.{err_from_is_err_and}
use Rattle.rules.specs.declared.Refusal.TheVariants.{BadLength}
use Rattle.rules.specs.Refusals.{verdict, accepted, write_hour_rows}
use Rattle.rules.specs.Settling.{HourWritten}
use Rattle.writer.proofs.Said.{lists_refused}
use Rattle.writer.proofs.Written.{refused_leaves, accepted_fills, accepted_room}
use Rattle.writer.proofs.write_hour.Goals as goal
use Rattle.writer.proofs.write_hour.Goals.{In_ok-lists, In_ok-first_refusal}

-- the lists are the head and the records that were handed in
same-rows : (c : goal.In_ok-lists) →
    verdict (write_hour_rows c.in_ok-lists.lists.head.now c.in_ok-lists.lists.records.now (length c.args.file.now))
    ≡ verdict (write_hour_rows c.args.head.now c.args.records.now (length c.args.file.now))
same-rows c =
    let same = c.in_ok-lists.ensures in
    ap₂ (λ (head records : List ℕ). verdict (write_hour_rows head records (length c.args.file.now))) same.0 same.1

-- they are accepted
passed : (c : goal.In_ok-first_refusal) → verdict (write_hour_rows c.args.head.now c.args.records.now (length c.args.file.now)) ≡ accepted
passed c = sym (c.in_ok-first_refusal.ensures ∙ same-rows (goal.at-In_ok-first_refusal c).In_ok-lists)

-- Lists::new(head, records)?
pub returns-in_err-lists : goal.returns-in_err-lists
returns-in_err-lists c =
    let refused = c.in_err-lists.ensures in
    let told = err_from_is_err_and c.from_residual.result c.from_residual.ensures.1 in
    let leaves = sym (refused_leaves c.args.head.now c.args.records.now c.args.file.now BadLength
    (lists_refused c.args.head.now c.args.records.now (length c.args.file.now) refused.1)) in record {
      verdict = rw (told.1, told.2, refused.0) (ap (λ (w : HourWritten). w.verdict) leaves);
      length = rw told.1 (ap (λ (w : HourWritten). w.length) leaves);
      file = ap (λ (w : HourWritten). w.file) leaves;
      words = (λ i. (c.type_inv.head i).fits, λ i. (c.type_inv.records i).fits);
    }

-- lists.first_refusal(file.len())?
pub returns-in_err-first_refusal : goal.returns-in_err-first_refusal
returns-in_err-first_refusal c =
    let told = err_from_is_err_and c.from_residual-in_err-first_refusal.result c.from_residual-in_err-first_refusal.ensures.1 in
    let leaves = sym (refused_leaves c.args.head.now c.args.records.now c.args.file.now _
    (c.in_err-first_refusal.ensures ∙ same-rows (goal.at.returns-in_err-first_refusal c).In_ok-lists)) in record {
      verdict = rw (told.1, told.2) (ap (λ (w : HourWritten). w.verdict) leaves);
      length = rw told.1 (ap (λ (w : HourWritten). w.length) leaves);
      file = ap (λ (w : HourWritten). w.file) leaves;
      words = (λ i. (c.type_inv.head i).fits, λ i. (c.type_inv.records i).fits);
    }

pub put_file-requires : goal.put_file-requires
put_file-requires c =
    let same = c.in_ok-lists.ensures in
    rw (same.0, same.1) (accepted_room c.args.head.now c.args.records.now c.args.file.now (passed (goal.at.put_file-requires c).In_ok-first_refusal))

-- Ok(put_file(&lists, file))
pub returns : goal.returns
returns c =
    let same = c.in_ok-lists.ensures in
    let fills = sym (accepted_fills c.args.head.now c.args.records.now c.args.file.now (passed (goal.at.returns c).In_ok-first_refusal)) in record {
      verdict = ap (λ (w : HourWritten). w.verdict) fills;
      length = rw (same.0, same.1) at c.put_file.ensures.length ∙ ap (λ (w : HourWritten). w.length) fills;
      file = rw (same.0, same.1) at c.put_file.ensures.file ∙ ap (λ (w : HourWritten). w.file) fills;
      words = (λ i. (c.type_inv.head i).fits, λ i. (c.type_inv.records i).fits);
    }
