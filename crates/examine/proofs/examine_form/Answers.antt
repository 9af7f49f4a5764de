-- `examine::examine_form` meets its contract: the first row that is broken. What the rows before let pass is what the searches ask.
use Rattle.std.proofs.Common.{sym, ◌∙◌, arith}
use Rattle.rules.specs.Refusals.{verdict, bad_length, block_rows, word_rows, form_rows}
use Rattle.rules.proofs.Words.{length_is_whole}
use Rattle.rules.proofs.Faults.{few_records}
use Rattle.examine.specs.Fault.{examine_rows}
use Rattle.examine.proofs.examine_form.Goals as goal

pub returns-then-length_bad : goal.returns-then-length_bad
unfolding verdict block_rows form_rows examine_rows bad_length
returns-then-length_bad g c = let e = rw c.layout.ensures at c.length_bad.ensures in
    simp (sym e ∙ c.if-length_bad.true)

-- return Err(Refusal::BadSum(b))
pub returns-in-Some : goal.returns-in-Some
unfolding verdict block_rows form_rows examine_rows bad_length
returns-in-Some g c = let e = rw c.layout.ensures at c.length_bad.ensures in
    simp (sym e ∙ c.if-length_bad.false, sym c.bad_sum.ensures ∙ c.in-Some.is)

pub bad_block-requires : goal.bad_block-requires
bad_block-requires g c =
    let good = sym (rw c.layout.ensures at c.length_bad.ensures) ∙ c.if-length_bad.false in
    let whole = length_is_whole g.F.Form.form.layout _ good in
    (rw c.layout-2.ensures g.met.F.Form.laws.fits, omega (arith, whole.most, whole.all_blocks, g.met.F.Form.laws.few_blocks))

-- return Err(Refusal::BadBlock(b))
pub returns-in-Some-bad_block : goal.returns-in-Some-bad_block
unfolding verdict block_rows form_rows examine_rows bad_length
returns-in-Some-bad_block g c = let e = rw c.layout.ensures at c.length_bad.ensures in let f = rw c.layout-2.ensures at c.bad_block.ensures in
    simp (sym e ∙ c.if-length_bad.false, sym c.bad_sum.ensures ∙ c.in_default.is, sym f ∙ c.in-Some-bad_block.is)

pub new-requires : goal.new-requires
new-requires g c = let e = rw c.layout.ensures at c.length_bad.ensures in let f = rw c.layout-2.ensures at c.bad_block.ensures in
    record {
      length_good = sym e ∙ c.if-length_bad.false;
      few_records = few_records g.F.Form.form.layout c.args.file.now (sym f ∙ c.in_default-bad_block.is);
    }

-- search::examine_hour(..)
pub returns : goal.returns
unfolding verdict block_rows word_rows form_rows examine_rows bad_length
returns g c = let e = rw c.layout.ensures at c.length_bad.ensures in let f = rw c.layout-2.ensures at c.bad_block.ensures in
    (rw c.new.ensures at c.examine_hour.ensures)
    ∙ simp (sym e ∙ c.if-length_bad.false, sym c.bad_sum.ensures ∙ c.in_default.is, sym f ∙ c.in_default-bad_block.is)
