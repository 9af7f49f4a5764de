-- `explain::heads::same_sign` meets its contract: a charge other than zero has a sign.
use Rattle.whole.proofs.Machine.{read_back, zero_bits}
use Rattle.explain.proofs.Signs.{signs_alike, zero_has_none}
use Rattle.explain.proofs.heads.same_sign.Goals as goal

pub returns-then-charge-ne0 : goal.returns-then-charge-ne0
returns-then-charge-ne0 c =
    rw (c.signum.ensures.value, c.signum-then-charge-ne0.ensures.value, read_back c.ranges.charge, read_back c.ranges.head)
    (signs_alike c.args.charge c.args.head (λ z. c.if-charge-ne0.true (rw z)))

pub returns-else-charge-ne0 : goal.returns-else-charge-ne0
returns-else-charge-ne0 c = rw (zero_bits c.ranges.charge c.if-charge-ne0.false) (zero_has_none c.args.head)
