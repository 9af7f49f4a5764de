-- `byrecord::shares::share_areas` meets its contract. The loop's invariant: the areas passed are shared, and every other record has 0.
use Rattle.byrecord.proofs.Hour.{AreasShared}
use Rattle.byrecord.proofs.shares.share_areas.Given as goal

abbrev pub invariant-loop-a : goal.invariant-loop-a
invariant-loop-a l = AreasShared l.hour l.a l.initial.out l.room l.out
