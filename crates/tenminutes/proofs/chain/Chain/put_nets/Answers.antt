-- `tenminutes::chain::Chain::put_nets` meets its contract. The loop's invariant: the member's records before the one reached are added up.
use mathlib.Core.Path.{◌≡◌, sym, ◌∙◌, subst}
use mathlib.Core.List.{List}
use Prim.Native.Nat.{ℕ, ◌<◌, zero-le}
use native.Mathlib.Omega.{arith}
use lib.ListN.{length, get_or}
use Rattle.std.specs.Prelude.{Option, None}
use Rattle.std.proofs.lemmas.List.{get_or_default}
use Rattle.rules.specs.TenMinutes.{ten_minutes_in}
use Rattle.tenminutes.specs.Room.{NetsAfter}
use Rattle.tenminutes.proofs.Chaining.{fewer, reached, reached_behind}
use Rattle.tenminutes.proofs.chain.Chain.put_nets.Goals as goal

-- a link that is read
read : (links : List (Option ℕ)) (i : ℕ) (other : Option ℕ) {named : Option ℕ} → i < length links → named ≡ get_or links i other →
    named ≡ get_or links i None
read links i other inside e = e ∙ get_or_default links i other None inside

pub loop-next-init : goal.loop-next-init
loop-next-init c =
    let chained = c.args.self.now.chained in
    rw (read c.args.self.now.firsts.now c.args.member _ (omega (arith, chained.a_place_each_member, c.requires.0)) c.named-next.ensures)
    (reached c.requires.1 zero-le (chained.first_is c.args.member c.requires.0))

pub post-requires : goal.post-requires
post-requires c =
    let own = c.loop-next.invariant.at_own _ c.in-Some.is in (
      own.0,
      subst (λ m. NetsAfter (ten_minutes_in c.args.self.now.hour.file.now) m c.in-Some.i c.loop-next.nets) (sym own.1) own.2,
    )

pub loop-next-smaller : goal.loop-next-smaller
loop-next-smaller c =
    let own = c.loop-next.invariant.at_own _ c.in-Some.is in
    let chained = c.args.self.now.chained in
    let few : c.in-Some.i < 64 = omega (arith, own.0, c.args.self.now.hour.kept.hour_kept.count_most) in
    rw (read c.args.self.now.nexts.now c.in-Some.i _ (omega (arith, chained.a_place_each_record, few)) c.named-next-in-Some.ensures)
    (fewer c.in-Some.is (omega arith) (chained.next_is _ zero-le own.0))

pub loop-next-preserved : goal.loop-next-preserved
loop-next-preserved c =
    let own = c.loop-next.invariant.at_own _ c.in-Some.is in
    let chained = c.args.self.now.chained in
    let few : c.in-Some.i < 64 = omega (arith, own.0, c.args.self.now.hour.kept.hour_kept.count_most) in
    rw (read c.args.self.now.nexts.now c.in-Some.i _ (omega (arith, chained.a_place_each_record, few)) c.named-next-in-Some.ensures)
    (reached_behind own.1 c.post.ensures (omega (arith, own.0)) (chained.next_is _ zero-le own.0))
