-- `tenminutes::charges::put_charges` meets its contract. The loop's invariant: the members passed have their charges.
use mathlib.Core.Path.{◌≡◌, ◌∙◌, ap, subst}
use mathlib.Core.List.{List, ◌++◌}
use Prim.Native.Nat.{ℕ, ◌+◌, ◌-◌, ◌≤◌, ◌<◌}
use native.Mathlib.Omega.{arith}
use lib.IntN.{ℤ}
use lib.ListN.{length, take, drop}
use borrow.Author.Rules.{sfits_of}
use Rattle.std.specs.Prelude.{None}
use Rattle.std.proofs.lemmas.List.{length-take-le, get_or_default}
use Rattle.whole.specs.Below.{replacing_first}
use Rattle.whole.proofs.Machine.{read_back}
use Rattle.whole.proofs.Filling.{Filled, none_filled, next_filled, all_filled}
use Rattle.rules.specs.TenMinutes.{ten_minutes_in}
use Rattle.rules.specs.Record.{member_of}
use Rattle.rules.specs.Inner.Kept.{TenMinutesFileKept}
use Rattle.tenminutes.specs.Chain.{Chained}
use Rattle.tenminutes.proofs.Chaining.{none_chained, linked}
use Rattle.tenminutes.proofs.charges.put_charges.Goals as goal

-- the charges that are taken
module _ {n m : ℕ} (charges : List ℤ) (members_are : n ≡ m) (room : m ≤ length charges) where
  all_taken : length (take n charges) ≡ n
  all_taken = length-take-le n charges (omega (arith, members_are))

  -- past them stands what stood there
  put_back : {f : ℕ → ℤ} {i : ℕ} {taken : List ℤ} → Filled f n i (take n charges) taken → n ≤ i →
      taken ++ drop n charges ≡ replacing_first f m charges
  unfolding replacing_first
  put_back {f} filled ended =
      ap (λ (l : List ℤ). l ++ drop n charges) (all_filled filled ended all_taken) ∙ ap (λ k. replacing_first f k charges) members_are

module _ {s : List ℕ} {i : ℕ} (kept : TenMinutesFileKept s) (there : i < (ten_minutes_in s).count) where
  few : i < 64
  few = omega (arith, there, kept.hour_kept.count_most)

  known : member_of (ten_minutes_in s) i < 32
  known = omega (arith, (kept.hour_kept.record_kept i there).member_there, kept.hour_kept.members_most)

pub loop-i-init : goal.loop-i-init
loop-i-init c = rw c.records-i.ensures none_chained

pub loop-i-preserved : goal.loop-i-preserved
loop-i-preserved c =
    let kept = c.args.hour.kept in
    let there : c.loop-i.i - 1 < (ten_minutes_in c.args.hour.file.now).count = omega (arith, c.records-i.ensures) in
    let before : c.loop-i.i ≡ c.loop-i.i - 1 + 1 = omega arith in
    let first_is = get_or_default c.loop-i.firsts (member_of (ten_minutes_in c.args.hour.file.now) (c.loop-i.i - 1)) c.index-firsts-member.result None
    (omega (arith, known kept there, c.loop-i.invariant.a_place_each_member)) in
    rw (c.member_of-member.ensures, c.to.ensures, first_is) (linked
    (subst (λ n. Chained (ten_minutes_in c.args.hour.file.now) n c.loop-i.firsts c.loop-i.nexts) before c.loop-i.invariant)
    there (known kept there) (few kept there))

pub invariant_of-chain : goal.invariant_of-chain
invariant_of-chain c =
    let all : c.loop-i.i ≡ 0 = omega arith in
    record { chained = subst (λ n. Chained (ten_minutes_in c.args.hour.file.now) n c.loop-i.firsts c.loop-i.nexts) all c.loop-i.invariant }

pub loop-member-init : goal.loop-member-init
loop-member-init c = none_filled (omega (arith, all_taken c.args.charges.now c.args.hour.members_are c.requires))

pub loop-member-preserved : goal.loop-member-preserved
loop-member-preserved c = next_filled c.loop-member.invariant (omega (arith, all_taken c.args.charges.now c.args.hour.members_are c.requires))
    (read_back (sfits_of c.charge.type_inv) ∙ c.charge.ensures)

pub returns : goal.returns
returns c = put_back c.args.charges.now c.args.hour.members_are c.requires c.loop-member.invariant (omega (arith, all_taken c.args.charges.now c.args.hour.members_are c.requires))
