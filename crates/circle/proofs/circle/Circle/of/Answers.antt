use Rattle.std.proofs.Common.{◌≡◌, Some, None, ◌∙◌, ap₂, arith}
use Rattle.std.proofs.lemmas.Bool.{cond_below}
use Rattle.std.proofs.lemmas.Bool.Decides.{nat_tests}
use Rattle.circle.specs.Circle.{unit_limit, whole, most}
use Rattle.circle.proofs.Bounds.{units_bounded}
use Rattle.circle.proofs.Living.{no_units_no_change, dead_change_nothing}
use Rattle.circle.proofs.Numbers.{told_by_numbers}
use Rattle.circle.proofs.Owners.{most_is_largest, most_whole}
use Rattle.circle.proofs.Walks.{Next, whole_next, most_next, whole_done, most_done}
use Rattle.circle.proofs.circle.Circle.of.Goals as goal
use Rattle.circle.proofs.circle.Circle.of.Goals.{After-units-held, After-loop-member}

-- at each step the walk goes over the next member
next : (c : After-units-held) → Next c.args.members.now c.loop-member.member-index c.units-held.result
next c = record { member = c.member-item.result; inside = c.loop-member-test.true; here = c.member-item.is; holds = c.units-held.ensures.value }

-- and at its end nothing is left
size_is : (c : After-loop-member) → c.loop-member.size ≡ whole c.args.members.now
size_is c = omega (arith, whole_done c.args.members.now c.loop-member.member-index c.loop-member-test.false)

largest_is : (c : After-loop-member) → c.loop-member.largest ≡ most c.args.members.now
largest_is c = omega (arith, most_done c.args.members.now c.loop-member.member-index c.loop-member-test.false)

pub returns-then-size-ge-UNIT_LIMIT : goal.returns-then-size-ge-UNIT_LIMIT
returns-then-size-ge-UNIT_LIMIT c =
    let left = whole_next (next (goal.at.returns-then-size-ge-UNIT_LIMIT c).After-units-held) in
    record { value = grind (arith, nat_tests); told = told_by_numbers; bounded = units_bounded; largest = most_is_largest; one_out = no_units_no_change; dead_out = dead_change_nothing }

pub loop-member-preserved : goal.loop-member-preserved
loop-member-preserved c =
    let further = next (goal.at.loop-member-preserved c).After-units-held in
    (omega (arith, whole_next further), omega (arith, most_next further), omega arith)

pub invariant_of-result : goal.invariant_of-result
invariant_of-result c = record { within = omega (arith, size_is c, largest_is c, most_whole c.args.members.now); bounded = omega arith }

pub returns : goal.returns
returns c =
    let end = (goal.at.returns c).After-loop-member in
    record {
      value = ap₂ (λ a b. Some (a, b)) (size_is end) (largest_is end) ∙ cond_below (whole c.args.members.now) unit_limit _ None (omega (arith, size_is end));
      told = told_by_numbers;
      bounded = units_bounded;
      largest = most_is_largest;
      one_out = no_units_no_change;
      dead_out = dead_change_nothing;
    }
