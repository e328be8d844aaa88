use Rattle.std.proofs.Common.{arith}
use Rattle.std.proofs.lemmas.Bool.Decides.{nat_tests}
use Rattle.circle.proofs.Owners.{one_owner, owns_its_units}
use Rattle.circle.proofs.Walks.{Next, whole_next, owner_next, owner_further, whole_done}
use Rattle.circle.proofs.place.owner.Goals as goal
use Rattle.circle.proofs.place.owner.Goals.{After-units-held}

-- at each step the walk goes over the next member
next : (c : After-units-held) → Next c.args.members.now c.loop-place.place c.units-held.result
next c = record { member = c.index-members-place.result; inside = c.loop-place-test.true; here = c.index-members-place.is; holds = c.units-held.ensures.value }

pub returns-then-left-held : goal.returns-then-left-held
returns-then-left-held c =
    let here = next (goal.at.returns-then-left-held c).After-units-held in
    let left = whole_next here in
    let first = owner_next here c.loop-place.left (omega arith) in
    record { value = grind (arith, nat_tests); once = one_owner; each = owns_its_units }

pub loop-place-preserved : goal.loop-place-preserved
loop-place-preserved c =
    let here = next (goal.at.loop-place-preserved c).After-units-held in
    (omega (arith, whole_next here), omega (arith, owner_further here c.loop-place.left (omega arith)))

pub returns : goal.returns
returns c =
    let none = whole_done c.args.members.now c.loop-place.place c.loop-place-test.false in
    record { value = grind (arith, nat_tests); once = one_owner; each = owns_its_units }
