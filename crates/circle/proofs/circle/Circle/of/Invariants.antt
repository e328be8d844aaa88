use Rattle.std.proofs.Common.{◌≡◌, ◌+◌, ◌<◌, max, drop}
use Rattle.circle.specs.Circle.{unit_limit, whole, most}
use Rattle.circle.proofs.circle.Circle.of.Given as goal

abbrev pub invariant-loop-member : goal.invariant-loop-member
invariant-loop-member l =
    (l.size + whole (drop l.member-index l.members) ≡ whole l.members)
    × (max l.largest (most (drop l.member-index l.members)) ≡ most l.members)
    × (l.size < unit_limit)
