use Rattle.std.proofs.Common.{◌≡◌, ◌+◌, drop}
use Rattle.circle.specs.Circle.{whole, owner}
use Rattle.circle.proofs.place.owner.Given as goal

abbrev pub invariant-loop-place : goal.invariant-loop-place
invariant-loop-place l =
    (l.left + whole l.members ≡ l.unit + whole (drop l.place l.members))
    × (owner l.members l.unit ≡ l.place + owner (drop l.place l.members) l.left)
