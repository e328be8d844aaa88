use Rattle.std.proofs.Common.{◌≡◌, ℕ, ◌+◌, ◌<◌, length, get_or, drop}
use Rattle.circle.specs.Circle.{whole, owner}
use Rattle.sharing.specs.Answers.{dealt_to, dealt}
use Rattle.sharing.proofs.dealing.deal.Given as goal

-- each member has its part of the cents so far
abbrev pub invariant-cents : goal.invariant-cents
invariant-cents l = (j : ℕ) → j < length l.members → get_or l.cents j 0 ≡ dealt l.members l.estate j l.cent

-- the unit on which the cent landed belongs to one of those who are left
abbrev pub invariant-loop-place : goal.invariant-loop-place
invariant-loop-place l =
    (l.cents ≡ l.initial.cents)
    × (l.left < whole (drop l.place l.members))
    × (dealt_to l.members l.estate l.cent ≡ l.place + owner (drop l.place l.members) l.left)
