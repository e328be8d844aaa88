-- The circle of units: how many each member has, where they lie, whose each of them is, and the turn. Assumes nothing: these are definitions.
use Rattle.std.specs.Prelude.{ℕ, zero, suc, ◌+◌, ◌-◌, ◌*◌, ◌^◌, ◌<◌, ◌≤◌, max, if◌then◌else◌, List, [], ◌∷◌, nat_lt, slice_index_or}
use Rattle.members.specs.Members.{nobody}
use Rattle.members.specs.declared.member.Member.{Member}

-- the cents that go to the others when a member dies: its stake while it lives, and none once it is dead
unfoldable pub at_risk : Member → ℕ
at_risk m = if m.alive then m.stake else 0

-- how many units a member has: its weight times its cents at risk
unfoldable pub units : Member → ℕ
units m = m.weight * at_risk m

-- all cents at risk together
unfoldable pub all_at_risk : List Member → ℕ
all_at_risk [] = 0
all_at_risk (m ∷ ms) = at_risk m + all_at_risk ms

-- all units together, W in the rules
unfoldable pub whole : List Member → ℕ
whole [] = 0
whole (m ∷ ms) = units m + whole ms

-- the largest number of units that one member has, M in the rules
unfoldable pub most : List Member → ℕ
most [] = 0
most (m ∷ ms) = max (units m) (most ms)

-- where the units of the member at a place start: they lie end to end, from 0 on, in the order of the list; past its end that is W
unfoldable pub start : List Member → ℕ → ℕ
start [] place = 0
start (m ∷ ms) zero = 0
start (m ∷ ms) (suc place) = units m + start ms place

-- the place of the member whose unit u is; past the last unit it is the list's length, where no member stands
unfoldable pub owner : List Member → ℕ → ℕ
owner [] u = 0
owner (m ∷ ms) u = if nat_lt u (units m) then 0 else suc (owner ms (u - units m))

-- unit u of a circle of w units, turned by so many: they are added, and w is taken off if that makes w or more
unfoldable pub turned : ℕ → ℕ → ℕ → ℕ
turned w by u = if nat_lt (u + by) w then u + by else u + by - w

-- the member at a place of the list, and past its end the record of an empty place, which has no units
abbrev pub member_of : List Member → ℕ → Member
member_of ms place = slice_index_or ms place nobody

-- unit u is one of the units of the member at a place
abbrev pub Holds : List Member → ℕ → ℕ → Type 0
Holds ms place u = (start ms place ≤ u) × (u < start ms place + units (member_of ms place))

-- the code makes no circle of so many units or more
abbrev pub unit_limit : ℕ
unit_limit = 2 ^ 50
