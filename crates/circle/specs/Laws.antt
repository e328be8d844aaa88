-- What is promised of the circle. Each is a statement, a type whose proof is owed. Assumes nothing.
use Rattle.std.specs.Prelude.{◌≡◌, ℕ, ◌+◌, ◌-◌, ◌*◌, ◌^◌, ◌<◌, ◌≤◌, ◌↔◌, List, length, ◌==◌}
use Rattle.members.specs.Limits.{most_members, most_weight, most_stake}
use Rattle.members.specs.declared.member.Member.{Member}
use Rattle.circle.specs.Circle.{unit_limit, all_at_risk, units, whole, most, start, owner, turned, member_of, Holds}
use Rattle.circle.specs.Sums.{span, bit}

-- each unit below W has an owner in the list, and a member's units are exactly those below W of which it is the owner
abbrev pub OneOwner : Type 0
OneOwner = (ms : List Member) (u : ℕ) → (u < whole ms → owner ms u < length ms) × ((k : ℕ) → Holds ms k u ↔ ((u < whole ms) × (owner ms u ≡ k)))

-- each member is the owner of as many units below W as it has
abbrev pub OwnsItsUnits : Type 0
OwnsItsUnits = (ms : List Member) (k : ℕ) → span (λ u. bit (owner ms u == k)) (whole ms) ≡ units (member_of ms k)

-- the units lie end to end and fill the circle: a sum over the members, over the units of each, is the sum over all units
abbrev pub EndToEnd : Type 0
EndToEnd = (f : ℕ → ℕ) (ms : List Member) → span (λ k. span (λ x. f (start ms k + x)) (units (member_of ms k))) (length ms) ≡ span f (whole ms)

-- the largest holding of a list: no member has more units, some member has so many, and all units together are no fewer
pub record Largest (ms : List Member) : Type 0 where
  pub bound : (k : ℕ) → units (member_of ms k) ≤ most ms
  pub reached : 0 < length ms → (k : ℕ) × (k < length ms) × (units (member_of ms k) ≡ most ms)
  pub within : most ms ≤ whole ms

-- M is the largest holding of every list
abbrev pub MostIsLargest : Type 0
MostIsLargest = (ms : List Member) → Largest ms

-- a turn permutes the units below w: each goes to one of them, a turn by the rest of w undoes it, and no sum over all units changes
pub record Permutes (w by : ℕ) : Type 0 where
  pub below : (u : ℕ) → u < w → turned w by u < w
  pub back : (u : ℕ) → u < w → turned w (w - by) (turned w by u) ≡ u
  pub forth : (u : ℕ) → u < w → turned w by (turned w (w - by) u) ≡ u
  pub sums : (f : ℕ → ℕ) → span (λ u. f (turned w by u)) w ≡ span f w

-- every turn by at most w permutes the units below w
abbrev pub TurnPermutes : Type 0
TurnPermutes = (w by : ℕ) → by ≤ w → Permutes w by

-- how many units a list of members can have
pub record Bounded (ms : List Member) : Type 0 where
  -- a cent at risk gives no more units than the largest weight
  pub cents : whole ms ≤ most_weight * all_at_risk ms
  -- W is below 2^50, and twice W below 2^63, where no more is at risk than the most that a society's members can put in
  pub small : all_at_risk ms ≤ most_members * most_stake → (whole ms < unit_limit) × (2 * whole ms < 2 ^ 63)
  -- and no more is at risk where there are no more members than in a society
  pub few : length ms ≤ most_members → all_at_risk ms ≤ most_members * most_stake

-- the units of every list are bounded so
abbrev pub UnitsBounded : Type 0
UnitsBounded = (ms : List Member) → Bounded ms
