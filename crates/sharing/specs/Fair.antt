-- What is promised of one death. Each is a statement, a type whose proof is owed. Assumes nothing.
use Rattle.std.specs.Prelude.{◌≡◌, ℕ, ◌+◌, ◌*◌, ◌<◌, ◌≤◌, List, length}
use Rattle.members.specs.declared.member.Member.{Member}
use Rattle.circle.specs.Circle.{at_risk, units, member_of}
use Rattle.circle.specs.Sums.{span}
use Rattle.sharing.specs.Sharing.{gets, Balanced, stands_to_get, stands_to_lose, units_to}
use Rattle.sharing.specs.Small.{SmallShares}

-- where nobody has more than half, what a member stands to get from the others is its units, and so is what it stands to lose to them
abbrev pub FairDeath : Type 0
FairDeath = (ms : List Member) (j : ℕ) → Balanced ms → (stands_to_get ms j ≡ units (member_of ms j)) × (stands_to_lose ms j ≡ units (member_of ms j))

-- where nobody has more than half, nothing of a stake comes back to the one who died
abbrev pub NotItsOwn : Type 0
NotItsOwn = (ms : List Member) (k r : ℕ) → Balanced ms → r < (member_of ms k).weight → gets ms k k r ≡ 0

-- who has no units gets nothing: so it is with the dead
abbrev pub NothingWithoutUnits : Type 0
NothingWithoutUnits = (ms : List Member) (j k r : ℕ) → r < (member_of ms k).weight → units (member_of ms j) ≡ 0 → gets ms j k r ≡ 0

-- every cent at risk goes to a member
abbrev pub AllGiven : Type 0
AllGiven = (ms : List Member) (k r : ℕ) → r < (member_of ms k).weight → span (λ j. gets ms j k r) (length ms) ≡ at_risk (member_of ms k)

-- what two words for one death give a member differs by one cent at most. Of its own stake that is said only where nobody has more than half
abbrev pub Near : Type 0
Near =
    (ms : List Member) (j k r s : ℕ) → (j ≡ k → Balanced ms) → r < (member_of ms k).weight → s < (member_of ms k).weight →
    gets ms j k r ≤ gets ms j k s + 1

-- a member's exact part of a stake is the number of the dead one's units that fall to it, divided by the dead one's weight w: with every word it gets less than a cent more and less than a cent less
abbrev pub ExactPart : Type 0
ExactPart =
    (ms : List Member) (j k r : ℕ) → (j ≡ k → Balanced ms) → r < (member_of ms k).weight →
    ((member_of ms k).weight * gets ms j k r < units_to ms j k + (member_of ms k).weight) × (units_to ms j k < (member_of ms k).weight * gets ms j k r + (member_of ms k).weight)

-- and over all words together, just its part: a cent for each of those units
abbrev pub ExactOverWords : Type 0
ExactOverWords = (ms : List Member) (j k : ℕ) → span (λ r. gets ms j k r) (member_of ms k).weight ≡ units_to ms j k

-- all that is promised of one death
pub record OneDeath : Type 0 where
  pub fair : FairDeath
  pub own : NotItsOwn
  pub dead : NothingWithoutUnits
  pub all : AllGiven
  pub near : Near
  pub exact : ExactPart
  pub words : ExactOverWords
  pub small : SmallShares
