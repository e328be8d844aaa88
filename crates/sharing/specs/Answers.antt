-- What sharing out a stake answers, and what the lent memory holds then. Assumes nothing: these are definitions.
use Rattle.std.specs.Prelude.{◌≡◌, ℕ, ◌+◌, ◌*◌, ◌<◌, false, if◌then◌else◌, not, List, ◌++◌, length, take, drop, Ok, Err, sum, Result, ◌==◌, nat_le, nat_lt, slice_index, slice_index_or}
use Rattle.members.specs.declared.member.Member.{Member}
use Rattle.circle.specs.Circle.{unit_limit, at_risk, whole, most, start, owner, turned, member_of}
use Rattle.circle.specs.Sums.{span, bit}
use Rattle.sharing.specs.Sharing.{given}
use Rattle.sharing.specs.declared.estate.Estate.{Estate}
use Rattle.sharing.specs.declared.unshared.Unshared.{Unshared}
use Rattle.sharing.specs.declared.unshared.Unshared.TheVariants.{ShortMemory, NotLiving, WordTooLarge, TooManyUnits, OverHalf}

-- whether the stake of the member at place k can be shared out by the word r, or the first ground on which it cannot
abbrev pub grounds : List Member → ℕ → ℕ → Result (Unit {0}) Unshared
grounds ms k r =
    if not (member_of ms k).alive then Err NotLiving
    else (if nat_le (member_of ms k).weight r then Err WordTooLarge
    else (if nat_le unit_limit (whole ms) then Err TooManyUnits
    else (if nat_lt (whole ms) (2 * most ms) then Err OverHalf
    else Ok tt)))

-- the answer where memory for so many cents is lent; want of memory is told of before all else
abbrev pub share_answer : ℕ → List Member → ℕ → ℕ → Result (Unit {0}) Unshared
share_answer room ms k r = if nat_lt room (length ms) then Err ShortMemory else grounds ms k r

-- the memory for cents after an answer: what each member gets, and behind that all as it was; after a refusal all as it was
abbrev pub cents_after : Result (Unit {0}) Unshared → List Member → ℕ → ℕ → List ℕ → List ℕ
cents_after (Ok x) ms k r cents = given ms k r ++ drop (length ms) cents
cents_after (Err e) ms k r cents = cents

-- a stake went to the others who live: the places of the members add up to it, and there is nothing at the dead one's own nor at those of the others who are dead
pub record ToOthers (ms : List Member) (k : ℕ) (cents : List ℕ) : Type 0 where
  pub all : sum (take (length ms) cents) ≡ (member_of ms k).stake
  pub own : slice_index_or cents k 0 ≡ 0
  pub dead : (j : ℕ) → j < length ms → (member_of ms j).alive ≡ false → slice_index cents j ≡ 0

-- What follows serves functions that no other crate can call.

-- the estate of the member at place k, with the word r
pub record LeftBy (ms : List Member) (k r : ℕ) (e : Estate) : Type 0 where
  pub size : e.circle.size ≡ whole ms
  pub largest : e.circle.largest ≡ most ms
  pub first : e.first ≡ start ms k + r
  pub step : e.step ≡ (member_of ms k).weight
  pub cents : e.cents ≡ at_risk (member_of ms k)

-- an answer without what it hands on
abbrev pub bare : {X : Type 0} → Result X Unshared → Result (Unit {0}) Unshared
bare (Ok x) = Ok tt
bare (Err e) = Err e

-- the unit that cent c of an estate lands on: the one that it stands for, turned
abbrev pub landing : Estate → ℕ → ℕ
landing e c = turned e.circle.size e.circle.largest (e.first + c * e.step)

-- the place of the member that cent c of an estate is dealt to: the owner of the unit that it lands on
abbrev pub dealt_to : List Member → Estate → ℕ → ℕ
dealt_to ms e c = owner ms (landing e c)

-- how many of the first n cents of an estate the member at place j is dealt
abbrev pub dealt : List Member → Estate → ℕ → ℕ → ℕ
dealt ms e j n = span (λ c. bit (dealt_to ms e c == j)) n
