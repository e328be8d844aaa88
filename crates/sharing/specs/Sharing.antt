-- What each member gets of a dead one's stake. Assumes nothing: these are definitions.
use Rattle.std.specs.Prelude.{ℕ, ◌+◌, ◌*◌, ◌≤◌, if◌then◌else◌, List, map, length, ◌==◌}
use Rattle.std.specs.List.{range_with_len}
use Rattle.members.specs.declared.member.Member.{Member}
use Rattle.circle.specs.Circle.{at_risk, units, whole, most, start, owner, turned, member_of}
use Rattle.circle.specs.Sums.{span, bit}

-- the place of the member to whom unit u falls: the owner of the unit into which the largest holding turns it
unfoldable pub falls_to : List Member → ℕ → ℕ
falls_to ms u = owner ms (turned (whole ms) (most ms) u)

-- the unit that cent c stands for when the member at place k dies and the word is r: one of its units, each cent a weight further on
unfoldable pub stands_for : List Member → ℕ → ℕ → ℕ → ℕ
stands_for ms k r c = start ms k + (c * (member_of ms k).weight + r)

-- the cents that the member at place j gets when the one at place k dies and the word is r: those that stand for a unit which falls to it
unfoldable pub gets : List Member → ℕ → ℕ → ℕ → ℕ
gets ms j k r = span (λ c. bit (falls_to ms (stands_for ms k r c) == j)) (at_risk (member_of ms k))

-- what each member gets then, in the order of the list
abbrev pub given : List Member → ℕ → ℕ → List ℕ
given ms k r = map (λ j. gets ms j k r) (range_with_len 0 (length ms))

-- nobody has more than half of all units
abbrev pub Balanced : List Member → Type 0
Balanced ms = 2 * most ms ≤ whole ms

-- the sum of f over the numbers below n but for k
abbrev pub span_others : ℕ → (ℕ → ℕ) → ℕ → ℕ
span_others k f n = span (λ i. if i == k then 0 else f i) n

-- what the member at place j stands to get at the next death: over all deaths of others and all words, its cents
unfoldable pub stands_to_get : List Member → ℕ → ℕ
stands_to_get ms j = span_others j (λ k. span (λ r. gets ms j k r) (member_of ms k).weight) (length ms)

-- what the member at place k stands to lose at the next death: over all words at its own, the cents that others get
unfoldable pub stands_to_lose : List Member → ℕ → ℕ
stands_to_lose ms k = span (λ r. span_others k (λ j. gets ms j k r) (length ms)) (member_of ms k).weight

-- how many units of the member at place k fall to the one at place j
unfoldable pub units_to : List Member → ℕ → ℕ → ℕ
units_to ms j k = span (λ x. bit (falls_to ms (start ms k + x) == j)) (units (member_of ms k))
