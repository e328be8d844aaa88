-- What the functions answer, over the definitions of the circle. Assumes nothing: these are definitions and a statement.
use Rattle.std.specs.Prelude.{◌≡◌, ℕ, if◌then◌else◌, ◌&&◌, List, length, Some, None, Option, nat_lt}
use Rattle.std.specs.Option.{option_map}
use Rattle.members.specs.declared.member.Member.{Member}
use Rattle.circle.specs.Circle.{unit_limit, whole, most, start, owner, turned}
use Rattle.circle.specs.declared.circle.Circle.{Circle}

-- all units and the largest holding of these members, or none where there are too many units
abbrev pub circle_answer : List Member → Option (ℕ × ℕ)
circle_answer ms = if nat_lt (whole ms) unit_limit then Some (whole ms, most ms) else None

-- where the units of the member at a place start, or none where there is no such member or too many units lie before it
abbrev pub start_answer : List Member → ℕ → Option ℕ
start_answer ms place = if nat_lt place (length ms) && nat_lt (start ms place) unit_limit then Some (start ms place) else None

-- the place of the member whose unit u is, or none where there is no such unit
abbrev pub owner_answer : List Member → ℕ → Option ℕ
owner_answer ms u = if nat_lt u (whole ms) then Some (owner ms u) else None

-- unit u of this circle, turned by its largest holding, or none where there is no such unit
abbrev pub turn_answer : Circle → ℕ → Option ℕ
turn_answer c u = if nat_lt u c.size then Some (turned c.size c.largest u) else None

-- the two numbers of a circle, where there is one
abbrev pub numbers : Option Circle → Option (ℕ × ℕ)
numbers r = option_map (λ c. (c.size, c.largest)) r

-- the two numbers tell circles apart
abbrev pub ToldByNumbers : Type 0
ToldByNumbers = (r s : Option Circle) → numbers r ≡ numbers s → r ≡ s
