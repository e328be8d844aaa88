-- The bounds of a society, as facts and as tests, and the places of its parts in a book. Assumes nothing.
use Rattle.std.specs.Prelude.{ℕ, ◌+◌, ◌*◌, min, max, Bool}
use Rattle.std.specs.Int.{is_in_range, IsInRange}

-- a society has 1 to this many members
abbrev pub most_members : ℕ
most_members = 64

-- a weight, the deaths in a year among 100,000 people of one age, is 1 to this
abbrev pub most_weight : ℕ
most_weight = 100000

-- a stake in cents is 1 to this
abbrev pub most_stake : ℕ
most_stake = 100000000

-- ages run from the first to the last
abbrev pub first_age : ℕ
first_age = 40

-- the last of them
abbrev pub last_age : ℕ
last_age = 110

-- how many ages there are
abbrev pub ages : ℕ
ages = 71

-- where the table stands in a book: after the byte that counts the members
abbrev pub table_at : ℕ
table_at = 1

-- the bytes of a weight
abbrev pub weight_size : ℕ
weight_size = 4

-- where the members stand: after the table
abbrev pub members_at : ℕ
members_at = table_at + weight_size * ages

-- the bytes of a member: one of age and four of stake
abbrev pub member_size : ℕ
member_size = 5

-- w can be a weight
abbrev pub Weight : ℕ → Type 0
Weight w = IsInRange 1 most_weight w

-- s can be a stake
abbrev pub Stake : ℕ → Type 0
Stake s = IsInRange 1 most_stake s

-- whether w can be a weight
abbrev pub good_weight : ℕ → Bool
good_weight w = is_in_range 1 most_weight w

-- whether s can be a stake
abbrev pub good_stake : ℕ → Bool
good_stake s = is_in_range 1 most_stake s

-- whether a can be the age of a member
abbrev pub good_age : ℕ → Bool
good_age a = is_in_range first_age last_age a

-- whether n can be the number of members
abbrev pub good_count : ℕ → Bool
good_count n = is_in_range 1 most_members n

-- n brought into the bounds 1 and most, which changes nothing within them
abbrev pub clamped : ℕ → ℕ → ℕ
clamped most n = max 1 (min n most)
