-- Numbers in a book, and the weights of a table. Assumes nothing.
use Rattle.std.specs.Prelude.{ℕ, ◌-◌, ◌<◌, List, slice_index_or, All}
use Rattle.std.specs.Int.{w32, from_le_bytes, to_le_bytes}
use Rattle.members.specs.Limits.{first_age}

-- each of these numbers is a byte
abbrev pub Bytes : List ℕ → Type 0
Bytes bs = All (λ b. b < 256) bs

-- the number that the first four bytes write, the low one first; a byte that is not there counts as 0
abbrev pub number_in : List ℕ → ℕ
number_in bs = from_le_bytes w32 bs

-- the four bytes that write a number below 2^32, the low one first
abbrev pub number_bytes : ℕ → List ℕ
number_bytes n = to_le_bytes w32 n

-- the weight of somebody of an age, by a table that begins with the first age
abbrev pub weight_for : List ℕ → ℕ → ℕ
weight_for weights age = slice_index_or weights (age - first_age) 1
