-- The number and the place by which a refusal is told. Assumes nothing.
use Rattle.std.specs.Prelude.{◌≡◌, ℕ, List, ◌++◌, codes, decimal}
use Rattle.members.specs.declared.refusal.Memory.{Memory}
use Rattle.members.specs.declared.refusal.Memory.TheVariants as memory
use Rattle.members.specs.declared.refusal.Refusal.{Refusal}
use Rattle.members.specs.declared.refusal.Refusal.TheVariants.{Count, Table, Age, Stake, Short}

-- the number of a refusal
abbrev pub number_of : Refusal → ℕ
number_of Count = 1
number_of (Table place) = 2
number_of (Age member) = 3
number_of (Stake member) = 4
number_of (Short memory) = 10

-- the place of a memory among those that are lent
abbrev pub memory_place : Memory → ℕ
memory_place memory.Members = 0
memory_place memory.Cents = 1
memory_place memory.Lines = 2

-- the place of a refusal: a place of the book, a member or a memory
abbrev pub place_of : Refusal → ℕ
place_of Count = 0
place_of (Table place) = place
place_of (Age member) = member
place_of (Stake member) = member
place_of (Short memory) = memory_place memory

-- how a refusal is told, as bytes
abbrev pub told_as : Refusal → List ℕ
told_as r = codes "refused " ++ decimal (number_of r) ++ codes " at " ++ decimal (place_of r)

-- number and place tell refusals apart
abbrev pub ToldApart : Type 0
ToldApart = (a b : Refusal) → number_of a ≡ number_of b → place_of a ≡ place_of b → a ≡ b
