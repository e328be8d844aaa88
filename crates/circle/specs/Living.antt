-- The circle when members without units are taken out of the list. Assumes nothing: these are definitions and statements.
use Rattle.std.specs.Prelude.{◌≡◌, ℕ, zero, suc, ◌<◌, if◌then◌else◌, List, [], ◌∷◌, length}
use Rattle.members.specs.declared.member.Member.{Member}
use Rattle.circle.specs.Circle.{units, whole, most, start, owner, member_of}

-- those who live, in their order
unfoldable pub living : List Member → List Member
living [] = []
living (m ∷ ms) = if m.alive then m ∷ living ms else living ms

-- the place in the list of the i-th of those who live; past the last of them, a place past the list's end
unfoldable pub stood : List Member → ℕ → ℕ
stood [] i = i
stood (m ∷ ms) zero = if m.alive then 0 else suc (stood ms 0)
stood (m ∷ ms) (suc i) = if m.alive then suc (stood ms i) else suc (stood ms (suc i))

-- all but the member at place k, in their order
unfoldable pub without : ℕ → List Member → List Member
without k [] = []
without zero (m ∷ ms) = ms
without (suc k) (m ∷ ms) = m ∷ without k ms

-- the place in the list of the i-th of all but the member at place k
unfoldable pub skip : ℕ → ℕ → ℕ
skip zero i = suc i
skip (suc k) zero = 0
skip (suc k) (suc i) = suc (skip k i)

-- ns, whose i-th member stands at place (at i) of ms, makes the same circle as ms
pub record SameCircle (at : ℕ → ℕ) (ns ms : List Member) : Type 0 where
  -- as many units, and the same largest holding
  pub size : whole ns ≡ whole ms
  pub largest : most ns ≡ most ms
  -- the members of ns stand in ms in the same order, each is the same there, and its units start at the same unit
  pub inside : (i : ℕ) → i < length ns → at i < length ms
  pub order : (i j : ℕ) → i < j → j < length ns → at i < at j
  pub member : (i : ℕ) → i < length ns → member_of ns i ≡ member_of ms (at i)
  pub starts : (i : ℕ) → i < length ns → start ns i ≡ start ms (at i)
  -- each unit has the same owner, by its place and by all that it is, its number too
  pub place : (u : ℕ) → u < whole ms → owner ms u ≡ at (owner ns u)
  pub name : (u : ℕ) → u < whole ms → member_of ms (owner ms u) ≡ member_of ns (owner ns u)

-- taking out a member without units changes nothing
abbrev pub NoUnitsNoChange : Type 0
NoUnitsNoChange = (k : ℕ) (ms : List Member) → units (member_of ms k) ≡ 0 → SameCircle (skip k) (without k ms) ms

-- taking out all the dead changes nothing
abbrev pub DeadChangeNothing : Type 0
DeadChangeNothing = (ms : List Member) → SameCircle (stood ms) (living ms) ms
