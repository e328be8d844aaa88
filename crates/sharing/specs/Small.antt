-- Small societies, worked out. Assumes nothing: these are definitions and a statement.
use Rattle.std.specs.Prelude.{◌≡◌, ℕ, suc, List, [], ◌∷◌}
use Rattle.members.specs.Limits.{first_age}
use Rattle.members.specs.Members.{newcomer}
use Rattle.members.specs.declared.member.Member.{Member}
use Rattle.sharing.specs.Sharing.{given}

-- new members with these weights and stakes, numbered from n on; what they share out does not depend on their ages
abbrev pub numbered : ℕ → List (ℕ × ℕ) → List Member
numbered n [] = []
numbered n (e ∷ es) = newcomer n first_age e.0 e.1 ∷ numbered (suc n) es

-- the society of these weights and stakes
abbrev pub society : List (ℕ × ℕ) → List Member
society es = numbered 0 es

-- two members with the same units: the stake of one goes to the other
abbrev pub equals : List Member
equals = society ((1, 10) ∷ ((1, 10) ∷ []))

-- three members, of whom the first has just half of all units
abbrev pub half : List Member
half = society ((1, 6) ∷ ((1, 4) ∷ ((1, 2) ∷ [])))

-- what each gets in them when one dies
pub record SmallShares : Type 0 where
  pub equals_first : given equals 0 0 ≡ 0 ∷ (10 ∷ [])
  pub half_first : given half 0 0 ≡ 0 ∷ (4 ∷ (2 ∷ []))
  pub half_second : given half 1 0 ≡ 4 ∷ (0 ∷ (0 ∷ []))
  pub half_third : given half 2 0 ≡ 2 ∷ (0 ∷ (0 ∷ []))
