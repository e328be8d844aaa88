-- How many units there can be. Assumes nothing.
use Rattle.std.proofs.Common.{◌≡◌, ◌*◌, ◌≤◌, true, false, List, [], ◌∷◌, length, ⊎_elim, arith}
use Rattle.std.proofs.lemmas.Nat.{mul-le}
use Rattle.std.proofs.lemmas.Bool.{cases_Bool}
use Rattle.members.specs.Limits.{most_weight, most_stake}
use Rattle.members.specs.declared.member.Member.{Member}
use Rattle.circle.specs.Circle.{at_risk, all_at_risk, units, whole}
use Rattle.circle.specs.Laws.{UnitsBounded}

-- the living risk their stake and the dead nothing
pub at_risk_living : (m : Member) → m.alive ≡ true → at_risk m ≡ m.stake
unfolding at_risk
at_risk_living m e = rw e

pub at_risk_dead : (m : Member) → m.alive ≡ false → at_risk m ≡ 0
unfolding at_risk
at_risk_dead m e = rw e

at_risk_le : (m : Member) → at_risk m ≤ most_stake
at_risk_le m =
    ⊎_elim
    (λ (e : m.alive ≡ true). omega (arith, at_risk_living m e, m.staked.1))
    (λ (e : m.alive ≡ false). omega (arith, at_risk_dead m e))
    (cases_Bool m.alive)

-- so the dead have no units
pub units_dead : (m : Member) → m.alive ≡ false → units m ≡ 0
unfolding units
units_dead m e = let z = at_risk_dead m e in rw z (omega arith)

pub units_living : (m : Member) → m.alive ≡ true → units m ≡ m.weight * m.stake
unfolding units
units_living m e = let z = at_risk_living m e in rw z

-- a cent at risk gives no more units than the largest weight
units_le : (m : Member) → units m ≤ most_weight * at_risk m
unfolding units
units_le m = mul-le m.weight (at_risk m) most_weight (at_risk m) m.weighs.1 (omega arith)

whole_le : (ms : List Member) → whole ms ≤ most_weight * all_at_risk ms
unfolding whole all_at_risk
whole_le [] = omega arith
whole_le (m ∷ ms) = omega (arith, units_le m, whole_le ms)

all_at_risk_le : (ms : List Member) → all_at_risk ms ≤ most_stake * length ms
unfolding all_at_risk
all_at_risk_le [] = omega arith
all_at_risk_le (m ∷ ms) = omega (arith, at_risk_le m, all_at_risk_le ms)

pub units_bounded : UnitsBounded
units_bounded ms = record {
  cents = whole_le ms;
  small = λ h. (omega (arith, whole_le ms), omega (arith, whole_le ms));
  few = λ h. omega (arith, all_at_risk_le ms);
}
