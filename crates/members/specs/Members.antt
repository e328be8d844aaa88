-- Members as values. Assumes nothing.
use Rattle.std.specs.Prelude.{ℕ, true, false, List, ◌++◌, codes, decimal}
use Rattle.std.proofs.Common.{arith}
use Rattle.members.specs.Limits.{most_weight, most_stake, clamped}
use Rattle.members.specs.declared.member.Member.{Member}

-- a living member that was paid nothing yet. A member's bounds are part of it, so a number out of bounds is brought into them; no member is made from such numbers
abbrev pub newcomer : ℕ → ℕ → ℕ → ℕ → Member
newcomer number age weight stake = record {
  number = number;
  age = age;
  weight = clamped most_weight weight;
  stake = clamped most_stake stake;
  paid = 0;
  alive = true;
  weighs = (omega arith, omega arith);
  staked = (omega arith, omega arith);
}

-- what stands in a place of lent memory that no member has taken
abbrev pub nobody : Member
nobody = record { number = 0; age = 0; weight = 1; stake = 1; paid = 0; alive = false; weighs = (omega arith, omega arith); staked = (omega arith, omega arith) }

-- how it is told, as bytes, what a member was paid
abbrev pub paid_line : Member → List ℕ
paid_line m = decimal m.number ++ codes " paid " ++ decimal m.paid
