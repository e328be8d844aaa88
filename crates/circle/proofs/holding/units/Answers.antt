use Rattle.std.proofs.Common.{sym, ◌∙◌, arith}
use Rattle.circle.proofs.Bounds.{units_living, units_dead}
use Rattle.circle.proofs.holding.units.Goals as goal

pub returns-then-member : goal.returns-then-member
returns-then-member c = record { value = c.exposure.ensures.value ∙ sym (units_living c.args.member.now c.if-member.true); bound = c.exposure.ensures.bound }

pub returns-else-member : goal.returns-else-member
returns-else-member c = record { value = sym (units_dead c.args.member.now c.if-member.false); bound = omega arith }
