use Rattle.std.proofs.Common.{arith, rules}
use Rattle.std.proofs.lemmas.Bool.Decides.{nat_tests}
use Rattle.circle.specs.Circle.{turned}
use Rattle.circle.proofs.Turns.{turn_permutes}
use Rattle.circle.proofs.circle.Circle.turned.Goals as goal

pub returns-then-unit-self : goal.returns-then-unit-self
returns-then-unit-self c = record { value = search rules; permutes = turn_permutes }

pub returns-then-moved-self : goal.returns-then-moved-self
unfolding turned
returns-then-moved-self c = record { value = grind (arith, nat_tests); permutes = turn_permutes }

pub returns-else-moved-self : goal.returns-else-moved-self
unfolding turned
returns-else-moved-self c = record { value = grind (arith, nat_tests); permutes = turn_permutes }
