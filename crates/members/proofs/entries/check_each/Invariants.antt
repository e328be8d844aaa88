use Rattle.members.specs.Checks.{AllGood}
use Rattle.std.specs.Int.{is_in_range}
use Rattle.members.proofs.entries.check_each.Given as goal

abbrev pub invariant-loop-i : goal.invariant-loop-i
invariant-loop-i g l = AllGood (goal.N-post g l.number) (is_in_range l.bounds.low l.bounds.high) l.i
