use Rattle.std.proofs.Common.{below_more, rules}
use Rattle.members.proofs.entries.check_each.Goals as goal

pub loop-i-preserved : goal.loop-i-preserved
loop-i-preserved g c = below_more _ _ c.loop-i.invariant (c.number.result, c.number.ensures, search rules)
