use Rattle.std.proofs.Common.{◌≡◌, ◌+◌, length}
use Rattle.members.specs.Lines.{line_count}
use Rattle.members.proofs.line.count_lines.Given as goal

abbrev pub invariant-loop-rest : goal.invariant-loop-rest
invariant-loop-rest l = l.count + line_count l.left ≡ line_count l.part

abbrev pub decreases-loop-rest : goal.decreases-loop-rest
decreases-loop-rest l = length l.left
