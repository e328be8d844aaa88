use Rattle.std.proofs.Common.{◌≡◌, ◌++◌, map, drop}
use Rattle.std.specs.List.{range_with_len}
use Rattle.members.specs.Heads.{member_at}
use Rattle.members.proofs.entries.Founding.seat.Given as goal

abbrev pub invariant-loop-number : goal.invariant-loop-number
invariant-loop-number l = l.members ≡ map (member_at l.self.entries.book.now) (range_with_len 0 l.number) ++ drop l.number l.initial.members
