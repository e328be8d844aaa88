use Rattle.std.proofs.Common.{arith}
use Rattle.members.specs.Heads.{member_at}
use Rattle.members.proofs.Places.{seat_more}
use Rattle.members.proofs.entries.Founding.seat.Goals as goal

pub loop-number-preserved : goal.loop-number-preserved
loop-number-preserved c =
    seat_more (member_at c.args.self.now.entries.book.now) c.args.members.now _ c.loop-number.number _ (omega arith) c.loop-number.invariant c.member.ensures
