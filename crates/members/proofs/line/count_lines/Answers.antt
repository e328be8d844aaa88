use Rattle.std.proofs.Common.{sym, arith, true-eqb, false-eqb}
use Rattle.members.proofs.Lines.{count_none, count_last, count_more, count_some, count_le, shorter}
use Rattle.members.proofs.Written.{line_is_its_bytes}
use Rattle.members.proofs.line.count_lines.Goals as goal

pub overflow_add-count : goal.overflow_add-count
overflow_add-count c = omega (arith, count_le c.args.part.now, count_more c.loop-rest.left.now _ (sym c.in-Some.ensures))

pub loop-rest-smaller : goal.loop-rest-smaller
loop-rest-smaller c = shorter c.loop-rest.left.now _ (sym c.in-Some.ensures)

pub loop-rest-preserved : goal.loop-rest-preserved
loop-rest-preserved c = omega (arith, count_more c.loop-rest.left.now _ (sym c.in-Some.ensures))

pub overflow_add-result : goal.overflow_add-result
overflow_add-result c = omega (arith, count_le c.args.part.now, count_some c.loop-rest.left.now (omega (arith, false-eqb _ 0 c.if-is_empty.ensures)))

pub returns-then-is_empty-clause-value : goal.returns-then-is_empty-clause-value
returns-then-is_empty-clause-value c = omega (arith, count_none c.loop-rest.left.now (true-eqb _ 0 c.if-is_empty.ensures))

pub returns-else-is_empty-clause-value : goal.returns-else-is_empty-clause-value
returns-else-is_empty-clause-value c = omega (arith, count_last c.loop-rest.left.now (omega (arith, false-eqb _ 0 c.if-is_empty.ensures)) (sym c.in_default.ensures))

pub returns-then-is_empty-clause-line_bytes : goal.returns-then-is_empty-clause-line_bytes
returns-then-is_empty-clause-line_bytes c = line_is_its_bytes

pub returns-else-is_empty-clause-line_bytes : goal.returns-else-is_empty-clause-line_bytes
returns-else-is_empty-clause-line_bytes c = line_is_its_bytes
