use Rattle.std.proofs.Common.{rules}
use Rattle.members.specs.Heads.{weight_at}
use Rattle.members.specs.declared.refusal.Refusal.TheVariants as refusal
use Rattle.members.proofs.Checks.{told}
use Rattle.members.proofs.entries.Entries.check_weights.Goals as goal

pub returns : goal.returns
returns c = told _ _ (weight_at c.args.self.now.book.now) _ (λ i m h given. search rules) refusal.Table c.check_each.result c.map_err.result c.check_each.ensures.good c.check_each.ensures.bad (search rules)
