use Rattle.std.proofs.Common.{rules}
use Rattle.members.specs.Heads.{stake_at}
use Rattle.members.specs.declared.refusal.Refusal.TheVariants.{Stake}
use Rattle.members.proofs.Checks.{told}
use Rattle.members.proofs.entries.Entries.check_stakes.Goals as goal

pub returns : goal.returns
returns c = told _ _ (stake_at c.args.self.now.book.now) _ (λ i m h given. search rules) Stake c.check_each.result c.map_err.result c.check_each.ensures.good c.check_each.ensures.bad (search rules)
