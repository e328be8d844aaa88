use Rattle.std.proofs.Common.{◌≡◌, ap, rules}
use Rattle.members.specs.Heads.{bad_weight, bad_age, bad_stake}
use Rattle.members.specs.Limits.{ages}
use Rattle.members.specs.declared.refusal.Refusal.TheVariants as refusal
use Rattle.members.proofs.Checks.{passes, none_refused}
use Rattle.members.proofs.entries.Entries.checked.Goals as goal
use Rattle.members.proofs.entries.Entries.checked.Goals.{In_ok-check_stakes}

-- nothing is bad after the three checks
weights : (c : In_ok-check_stakes) → bad_weight c.args.self.now.book.now ≡ ages
weights c = none_refused _ ages refusal.Table (search rules)

aged : (c : In_ok-check_stakes) → bad_age c.args.self.now.book.now c.args.self.now.count ≡ c.args.self.now.count
aged c = none_refused _ _ refusal.Age (search rules)

staked : (c : In_ok-check_stakes) → bad_stake c.args.self.now.book.now c.args.self.now.count ≡ c.args.self.now.count
staked c = none_refused _ _ refusal.Stake (search rules)

pub table-requires : goal.table-requires
table-requires c = weights (goal.at.table-requires c).In_ok-check_stakes

pub invariant_of-result : goal.invariant_of-result
invariant_of-result c =
    let d = (goal.at.invariant_of-result c).In_ok-check_stakes in
    record { weights = ap (λ t. t.weights) c.table.ensures; weighed = passes _ _ (weights d); aged = passes _ _ (aged d); staked = passes _ _ (staked d) }
