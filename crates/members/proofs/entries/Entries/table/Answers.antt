use Rattle.std.proofs.Common.{◌≡◌, rules}
use Rattle.members.specs.Heads.{weights_of, weights_whole, weights_bounded}
use Rattle.members.proofs.Same.{same_table}
use Rattle.members.proofs.Tables.{weights_made}
use Rattle.members.proofs.entries.Entries.table.Goals as goal
use Rattle.members.proofs.entries.Entries.table.Goals.{After-from_fn}

made : (c : After-from_fn) → c.from_fn.result ≡ weights_of c.args.self.now.book.now
made c = weights_made _ _ c.args.self.now.book.now _ c.requires (λ k x q h called. search rules) c.from_fn.ensures.items

pub invariant_of-result : goal.invariant_of-result
invariant_of-result c =
    let is = made c in
    rw is (record { whole = weights_whole c.args.self.now.book.now; weighs = weights_bounded c.args.self.now.book.now })

pub returns : goal.returns
returns c = same_table _ _ (made (goal.at.returns c).After-from_fn)
