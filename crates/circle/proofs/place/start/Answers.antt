use Rattle.std.proofs.Common.{◌≡◌, ℕ, ◌<◌, List, length, Some, None, ◌∙◌, arith, rules}
use Rattle.std.proofs.lemmas.Bool.Decides.{nat_tests}
use Rattle.members.specs.declared.member.Member.{Member}
use Rattle.circle.specs.Answers.{circle_answer, start_answer}
use Rattle.circle.specs.Circle.{whole, start}
use Rattle.circle.proofs.Owners.{start-take, end_to_end}
use Rattle.circle.proofs.place.start.Goals as goal

-- a start is the size of the circle of those before, where they have not too many units
module _ (ms before : List Member) (place : ℕ) (is : start ms place ≡ whole before) where
  none_before : None ≡ circle_answer before → None ≡ start_answer ms place
  none_before none = grind (arith, nat_tests)

  size_before : (size largest : ℕ) → place < length ms → Some (size, largest) ≡ circle_answer before → Some size ≡ start_answer ms place
  size_before size largest inside some = grind (arith, nat_tests)

pub returns-then-place-members : goal.returns-then-place-members
returns-then-place-members c = record { value = search rules; filled = end_to_end }

pub returns-in_err-before : goal.returns-in_err-before
returns-in_err-before c =
    let is = start-take c.args.members.now c.args.place in
    record { value = c.from_residual.ensures ∙ none_before c.args.members.now _ c.args.place is c.in_err-before.ensures.value; filled = end_to_end }

pub returns : goal.returns
returns c =
    let is = start-take c.args.members.now c.args.place in
    record { value = size_before c.args.members.now _ c.args.place is _ _ c.if-place-members.false c.in_ok-before.ensures.value; filled = end_to_end }
