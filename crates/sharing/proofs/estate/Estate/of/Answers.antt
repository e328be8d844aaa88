use Rattle.std.proofs.Common.{ℕ, ◌+◌, ◌*◌, ◌<◌, ◌≤◌, sym, ap, ◌∙◌, arith, rules}
use Rattle.std.proofs.lemmas.Bool.Decides.{nat_tests}
use Rattle.circle.specs.Circle.{whole, most}
use Rattle.circle.proofs.Bounds.{at_risk_living}
use Rattle.sharing.proofs.Estates.{living_in, found, start_lost, Found, all_found, cent_within}
use Rattle.sharing.proofs.estate.Estate.of.Goals as goal
use Rattle.sharing.proofs.estate.Estate.of.Goals.{After-from-weight}

pub returns-in_default-start : goal.returns-in_default-start
returns-in_default-start c =
    let ms = c.args.members.now in
    let member = found ms c.args.dead _ c.in-Some.ensures in
    let many = start_lost ms c.args.dead (living_in ms c.args.dead member.0) c.in_default-start.ensures.value in
    let weight = ap (λ m. m.weight) member.1 in
    record { value = grind (arith, nat_tests); left = tt }

-- what is known of what was found
known : (c : After-from-weight) → Found c.args.members.now c.args.dead c.in-Some.member c.in-Some-start.from c.in-Some-of.circle.size c.in-Some-of.circle.largest
known c = all_found c.args.members.now c.args.dead _ _ _ _ c.in-Some.ensures c.in-Some-start.ensures.value c.in-Some-of.ensures.value

-- the unit of each cent lies on the circle
within : (c : After-from-weight) (n : ℕ) → n < c.in-Some.member.stake → c.in-Some-start.from + c.from-word.result + n * c.from-weight.result < c.in-Some-of.circle.size
within c n h =
    let f = known c in
    omega (arith, cent_within c.args.members.now c.args.dead c.args.word n f.alive (omega arith) (omega arith), ap (λ w. n * w) (c.from-weight.ensures ∙ f.weight))

pub invariant_of-result : goal.invariant_of-result
invariant_of-result c = let lies = within (goal.at.invariant_of-result c).After-from-weight in search rules

pub returns : goal.returns
returns c =
    let f = known (goal.at.returns c).After-from-weight in
    -- said by itself, so that code which shares above the half is refused here
    let half : 2 * most c.args.members.now ≤ whole c.args.members.now = omega (arith, f.all, f.most) in
    record { value = grind (arith, nat_tests); left = record { size = f.all; largest = f.most; first = omega arith; step = omega arith; cents = f.stake ∙ sym (at_risk_living _ f.alive) } }
