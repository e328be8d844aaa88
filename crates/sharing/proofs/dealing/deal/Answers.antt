use Rattle.std.proofs.Common.{◌≡◌, eqb, length, get_or, replicate, sym, refl, ap, ◌∙◌, subst, arith}
use Rattle.std.proofs.lemmas.List.FromFn.{fill_by_all}
use Rattle.circle.specs.Circle.{owner}
use Rattle.circle.proofs.Turns.{turned_below}
use Rattle.circle.proofs.Walks.{Next, whole_next, owner_next, owner_further, whole_done}
use Rattle.sharing.specs.Answers.{dealt_to, dealt}
use Rattle.sharing.proofs.Counts.{Counted, count_le, counted_none, counted_more}
use Rattle.sharing.proofs.dealing.deal.Goals as goal
use Rattle.sharing.proofs.dealing.deal.Goals.{After-units-held}

-- at each step of the inner loop the walk goes over the next member
next : (c : After-units-held) → Next c.args.members.now c.loop-place.place c.units-held.result
next c = record { member = c.index-members-place.result; inside = c.loop-place-test.true; here = c.index-members-place.is; holds = c.units-held.ensures.value }

pub cents-init : goal.cents-init
cents-init c = counted_none (dealt_to c.args.members.now c.args.estate.now) _ _ (c.fill.ensures.after (λ y e. e) ∙ ap (λ n. replicate n 0) c.requires.places)

pub loop-place-init : goal.loop-place-init
loop-place-init c =
    let e = c.args.estate.now in
    let below = turned_below e.circle.size e.circle.largest _ e.circle.within (e.within c.cents.cent (omega arith)) in
    (refl, omega (arith, below), omega (arith, ap (owner c.args.members.now) c.landing-left.ensures))

pub overflow_add-cents : goal.overflow_add-cents
overflow_add-cents c =
    let place = c.loop-place.place in
    omega (
      arith,
      ap (λ out. get_or out place 0) c.loop-place.invariant.0,
      c.cents.invariant place c.loop-place-test.true,
      count_le (λ n. eqb (dealt_to c.args.members.now c.args.estate.now n) place) c.cents.cent,
    )

pub cents-preserved-then-left-held : goal.cents-preserved-then-left-held
cents-preserved-then-left-held c =
    let to = dealt_to c.args.members.now c.args.estate.now in
    let here = next (goal.at.cents-preserved-then-left-held c).After-units-held in
    let first = owner_next here c.loop-place.left c.if-left-held.true in
    counted_more to _ c.loop-place.cents c.cents.cent c.loop-place.place (omega arith) (omega arith)
    (subst (λ out. Counted to (length c.args.members.now) out c.cents.cent) (sym c.loop-place.invariant.0) c.cents.invariant)

pub loop-place-preserved : goal.loop-place-preserved
loop-place-preserved c =
    let here = next (goal.at.loop-place-preserved c).After-units-held in
    (c.loop-place.invariant.0, omega (arith, whole_next here), omega (arith, owner_further here c.loop-place.left (omega arith)))

pub cents-preserved : goal.cents-preserved
cents-preserved c = absurd (omega (arith, whole_done c.args.members.now c.loop-place.place c.loop-place-test.false))

pub returns : goal.returns
returns c = fill_by_all (λ j. dealt c.args.members.now c.args.estate.now j c.args.estate.now.cents) c.cents.cents _ 0 (omega arith)
    (let done : c.cents.cent ≡ c.args.estate.now.cents = omega arith in rw (← done) c.cents.invariant)
