use Rattle.std.proofs.Common.{◌≡◌, ◌++◌, length, drop, sym, ap, ◌∙◌, subst, arith, rules}
use Rattle.std.proofs.lemmas.Bool.Decides.{nat_tests}
use Rattle.sharing.specs.Answers.{ToOthers}
use Rattle.sharing.proofs.Shares.{dealt_given, to_others, one_death}
use Rattle.sharing.proofs.dealing.share.Goals as goal

pub returns-in_err-cents-clause-death : goal.returns-in_err-cents-clause-death
returns-in_err-cents-clause-death c = one_death

pub returns-in_err-estate-clause-death : goal.returns-in_err-estate-clause-death
returns-in_err-estate-clause-death c = one_death

pub returns : goal.returns
returns c =
    let ms = c.args.members.now in
    let estate = c.in_ok-estate.ensures in
    let behind : c.in_ok-cents.field-0-1.now ≡ drop (length ms) c.args.cents.now = search rules in
    let dealt = c.deal.ensures ∙ dealt_given ms c.args.dead c.args.word _ estate.left in
    let after = ap (λ back. c.deal.new.cents ++ back) behind ∙ ap (λ front. front ++ drop (length ms) c.args.cents.now) dealt in
    record {
      value = grind (arith, nat_tests);
      cents = after;
      others = subst (λ cents. ToOthers ms c.args.dead cents) (sym after) (to_others ms c.args.dead c.args.word _ estate.value);
      death = one_death;
    }
