-- One death: where the dead one's units fall, and what that comes to over all words and all deaths. Assumes nothing.
use Rattle.std.proofs.Common.{◌≡◌, ℕ, ◌+◌, ◌*◌, ◌<◌, ◌≤◌, eqb, List, length, sym, refl, ap, ◌∙◌, subst, ⊎_elim, arith}
use Rattle.std.proofs.lemmas.Nat.{mul-add-lt}
use Rattle.std.proofs.lemmas.Bool.{eq-eqb, ne_eqb, cases_lt, cases_eq, cond-true, cond-false}
use Rattle.members.specs.declared.member.Member.{Member}
use Rattle.circle.specs.Circle.{at_risk, units, whole, most, start, owner, turned, member_of, Holds}
use Rattle.circle.specs.Sums.{span, bit}
use Rattle.circle.proofs.Owners.{block_in, end_to_end, owner_in, owner_holds, held_owner, owns_its_units, most_ge, most_whole}
use Rattle.circle.proofs.Sums.{span_ext, span_none, span_same, span_swap, span_one, span_last_digit}
use Rattle.circle.proofs.Turns.{turned_below, turned_straight, turned_wrapped, span_turned}
use Rattle.sharing.specs.Fair.{FairDeath, NotItsOwn, NothingWithoutUnits, AllGiven, ExactOverWords}
use Rattle.sharing.specs.Sharing.{falls_to, stands_for, gets, Balanced, span_others, stands_to_get, stands_to_lose, units_to}

-- a unit falls to the member that holds the unit into which it is turned, and to nobody else
pub falls_in : (ms : List Member) (u : ℕ) → u < whole ms → falls_to ms u < length ms
unfolding falls_to
falls_in ms u h = owner_in ms _ (turned_below (whole ms) (most ms) u (most_whole ms) h)

pub falls_holds : (ms : List Member) (j u : ℕ) → u < whole ms → falls_to ms u ≡ j → Holds ms j (turned (whole ms) (most ms) u)
unfolding falls_to
falls_holds ms j u h e = subst (λ i. Holds ms i (turned (whole ms) (most ms) u)) e (owner_holds ms _ (turned_below (whole ms) (most ms) u (most_whole ms) h))

pub holds_falls : (ms : List Member) (j u : ℕ) → Holds ms j (turned (whole ms) (most ms) u) → falls_to ms u ≡ j
unfolding falls_to
holds_falls ms j u h = held_owner ms j _ h

-- where nobody has more than half, no unit falls to its own holder
pub falls_elsewhere : (ms : List Member) (k x : ℕ) → Balanced ms → x < units (member_of ms k) → falls_to ms (start ms k + x) ≡ k → ⊥
falls_elsewhere ms k x half h e =
    let u = start ms k + x in
    let held = falls_holds ms k u (omega (arith, block_in ms k)) e in
    ⊎_elim
    (λ (s : u + most ms < whole ms). omega (arith, held.1, turned_straight (whole ms) (most ms) u s, most_ge ms k))
    (λ (s : whole ms ≤ u + most ms). omega (arith, held.0, turned_wrapped (whole ms) (most ms) u s, most_ge ms k))
    (cases_lt (u + most ms) (whole ms))

-- the units that the cents stand for are the dead one's
cent_unit : (ms : List Member) (k r c : ℕ) → r < (member_of ms k).weight → c < at_risk (member_of ms k) → c * (member_of ms k).weight + r < units (member_of ms k)
unfolding units
cent_unit ms k r c drawn h = mul-add-lt c (member_of ms k).weight r (at_risk (member_of ms k)) h drawn

-- to whom none of them falls gets nothing
none_falls : (ms : List Member) (j k r : ℕ) → r < (member_of ms k).weight → ((x : ℕ) → x < units (member_of ms k) → falls_to ms (start ms k + x) ≡ j → ⊥) → gets ms j k r ≡ 0
unfolding gets stands_for
none_falls ms j k r drawn none = span_none _ (at_risk (member_of ms k)) (λ c h. ap bit (ne_eqb _ j (none _ (cent_unit ms k r c drawn h))))

pub not_its_own : NotItsOwn
not_its_own ms k r half drawn = none_falls ms k k r drawn (λ x. falls_elsewhere ms k x half)

pub nothing_without_units : NothingWithoutUnits
nothing_without_units ms j k r drawn none =
    none_falls ms j k r drawn (λ x h e. let held = falls_holds ms j (start ms k + x) (omega (arith, block_in ms k)) e in omega (arith, held.0, held.1))

pub all_given : AllGiven
unfolding gets stands_for
all_given ms k r drawn =
    let to : ℕ → ℕ = λ c. falls_to ms (start ms k + (c * (member_of ms k).weight + r)) in
    span_swap (λ j c. bit (eqb (to c) j)) (length ms) (at_risk (member_of ms k))
    ∙ span_ext _ (λ c. 1) (at_risk (member_of ms k))
    (λ c h.
    span_one (λ j. bit (eqb (to c) j)) (length ms) (to c) (falls_in ms _ (omega (arith, block_in ms k, cent_unit ms k r c drawn h)))
    (λ j l d. ap bit (ne_eqb (to c) j (λ e. d (sym e))))
    ∙ ap bit (eq-eqb (to c) (to c) refl))
    ∙ span_same 1 (at_risk (member_of ms k))
    ∙ omega arith

pub exact_over_words : ExactOverWords
unfolding gets stands_for units_to units
exact_over_words ms j k =
    let w = (member_of ms k).weight in
    let s = at_risk (member_of ms k) in
    let product : s * w ≡ w * s = omega arith in
    span_last_digit (λ x. bit (eqb (falls_to ms (start ms k + x)) j)) w s ∙ ap (span (λ x. bit (eqb (falls_to ms (start ms k + x)) j))) product

-- a sum over the others is the sum over all where there is nothing for the one left out
span_others_all : (k : ℕ) (f : ℕ → ℕ) (n : ℕ) → f k ≡ 0 → span_others k f n ≡ span f n
span_others_all k f n none =
    span_ext _ f n
    (λ i h.
    ⊎_elim
    (λ (e : i ≡ k). cond-true (eqb i k) 0 (f i) (eq-eqb i k e) ∙ sym (ap f e ∙ none))
    (λ (d : i ≡ k → ⊥). cond-false (eqb i k) 0 (f i) (ne_eqb i k d))
    (cases_eq i k))

-- over all deaths the units that fall to a member are as many as it has, since the turn is a permutation
units_from_all : (ms : List Member) (j : ℕ) → span (λ k. units_to ms j k) (length ms) ≡ units (member_of ms j)
unfolding units_to falls_to
units_from_all ms j =
    end_to_end (λ u. bit (eqb (falls_to ms u) j)) ms
    ∙ span_turned (λ u. bit (eqb (owner ms u) j)) (whole ms) (most ms) (most_whole ms)
    ∙ owns_its_units ms j

fair_to_get : (ms : List Member) (j : ℕ) → Balanced ms → stands_to_get ms j ≡ units (member_of ms j)
unfolding stands_to_get
fair_to_get ms j half =
    span_others_all j (λ k. span (λ r. gets ms j k r) (member_of ms k).weight) (length ms)
    (span_none _ (member_of ms j).weight (λ r h. not_its_own ms j r half h))
    ∙ span_ext _ (λ k. units_to ms j k) (length ms) (λ k h. exact_over_words ms j k)
    ∙ units_from_all ms j

fair_to_lose : (ms : List Member) (k : ℕ) → Balanced ms → stands_to_lose ms k ≡ units (member_of ms k)
unfolding stands_to_lose units
fair_to_lose ms k half =
    span_ext _ (λ r. at_risk (member_of ms k)) (member_of ms k).weight
    (λ r h. span_others_all k (λ j. gets ms j k r) (length ms) (not_its_own ms k r half h) ∙ all_given ms k r h)
    ∙ span_same (at_risk (member_of ms k)) (member_of ms k).weight

pub fair_death : FairDeath
fair_death ms j half = (fair_to_get ms j half, fair_to_lose ms j half)
