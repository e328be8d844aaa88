-- What is left in the memory for cents. Assumes nothing.
use Rattle.std.proofs.Common.{◌≡◌, ℕ, zero, suc, ◌+◌, ◌*◌, ◌<◌, true, eqb, List, ◌++◌, map, length, get_or, Ok, sum, sym, refl, ap, ◌∙◌, ap₂, add-one, arith}
use Rattle.std.specs.List.{range_with_len}
use Rattle.std.proofs.lemmas.List.FromFn.{length-map-range_with_len, get_or-map-range_with_len, sum_by-map-range_with_len_more}
use Rattle.std.proofs.lemmas.List.{take_at, get_or_append_left}
use Rattle.std.proofs.lemmas.Bool.Decides.{nat_tests}
use Rattle.members.specs.declared.member.Member.{Member}
use Rattle.circle.specs.Circle.{start, owner, turned, member_of}
use Rattle.circle.specs.Sums.{span, bit}
use Rattle.circle.proofs.Bounds.{at_risk_living, units_dead}
use Rattle.circle.proofs.Sums.{span_ext}
use Rattle.sharing.specs.Answers.{grounds, ToOthers, LeftBy, landing, dealt}
use Rattle.sharing.specs.Fair.{OneDeath}
use Rattle.sharing.specs.Sharing.{falls_to, stands_for, gets, given, Balanced}
use Rattle.sharing.specs.declared.estate.Estate.{Estate}
use Rattle.sharing.proofs.Deaths.{not_its_own, nothing_without_units, all_given, fair_death, exact_over_words}
use Rattle.sharing.proofs.Estates.{living_in}
use Rattle.sharing.proofs.Examples.{small_shares}
use Rattle.sharing.proofs.Nearness.{exact_part, near}

-- a member is dealt of an estate what it gets of the stake
module _ (ms : List Member) (k r : ℕ) (e : Estate) (left : LeftBy ms k r e) where
  lands_there : (c : ℕ) → owner ms (landing e c) ≡ falls_to ms (stands_for ms k r c)
  unfolding falls_to stands_for
  lands_there c =
      let unit : e.first + c * e.step ≡ start ms k + (c * (member_of ms k).weight + r) = omega (arith, left.first, ap (λ w. c * w) left.step) in
      ap (λ u. owner ms (turned e.circle.size e.circle.largest u)) unit
      ∙ ap₂ (λ size largest. owner ms (turned size largest (start ms k + (c * (member_of ms k).weight + r)))) left.size left.largest

  dealt_gets : (j : ℕ) → dealt ms e j e.cents ≡ gets ms j k r
  unfolding gets
  dealt_gets j = span_ext _ _ e.cents (λ c h. ap (λ i. bit (eqb i j)) (lands_there c)) ∙ ap (span (λ c. bit (eqb (falls_to ms (stands_for ms k r c)) j))) left.cents

  pub dealt_given : map (λ j. dealt ms e j e.cents) (range_with_len 0 (length ms)) ≡ given ms k r
  dealt_given i = map (λ j. dealt_gets j i) (range_with_len 0 (length ms))

-- what the answer tells where it is no refusal
pub accepted : (ms : List Member) (k r : ℕ) → Ok tt ≡ grounds ms k r → ((member_of ms k).alive ≡ true) × (r < (member_of ms k).weight) × Balanced ms
accepted ms k r e = (grind (arith, nat_tests), grind (arith, nat_tests), grind (arith, nat_tests))

-- what each gets, added up
sum-span : (f : ℕ → ℕ) (n : ℕ) → sum (map f (range_with_len 0 n)) ≡ span f n
unfolding span
sum-span f zero = refl
sum-span f (suc n) = ap (λ m. sum (map f (range_with_len 0 m))) (sym (add-one n)) ∙ sum_by-map-range_with_len_more (λ x. x) f 0 n n (omega arith) ∙ omega (arith, sum-span f n)

pub to_others : (ms : List Member) (k r : ℕ) (rest : List ℕ) → Ok tt ≡ grounds ms k r → ToOthers ms k (given ms k r ++ rest)
to_others ms k r rest ok = record {
  all = ap sum (take_at (given ms k r) rest (length ms) long) ∙ sum-span (λ j. gets ms j k r) (length ms) ∙ all_given ms k r a.1 ∙ at_risk_living (member_of ms k) a.0;
  own = at k (living_in ms k a.0) ∙ not_its_own ms k r a.2 a.1;
  dead = λ j h e. at j h ∙ nothing_without_units ms j k r a.1 (units_dead (member_of ms j) e);
}
  where
    a : ((member_of ms k).alive ≡ true) × (r < (member_of ms k).weight) × Balanced ms
    a = accepted ms k r ok

    long : length (given ms k r) ≡ length ms
    long = length-map-range_with_len (λ j. gets ms j k r) 0 (length ms)

    at : (j : ℕ) → j < length ms → get_or (given ms k r ++ rest) j 0 ≡ gets ms j k r
    at j h = get_or_append_left (given ms k r) rest 0 j (omega (arith, long)) ∙ get_or-map-range_with_len (λ j. gets ms j k r) 0 (length ms) j j 0 h (omega arith)

-- all theorems of one death
pub one_death : OneDeath
one_death = record { fair = fair_death; own = not_its_own; dead = nothing_without_units; all = all_given; near = near; exact = exact_part; words = exact_over_words; small = small_shares }
