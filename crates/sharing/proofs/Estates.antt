-- What the checks before a stake is shared out tell. Assumes nothing.
use Rattle.std.proofs.Common.{◌≡◌, ℕ, ◌+◌, ◌*◌, ◌<◌, ◌≤◌, true, cond, List, length, Some, None, ap, ⊎_elim, arith}
use Rattle.std.proofs.lemmas.Nat.{mul-add-lt}
use Rattle.std.proofs.lemmas.List.{get_or_past}
use Rattle.std.proofs.lemmas.Bool.{cases_lt, both_ways}
use Rattle.std.proofs.lemmas.Bool.Decides.{nat_tests}
use Rattle.members.specs.Members.{nobody}
use Rattle.members.specs.declared.member.Member.{Member}
use Rattle.circle.specs.Answers.{circle_answer, start_answer}
use Rattle.circle.specs.Circle.{unit_limit, whole, most, start, member_of}
use Rattle.circle.proofs.Bounds.{units_living}
use Rattle.circle.proofs.Owners.{block_in}

-- who lives stands in the list
pub living_in : (ms : List Member) (k : ℕ) → (member_of ms k).alive ≡ true → k < length ms
living_in ms k e =
    ⊎_elim
    (λ (h : k < length ms). h)
    (λ (h : length ms ≤ k). absurd (both_ways (member_of ms k).alive (ap (λ m. m.alive) (get_or_past ms k nobody h)) e))
    (cases_lt k (length ms))

-- too many units lie before it where its start is not found
pub start_lost : (ms : List Member) (k : ℕ) → k < length ms → None ≡ start_answer ms k → unit_limit ≤ whole ms
start_lost ms k inside e = let block = block_in ms k in grind (arith, nat_tests)

-- a member that was found lives, and is the one at the place
pub found : (ms : List Member) (k : ℕ) (m : Member) → Some m ≡ cond (member_of ms k).alive (Some (member_of ms k)) None → ((member_of ms k).alive ≡ true) × (m ≡ member_of ms k)
found ms k m e = (grind (arith, nat_tests), grind (arith, nat_tests))

-- what is known once the member, its start and the circle were found
pub record Found (ms : List Member) (k : ℕ) (m : Member) (from size largest : ℕ) : Type 0 where
  pub alive : (member_of ms k).alive ≡ true
  pub weight : m.weight ≡ (member_of ms k).weight
  pub stake : m.stake ≡ (member_of ms k).stake
  pub starts : from ≡ start ms k
  pub all : size ≡ whole ms
  pub most : largest ≡ most ms
  pub small : whole ms < unit_limit

pub all_found :
    (ms : List Member) (k : ℕ) (m : Member) (from size largest : ℕ) → Some m ≡ cond (member_of ms k).alive (Some (member_of ms k)) None →
    Some from ≡ start_answer ms k → Some (size, largest) ≡ circle_answer ms → Found ms k m from size largest
all_found ms k m from size largest e starts circle =
    let member = found ms k m e in
    record {
      alive = member.0;
      weight = ap (λ n. n.weight) member.1;
      stake = ap (λ n. n.stake) member.1;
      starts = grind (arith, nat_tests);
      all = grind (arith, nat_tests);
      most = grind (arith, nat_tests);
      small = grind (arith, nat_tests);
    }

-- the unit of each cent lies on the circle
pub cent_within : (ms : List Member) (k r c : ℕ) → (member_of ms k).alive ≡ true → r < (member_of ms k).weight → c < (member_of ms k).stake → start ms k + r + c * (member_of ms k).weight < whole ms
cent_within ms k r c e drawn h =
    let m = member_of ms k in
    omega (arith, block_in ms k, units_living m e, mul-add-lt c m.weight r m.stake h drawn)
