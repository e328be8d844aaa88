-- Numbers within their bounds. Assumes nothing.
use Rattle.std.proofs.Common.{◌≡◌, ℕ, ◌≤◌, true, leb, arith}
use Rattle.std.proofs.lemmas.Bool.{and_parts, le-leb, leb-true}
use Rattle.std.specs.Int.{is_in_range}
use Rattle.members.specs.Limits.{clamped}

-- what is within the bounds is not moved by them
pub clamped_same : (most n : ℕ) → 1 ≤ n → n ≤ most → n ≡ clamped most n
clamped_same most n low high = omega arith

-- the test and the fact
pub good_within : (low high n : ℕ) → is_in_range low high n ≡ true → (low ≤ n) × (n ≤ high)
good_within low high n e = let p = and_parts (leb low n) (leb n high) e in (leb-true low n p.0, leb-true n high p.1)

pub within_good : (low high n : ℕ) → low ≤ n → n ≤ high → is_in_range low high n ≡ true
within_good low high n p q = rw (le-leb low n p, le-leb n high q)

-- what passed the test is not moved
pub good_same : (most n : ℕ) → is_in_range 1 most n ≡ true → n ≡ clamped most n
good_same most n e = let p = good_within 1 most n e in clamped_same most n p.0 p.1
