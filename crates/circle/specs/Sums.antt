-- Finite sums. Assumes nothing: these are definitions.
use Rattle.std.specs.Prelude.{ℕ, zero, suc, ◌+◌, Bool, true, false}

-- the sum of f over the numbers below n
unfoldable pub span : (ℕ → ℕ) → ℕ → ℕ
span f zero = 0
span f (suc n) = f n + span f n

-- 1 where something is so, 0 where it is not: summed up, it counts
abbrev pub bit : Bool → ℕ
bit true = 1
bit false = 0
