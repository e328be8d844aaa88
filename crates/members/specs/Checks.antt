-- What a check of numbers, one after the other, tells of them. It serves functions that no other crate can call. Assumes nothing.
use Rattle.std.specs.Prelude.{◌≡◌, ℕ, ◌<◌, Bool, true, false}

-- a number is given at place i, and of it a test says b
abbrev pub Tells : (ℕ → ℕ → Type 0) → (ℕ → Bool) → ℕ → Bool → Type 0
Tells gives good i b = (n : ℕ) × gives i n × (good n ≡ b)

-- the numbers at all places below n pass the test
abbrev pub AllGood : (ℕ → ℕ → Type 0) → (ℕ → Bool) → ℕ → Type 0
AllGood gives good n = (i : ℕ) → i < n → Tells gives good i true

-- i is the first of n places whose number fails it
pub record FirstBad (gives : ℕ → ℕ → Type 0) (good : ℕ → Bool) (n i : ℕ) : Type 0 where
  pub inside : i < n
  pub bad : Tells gives good i false
  pub before : AllGood gives good i
