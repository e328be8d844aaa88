-- Numbers and their bytes. Assumes nothing.
use Rattle.std.proofs.Common.{◌≡◌, ℕ, ◌<◌, ◌≤◌, ◌^◌, List, [], ◌∷◌, ◌++◌, length, get_or, drop, refl, ap, ⊎_elim, arith}
use Rattle.std.proofs.lemmas.List.Elements.{All-take}
use Rattle.std.proofs.lemmas.List.{get_or_past}
use Rattle.std.proofs.lemmas.Bool.{cases_lt}
use Rattle.std.proofs.lemmas.Nat.{from_le_bytes-to_le_bytes_4, le_bytes_4}
use Rattle.members.specs.Bytes.{Bytes, number_in, number_bytes}

-- what was written is read
pub number_written : (n : ℕ) (bs : List ℕ) → n < 2 ^ 32 → number_in (number_bytes n ++ bs) ≡ n
number_written n bs h = from_le_bytes-to_le_bytes_4 n h

pub byte_at : (bs : List ℕ) → Bytes bs → (i : ℕ) → get_or bs i 0 < 256
byte_at bs p i = ⊎_elim (λ (h : i < length bs). p i 0 h) (λ (h : length bs ≤ i). omega (arith, get_or_past bs i 0 h)) (cases_lt i (length bs))

-- what was read was written so
pub number_read : (bs : List ℕ) → Bytes bs → 4 ≤ length bs → number_bytes (number_in bs) ++ drop 4 bs ≡ bs
number_read [] p h = absurd (omega arith)
number_read (a ∷ []) p h = absurd (omega arith)
number_read (a ∷ b ∷ []) p h = absurd (omega arith)
number_read (a ∷ b ∷ c ∷ []) p h = absurd (omega arith)
number_read (a ∷ b ∷ c ∷ d ∷ bs) p h = ap (λ l. l ++ bs) (le_bytes_4 (a ∷ b ∷ c ∷ d ∷ []) _ refl (byte_at (a ∷ b ∷ c ∷ d ∷ []) (All-take (λ b. b < 256) 4 (a ∷ b ∷ c ∷ d ∷ bs) p)) refl)

pub number_small : (bs : List ℕ) → Bytes bs → number_in bs < 2 ^ 32
number_small bs p = omega (arith, byte_at bs p 0, byte_at bs p 1, byte_at bs p 2, byte_at bs p 3)
