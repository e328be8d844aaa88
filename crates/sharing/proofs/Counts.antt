-- Cents dealt out one by one: the counts so far. Assumes nothing.
use Rattle.std.proofs.Common.{◌≡◌, ℕ, ◌+◌, ◌<◌, ◌≤◌, Bool, true, false, eqb, List, length, get_or, set, replicate, sym, ap, ◌∙◌, ⊎_elim, add-one, arith}
use Rattle.std.proofs.lemmas.List.{get_or-set_same, get_or-set_other, get_or-replicate}
use Rattle.std.proofs.lemmas.Bool.{eq-eqb, ne_eqb, cases_eq}
use Rattle.circle.specs.Sums.{span, bit}
use Rattle.circle.proofs.Sums.{span_le, span_same}

-- a count is at most 1 for each number
pub bit_le : (b : Bool) → bit b ≤ 1
bit_le true = omega arith
bit_le false = omega arith

pub count_le : (p : ℕ → Bool) (n : ℕ) → span (λ c. bit (p c)) n ≤ n
count_le p n = omega (arith, span_le (λ c. bit (p c)) (λ c. 1) n (λ c h. bit_le (p c)), span_same 1 n)

-- f tells for each cent to whom it goes; how many of the first n go to j
abbrev pub tally : (ℕ → ℕ) → ℕ → ℕ → ℕ
tally f j n = span (λ c. bit (eqb (f c) j)) n

tally_more : (f : ℕ → ℕ) (j n : ℕ) → tally f j (n + 1) ≡ bit (eqb (f n) j) + tally f j n
unfolding span
tally_more f j n = rw (add-one n)

-- the places below m hold the counts of the first n cents
abbrev pub Counted : (ℕ → ℕ) → ℕ → List ℕ → ℕ → Type 0
Counted f m out n = (j : ℕ) → j < m → get_or out j 0 ≡ tally f j n

-- no cent yet
pub counted_none : (f : ℕ → ℕ) (m : ℕ) (out : List ℕ) → out ≡ replicate m 0 → Counted f m out 0
unfolding span
counted_none f m out e j h = ap (λ l. get_or l j 0) e ∙ get_or-replicate m j 0 0 h

-- one cent more
pub counted_more : (f : ℕ → ℕ) (m : ℕ) (out : List ℕ) (n p : ℕ) → p < length out → f n ≡ p → Counted f m out n → Counted f m (set out p (get_or out p 0 + 1)) (n + 1)
counted_more f m out n p inside to before j h =
    let more = tally_more f j n in
    ⊎_elim
    (λ (e : p ≡ j).
    let hit = ap bit (eq-eqb (f n) j (to ∙ e)) in
    omega (arith, get_or-set_same out p (get_or out p 0 + 1) 0 inside, before j h, ap (λ i. get_or out i 0) e, ap (λ i. get_or (set out p (get_or out p 0 + 1)) i 0) e))
    (λ (d : p ≡ j → ⊥).
    let miss = ap bit (ne_eqb (f n) j (λ q. d (sym to ∙ q))) in
    omega (arith, get_or-set_other out p j (get_or out p 0 + 1) 0 (λ q. d (sym q)), before j h))
    (cases_eq p j)
