-- What one member gets of a stake is one run of cents. Assumes nothing.
use Rattle.std.proofs.Common.{◌≡◌, ℕ, zero, suc, ◌+◌, ◌*◌, ◌<◌, ◌≤◌, min, Bool, true, false, ltb, ◌⊎◌, sym, refl, ap, ◌∙◌, inl, inr, ⊎_elim, arith}
use Rattle.std.proofs.lemmas.Nat.{mul-le, mul-add-lt}
use Rattle.std.proofs.lemmas.Bool.{lt-ltb, le-ltb, cases_lt}
use Rattle.circle.specs.Sums.{span, bit}
use Rattle.circle.proofs.Sums.{span_ext, span_plus}
use Rattle.sharing.proofs.Counts.{count_le}

-- how many of the numbers r, w + r, 2 * w + r, .. lie below h, of the first s
abbrev pub steps_below : ℕ → ℕ → ℕ → ℕ → ℕ
steps_below w r h s = span (λ c. bit (ltb (c * w + r) h)) s

-- that many steps do not lead past h by a whole one, and they lead up to it where there are enough of them
steps_reach : (w r h : ℕ) → r < w → (s : ℕ) → (steps_below w r h s * w + r < h + w) × ((h ≤ steps_below w r h s * w + r) ⊎ (steps_below w r h s ≡ s))
unfolding span
steps_reach w r h drawn zero = (omega arith, inr refl)
steps_reach w r h drawn (suc s) =
    let n = steps_below w r h s in
    let before = steps_reach w r h drawn s in
    let few = count_le (λ c. ltb (c * w + r) h) s in
    ⊎_elim
    (λ (l : s * w + r < h).
    let hit = lt-ltb (s * w + r) h l in
    let all : n ≡ s = ⊎_elim (λ (b : h ≤ n * w + r). absurd (omega (arith, mul-le n w s w few (omega arith)))) (λ (e : n ≡ s). e) before.1 in
    rw hit (omega (arith, ap (λ z. z * w) all), inr (omega arith)))
    (λ (l : h ≤ s * w + r).
    let miss = le-ltb (s * w + r) h l in
    rw miss (omega (arith, before.0), ⊎_elim (λ (b : h ≤ n * w + r). inl (omega arith)) (λ (e : n ≡ s). inl (omega (arith, ap (λ z. z * w) e))) before.1))
    (cases_lt (s * w + r) h)

-- so, where there are enough of them, they end just behind h
pub steps_end : (w r h s : ℕ) → r < w → h ≤ s * w → (h ≤ steps_below w r h s * w + r) × (steps_below w r h s * w + r < h + w)
steps_end w r h s drawn enough =
    let n = steps_below w r h s in
    let reach = steps_reach w r h drawn s in
    (⊎_elim (λ (b : h ≤ n * w + r). b) (λ (e : n ≡ s). omega (arith, ap (λ z. z * w) e)) reach.1, reach.0)

-- the numbers below h
pub span_below : (h n : ℕ) → span (λ x. bit (ltb x h)) n ≡ min h n
unfolding span
span_below h zero = omega arith
span_below h (suc n) =
    ⊎_elim
    (λ (l : n < h). omega (arith, span_below h n, ap bit (lt-ltb n h l)))
    (λ (l : h ≤ n). omega (arith, span_below h n, ap bit (le-ltb n h l)))
    (cases_lt n h)

-- a test holds of one run of numbers: of those from one on and below another
pub record Run (test : ℕ → Bool) (n : ℕ) : Type 0 where
  pub from : ℕ
  pub to : ℕ
  pub order : from ≤ to
  pub inside : to ≤ n
  pub tells : (x : ℕ) → x < n → bit (test x) + bit (ltb x from) ≡ bit (ltb x to)

-- how many they are
pub run_length : (test : ℕ → Bool) (n : ℕ) (run : Run test n) → span (λ x. bit (test x)) n + run.from ≡ run.to
run_length test n run =
    let sum = span_plus (λ x. bit (test x)) (λ x. bit (ltb x run.from)) n in
    let same = span_ext (λ x. bit (test x) + bit (ltb x run.from)) (λ x. bit (ltb x run.to)) n run.tells in
    omega (arith, run.order, run.inside, span_below run.from n, span_below run.to n)

-- and how many steps lead into it: its length divided by the step, and less than one more or less
pub run_steps :
    (test : ℕ → Bool) (w r s : ℕ) → r < w → Run test (s * w) →
    (w * span (λ c. bit (test (c * w + r))) s < span (λ x. bit (test x)) (s * w) + w) × (span (λ x. bit (test x)) (s * w) < w * span (λ c. bit (test (c * w + r))) s + w)
run_steps test w r s drawn run =
    let n = span (λ c. bit (test (c * w + r))) s in
    let sum : span (λ c. bit (test (c * w + r)) + bit (ltb (c * w + r) run.from)) s ≡ n + steps_below w r run.from s = span_plus (λ c. bit (test (c * w + r))) (λ c. bit (ltb (c * w + r) run.from)) s in
    let same : span (λ c. bit (test (c * w + r)) + bit (ltb (c * w + r) run.from)) s ≡ steps_below w r run.to s =
    span_ext (λ c. bit (test (c * w + r)) + bit (ltb (c * w + r) run.from)) (λ c. bit (ltb (c * w + r) run.to)) s (λ c h. run.tells (c * w + r) (omega (arith, mul-add-lt c w r s h drawn))) in
    let product = ap (λ z. z * w) (sym sum ∙ same) in
    let low = steps_end w r run.from s drawn (omega (arith, run.order, run.inside)) in
    let high = steps_end w r run.to s drawn run.inside in
    let long = run_length test (s * w) run in
    (omega (arith, low.0, high.1), omega (arith, low.1, high.0))

-- an empty run
pub run_none : (test : ℕ → Bool) (n : ℕ) → ((x : ℕ) → x < n → test x ≡ false) → Run test n
run_none test n no_hit = record { from = 0; to = 0; order = omega arith; inside = omega arith; tells = λ x h. omega (arith, ap bit (no_hit x h), ap bit (le-ltb x 0 (omega arith))) }

-- a run by its ends, of which those that lie past n are cut off
pub run_from :
    (test : ℕ → Bool) (n from to : ℕ) → from ≤ to →
    ((x : ℕ) → x < n → from ≤ x → x < to → test x ≡ true) →
    ((x : ℕ) → x < n → (x < from) ⊎ (to ≤ x) → test x ≡ false) → Run test n
run_from test n from to order in-it out-of-it = record {
  from = min from n;
  to = min to n;
  order = omega arith;
  inside = omega arith;
  tells = tells;
}
  where
    tells : (x : ℕ) → x < n → bit (test x) + bit (ltb x (min from n)) ≡ bit (ltb x (min to n))
    tells x h =
        ⊎_elim
        (λ (before : x < from). omega (arith, ap bit (out-of-it x h (inl before)), ap bit (lt-ltb x (min from n) (omega arith)), ap bit (lt-ltb x (min to n) (omega arith))))
        (λ (since : from ≤ x).
        ⊎_elim
        (λ (within : x < to). omega (arith, ap bit (in-it x h since within), ap bit (le-ltb x (min from n) (omega arith)), ap bit (lt-ltb x (min to n) (omega arith))))
        (λ (past : to ≤ x). omega (arith, ap bit (out-of-it x h (inr past)), ap bit (le-ltb x (min from n) (omega arith)), ap bit (le-ltb x (min to n) (omega arith))))
        (cases_lt x to))
        (cases_lt x from)
