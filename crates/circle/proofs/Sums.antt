-- The laws of finite sums. Assumes nothing.
use Rattle.std.proofs.Common.{◌≡◌, ℕ, zero, suc, ◌+◌, ◌-◌, ◌*◌, ◌<◌, ◌≤◌, sym, refl, ap, ◌∙◌, ⊎_elim, add-zero, add-suc, arith}
use Rattle.std.proofs.lemmas.Bool.{cases_eq}
use Rattle.circle.specs.Sums.{span}

-- extensionality: sums of the same terms are the same
pub span_ext : (f g : ℕ → ℕ) (n : ℕ) → ((i : ℕ) → i < n → f i ≡ g i) → span f n ≡ span g n
unfolding span
span_ext f g zero e = refl
span_ext f g (suc n) e = omega (arith, e n (omega arith), span_ext f g n (λ i h. e i (omega arith)))

-- and of smaller terms smaller
pub span_le : (f g : ℕ → ℕ) (n : ℕ) → ((i : ℕ) → i < n → f i ≤ g i) → span f n ≤ span g n
unfolding span
span_le f g zero e = omega arith
span_le f g (suc n) e = omega (arith, e n (omega arith), span_le f g n (λ i h. e i (omega arith)))

-- splitting: the first m terms, and then n more
pub span_add : (f : ℕ → ℕ) (m n : ℕ) → span f (m + n) ≡ span f m + span (λ i. f (m + i)) n
unfolding span
span_add f m zero = rw (add-zero m) (omega arith)
span_add f m (suc n) = rw add-suc (omega (arith, span_add f m n))

-- splitting off the first term
pub span_head : (f : ℕ → ℕ) (n : ℕ) → span f (suc n) ≡ f 0 + span (λ i. f (suc i)) n
unfolding span
span_head f zero = omega arith
span_head f (suc n) = omega (arith, span_head f n)

-- the sum of sums
pub span_plus : (f g : ℕ → ℕ) (n : ℕ) → span (λ i. f i + g i) n ≡ span f n + span g n
unfolding span
span_plus f g zero = refl
span_plus f g (suc n) = omega (arith, span_plus f g n)

-- a factor of all terms
pub span_times : (c : ℕ) (f : ℕ → ℕ) (n : ℕ) → span (λ i. c * f i) n ≡ c * span f n
unfolding span
span_times c f zero = omega arith
span_times c f (suc n) = omega (arith, span_times c f n)

-- n times the same term
pub span_same : (c n : ℕ) → span (λ i. c) n ≡ n * c
unfolding span
span_same c zero = omega arith
span_same c (suc n) = omega (arith, span_same c n)

-- no term counts
pub span_none : (f : ℕ → ℕ) (n : ℕ) → ((i : ℕ) → i < n → f i ≡ 0) → span f n ≡ 0
span_none f n e = omega (arith, span_ext f (λ i. 0) n e, span_same 0 n)

-- exchange: by rows or by columns
pub span_swap : (f : ℕ → ℕ → ℕ) (m n : ℕ) → span (λ i. span (λ j. f i j) n) m ≡ span (λ j. span (λ i. f i j) m) n
unfolding span
span_swap f zero n = sym (span_none (λ j. 0) n (λ i h. refl))
span_swap f (suc m) n = omega (arith, span_swap f m n, span_plus (λ j. f m j) (λ j. span (λ i. f i j) m) n)

-- one term counts at most, and it is the k-th
pub span_one : (f : ℕ → ℕ) (n k : ℕ) → k < n → ((i : ℕ) → i < n → (i ≡ k → ⊥) → f i ≡ 0) → span f n ≡ f k
unfolding span
span_one f zero k h e = absurd (omega arith)
span_one f (suc n) k h e =
    ⊎_elim
    (λ (s : n ≡ k). omega (arith, ap f s, span_none f n (λ i l. e i (omega arith) (λ (q : i ≡ k). omega arith))))
    (λ (d : n ≡ k → ⊥). omega (arith, e n (omega arith) d, span_one f n k (omega arith) (λ i l. e i (omega arith))))
    (cases_eq n k)

-- blocks of any sizes, end to end
pub span_blocks : (f size : ℕ → ℕ) (n : ℕ) → span (λ k. span (λ x. f (span size k + x)) (size k)) n ≡ span f (span size n)
unfolding span
span_blocks f size zero = refl
span_blocks f size (suc n) =
    let e : size n + span size n ≡ span size n + size n = omega arith in
    rw e (omega (arith, span_blocks f size n, span_add f (span size n) (size n)))

-- digits: each number below s * w is c * w + r, once
pub span_digits : (f : ℕ → ℕ) (w s : ℕ) → span (λ c. span (λ r. f (c * w + r)) w) s ≡ span f (s * w)
span_digits f w s =
    span_ext _ _ s (λ c h. span_ext _ _ w (λ r l. ap (λ z. f (z + r)) (sym (span_same w c))))
    ∙ span_blocks f (λ c. w) s
    ∙ ap (span f) (span_same w s)

-- and with the last digit outermost
pub span_last_digit : (f : ℕ → ℕ) (w s : ℕ) → span (λ r. span (λ c. f (c * w + r)) s) w ≡ span f (s * w)
span_last_digit f w s = span_swap (λ r c. f (c * w + r)) w s ∙ span_digits f w s

-- rotation: the first m terms come last
pub span_rotated : (f : ℕ → ℕ) (m n : ℕ) → m ≤ n → span (λ i. f (m + i)) (n - m) + span f m ≡ span f n
span_rotated f m n h = let whole : m + (n - m) ≡ n = omega arith in omega (arith, span_add f m (n - m), ap (span f) whole)
