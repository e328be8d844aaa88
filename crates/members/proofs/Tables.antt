-- The table, made weight by weight. Assumes nothing.
use Rattle.std.proofs.Common.{◌≡◌, ℕ, zero, suc, ◌+◌, ◌<◌, ◌≤◌, List, get_or, sym, ap, ◌∙◌, subst, ⊎_elim, arith}
use Rattle.std.specs.Fn.{Mut, Called}
use Rattle.std.specs.Array.{IsFromFnResult, IsFromFnResultFrom}
use Rattle.std.proofs.lemmas.List.FromFn.{fill_by_all}
use Rattle.std.proofs.lemmas.Bool.{cases_eq}
use Rattle.members.specs.Heads.{weight_at, weights_of, bad_weight}
use Rattle.members.specs.Limits.{ages, most_weight, clamped}
use Rattle.members.proofs.Bounds.{good_same}
use Rattle.members.proofs.Checks.{passes}

-- what an array holds that was made by a closure which computes f and changes nothing
module _ {F : Type 0} (g : Mut F (ℕ × Unit {0}) ℕ) (c : F) (f : ℕ → ℕ) (ys : List ℕ) (d : ℕ) where
  each_from : (m i n : ℕ) → i + n ≡ m → ((k x : ℕ) (q : F) → k < m → Called g c (k, tt) x q → (q ≡ c) × (x ≡ f k)) → IsFromFnResultFrom g c ys i n → (k : ℕ) → i ≤ k → k < m → get_or ys k d ≡ f k
  each_from m i zero e computes made k from below = absurd (omega arith)
  each_from m i (suc n) e computes (q, y, at, called, rest) k from below =
      let one = computes i y q (omega arith) called in
      ⊎_elim
      (λ (s : i ≡ k). ap (λ j. get_or ys j d) (sym s) ∙ at.1 d ∙ one.1 ∙ ap f s)
      (λ (o : i ≡ k → ⊥). each_from m (i + 1) n (omega arith) computes (subst (λ s. IsFromFnResultFrom g s ys (i + 1) n) one.0 rest) k (omega arith) below)
      (cases_eq i k)

-- the table's weights are made, where all are within the bounds
pub weights_made : {F : Type 0} (g : Mut F (ℕ × Unit {0}) ℕ) (c : F) (bs ws : List ℕ) → bad_weight bs ≡ ages → ((k x : ℕ) (q : F) → k < ages → Called g c (k, tt) x q → (q ≡ c) × (x ≡ weight_at bs k)) → IsFromFnResult g c ws ages → ws ≡ weights_of bs
unfolding weights_of
weights_made g c bs ws sound computes made =
    fill_by_all (λ i. clamped most_weight (weight_at bs i)) ws ages 1 made.long
    (λ k h. each_from g c (weight_at bs) ws 1 ages 0 ages (omega arith) computes made.each k (omega arith) h ∙ good_same most_weight (weight_at bs k) (passes _ ages sound k h))
