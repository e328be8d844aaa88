-- A check of numbers that stops at the first that fails. Assumes nothing.
use Rattle.std.proofs.Common.{◌≡◌, ℕ, ◌<◌, ◌≤◌, Bool, true, false, cond, ltb, get_or, Ok, Err, Result, OnOk, IfErr, MatchResult, sym, refl, ap, ◌∙◌, arith}
use Rattle.std.specs.List.{range_with_len}
use Rattle.std.proofs.lemmas.List.FromFn.{length-range_with_len, get_or-range_with_len}
use Rattle.std.proofs.lemmas.List.Sums.{prefix_len-le-length, prefix_len_is, prefix_len_passes}
use Rattle.std.proofs.lemmas.Bool.{ltb-false, cond_below, cond_above}
use Rattle.members.specs.Checks.{Tells, AllGood, FirstBad}
use Rattle.members.specs.Heads.{first_bad, checked}
use Rattle.members.specs.declared.refusal.Refusal.{Refusal}

module _ (good : ℕ → Bool) (n : ℕ) where
  at : (i : ℕ) → i < n → get_or (range_with_len 0 n) i 0 ≡ i
  at i h = get_or-range_with_len 0 n i 0 h ∙ omega arith

  -- the first number that fails is the one before which none does, or n where none does at all
  pub first_is : (i : ℕ) → i ≤ n → ((k : ℕ) → k < i → good k ≡ true) → (i < n → good i ≡ false) → first_bad good n ≡ i
  unfolding first_bad
  first_is i h before bad =
      let long = length-range_with_len 0 n in
      prefix_len_is good (range_with_len 0 n) i 0 (omega (arith, long)) (λ k l. ap good (at k (omega arith)) ∙ before k l) (λ l. ap good (at i (omega (arith, long))) ∙ bad (omega (arith, long)))

  pub none_fails : ((i : ℕ) → i < n → good i ≡ true) → first_bad good n ≡ n
  none_fails each = first_is n (omega arith) each (λ l. absurd (omega arith))

  -- where none fails each passes
  pub passes : first_bad good n ≡ n → (i : ℕ) → i < n → good i ≡ true
  unfolding first_bad
  passes e i h = ap good (sym (at i h)) ∙ prefix_len_passes good (range_with_len 0 n) i 0 (omega (arith, e))

  -- so it is where the first that fails is not below n
  pub none_bad : ltb (first_bad good n) n ≡ false → first_bad good n ≡ n
  unfolding first_bad
  none_bad h = omega (arith, ltb-false _ n h, prefix_len-le-length good (range_with_len 0 n), length-range_with_len 0 n)

-- what the check tells, as the definitions say it, where f computes the numbers that are given
module _ (gives : ℕ → ℕ → Type 0) (good : ℕ → Bool) (f : ℕ → ℕ) (n : ℕ) (computes : (i m : ℕ) → i < n → gives i m → m ≡ f i) where
  said : (i : ℕ) (b : Bool) → i < n → Tells gives good i b → good (f i) ≡ b
  said i b h (m, given, says) = ap good (sym (computes i m h given)) ∙ says

  pub told : (why : ℕ → Refusal) (r : Result (Unit {0}) ℕ) (s : Result (Unit {0}) Refusal) → OnOk r (AllGood gives good n) → IfErr r (FirstBad gives good n) → MatchResult r (λ x. s ≡ Ok tt) (λ i. s ≡ Err (why i)) → s ≡ checked (first_bad (λ i. good (f i)) n) n why tt
  told why (Ok x) s all bad is = is ∙ (let e = none_fails (λ i. good (f i)) n (λ i h. said i true h (all i h)) in rw e (cond_above n n (Err (why n)) (Ok tt) (Ok tt) (omega arith) refl))
  told why (Err i) s all bad is =
      is
      ∙ (let e = first_is (λ i. good (f i)) n i (omega (arith, bad.inside)) (λ k h. said k true (omega (arith, bad.inside)) (bad.before k h)) (λ h. said i false bad.inside bad.bad) in
      rw e (cond_below i n (Err (why i)) (Ok tt) bad.inside))

-- a check that was passed
pub past : {A E : Type 0} (b : Bool) (e : E) (r : Result A E) (x : A) → cond b (Err e) r ≡ Ok x → (b ≡ false) × (r ≡ Ok x)
past true e r x h = let z : ◌≡◌ {A = ℕ} 0 1 = cc in absurd (omega arith)
past false e r x h = (refl, h)

-- no number fails where no refusal was answered
pub none_refused : (good : ℕ → Bool) (n : ℕ) (why : ℕ → Refusal) → ◌≡◌ {A = Result (Unit {0}) Refusal} (Ok tt) (checked (first_bad good n) n why tt) → first_bad good n ≡ n
none_refused good n why e = none_bad good n (past _ _ _ tt (sym e)).0
