-- Lines read from bytes: one at a time, and how many there are. Assumes nothing.
use Rattle.std.proofs.Common.{◌≡◌, ℕ, zero, suc, ◌+◌, ◌<◌, ◌≤◌, List, [], ◌∷◌, length, get_or, drop, Some, None, Option, sym, refl, ap, ◌∙◌, subst, ⊎_elim, arith, length-drop}
use Rattle.std.proofs.lemmas.Bool.{cases_eq, cases_lt}
use Rattle.std.proofs.lemmas.Bool.Decides.{nat_tests}
use Rattle.members.specs.Bytes.{number_in}
use Rattle.members.specs.Lines.{line_at, death_at, before, lines_in, text_of, unreadable, line_count}
use Rattle.members.specs.declared.line.Line.{Line}
use Rattle.members.specs.declared.line.Line.TheVariants.{Death, NewYear, WoundUp}

pub death_cut : (bs : List ℕ) → length bs < 5 → None ≡ death_at bs
unfolding death_at
death_cut bs n = grind (arith, nat_tests)

pub death_is : (bs : List ℕ) → 5 ≤ length bs → Some (Death (get_or bs 0 0) (number_in (drop 1 bs)), drop 5 bs) ≡ death_at bs
unfolding death_at
death_is bs n = grind (arith, nat_tests)

some_same : {A : Type 0} (x y : A) → Some x ≡ Some y → x ≡ y
some_same x y e = cc

none_some : {A : Type 0} (x : A) → None ≡ Some x → ⊥
none_some x e = let z : ◌≡◌ {A = ℕ} 0 1 = cc in omega arith

-- bytes that begin with another byte than 0 are not empty
filled : (bs : List ℕ) → (get_or bs 0 0 ≡ 0 → ⊥) → 0 < length bs
filled [] h = absurd (h refl)
filled (b ∷ bs) h = omega arith

-- a line by its kind
module _ (bs : List ℕ) where
  pub kind_death : get_or bs 0 0 ≡ 1 → line_at bs ≡ death_at (drop 1 bs)
  kind_death k = grind (arith, nat_tests)

  pub kind_new_year : get_or bs 0 0 ≡ 2 → line_at bs ≡ Some (NewYear, drop 1 bs)
  kind_new_year k = grind (arith, nat_tests)

  pub kind_wound_up : get_or bs 0 0 ≡ 3 → line_at bs ≡ Some (WoundUp, drop 1 bs)
  kind_wound_up k = grind (arith, nat_tests)

  pub kind_none : (get_or bs 0 0 ≡ 1 → ⊥) → (get_or bs 0 0 ≡ 2 → ⊥) → (get_or bs 0 0 ≡ 3 → ⊥) → line_at bs ≡ None
  kind_none a b c = grind (arith, nat_tests)

-- whatever holds of each way to read a line holds of the line that is read
pub at_some :
    (P : Line × List ℕ → Type 0) (bs : List ℕ) →
    (get_or bs 0 0 ≡ 1 → 5 ≤ length (drop 1 bs) → P (Death (get_or (drop 1 bs) 0 0) (number_in (drop 1 (drop 1 bs))), drop 5 (drop 1 bs))) →
    (get_or bs 0 0 ≡ 2 → P (NewYear, drop 1 bs)) → (get_or bs 0 0 ≡ 3 → P (WoundUp, drop 1 bs)) → (x : Line × List ℕ) → line_at bs ≡ Some x → P x
at_some P bs death year wound x e =
    ⊎_elim
    (λ (k : get_or bs 0 0 ≡ 1).
    ⊎_elim
    (λ (short : length (drop 1 bs) < 5). absurd (none_some x (death_cut (drop 1 bs) short ∙ sym (kind_death bs k) ∙ e)))
    (λ (long : 5 ≤ length (drop 1 bs)). subst P (some_same _ x (death_is (drop 1 bs) long ∙ sym (kind_death bs k) ∙ e)) (death k long))
    (cases_lt (length (drop 1 bs)) 5))
    (λ (a : get_or bs 0 0 ≡ 1 → ⊥).
    ⊎_elim
    (λ (k : get_or bs 0 0 ≡ 2). subst P (some_same _ x (sym (kind_new_year bs k) ∙ e)) (year k))
    (λ (b : get_or bs 0 0 ≡ 2 → ⊥).
    ⊎_elim
    (λ (k : get_or bs 0 0 ≡ 3). subst P (some_same _ x (sym (kind_wound_up bs k) ∙ e)) (wound k))
    (λ (c : get_or bs 0 0 ≡ 3 → ⊥). absurd (none_some x (sym (kind_none bs a b c) ∙ e)))
    (cases_eq (get_or bs 0 0) 3))
    (cases_eq (get_or bs 0 0) 2))
    (cases_eq (get_or bs 0 0) 1)

-- what follows a line is shorter
pub shorter : (bs : List ℕ) (x : Line × List ℕ) → line_at bs ≡ Some x → length x.1 < length bs
shorter bs =
    at_some (λ x. length x.1 < length bs) bs
    (λ k n. omega (arith, length-drop 1 bs, length-drop 5 (drop 1 bs)))
    (λ k. omega (arith, length-drop 1 bs, filled bs (λ e. omega arith)))
    (λ k. omega (arith, length-drop 1 bs, filled bs (λ e. omega arith)))

in_none : (n : ℕ) (bs : List ℕ) → line_at bs ≡ None → lines_in (suc n) bs ≡ record { lines = []; left = bs }
unfolding lines_in
in_none n bs e = rw (e, lines_in)

in_some : (n : ℕ) (bs : List ℕ) (x : Line × List ℕ) → line_at bs ≡ Some x → lines_in (suc n) bs ≡ before x.0 (lines_in n x.1)
unfolding lines_in
in_some n bs x e = rw (e, lines_in)

none_at : (n : ℕ) → lines_in n [] ≡ record { lines = []; left = [] }
unfolding lines_in
none_at zero = refl
none_at (suc n) = refl

-- looking at more lines than there can be changes nothing
enough_at : (n m : ℕ) → ((cs : List ℕ) → length cs ≤ n → length cs ≤ m → lines_in n cs ≡ lines_in m cs) → (bs : List ℕ) → length bs ≤ suc n → length bs ≤ suc m → (o : Option (Line × List ℕ)) → line_at bs ≡ o → lines_in (suc n) bs ≡ lines_in (suc m) bs
enough_at n m same bs p q None e = in_none n bs e ∙ sym (in_none m bs e)
enough_at n m same bs p q (Some x) e =
    in_some n bs x e ∙ ap (before x.0) (same x.1 (omega (arith, shorter bs x e)) (omega (arith, shorter bs x e))) ∙ sym (in_some m bs x e)

enough : (n m : ℕ) (bs : List ℕ) → length bs ≤ n → length bs ≤ m → lines_in n bs ≡ lines_in m bs
enough n m [] p q = none_at n ∙ sym (none_at m)
enough zero m (b ∷ bs) p q = absurd (omega arith)
enough (suc n) zero (b ∷ bs) p q = absurd (omega arith)
enough (suc n) (suc m) (b ∷ bs) p q = enough_at n m (enough n m) (b ∷ bs) p q (line_at (b ∷ bs)) refl

-- the lines of these bytes, by what stands first
pub text_none : (bs : List ℕ) → line_at bs ≡ None → text_of bs ≡ record { lines = []; left = bs }
text_none [] e = none_at 0
text_none (b ∷ bs) e = in_none (length bs) (b ∷ bs) e

pub text_some : (bs : List ℕ) (x : Line × List ℕ) → line_at bs ≡ Some x → text_of bs ≡ before x.0 (text_of x.1)
text_some bs x e = let less = shorter bs x e in enough (length bs) (suc (length bs)) bs (omega arith) (omega arith) ∙ in_some (length bs) bs x e ∙ ap (before x.0) (enough (length bs) (length x.1) x.1 (omega arith) (omega arith))

pub count_none : (bs : List ℕ) → length bs ≡ 0 → line_count bs ≡ 0
unfolding line_count
count_none [] e = rw none_at
count_none (b ∷ bs) e = absurd (omega arith)

pub count_last : (bs : List ℕ) → 0 < length bs → line_at bs ≡ None → line_count bs ≡ 1
unfolding line_count
count_last [] p e = absurd (omega arith)
count_last (b ∷ bs) p e = rw (text_none (b ∷ bs) e)

pub count_more : (bs : List ℕ) (x : Line × List ℕ) → line_at bs ≡ Some x → line_count bs ≡ 1 + line_count x.1
unfolding line_count
count_more bs x e = ap (λ t. length t.lines + unreadable t.left) (text_some bs x e) ∙ omega arith

-- each line has a byte at least
count_at : (n : ℕ) → ((cs : List ℕ) → length cs ≤ n → line_count cs ≤ length cs) → (bs : List ℕ) → length bs ≤ suc n → (o : Option (Line × List ℕ)) → line_at bs ≡ o → line_count bs ≤ length bs
count_at n less [] p o e = omega (arith, count_none [] refl)
count_at n less (b ∷ bs) p None e = omega (arith, count_last (b ∷ bs) (omega arith) e)
count_at n less (b ∷ bs) p (Some x) e = omega (arith, count_more (b ∷ bs) x e, shorter (b ∷ bs) x e, less x.1 (omega (arith, shorter (b ∷ bs) x e)))

count_within : (n : ℕ) (bs : List ℕ) → length bs ≤ n → line_count bs ≤ length bs
count_within zero bs p = omega (arith, count_none bs (omega arith))
count_within (suc n) bs p = count_at n (count_within n) bs p (line_at bs) refl

pub count_le : (bs : List ℕ) → line_count bs ≤ length bs
count_le bs = count_within (length bs) bs (omega arith)

count_some_at : (bs : List ℕ) → 0 < length bs → (o : Option (Line × List ℕ)) → line_at bs ≡ o → 1 ≤ line_count bs
count_some_at bs p None e = omega (arith, count_last bs p e)
count_some_at bs p (Some x) e = omega (arith, count_more bs x e)

pub count_some : (bs : List ℕ) → 0 < length bs → 1 ≤ line_count bs
count_some bs p = count_some_at bs p (line_at bs) refl
