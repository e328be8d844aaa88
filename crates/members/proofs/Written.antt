-- Reading lines is the inverse of writing them. Assumes nothing.
use Rattle.std.proofs.Common.{◌≡◌, ℕ, zero, suc, ◌<◌, ◌≤◌, List, [], ◌∷◌, ◌++◌, length, get_or, drop, Some, None, Option, sym, refl, ap, ◌∙◌, subst, arith}
use Rattle.std.specs.Prelude.{All}
use Rattle.std.proofs.lemmas.List.Elements.{All-nil, All-cons, All-drop}
use Rattle.std.proofs.lemmas.List.{append_assoc}
use Rattle.members.specs.Bytes.{Bytes, number_in, number_bytes}
use Rattle.members.specs.Lines.{line_bytes, line_at, lines_in, text_of, before}
use Rattle.members.specs.Written.{Sized, lines_bytes, LineReadsBack, LineIsItsBytes, LinesReadBack, LinesOf, LinesAreTheirBytes}
use Rattle.members.specs.declared.line.Line.{Line}
use Rattle.members.specs.declared.line.Line.TheVariants.{Death, NewYear, WoundUp}
use Rattle.members.proofs.Lines.{death_is, kind_death, kind_new_year, kind_wound_up, at_some, shorter, text_none, text_some}
use Rattle.members.proofs.Numbers.{number_written, number_read, number_small}

pub line_reads_back : LineReadsBack
line_reads_back (Death member word) bs s =
    let part = member ∷ number_bytes word ++ bs in
    kind_death (1 ∷ part) refl ∙ sym (death_is part (omega arith)) ∙ ap (λ w. Some (Death member w, bs)) (number_written word bs s.1)
line_reads_back NewYear bs s = kind_new_year (2 ∷ bs) refl
line_reads_back WoundUp bs s = kind_wound_up (3 ∷ bs) refl

begins : (bs : List ℕ) (k : ℕ) → get_or bs 0 0 ≡ suc k → bs ≡ suc k ∷ drop 1 bs
begins [] k e = absurd (omega arith)
begins (b ∷ bs) k e = ap (λ x. x ∷ bs) e

death_bytes : (bs : List ℕ) → Bytes bs → get_or bs 0 0 ≡ 1 → 5 ≤ length (drop 1 bs) → (bs ≡ line_bytes (Death (get_or (drop 1 bs) 0 0) (number_in (drop 1 (drop 1 bs)))) ++ drop 5 (drop 1 bs)) × Sized (Death (get_or (drop 1 bs) 0 0) (number_in (drop 1 (drop 1 bs))))
death_bytes [] p k h = absurd (omega arith)
death_bytes (b ∷ []) p k h = absurd (omega arith)
death_bytes (b ∷ m ∷ bs) p k h =
    (ap (λ x. x ∷ m ∷ bs) k ∙ ap (λ l. 1 ∷ m ∷ l) (sym (number_read bs (All-drop (λ b. b < 256) 2 (b ∷ m ∷ bs) p) (omega arith))), (p 1 0 (omega arith), number_small bs (All-drop (λ b. b < 256) 2 (b ∷ m ∷ bs) p)))

pub line_is_its_bytes : LineIsItsBytes
line_is_its_bytes bs x p =
    at_some (λ x. (bs ≡ line_bytes x.0 ++ x.1) × Sized x.0) bs (λ k h. death_bytes bs p k h) (λ k. (begins bs 1 k, tt)) (λ k. (begins bs 2 k, tt)) x

pub lines_read_back : LinesReadBack
lines_read_back [] bs s = refl
lines_read_back (l ∷ ls) bs s =
    ap text_of (append_assoc (line_bytes l) (lines_bytes ls) bs)
    ∙ text_some _ (l, lines_bytes ls ++ bs) (line_reads_back l (lines_bytes ls ++ bs) (s 0 l (omega arith)))
    ∙ ap (before l) (lines_read_back ls bs (All-drop Sized 1 (l ∷ ls) s))

-- what follows a line is bytes too
rest_bytes : (bs : List ℕ) (x : Line × List ℕ) → Bytes bs → line_at bs ≡ Some x → Bytes x.1
rest_bytes bs x p =
    at_some (λ x. Bytes x.1) bs (λ k h. All-drop (λ b. b < 256) 5 (drop 1 bs) (All-drop (λ b. b < 256) 1 bs p)) (λ k. All-drop (λ b. b < 256) 1 bs p) (λ k. All-drop (λ b. b < 256) 1 bs p) x

lines_at : (n : ℕ) → ((cs : List ℕ) → length cs ≤ n → Bytes cs → LinesOf cs) → (bs : List ℕ) → length bs ≤ suc n → Bytes bs → (o : Option (Line × List ℕ)) → line_at bs ≡ o → LinesOf bs
lines_at n less bs h p None e =
    let t = text_none bs e in
    record {
      split = sym (ap (λ t. lines_bytes t.lines ++ t.left) t);
      sized = subst (λ t. All Sized t.lines) (sym t) (All-nil Sized);
      stuck = ap (λ t. line_at t.left) t ∙ e;
    }
lines_at n less bs h p (Some x) e =
    let t = text_some bs x e in
    let rest = less x.1 (omega (arith, shorter bs x e)) (rest_bytes bs x p e) in
    let first = line_is_its_bytes bs x p e in
    record {
      split = first.0 ∙ ap (λ l. line_bytes x.0 ++ l) rest.split ∙ sym (append_assoc (line_bytes x.0) (lines_bytes (text_of x.1).lines) (text_of x.1).left) ∙ sym (ap (λ t. lines_bytes t.lines ++ t.left) t);
      sized = subst (λ t. All Sized t.lines) (sym t) (All-cons Sized x.0 (text_of x.1).lines first.1 rest.sized);
      stuck = ap (λ t. line_at t.left) t ∙ rest.stuck;
    }

lines_within : (n : ℕ) (bs : List ℕ) → length bs ≤ n → Bytes bs → LinesOf bs
unfolding lines_in
lines_within zero [] h p = record { split = refl; sized = All-nil Sized; stuck = refl }
lines_within zero (b ∷ bs) h p = absurd (omega arith)
lines_within (suc n) bs h p = lines_at n (lines_within n) bs h p (line_at bs) refl

pub lines_are_their_bytes : LinesAreTheirBytes
lines_are_their_bytes bs p = lines_within (length bs) bs (omega arith) p
