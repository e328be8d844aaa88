-- Members seated one after the other in lent places. Assumes nothing.
use Rattle.std.proofs.Common.{◌≡◌, ℕ, ◌+◌, ◌<◌, List, [], ◌∷◌, ◌++◌, map, length, get_or, drop, set, sym, ap, ◌∙◌, arith}
use Rattle.std.specs.List.{range_with_len}
use Rattle.std.proofs.lemmas.List.FromFn.{length-map-range_with_len, map-range_with_len_more}
use Rattle.std.proofs.lemmas.List.{append_assoc, drop_more, set_at}

-- one more place is taken
pub seat_more : {X : Type 0} (f : ℕ → X) (places now : List X) (i : ℕ) (x : X) → i < length places → now ≡ map f (range_with_len 0 i) ++ drop i places → x ≡ f i → set now i x ≡ map f (range_with_len 0 (i + 1)) ++ drop (i + 1) places
seat_more f places now i x h e v =
    ap (λ l. set l i x) (e ∙ ap (λ l. map f (range_with_len 0 i) ++ l) (drop_more places i x h))
    ∙ set_at (map f (range_with_len 0 i)) (get_or places i x) (drop (i + 1) places) x i (length-map-range_with_len f 0 i)
    ∙ ap (λ y. map f (range_with_len 0 i) ++ y ∷ drop (i + 1) places) v
    ∙ sym (append_assoc (map f (range_with_len 0 i)) (f i ∷ []) (drop (i + 1) places))
    ∙ ap (λ l. l ++ drop (i + 1) places) (sym (map-range_with_len_more f 0 i i (omega arith)))
