-- Records of one width that stand one after the other. Assumes nothing.
use Rattle.std.proofs.Common.{◌≡◌, ℕ, zero, suc, ◌+◌, ◌*◌, ◌<◌, ◌≤◌, List, [], ◌∷◌, ◌++◌, map, length, get_or, drop, sym, ap, ◌∙◌, mul-zero, arith}
use Rattle.std.specs.List.{range_with_len, flat_map}
use Rattle.std.proofs.lemmas.List.FromFn.{map-range_with_len_more}
use Rattle.std.proofs.lemmas.List.{append_assoc, length-append, drop-drop, drop_at, drop_more, flat_map_more}

module _ {X : Type 0} (f : X → List ℕ) (k : ℕ) where
  pub records_length : ((x : X) → length (f x) ≡ k) → (xs : List X) → length (flat_map f xs) ≡ k * length xs
  records_length wide [] = sym (mul-zero k)
  records_length wide (x ∷ xs) = omega (arith, length-append (f x) (flat_map f xs), wide x, records_length wide xs)

  -- what stands after i records
  pub after_records : ((x : X) → length (f x) ≡ k) → (xs : List X) (rest : List ℕ) (i : ℕ) → i ≤ length xs → drop (k * i) (flat_map f xs ++ rest) ≡ flat_map f (drop i xs) ++ rest
  after_records wide xs rest zero h = ap (λ n. drop n (flat_map f xs ++ rest)) (mul-zero k)
  after_records wide [] rest (suc i) h = absurd (omega arith)
  after_records wide (x ∷ xs) rest (suc i) h =
      let step : k * suc i ≡ k + k * i = omega arith in
      ap (λ n. drop n (flat_map f (x ∷ xs) ++ rest)) step
      ∙ sym (drop-drop (k * i) k (flat_map f (x ∷ xs) ++ rest))
      ∙ ap (λ l. drop (k * i) (drop k l)) (append_assoc (f x) (flat_map f xs) rest)
      ∙ ap (drop (k * i)) (drop_at (f x) (flat_map f xs ++ rest) k (wide x))
      ∙ after_records wide xs rest i (omega arith)

  -- the i-th record stands there
  pub at_record : ((x : X) → length (f x) ≡ k) → (xs : List X) (rest : List ℕ) (i : ℕ) (d : X) → i < length xs → drop (k * i) (flat_map f xs ++ rest) ≡ f (get_or xs i d) ++ (flat_map f (drop (i + 1) xs) ++ rest)
  at_record wide xs rest i d h =
      after_records wide xs rest i (omega arith) ∙ ap (λ l. flat_map f l ++ rest) (drop_more xs i d h) ∙ append_assoc (f (get_or xs i d)) (flat_map f (drop (i + 1) xs)) rest

  -- bytes that are read record by record are those of the records, and what is left
  pub records_read : (g : ℕ → X) (bs : List ℕ) (n : ℕ) → ((i : ℕ) → i < n → f (g i) ++ drop k (drop (k * i) bs) ≡ drop (k * i) bs) → flat_map f (map g (range_with_len 0 n)) ++ drop (k * n) bs ≡ bs
  records_read g bs zero each = ap (λ n. drop n bs) (mul-zero k)
  records_read g bs (suc n) each =
      let step : k * suc n ≡ k * n + k = omega arith in
      let more : suc n ≡ n + 1 = omega arith in
      ap (λ m. flat_map f (map g (range_with_len 0 m)) ++ drop (k * suc n) bs) more
      ∙ ap (λ l. flat_map f l ++ drop (k * suc n) bs) (map-range_with_len_more g 0 n n (omega arith))
      ∙ ap (λ l. l ++ drop (k * suc n) bs) (sym (flat_map_more f [] (map g (range_with_len 0 n)) (g n)))
      ∙ append_assoc (flat_map f (map g (range_with_len 0 n))) (f (g n)) (drop (k * suc n) bs)
      ∙ ap (λ m. flat_map f (map g (range_with_len 0 n)) ++ (f (g n) ++ drop m bs)) step
      ∙ ap (λ l. flat_map f (map g (range_with_len 0 n)) ++ (f (g n) ++ l)) (sym (drop-drop k (k * n) bs))
      ∙ ap (λ l. flat_map f (map g (range_with_len 0 n)) ++ l) (each n (omega arith))
      ∙ records_read g bs n (λ i h. each i (omega arith))
