-- Where the units lie, and whose each is. Assumes nothing.
use Rattle.std.proofs.Common.{◌≡◌, ℕ, zero, suc, ◌+◌, ◌-◌, ◌*◌, ◌<◌, ◌≤◌, eqb, List, [], ◌∷◌, length, take, sym, refl, ap, ◌∙◌, subst, ⊎_elim, arith}
use Rattle.std.proofs.lemmas.List.{get_or_past}
use Rattle.std.proofs.lemmas.Bool.{lt-ltb, le-ltb, eq-eqb, ne_eqb, cases_lt}
use Rattle.members.specs.Members.{nobody}
use Rattle.members.specs.declared.member.Member.{Member}
use Rattle.circle.specs.Circle.{at_risk, units, whole, most, start, owner, member_of, Holds}
use Rattle.circle.specs.Laws.{OneOwner, OwnsItsUnits, EndToEnd, MostIsLargest}
use Rattle.circle.specs.Sums.{span, bit}
use Rattle.circle.proofs.Sums.{span_ext, span_none, span_same, span_head, span_one, span_blocks}

-- an empty place has no units, and so has a place past the end of the list
pub units_nobody : units nobody ≡ 0
unfolding units at_risk
units_nobody = refl

pub units_past : (ms : List Member) (k : ℕ) → length ms ≤ k → units (member_of ms k) ≡ 0
units_past ms k h = ap units (get_or_past ms k nobody h) ∙ units_nobody

-- a start is the units before it, one member after the other
pub start-span : (ms : List Member) (k : ℕ) → start ms k ≡ span (λ i. units (member_of ms i)) k
unfolding start span
start-span [] k = sym (span_none _ k (λ i h. units_nobody))
start-span (m ∷ ms) zero = refl
start-span (m ∷ ms) (suc k) = omega (arith, start-span ms k, span_head (λ i. units (member_of (m ∷ ms) i)) k)

-- and all units are what lies before the end
pub start_end : (ms : List Member) → start ms (length ms) ≡ whole ms
unfolding start whole
start_end [] = refl
start_end (m ∷ ms) = ap (λ n. units m + n) (start_end ms)

-- or the units of those who stand before
pub start-take : (ms : List Member) (k : ℕ) → start ms k ≡ whole (take k ms)
unfolding start whole
start-take [] zero = refl
start-take [] (suc k) = refl
start-take (m ∷ ms) zero = refl
start-take (m ∷ ms) (suc k) = ap (λ n. units m + n) (start-take ms k)

-- each member's units lie within the whole
pub block_in : (ms : List Member) (k : ℕ) → start ms k + units (member_of ms k) ≤ whole ms
unfolding start whole
block_in [] k = omega (arith, units_nobody)
block_in (m ∷ ms) zero = omega arith
block_in (m ∷ ms) (suc k) = omega (arith, block_in ms k)

pub end_to_end : EndToEnd
end_to_end f ms =
    span_ext _ _ (length ms) (λ k h. ap (λ s. span (λ x. f (s + x)) (units (member_of ms k))) (start-span ms k))
    ∙ span_blocks f (λ k. units (member_of ms k)) (length ms)
    ∙ ap (span f) (sym (start-span ms (length ms)) ∙ start_end ms)

-- the owner is the first member, or one of the others
pub owner_first : (m : Member) (ms : List Member) (u : ℕ) → u < units m → owner (m ∷ ms) u ≡ 0
unfolding owner
owner_first m ms u h = rw (lt-ltb u (units m) h)

pub owner_later : (m : Member) (ms : List Member) (u : ℕ) → units m ≤ u → owner (m ∷ ms) u ≡ suc (owner ms (u - units m))
unfolding owner
owner_later m ms u h = rw (le-ltb u (units m) h)

-- a unit of the circle belongs to a member of the list
pub owner_in : (ms : List Member) (u : ℕ) → u < whole ms → owner ms u < length ms
unfolding whole
owner_in [] u h = absurd (omega arith)
owner_in (m ∷ ms) u h =
    ⊎_elim
    (λ (l : u < units m). omega (arith, owner_first m ms u l))
    (λ (l : units m ≤ u). omega (arith, owner_later m ms u l, owner_in ms (u - units m) (omega arith)))
    (cases_lt u (units m))

-- which holds it
pub owner_holds : (ms : List Member) (u : ℕ) → u < whole ms → Holds ms (owner ms u) u
unfolding whole start
owner_holds [] u h = absurd (omega arith)
owner_holds (m ∷ ms) u h =
    ⊎_elim
    (λ (l : u < units m). subst (λ k. Holds (m ∷ ms) k u) (sym (owner_first m ms u l)) (omega arith, omega arith))
    (λ (l : units m ≤ u).
    let i = owner_holds ms (u - units m) (omega arith) in
    subst (λ k. Holds (m ∷ ms) k u) (sym (owner_later m ms u l)) (omega (arith, i.0), omega (arith, i.1)))
    (cases_lt u (units m))

-- the units of a member have it as owner
pub owner_at : (ms : List Member) (k x : ℕ) → x < units (member_of ms k) → owner ms (start ms k + x) ≡ k
unfolding start
owner_at [] k x h = absurd (omega (arith, units_nobody))
owner_at (m ∷ ms) zero x h = let z : 0 + x ≡ x = omega arith in rw z (owner_first m ms x h)
owner_at (m ∷ ms) (suc k) x h =
    let z : units m + start ms k + x - units m ≡ start ms k + x = omega arith in
    owner_later m ms (units m + start ms k + x) (omega arith) ∙ ap (λ u. suc (owner ms u)) z ∙ ap suc (owner_at ms k x h)

pub held_owner : (ms : List Member) (k u : ℕ) → Holds ms k u → owner ms u ≡ k
held_owner ms k u h =
    let z : start ms k + (u - start ms k) ≡ u = omega (arith, h.0) in
    ap (owner ms) (sym z) ∙ owner_at ms k (u - start ms k) (omega (arith, h.0, h.1))

pub one_owner : OneOwner
one_owner ms u = (owner_in ms u, λ k. (λ h. (omega (arith, block_in ms k, h.1), held_owner ms k u h), λ o. subst (λ j. Holds ms j u) o.1 (owner_holds ms u o.0)))

-- a sum over all units by their owners is one over the members, each as often as it has units
pub span_owners : (g : ℕ → ℕ) (ms : List Member) → span (λ u. g (owner ms u)) (whole ms) ≡ span (λ k. units (member_of ms k) * g k) (length ms)
span_owners g ms =
    sym (end_to_end (λ u. g (owner ms u)) ms)
    ∙ span_ext _ _ (length ms)
    (λ k h. span_ext _ _ (units (member_of ms k)) (λ x l. ap g (owner_at ms k x l)) ∙ span_same (g k) (units (member_of ms k)))

pub owns_its_units : OwnsItsUnits
owns_its_units ms k =
    span_owners (λ j. bit (eqb j k)) ms
    ∙ ⊎_elim
    (λ (h : k < length ms). span_one _ (length ms) k h (λ j l d. let e = ne_eqb j k d in rw e (omega arith)) ∙ (let e = eq-eqb k k refl in rw e (omega arith)))
    (λ (h : length ms ≤ k).
    span_none _ (length ms) (λ j l. let d : j ≡ k → ⊥ = omega arith in let e = ne_eqb j k d in rw e (omega arith)) ∙ sym (units_past ms k h))
    (cases_lt k (length ms))

-- no member has more than the largest holding
pub most_ge : (ms : List Member) (k : ℕ) → units (member_of ms k) ≤ most ms
unfolding most
most_ge [] k = omega (arith, units_nobody)
most_ge (m ∷ ms) zero = omega arith
most_ge (m ∷ ms) (suc k) = omega (arith, most_ge ms k)

-- which is not more than all units
pub most_whole : (ms : List Member) → most ms ≤ whole ms
unfolding most whole
most_whole [] = omega arith
most_whole (m ∷ ms) = omega (arith, most_whole ms)

-- and some member has it
reached : (ms : List Member) → 0 < length ms → (k : ℕ) × (k < length ms) × (units (member_of ms k) ≡ most ms)
unfolding most
reached [] h = absurd (omega arith)
reached (m ∷ []) h = (0, omega arith, omega arith)
reached (m ∷ (n ∷ ms)) h =
    let r = reached (n ∷ ms) (omega arith) in
    ⊎_elim
    (λ (l : units m < most (n ∷ ms)). (suc r.0, omega (arith, r.1), omega (arith, r.2)))
    (λ (l : most (n ∷ ms) ≤ units m). (0, omega arith, omega arith))
    (cases_lt (units m) (most (n ∷ ms)))

pub most_is_largest : MostIsLargest
most_is_largest ms = record { bound = most_ge ms; reached = reached ms; within = most_whole ms }
