-- Members without units taken out of the list. Assumes nothing.
use Rattle.std.proofs.Common.{◌≡◌, ℕ, zero, suc, ◌+◌, ◌-◌, ◌<◌, ◌≤◌, max, true, false, List, [], ◌∷◌, length, sym, refl, ap, ◌∙◌, subst, ⊎_elim, arith}
use Rattle.std.proofs.lemmas.Bool.{cases_lt, cases_Bool, cond-true, cond-false}
use Rattle.members.specs.declared.member.Member.{Member}
use Rattle.circle.specs.Circle.{units, whole, most, start, owner, member_of}
use Rattle.circle.specs.Living.{living, stood, without, skip, SameCircle, NoUnitsNoChange, DeadChangeNothing}
use Rattle.circle.proofs.Bounds.{units_dead}
use Rattle.circle.proofs.Owners.{owner_in, owner_first, owner_later}

-- a list is its own circle, and the empty one with any places
same : (ms : List Member) → SameCircle (λ i. i) ms ms
same ms = record { size = refl; largest = refl; inside = λ i h. h; order = λ i j h l. h; member = λ i h. refl; starts = λ i h. refl; place = λ u h. refl; name = λ u h. refl }

empty : (at : ℕ → ℕ) → SameCircle at [] []
unfolding whole
empty at = record {
  size = refl;
  largest = refl;
  inside = λ i h. absurd (omega arith);
  order = λ i j h l. absurd (omega arith);
  member = λ i h. absurd (omega arith);
  starts = λ i h. absurd (omega arith);
  place = λ u h. absurd (omega arith);
  name = λ u h. absurd (omega arith);
}

-- whoever owns a unit at the same place is the same
named : (at : ℕ → ℕ) (ns ms : List Member) → whole ns ≡ whole ms → ((i : ℕ) → i < length ns → member_of ns i ≡ member_of ms (at i)) → (u : ℕ) → u < whole ms → owner ms u ≡ at (owner ns u) → member_of ms (owner ms u) ≡ member_of ns (owner ns u)
named at ns ms size member u h place = ap (member_of ms) place ∙ sym (member (owner ns u) (owner_in ns u (omega arith)))

-- the same member before both lists
kept : (at to : ℕ → ℕ) (m : Member) (ns ms : List Member) → to 0 ≡ 0 → ((i : ℕ) → to (suc i) ≡ suc (at i)) → SameCircle at ns ms → SameCircle to (m ∷ ns) (m ∷ ms)
unfolding whole most start
kept at to m ns ms first later s = record {
  size = ap (λ n. units m + n) s.size;
  largest = ap (max (units m)) s.largest;
  inside = inside;
  order = order;
  member = member;
  starts = starts;
  place = place;
  name = λ u h. named to (m ∷ ns) (m ∷ ms) (ap (λ n. units m + n) s.size) member u h (place u h);
}
  where
    inside : (i : ℕ) → i < suc (length ns) → to i < suc (length ms)
    inside zero h = omega (arith, first)
    inside (suc i) h = omega (arith, later i, s.inside i (omega arith))

    order : (i j : ℕ) → i < j → j < suc (length ns) → to i < to j
    order i zero h l = absurd (omega arith)
    order zero (suc j) h l = omega (arith, first, later j)
    order (suc i) (suc j) h l = omega (arith, later i, later j, s.order i j (omega arith) (omega arith))

    member : (i : ℕ) → i < suc (length ns) → member_of (m ∷ ns) i ≡ member_of (m ∷ ms) (to i)
    member zero h = ap (member_of (m ∷ ms)) (sym first)
    member (suc i) h = s.member i (omega arith) ∙ ap (member_of (m ∷ ms)) (sym (later i))

    starts : (i : ℕ) → i < suc (length ns) → start (m ∷ ns) i ≡ start (m ∷ ms) (to i)
    starts zero h = ap (start (m ∷ ms)) (sym first)
    starts (suc i) h = ap (λ n. units m + n) (s.starts i (omega arith)) ∙ ap (start (m ∷ ms)) (sym (later i))

    place : (u : ℕ) → u < whole (m ∷ ms) → owner (m ∷ ms) u ≡ to (owner (m ∷ ns) u)
    place u h =
        ⊎_elim
        (λ (l : u < units m). owner_first m ms u l ∙ sym first ∙ ap to (sym (owner_first m ns u l)))
        (λ (l : units m ≤ u). owner_later m ms u l ∙ ap suc (s.place (u - units m) (omega arith)) ∙ sym (later _) ∙ ap to (sym (owner_later m ns u l)))
        (cases_lt u (units m))

-- a member without units before the second list only
left_out : (at to : ℕ → ℕ) (m : Member) (ns ms : List Member) → units m ≡ 0 → ((i : ℕ) → to i ≡ suc (at i)) → SameCircle at ns ms → SameCircle to ns (m ∷ ms)
unfolding whole most start
left_out at to m ns ms none later s = record {
  size = size;
  largest = omega (arith, s.largest);
  inside = λ i h. omega (arith, later i, s.inside i h);
  order = λ i j h l. omega (arith, later i, later j, s.order i j h l);
  member = member;
  starts = λ i h. omega (arith, s.starts i h, ap (start (m ∷ ms)) (later i));
  place = place;
  name = λ u h. named to ns (m ∷ ms) size member u h (place u h);
}
  where
    size : whole ns ≡ whole (m ∷ ms)
    size = omega (arith, s.size)

    member : (i : ℕ) → i < length ns → member_of ns i ≡ member_of (m ∷ ms) (to i)
    member i h = s.member i h ∙ ap (member_of (m ∷ ms)) (sym (later i))

    place : (u : ℕ) → u < whole (m ∷ ms) → owner (m ∷ ms) u ≡ to (owner ns u)
    place u h =
        let z : u - units m ≡ u = omega arith in
        owner_later m ms u (omega arith) ∙ ap (λ n. suc (owner ms n)) z ∙ ap suc (s.place u (omega arith)) ∙ sym (later _)

pub no_units_no_change : NoUnitsNoChange
unfolding without skip
no_units_no_change k [] none = empty (skip k)
no_units_no_change zero (m ∷ ms) none = left_out (λ i. i) (skip zero) m ms ms none (λ i. refl) (same ms)
no_units_no_change (suc k) (m ∷ ms) none = kept (skip k) (skip (suc k)) m (without k ms) ms refl (λ i. refl) (no_units_no_change k ms none)

-- one of the living stays where it is among them, and one of the dead moves all behind it
stood_dead : (m : Member) (ms : List Member) → m.alive ≡ false → (i : ℕ) → stood (m ∷ ms) i ≡ suc (stood ms i)
unfolding stood
stood_dead m ms e zero = cond-false m.alive _ _ e
stood_dead m ms e (suc i) = cond-false m.alive _ _ e

pub dead_change_nothing : DeadChangeNothing
unfolding living stood
dead_change_nothing [] = empty (stood [])
dead_change_nothing (m ∷ ms) =
    ⊎_elim
    (λ (e : m.alive ≡ true).
    subst (λ ns. SameCircle (stood (m ∷ ms)) ns (m ∷ ms)) (sym (cond-true m.alive _ _ e))
    (kept (stood ms) (stood (m ∷ ms)) m (living ms) ms (cond-true m.alive _ _ e) (λ i. cond-true m.alive _ _ e) (dead_change_nothing ms)))
    (λ (e : m.alive ≡ false).
    subst (λ ns. SameCircle (stood (m ∷ ms)) ns (m ∷ ms)) (sym (cond-false m.alive _ _ e))
    (left_out (stood ms) (stood (m ∷ ms)) m (living ms) ms (units_dead m e) (stood_dead m ms e) (dead_change_nothing ms)))
    (cases_Bool m.alive)
