-- A walk through the members, one by one: what is left of the list begins with the member that stands next. Assumes nothing.
use Rattle.std.proofs.Common.{◌≡◌, ℕ, suc, ◌+◌, ◌-◌, ◌<◌, ◌≤◌, max, List, ◌∷◌, length, get_or, drop, sym, ap, ◌∙◌, arith}
use Rattle.std.proofs.lemmas.List.{at_drop_more, at_drop_all}
use Rattle.members.specs.declared.member.Member.{Member}
use Rattle.circle.specs.Circle.{units, whole, most, owner}
use Rattle.circle.proofs.Owners.{owner_first, owner_later}

-- the walk stands at place i, before a member that holds so many units
pub record Next (ms : List Member) (i held : ℕ) : Type 0 where
  pub member : Member
  pub inside : i < length ms
  pub here : member ≡ get_or ms i member
  pub holds : held ≡ units member

left : {Y : Type 0} {ms : List Member} {i held : ℕ} (F : List Member → Y) (n : Next ms i held) → F (drop i ms) ≡ F (n.member ∷ drop (i + 1) ms)
left {ms = ms} {i = i} F n = at_drop_more F ms i n.member n.inside ∙ ap (λ m. F (m ∷ drop (i + 1) ms)) (sym n.here)

-- the units that are left, one member further on
pub whole_next : {ms : List Member} {i held : ℕ} → Next ms i held → whole (drop i ms) ≡ held + whole (drop (i + 1) ms)
unfolding whole
whole_next n = omega (arith, left whole n)

-- the largest holding of those that are left
pub most_next : {ms : List Member} {i held : ℕ} → Next ms i held → most (drop i ms) ≡ max held (most (drop (i + 1) ms))
unfolding most
most_next n = omega (arith, left most n)

-- a unit is the next member's, or one of those behind it has it
pub owner_next : {ms : List Member} {i held : ℕ} → Next ms i held → (u : ℕ) → u < held → owner (drop i ms) u ≡ 0
owner_next {ms = ms} {i = i} n u l = left (λ ns. owner ns u) n ∙ owner_first n.member (drop (i + 1) ms) u (omega arith)

pub owner_further : {ms : List Member} {i held : ℕ} → Next ms i held → (u : ℕ) → held ≤ u → owner (drop i ms) u ≡ suc (owner (drop (i + 1) ms) (u - held))
owner_further {ms = ms} {i = i} n u l =
    left (λ ns. owner ns u) n
    ∙ owner_later n.member (drop (i + 1) ms) u (omega arith)
    ∙ ap (λ h. suc (owner (drop (i + 1) ms) (u - h))) (sym n.holds)

-- at the end of the list nothing is left
pub whole_done : (ms : List Member) (i : ℕ) → length ms ≤ i → whole (drop i ms) ≡ 0
unfolding whole
whole_done ms i h = at_drop_all whole ms i h

pub most_done : (ms : List Member) (i : ℕ) → length ms ≤ i → most (drop i ms) ≡ 0
unfolding most
most_done ms i h = at_drop_all most ms i h
