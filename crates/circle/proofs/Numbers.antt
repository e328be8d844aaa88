-- A circle is told by its two numbers. Assumes nothing.
use Rattle.std.proofs.Common.{◌≡◌, ℕ, ◌<◌, ◌≤◌, Some, None, refl, ap, arith}
use mathlib.Core.HLevel.{is_prop→PathP}
use native.Mathlib.Bridge.{le_prop}
use Rattle.circle.specs.Circle.{unit_limit}
use Rattle.circle.specs.Answers.{ToldByNumbers}
use Rattle.circle.specs.declared.circle.Circle.{Circle}

-- circles are the same once their two numbers are: a bound has one proof
same_numbers : (c d : Circle) → c.size ≡ d.size → c.largest ≡ d.largest → c ≡ d
same_numbers c d s l i = record {
  size = s i;
  largest = l i;
  within = is_prop→PathP (λ k. l k ≤ s k) (λ k. le_prop) c.within d.within i;
  bounded = is_prop→PathP (λ k. s k < unit_limit) (λ k. le_prop) c.bounded d.bounded i;
}

pub told_by_numbers : ToldByNumbers
told_by_numbers None None e = refl
told_by_numbers None (Some d) e = let z : ◌≡◌ {A = ℕ} 0 1 = cc in absurd (omega arith)
told_by_numbers (Some c) None e = let z : ◌≡◌ {A = ℕ} 0 1 = cc in absurd (omega arith)
told_by_numbers (Some c) (Some d) e =
    let p : ◌≡◌ {A = ℕ × ℕ} (c.size, c.largest) (d.size, d.largest) = cc in
    ap Some (same_numbers c d (ap (λ x. x.0) p) (ap (λ x. x.1) p))
