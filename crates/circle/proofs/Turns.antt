-- The turn of the circle. Assumes nothing.
use Rattle.std.proofs.Common.{◌≡◌, ℕ, ◌+◌, ◌-◌, ◌<◌, ◌≤◌, sym, ap, ◌∙◌, ⊎_elim, arith}
use Rattle.std.proofs.lemmas.Bool.{lt-ltb, le-ltb, cases_lt}
use Rattle.circle.specs.Circle.{turned}
use Rattle.circle.specs.Laws.{TurnPermutes}
use Rattle.circle.specs.Sums.{span}
use Rattle.circle.proofs.Sums.{span_ext, span_add, span_rotated}

-- before the seam, and behind it
pub turned_straight : (w by u : ℕ) → u + by < w → turned w by u ≡ u + by
unfolding turned
turned_straight w by u h = rw (lt-ltb (u + by) w h)

pub turned_wrapped : (w by u : ℕ) → w ≤ u + by → turned w by u ≡ u + by - w
unfolding turned
turned_wrapped w by u h = rw (le-ltb (u + by) w h)

-- a unit is turned into a unit
pub turned_below : (w by u : ℕ) → by ≤ w → u < w → turned w by u < w
turned_below w by u h l =
    ⊎_elim
    (λ (s : u + by < w). omega (arith, turned_straight w by u s))
    (λ (s : w ≤ u + by). omega (arith, turned_wrapped w by u s))
    (cases_lt (u + by) w)

-- two turns that make a whole one change nothing
pub turned_back : (w by rest u : ℕ) → by + rest ≡ w → u < w → turned w rest (turned w by u) ≡ u
turned_back w by rest u h l =
    ⊎_elim
    (λ (s : u + by < w). ap (turned w rest) (turned_straight w by u s) ∙ turned_wrapped w rest (u + by) (omega arith) ∙ omega arith)
    (λ (s : w ≤ u + by). ap (turned w rest) (turned_wrapped w by u s) ∙ turned_straight w rest (u + by - w) (omega arith) ∙ omega arith)
    (cases_lt (u + by) w)

-- a sum over all units does not change under the turn
pub span_turned : (f : ℕ → ℕ) (w by : ℕ) → by ≤ w → span (λ u. f (turned w by u)) w ≡ span f w
span_turned f w by h =
    let rest : w - by + by ≡ w = omega arith in
    ap (span (λ u. f (turned w by u))) (sym rest)
    ∙ span_add (λ u. f (turned w by u)) (w - by) by
    ∙ omega (
      arith,
      span_ext (λ u. f (turned w by u)) (λ i. f (by + i)) (w - by) (λ i l. ap f (turned_straight w by i (omega arith) ∙ omega arith)),
      span_ext (λ i. f (turned w by (w - by + i))) f by (λ i l. ap f (turned_wrapped w by (w - by + i) (omega arith) ∙ omega arith)),
      span_rotated f by w h,
    )

pub turn_permutes : TurnPermutes
turn_permutes w by h = record {
  below = λ u. turned_below w by u h;
  back = λ u. turned_back w by (w - by) u (omega arith);
  forth = λ u. turned_back w (w - by) by u (omega arith);
  sums = λ f. span_turned f w by h;
}
