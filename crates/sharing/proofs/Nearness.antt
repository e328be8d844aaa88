-- The units of one member that fall to another are one run, and so what it gets is nearly the same for every word. Assumes nothing.
use Rattle.std.proofs.Common.{◌≡◌, ℕ, zero, suc, ◌+◌, ◌-◌, ◌*◌, ◌<◌, ◌≤◌, eqb, ◌⊎◌, List, [], ◌∷◌, refl, ap, ◌∙◌, inl, inr, ⊎_elim, arith}
use Rattle.std.proofs.lemmas.Nat.{mul-le}
use Rattle.std.proofs.lemmas.Bool.{eq-eqb, ne_eqb, cases_lt, cases_eq}
use Rattle.members.specs.declared.member.Member.{Member}
use Rattle.circle.specs.Circle.{at_risk, units, whole, most, start, turned, member_of, Holds}
use Rattle.circle.proofs.Owners.{units_nobody, block_in}
use Rattle.circle.proofs.Turns.{turned_straight, turned_wrapped}
use Rattle.sharing.specs.Fair.{Near, ExactPart}
use Rattle.sharing.specs.Sharing.{falls_to, stands_for, gets, Balanced, units_to}
use Rattle.sharing.proofs.Deaths.{falls_holds, holds_falls, falls_elsewhere}
use Rattle.sharing.proofs.Runs.{Run, run_none, run_from, run_steps}

-- the units of two members lie apart, so together they are not more than all
two_apart : (ms : List Member) (j k : ℕ) → (j ≡ k → ⊥) → units (member_of ms j) + units (member_of ms k) ≤ whole ms
unfolding whole
two_apart [] j k apart = omega (arith, units_nobody)
two_apart (m ∷ ms) zero zero apart = absurd (apart refl)
two_apart (m ∷ ms) zero (suc k) apart = omega (arith, block_in ms k)
two_apart (m ∷ ms) (suc j) zero apart = omega (arith, block_in ms j)
two_apart (m ∷ ms) (suc j) (suc k) apart = omega (arith, two_apart ms j k (λ e. apart (ap suc e)))

-- j holds what the unit x of k is turned into
Meets : List Member → ℕ → ℕ → ℕ → Type 0
Meets ms j k x = Holds ms j (turned (whole ms) (most ms) (start ms k + x))

-- if so wherever the unit lies among as many as j has, counted on past the seam from some base on, then they are one run
run_on : (ms : List Member) (j k base : ℕ) →
    ((x : ℕ) → x < units (member_of ms k) → Meets ms j k x → (base ≤ start ms k + x + most ms) × (start ms k + x + most ms < base + units (member_of ms j))) →
    ((x : ℕ) → x < units (member_of ms k) → base ≤ start ms k + x + most ms → start ms k + x + most ms < base + units (member_of ms j) → Meets ms j k x) →
    Run (λ x. eqb (falls_to ms (start ms k + x)) j) (units (member_of ms k))
unfolding Meets
run_on ms j k base only all =
    let off = start ms k + most ms in
    run_from _ _ (base - off) (base + units (member_of ms j) - off) (omega arith)
    (λ x h since within. eq-eqb _ j (holds_falls ms j _ (all x h (omega arith) (omega arith))))
    (λ x h out.
    ne_eqb _ j
    (λ e.
    let met = only x h (falls_holds ms j _ (omega (arith, block_in ms k)) e) in
    ⊎_elim (λ (before : x < base - off). omega (arith, met.0)) (λ (past : base + units (member_of ms j) - off ≤ x). omega (arith, met.1)) out))

-- the units of k that fall to j are one run: those of two members are too few to meet both before and behind the seam
pub falling_run : (ms : List Member) (j k : ℕ) → (j ≡ k → Balanced ms) → Run (λ x. eqb (falls_to ms (start ms k + x)) j) (units (member_of ms k))
unfolding Meets
falling_run ms j k half =
    ⊎_elim
    (λ (e : j ≡ k). run_none _ _ (λ x h. ne_eqb _ j (λ q. falls_elsewhere ms k x (half e) h (q ∙ e))))
    (λ (d : j ≡ k → ⊥). apart (two_apart ms j k d))
    (cases_eq j k)
  where
    landing : (x : ℕ) → ((start ms k + x + most ms < whole ms) × (turned (whole ms) (most ms) (start ms k + x) ≡ start ms k + x + most ms)) ⊎ ((whole ms ≤ start ms k + x + most ms) × (turned (whole ms) (most ms) (start ms k + x) ≡ start ms k + x + most ms - whole ms))
    landing x =
        ⊎_elim
        (λ (h : start ms k + x + most ms < whole ms). inl (h, turned_straight (whole ms) (most ms) (start ms k + x) h))
        (λ (h : whole ms ≤ start ms k + x + most ms). inr (h, turned_wrapped (whole ms) (most ms) (start ms k + x) h))
        (cases_lt (start ms k + x + most ms) (whole ms))

    apart : units (member_of ms j) + units (member_of ms k) ≤ whole ms → Run (λ x. eqb (falls_to ms (start ms k + x)) j) (units (member_of ms k))
    apart few =
        ⊎_elim
        (λ (before : start ms k + most ms < start ms j + units (member_of ms j)).
        run_on ms j k (start ms j)
        (λ x h met. (omega (arith, landing x, met.0, met.1), omega (arith, landing x, met.0, met.1)))
        (λ x h since within. (omega (arith, landing x, block_in ms j), omega (arith, landing x, block_in ms j))))
        (λ (behind : start ms j + units (member_of ms j) ≤ start ms k + most ms).
        run_on ms j k (start ms j + whole ms)
        (λ x h met. (omega (arith, landing x, met.0, met.1), omega (arith, landing x, met.0, met.1)))
        (λ x h since within. (omega (arith, landing x), omega (arith, landing x))))
        (cases_lt (start ms k + most ms) (start ms j + units (member_of ms j)))

pub exact_part : ExactPart
unfolding gets stands_for units_to units
exact_part ms j k r half drawn =
    let w = (member_of ms k).weight in
    let s = at_risk (member_of ms k) in
    let product : w * s ≡ s * w = omega arith in
    rw product (run_steps (λ x. eqb (falls_to ms (start ms k + x)) j) w r s drawn (rw product at (falling_run ms j k half)))

pub near : Near
near ms j k r s half one other =
    let w = (member_of ms k).weight in
    let more = exact_part ms j k r half one in
    let less = exact_part ms j k s half other in
    ⊎_elim
    (λ (h : gets ms j k r < gets ms j k s + 2). omega arith)
    (λ (h : gets ms j k s + 2 ≤ gets ms j k r). absurd (omega (arith, more.0, less.1, mul-le w (gets ms j k s + 2) w (gets ms j k r) (omega arith) h)))
    (cases_lt (gets ms j k r) (gets ms j k s + 2))
