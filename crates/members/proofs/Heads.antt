-- What is known of a head that was accepted. Assumes nothing.
use Rattle.std.proofs.Common.{◌≡◌, ℕ, ◌≤◌, Bool, true, false, cond, List, ◌++◌, map, length, drop, Some, None, Ok, Option, Result, sym, refl, ap, ◌∙◌, arith}
use Rattle.std.specs.List.{range_with_len}
use Rattle.std.proofs.lemmas.Bool.{ltb-false, le-ltb, not-false, not_from_true, cond-false}
use Rattle.members.specs.Limits.{most_members, ages, good_count}
use Rattle.members.specs.Heads.{announced, head_length, after_head, table_of, bad_weight, bad_age, bad_stake, entries_of, head_of, lacking, unless_lacking, answer, seated, member_at, members_of}
use Rattle.members.specs.Lines.{line_count}
use Rattle.members.specs.declared.head.Head.{Head}
use Rattle.members.specs.declared.head.Room.{Room}
use Rattle.members.specs.declared.member.Member.{Member}
use Rattle.members.specs.declared.refusal.Memory.{Memory}
use Rattle.members.specs.declared.refusal.Refusal.{Refusal}
use Rattle.members.proofs.Bounds.{good_within}
use Rattle.members.proofs.Checks.{past, none_bad}

ok_same : {A E : Type 0} (x y : A) → ◌≡◌ {A = Result A E} (Ok y) (Ok x) → y ≡ x
ok_same x y e = cc

pub record Accepted (bs : List ℕ) (h : Head) : Type 0 where
  pub is : h ≡ record { count = announced bs; table = table_of bs }
  pub some : 1 ≤ announced bs
  pub few : announced bs ≤ most_members
  pub long : head_length (announced bs) ≤ length bs
  pub weights : bad_weight bs ≡ ages
  pub aged : bad_age bs (announced bs) ≡ announced bs
  pub staked : bad_stake bs (announced bs) ≡ announced bs

pub accepted : (bs : List ℕ) (h : Head) → head_of bs ≡ Ok h → Accepted bs h
accepted bs h e =
    let n = announced bs in
    let a = past _ _ _ h e in
    let b = past _ _ _ h a.1 in
    let c = past _ _ _ h b.1 in
    let d = past _ _ _ h c.1 in
    let f = past _ _ _ h d.1 in
    let counted = good_within 1 most_members n (not-false _ a.0) in
    record {
      is = ok_same _ h (sym f.1);
      some = counted.0;
      few = counted.1;
      long = ltb-false (length bs) (head_length n) b.0;
      weights = none_bad _ ages c.0;
      aged = none_bad _ n d.0;
      staked = none_bad _ n f.0;
    }

-- and the other way round
pub entries_pass : (bs : List ℕ) (n : ℕ) → bad_weight bs ≡ ages → bad_age bs n ≡ n → bad_stake bs n ≡ n → entries_of bs n ≡ Ok (record { count = n; table = table_of bs })
entries_pass bs n weights aged staked =
    cond-false _ _ _ (le-ltb (bad_weight bs) ages (omega arith)) ∙ cond-false _ _ _ (le-ltb (bad_age bs n) n (omega arith)) ∙ cond-false _ _ _ (le-ltb (bad_stake bs n) n (omega arith))

pub accepts : (bs : List ℕ) → good_count (announced bs) ≡ true → head_length (announced bs) ≤ length bs → bad_weight bs ≡ ages → bad_age bs (announced bs) ≡ announced bs → bad_stake bs (announced bs) ≡ announced bs → head_of bs ≡ Ok (record { count = announced bs; table = table_of bs })
accepts bs counted long weights aged staked =
    cond-false _ _ _ (not_from_true _ counted) ∙ cond-false _ _ _ (le-ltb (length bs) (head_length (announced bs)) long) ∙ entries_pass bs (announced bs) weights aged staked

-- a memory that is long enough
enough : {A : Type 0} (b : Bool) (x : A) (r : Option A) → cond b (Some x) r ≡ None → (b ≡ false) × (r ≡ None)
enough true x r h = let z : ◌≡◌ {A = ℕ} 0 1 = cc in absurd (omega arith)
enough false x r h = (refl, h)

module _ (places : ℕ) (room : Room) (bs : List ℕ) (full : lacking places room bs ≡ None) where
  pub roomy : announced bs ≤ places
  roomy = ltb-false places (announced bs) (enough _ _ _ full).0

  pub answered : (h : Head) → head_of bs ≡ Ok h → Ok h ≡ answer places room bs
  answered h e = sym (ap (λ o. unless_lacking o (head_of bs)) full ∙ e)

-- the members of an accepted book are in their places
pub taken : (bs : List ℕ) (h : Head) (was after : List Member) → head_of bs ≡ Ok h → after ≡ map (member_at bs) (range_with_len 0 h.count) ++ drop h.count was → after ≡ seated (Ok h) bs was
unfolding members_of
taken bs h was after e s = s ∙ ap (λ n. map (member_at bs) (range_with_len 0 n) ++ drop h.count was) (ap (λ x. x.count) (accepted bs h e).is)

-- an answer that accepts was not for want of memory
accepting : (o : Option Memory) (r : Result Head Refusal) (h : Head) → unless_lacking o r ≡ Ok h → r ≡ Ok h
accepting (Some m) r h e = let z : ◌≡◌ {A = ℕ} 0 1 = cc in absurd (omega arith)
accepting None r h e = e

pub from_answer : (places : ℕ) (room : Room) (bs : List ℕ) (h : Head) → answer places room bs ≡ Ok h → head_of bs ≡ Ok h
from_answer places room bs h e = accepting (lacking places room bs) (head_of bs) h e

-- memory that is long enough for all three
pub full_room : (places : ℕ) (room : Room) (bs : List ℕ) → announced bs ≤ places → announced bs ≤ room.cents → line_count (after_head bs) ≤ room.lines → lacking places room bs ≡ None
full_room places room bs p q r = cond-false _ _ _ (le-ltb places (announced bs) p) ∙ cond-false _ _ _ (le-ltb room.cents (announced bs) q) ∙ cond-false _ _ _ (le-ltb room.lines (line_count (after_head bs)) r)
