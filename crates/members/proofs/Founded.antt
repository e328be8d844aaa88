-- Reading a head is the inverse of writing it. Assumes nothing.
use Rattle.std.proofs.Common.{◌≡◌, ℕ, ◌+◌, ◌-◌, ◌*◌, ◌<◌, ◌≤◌, List, [], ◌∷◌, ◌++◌, length, get_or, drop, Ok, sym, refl, ap, ◌∙◌, subst, arith, get_or-drop}
use Rattle.std.specs.List.{flat_map}
use Rattle.std.proofs.lemmas.List.FromFn.{fill_by_all, length-map-range_with_len, get_or-map-range_with_len}
use Rattle.std.proofs.lemmas.List.Elements.{All-drop}
use Rattle.std.proofs.lemmas.List.{append_assoc, length-append, drop-drop, drop_all, length-drop}
use Rattle.members.specs.Bytes.{Bytes, number_in, number_bytes, weight_for}
use Rattle.members.specs.Heads.{announced, head_length, after_head, weight_at, age_at, stake_at, weights_of, table_of, member_at, members_of, bad_weight, bad_age, bad_stake, head_of}
use Rattle.members.specs.Limits.{most_weight, most_stake, most_members, first_age, ages, table_at, weight_size, members_at, member_size, good_weight, good_age, good_stake, clamped}
use Rattle.members.specs.Lines.{line_count}
use Rattle.members.specs.Members.{nobody}
use Rattle.members.specs.Written.{member_bytes, head_bytes, Founder, Founders, HeadReadsBack, HeadIsItsBytes, lines_bytes, Meaning, meaning_of, Accepts, OneBookOneMeaning}
use Rattle.members.specs.declared.head.Head.{Head}
use Rattle.members.specs.declared.member.Member.{Member}
use Rattle.members.specs.declared.table.Table.{Table}
use Rattle.members.proofs.Bounds.{clamped_same, within_good, good_same}
use Rattle.members.proofs.Checks.{passes, none_fails}
use Rattle.members.proofs.Heads.{Accepted, accepted, accepts, answered, from_answer, full_room}
use Rattle.members.proofs.Numbers.{number_written, number_read}
use Rattle.members.proofs.Records.{records_length, after_records, at_record, records_read}
use Rattle.members.proofs.Same.{same_member, same_table}
use Rattle.members.proofs.Written.{lines_are_their_bytes}

-- a head that was written, and what follows it
module _ (t : Table) (ms : List Member) (bs : List ℕ) where
  abbrev book : List ℕ
  book = head_bytes t ms ++ bs

  abbrev people : List ℕ
  people = flat_map member_bytes ms ++ bs

  table_part : drop table_at book ≡ flat_map number_bytes t.weights ++ people
  table_part = append_assoc (flat_map number_bytes t.weights) (flat_map member_bytes ms) bs

  in_table : (i : ℕ) → drop (table_at + weight_size * i) book ≡ drop (weight_size * i) (flat_map number_bytes t.weights ++ people)
  in_table i = sym (drop-drop (weight_size * i) table_at book) ∙ ap (drop (weight_size * i)) table_part

  in_people : (i : ℕ) → drop (head_length i) book ≡ drop (member_size * i) people
  in_people i =
      sym (drop-drop (member_size * i) members_at book)
      ∙ ap (drop (member_size * i)) (in_table ages ∙ after_records number_bytes weight_size (λ n. refl) t.weights people ages (omega (arith, t.whole)) ∙ ap (λ l. flat_map number_bytes l ++ people) (drop_all ages t.weights (omega (arith, t.whole))))

  weight_back : (i : ℕ) → i < ages → weight_at book i ≡ get_or t.weights i 1
  weight_back i h =
      ap number_in (in_table i ∙ at_record number_bytes weight_size (λ n. refl) t.weights people i 1 (omega (arith, t.whole)))
      ∙ number_written (get_or t.weights i 1) (flat_map number_bytes (drop (i + 1) t.weights) ++ people) (omega (arith, (t.weighs i).1))

  person : (i : ℕ) → i < length ms → drop (head_length i) book ≡ member_bytes (get_or ms i nobody) ++ (flat_map member_bytes (drop (i + 1) ms) ++ bs)
  person i h = in_people i ∙ at_record member_bytes member_size (λ m. refl) ms bs i nobody h

  age_back : (i : ℕ) → i < length ms → age_at book i ≡ (get_or ms i nobody).age
  age_back i h = let z : head_length i + 0 ≡ head_length i = omega arith in ap (λ n. get_or book n 0) (sym z) ∙ sym (get_or-drop (head_length i) book 0 0) ∙ ap (λ l. get_or l 0 0) (person i h)

  stake_back : (i : ℕ) → i < length ms → stake_at book i ≡ (get_or ms i nobody).stake
  stake_back i h =
      ap number_in (sym (drop-drop 1 (head_length i) book) ∙ ap (drop 1) (person i h))
      ∙ number_written (get_or ms i nobody).stake (flat_map member_bytes (drop (i + 1) ms) ++ bs) (omega (arith, (get_or ms i nobody).staked.1))

  weights_back : weights_of book ≡ t.weights
  unfolding weights_of
  weights_back =
      sym (fill_by_all (λ i. clamped most_weight (weight_at book i)) t.weights ages 1 t.whole (λ i h. clamped_same most_weight _ (t.weighs i).0 (t.weighs i).1 ∙ ap (clamped most_weight) (sym (weight_back i h))))

  lines_back : after_head book ≡ bs
  lines_back = in_people (length ms) ∙ after_records member_bytes member_size (λ m. refl) ms bs (length ms) (omega arith) ∙ ap (λ l. flat_map member_bytes l ++ bs) (drop_all (length ms) ms (omega arith))

  module _ (f : Founders t ms) where
    member_back : (i : ℕ) → i < length ms → get_or ms i nobody ≡ member_at book i
    member_back i h =
        let m = get_or ms i nobody in
        let new = f.each i h in
        same_member m (member_at book i) new.number (sym (age_back i h))
        (clamped_same most_weight _ m.weighs.0 m.weighs.1 ∙ ap (clamped most_weight) (new.weighed ∙ ap (λ a. weight_for t.weights a) (sym (age_back i h)) ∙ ap (λ ws. weight_for ws (age_at book i)) (sym weights_back)))
        (clamped_same most_stake _ m.staked.0 m.staked.1 ∙ ap (clamped most_stake) (sym (stake_back i h))) new.unpaid new.lives

    members_back : members_of book ≡ ms
    unfolding members_of
    members_back = sym (fill_by_all (member_at book) ms (length ms) nobody refl member_back)

    none_bad_weight : bad_weight book ≡ ages
    none_bad_weight = none_fails _ ages (λ i h. ap good_weight (weight_back i h) ∙ within_good 1 most_weight _ (t.weighs i).0 (t.weighs i).1)

    none_bad_age : bad_age book (length ms) ≡ length ms
    none_bad_age = none_fails _ (length ms) (λ i h. ap good_age (age_back i h) ∙ (f.each i h).aged)

    none_bad_stake : bad_stake book (length ms) ≡ length ms
    none_bad_stake = none_fails _ (length ms) (λ i h. ap good_stake (stake_back i h) ∙ within_good 1 most_stake _ (get_or ms i nobody).staked.0 (get_or ms i nobody).staked.1)

    long_enough : head_length (length ms) ≤ length book
    long_enough =
        omega (
          arith,
          ap length table_part,
          length-append (flat_map number_bytes t.weights) people,
          length-append (flat_map member_bytes ms) bs,
          records_length number_bytes weight_size (λ n. refl) t.weights,
          records_length member_bytes member_size (λ m. refl) ms,
          t.whole,
        )

    head_back : head_of book ≡ Ok (record { count = length ms; table = t })
    head_back =
        accepts book (within_good 1 most_members (length ms) f.some f.few) long_enough none_bad_weight none_bad_age none_bad_stake
        ∙ ap (λ u. Ok (record { count = length ms; table = u })) (same_table (table_of book) t weights_back)

pub head_reads_back : HeadReadsBack
head_reads_back places room t ms bs f p q r = record {
  head = sym (answered places room (head_bytes t ms ++ bs) (full_room places room (head_bytes t ms ++ bs) p q (subst (λ l. line_count l ≤ room.lines) (sym (lines_back t ms bs)) r)) _ (head_back t ms bs f));
  members = members_back t ms bs f;
  after = lines_back t ms bs;
}

-- bytes that are not empty
first : (bs : List ℕ) → 1 ≤ length bs → bs ≡ get_or bs 0 0 ∷ drop table_at bs
first [] h = absurd (omega arith)
first (b ∷ bs) h = refl

-- a book that was accepted
module _ (bs : List ℕ) (h : Head) (p : Bytes bs) (a : Accepted bs h) where
  abbrev n : ℕ
  n = announced bs

  part_bytes : (i : ℕ) → Bytes (drop i bs)
  part_bytes i = All-drop (λ b. b < 256) i bs p

  one_weight : (i : ℕ) → i < ages → number_bytes (clamped most_weight (weight_at bs i)) ++ drop weight_size (drop (weight_size * i) (drop table_at bs)) ≡ drop (weight_size * i) (drop table_at bs)
  one_weight i l =
      let there = drop-drop (weight_size * i) table_at bs in
      rw there
      (ap (λ w. number_bytes w ++ drop weight_size (drop (table_at + weight_size * i) bs)) (sym (good_same most_weight (weight_at bs i) (passes _ ages a.weights i l)))
      ∙ number_read (drop (table_at + weight_size * i) bs) (part_bytes (table_at + weight_size * i)) (omega (arith, length-drop (table_at + weight_size * i) bs, a.long)))

  table_bytes : flat_map number_bytes (weights_of bs) ++ drop members_at bs ≡ drop table_at bs
  unfolding weights_of
  table_bytes = ap (λ l. flat_map number_bytes (weights_of bs) ++ l) (sym (drop-drop (weight_size * ages) table_at bs)) ∙ records_read number_bytes weight_size (λ i. clamped most_weight (weight_at bs i)) (drop table_at bs) ages one_weight

  one_member : (i : ℕ) → i < n → member_bytes (member_at bs i) ++ drop member_size (drop (member_size * i) (drop members_at bs)) ≡ drop (member_size * i) (drop members_at bs)
  one_member i l =
      let there = drop-drop (member_size * i) members_at bs in
      let at = head_length i in
      let long = length-drop at bs in
      let stake : drop 1 (drop at bs) ≡ drop (at + 1) bs = drop-drop 1 at bs in
      let zero_on : at + 0 ≡ at = omega arith in
      let age : get_or (drop at bs) 0 0 ≡ age_at bs i = get_or-drop at bs 0 0 ∙ ap (λ k. get_or bs k 0) zero_on in
      rw there
      (ap (λ s. age_at bs i ∷ number_bytes s ++ drop member_size (drop at bs)) (sym (good_same most_stake (stake_at bs i) (passes _ n a.staked i l)))
      ∙ ap (λ l. age_at bs i ∷ number_bytes (stake_at bs i) ++ l) (sym (drop-drop 4 1 (drop at bs)) ∙ ap (drop 4) stake)
      ∙ ap (λ l. age_at bs i ∷ l) (number_read (drop (at + 1) bs) (part_bytes (at + 1)) (omega (arith, length-drop (at + 1) bs, a.long)) ∙ sym stake)
      ∙ ap (λ b. b ∷ drop 1 (drop at bs)) (sym age)
      ∙ sym (first (drop at bs) (omega (arith, a.long))))

  people_bytes : flat_map member_bytes (members_of bs) ++ after_head bs ≡ drop members_at bs
  unfolding members_of
  people_bytes = ap (λ l. flat_map member_bytes (members_of bs) ++ l) (sym (drop-drop (member_size * n) members_at bs)) ∙ records_read member_bytes member_size (member_at bs) (drop members_at bs) n one_member

  count_back : length (members_of bs) ≡ n
  unfolding members_of
  count_back = length-map-range_with_len (member_at bs) 0 n

  book_split : bs ≡ head_bytes h.table (members_of bs) ++ after_head bs
  book_split =
      first bs (omega (arith, a.long))
      ∙ ap (λ l. n ∷ l) (sym table_bytes ∙ ap (λ l. flat_map number_bytes (weights_of bs) ++ l) (sym people_bytes) ∙ sym (append_assoc (flat_map number_bytes (weights_of bs)) (flat_map member_bytes (members_of bs)) (after_head bs)))
      ∙ ap (λ k. k ∷ (flat_map number_bytes (weights_of bs) ++ flat_map member_bytes (members_of bs) ++ after_head bs)) (sym count_back)
      ∙ ap (λ x. head_bytes x.table (members_of bs) ++ after_head bs) (sym a.is)

  new_member : (i : ℕ) → i < n → Founder (table_of bs) i (member_at bs i)
  new_member i l =
      let w = (table_of bs).weighs (age_at bs i - first_age) in
      record { number = refl; aged = passes _ n a.aged i l; weighed = sym (clamped_same most_weight _ w.0 w.1); unpaid = refl; lives = refl }

  founders : Founders h.table (members_of bs)
  unfolding members_of
  founders =
      let same = count_back in
      subst (λ x. Founders x.table (members_of bs)) (sym a.is) (record {
        some = omega (arith, a.some);
        few = omega (arith, a.few);
        each = λ i l. subst (Founder (table_of bs) i) (sym (get_or-map-range_with_len (member_at bs) 0 n i i nobody (omega arith) (omega arith))) (new_member i (omega arith));
      })

pub head_is_its_bytes : HeadIsItsBytes
head_is_its_bytes places room bs h p e =
    let a = accepted bs h (from_answer places room bs h e) in
    record { split = book_split bs h p a; count = count_back bs h p a ∙ sym (ap (λ x. x.count) a.is); founders = founders bs h p a }

-- a book is the bytes of what it means
book_bytes : Meaning → List ℕ
book_bytes m = head_bytes m.table m.members ++ (lines_bytes m.lines ++ m.left)

from_meaning : (bs : List ℕ) → Bytes bs → Accepts bs → bs ≡ book_bytes (meaning_of bs)
unfolding book_bytes
from_meaning bs p (places, (room, (h, e))) =
    let a = accepted bs h (from_answer places room bs h e) in
    let lines = lines_are_their_bytes (after_head bs) (part_bytes bs h p a (head_length (announced bs))) in
    book_split bs h p a ∙ ap (λ x. head_bytes x.table (members_of bs) ++ after_head bs) a.is ∙ ap (λ l. head_bytes (table_of bs) (members_of bs) ++ l) lines.split

pub one_book_one_meaning : OneBookOneMeaning
one_book_one_meaning bs cs p q a b e = from_meaning bs p a ∙ ap book_bytes e ∙ sym (from_meaning cs q b)
