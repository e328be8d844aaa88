-- The head of a book: what its bytes say, and when they are turned away. Assumes nothing.
use Rattle.std.specs.Prelude.{◌≡◌, ℕ, ◌+◌, ◌*◌, ◌<◌, ◌≤◌, Bool, if◌then◌else◌, not, List, ◌++◌, map, length, drop, Some, None, Ok, Err, Option, Result, nat_lt, slice_index, slice_index_or}
use Rattle.std.proofs.Common.{sym, subst, ⊎_elim, arith}
use Rattle.std.specs.List.{range_with_len, prefix_len}
use Rattle.std.proofs.lemmas.List.FromFn.{length-map-range_with_len, get_or-map-range_with_len}
use Rattle.std.proofs.lemmas.List.{get_or_past}
use Rattle.std.proofs.lemmas.Bool.{cases_lt}
use Rattle.members.specs.Bytes.{number_in, weight_for}
use Rattle.members.specs.Limits.{Weight, most_weight, ages, table_at, weight_size, members_at, member_size, clamped, good_weight, good_age, good_stake, good_count}
use Rattle.members.specs.Lines.{line_count}
use Rattle.members.specs.Members.{newcomer}
use Rattle.members.specs.declared.head.Head.{Head}
use Rattle.members.specs.declared.head.Room.{Room}
use Rattle.members.specs.declared.member.Member.{Member}
use Rattle.members.specs.declared.refusal.Memory.{Memory}
use Rattle.members.specs.declared.refusal.Memory.TheVariants.{Members, Cents, Lines}
use Rattle.members.specs.declared.refusal.Refusal.{Refusal}
use Rattle.members.specs.declared.refusal.Refusal.TheVariants as refusal
use Rattle.members.specs.declared.table.Table.{Table}

-- how many members the first byte announces, none where there is no byte
abbrev pub announced : List ℕ → ℕ
announced bs = slice_index bs 0

-- how many bytes a head of n members has
abbrev pub head_length : ℕ → ℕ
head_length n = members_at + member_size * n

-- the bytes after the head, where the lines begin
abbrev pub after_head : List ℕ → List ℕ
after_head bs = drop (head_length (announced bs)) bs

-- the weight that stands at an index of the table
abbrev pub weight_at : List ℕ → ℕ → ℕ
weight_at bs i = number_in (drop (table_at + weight_size * i) bs)

-- the age of the i-th member, which stands after a head of those before it
abbrev pub age_at : List ℕ → ℕ → ℕ
age_at bs i = slice_index bs (head_length i)

-- the stake of the i-th member, after its age
abbrev pub stake_at : List ℕ → ℕ → ℕ
stake_at bs i = number_in (drop (head_length i + 1) bs)

-- the weights of the table. A table's bounds are part of it, so what is out of them is brought in; no book with such is accepted
unfoldable pub weights_of : List ℕ → List ℕ
weights_of bs = map (λ i. clamped most_weight (weight_at bs i)) (range_with_len 0 ages)

-- there is one for each age
pub weights_whole : (bs : List ℕ) → length (weights_of bs) ≡ ages
unfolding weights_of
weights_whole bs = length-map-range_with_len (λ i. clamped most_weight (weight_at bs i)) 0 ages

-- and each is in bounds
pub weights_bounded : (bs : List ℕ) (i : ℕ) → Weight (slice_index_or (weights_of bs) i 1)
unfolding weights_of
weights_bounded bs i =
    ⊎_elim
    (λ (h : i < ages). subst Weight (sym (get_or-map-range_with_len (λ i. clamped most_weight (weight_at bs i)) 0 ages i i 1 h (omega arith))) (omega arith, omega arith))
    (λ (h : ages ≤ i). subst Weight (sym (get_or_past (weights_of bs) i 1 (omega (arith, weights_whole bs)))) (omega arith, omega arith))
    (cases_lt i ages)

-- the table
abbrev pub table_of : List ℕ → Table
table_of bs = record { weights = weights_of bs; whole = weights_whole bs; weighs = weights_bounded bs }

-- the i-th member, with the weight of its age
abbrev pub member_at : List ℕ → ℕ → Member
member_at bs i = newcomer i (age_at bs i) (weight_for (weights_of bs) (age_at bs i)) (stake_at bs i)

-- the members, in the order of their numbers
unfoldable pub members_of : List ℕ → List Member
members_of bs = map (member_at bs) (range_with_len 0 (announced bs))

-- the first number below n at which a test fails, or n where it fails at none
unfoldable pub first_bad : (ℕ → Bool) → ℕ → ℕ
first_bad good n = prefix_len good (range_with_len 0 n)

-- the index of the first weight that is out of bounds, or how many there are where none is
abbrev pub bad_weight : List ℕ → ℕ
bad_weight bs = first_bad (λ i. good_weight (weight_at bs i)) ages

-- the first of n members whose age is out of bounds, or n where none is
abbrev pub bad_age : List ℕ → ℕ → ℕ
bad_age bs n = first_bad (λ i. good_age (age_at bs i)) n

-- the first of n members whose stake is out of bounds, or n where none is
abbrev pub bad_stake : List ℕ → ℕ → ℕ
bad_stake bs n = first_bad (λ i. good_stake (stake_at bs i)) n

-- the head of a book that is long enough for n members, or the first ground on which its weights, ages or stakes turn it away
abbrev pub entries_of : List ℕ → ℕ → Result Head Refusal
entries_of bs n =
    if nat_lt (bad_weight bs) ages then Err (refusal.Table (bad_weight bs))
    else (if nat_lt (bad_age bs n) n then Err (refusal.Age (bad_age bs n))
    else (if nat_lt (bad_stake bs n) n then Err (refusal.Stake (bad_stake bs n))
    else Ok (record { count = n; table = table_of bs })))

-- the head of a book, or the first ground on which it is turned away
abbrev pub head_of : List ℕ → Result Head Refusal
head_of bs =
    if not (good_count (announced bs)) then Err refusal.Count
    else (if nat_lt (length bs) (head_length (announced bs)) then Err (refusal.Table (length bs))
    else entries_of bs (announced bs))

-- the first memory that is too short, where so many places are lent for members
abbrev pub lacking : ℕ → Room → List ℕ → Option Memory
lacking places room bs =
    if nat_lt places (announced bs) then Some Members
    else (if nat_lt room.cents (announced bs) then Some Cents
    else (if nat_lt room.lines (line_count (after_head bs)) then Some Lines
    else None))

-- want of memory is told of before all else
abbrev pub unless_lacking : Option Memory → Result Head Refusal → Result Head Refusal
unless_lacking (Some m) h = Err (refusal.Short m)
unless_lacking None h = h

-- what the reader answers to a book, with so many places for members and so much other room
abbrev pub answer : ℕ → Room → List ℕ → Result Head Refusal
answer places room bs = unless_lacking (lacking places room bs) (head_of bs)

-- the places for members after an answer: an accepted book's members in the first of them, the others as they were; after a refusal all as they were
abbrev pub seated : Result Head Refusal → List ℕ → List Member → List Member
seated (Ok h) bs places = members_of bs ++ drop h.count places
seated (Err e) bs places = places

-- What follows serves functions that no other crate can call.

-- what a check of n numbers hands on, or the refusal at the first of them that is bad
abbrev pub checked : {A : Type 0} → ℕ → ℕ → (ℕ → Refusal) → A → Result A Refusal
checked bad n why x = if nat_lt bad n then Err (why bad) else Ok x
