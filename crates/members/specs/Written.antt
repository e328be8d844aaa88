-- Books as they are written, and what reading them gives. Assumes nothing.
use Rattle.std.specs.Prelude.{◌≡◌, ℕ, ◌^◌, ◌<◌, ◌≤◌, true, List, ◌∷◌, ◌++◌, length, Some, None, Ok, slice_index_or, All}
use Rattle.std.specs.List.{flat_map}
use Rattle.members.specs.Bytes.{Bytes, number_bytes, weight_for}
use Rattle.members.specs.Heads.{answer, table_of, members_of, after_head}
use Rattle.members.specs.Limits.{most_members, good_age}
use Rattle.members.specs.Lines.{line_bytes, line_at, line_count, text_of}
use Rattle.members.specs.Members.{nobody}
use Rattle.members.specs.declared.head.Head.{Head}
use Rattle.members.specs.declared.head.Room.{Room}
use Rattle.members.specs.declared.line.Line.{Line}
use Rattle.members.specs.declared.line.Line.TheVariants.{Death, NewYear, WoundUp}
use Rattle.members.specs.declared.member.Member.{Member}
use Rattle.members.specs.declared.table.Table.{Table}

-- the numbers of a line fit the bytes that they are given
abbrev pub Sized : Line → Type 0
Sized (Death member word) = (member < 256) × (word < 2 ^ 32)
Sized NewYear = Unit {0}
Sized WoundUp = Unit {0}

-- the bytes of a list of lines
abbrev pub lines_bytes : List Line → List ℕ
lines_bytes ls = flat_map line_bytes ls

-- a line that is written is read, whatever follows it
abbrev pub LineReadsBack : Type 0
LineReadsBack = (l : Line) (bs : List ℕ) → Sized l → line_at (line_bytes l ++ bs) ≡ Some (l, bs)

-- a line that is read was written so
abbrev pub LineIsItsBytes : Type 0
LineIsItsBytes = (bs : List ℕ) (x : Line × List ℕ) → Bytes bs → line_at bs ≡ Some x → (bs ≡ line_bytes x.0 ++ x.1) × Sized x.0

-- lines that are written are read, whatever follows them
abbrev pub LinesReadBack : Type 0
LinesReadBack = (ls : List Line) (bs : List ℕ) → All Sized ls → text_of (lines_bytes ls ++ bs) ≡ record { lines = ls ++ (text_of bs).lines; left = (text_of bs).left }

-- bytes are those of the lines that are read from them, and then bytes at which no line can be read
pub record LinesOf (bs : List ℕ) : Type 0 where
  pub split : bs ≡ lines_bytes (text_of bs).lines ++ (text_of bs).left
  pub sized : All Sized (text_of bs).lines
  pub stuck : line_at (text_of bs).left ≡ None

-- so it is with all bytes
abbrev pub LinesAreTheirBytes : Type 0
LinesAreTheirBytes = (bs : List ℕ) → Bytes bs → LinesOf bs

-- the bytes of a member in the head: its age and its stake
abbrev pub member_bytes : Member → List ℕ
member_bytes m = m.age ∷ number_bytes m.stake

-- the bytes of a head
abbrev pub head_bytes : Table → List Member → List ℕ
head_bytes t ms = length ms ∷ (flat_map number_bytes t.weights ++ flat_map member_bytes ms)

-- m is as the i-th member is when a society is founded: alive, paid nothing, of an age of the table and with the weight of that age
pub record Founder (t : Table) (i : ℕ) (m : Member) : Type 0 where
  pub number : m.number ≡ i
  pub aged : good_age m.age ≡ true
  pub weighed : m.weight ≡ weight_for t.weights m.age
  pub unpaid : m.paid ≡ 0
  pub lives : m.alive ≡ true

-- the members of a society that is being founded
pub record Founders (t : Table) (ms : List Member) : Type 0 where
  pub some : 1 ≤ length ms
  pub few : length ms ≤ most_members
  pub each : (i : ℕ) → i < length ms → Founder t i (slice_index_or ms i nobody)

-- what is read from bytes is this table, these members and, after the head, this rest
pub record Reads (places : ℕ) (room : Room) (bs : List ℕ) (t : Table) (ms : List Member) (rest : List ℕ) : Type 0 where
  pub head : answer places room bs ≡ Ok (record { count = length ms; table = t })
  pub members : members_of bs ≡ ms
  pub after : after_head bs ≡ rest

-- a head that is written is read, whatever follows it, where enough memory is lent
abbrev pub HeadReadsBack : Type 0
HeadReadsBack =
    (places : ℕ) (room : Room) (t : Table) (ms : List Member) (bs : List ℕ) → Founders t ms →
    length ms ≤ places → length ms ≤ room.cents → line_count bs ≤ room.lines → Reads places room (head_bytes t ms ++ bs) t ms bs

-- an accepted book is the bytes of the table and of the members that are read from it, and then the bytes after the head
pub record BookOf (bs : List ℕ) (h : Head) : Type 0 where
  pub split : bs ≡ head_bytes h.table (members_of bs) ++ after_head bs
  pub count : length (members_of bs) ≡ h.count
  pub founders : Founders h.table (members_of bs)

-- so it is with every book that is accepted
abbrev pub HeadIsItsBytes : Type 0
HeadIsItsBytes = (places : ℕ) (room : Room) (bs : List ℕ) (h : Head) → Bytes bs → answer places room bs ≡ Ok h → BookOf bs h

-- what a book means: a table, members, lines, and bytes at its end at which no line can be read
pub record Meaning : Type 0 where
  pub table : Table
  pub members : List Member
  pub lines : List Line
  pub left : List ℕ

-- the meaning of a book
abbrev pub meaning_of : List ℕ → Meaning
meaning_of bs = record { table = table_of bs; members = members_of bs; lines = (text_of (after_head bs)).lines; left = (text_of (after_head bs)).left }

-- a book is accepted by the reader where enough memory is lent
abbrev pub Accepts : List ℕ → Type 0
Accepts bs = (places : ℕ) × ((room : Room) × ((h : Head) × (answer places room bs ≡ Ok h)))

-- no two books that are accepted mean the same
abbrev pub OneBookOneMeaning : Type 0
OneBookOneMeaning = (bs cs : List ℕ) → Bytes bs → Bytes cs → Accepts bs → Accepts cs → meaning_of bs ≡ meaning_of cs → bs ≡ cs
