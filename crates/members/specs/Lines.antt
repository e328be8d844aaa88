-- The lines of a book as bytes, and bytes as lines. Assumes nothing.
use Rattle.std.specs.Prelude.{ℕ, zero, suc, ◌+◌, if◌then◌else◌, List, [], ◌∷◌, length, drop, Some, None, Option, ◌==◌, nat_lt, slice_index}
use Rattle.std.specs.Borrow.{Bor}
use Rattle.std.specs.Option.{option_map}
use Rattle.members.specs.Bytes.{number_in, number_bytes}
use Rattle.members.specs.declared.line.Line.{Line}
use Rattle.members.specs.declared.line.Line.TheVariants.{Death, NewYear, WoundUp}

-- the bytes of a line
abbrev pub line_bytes : Line → List ℕ
line_bytes (Death member word) = 1 ∷ member ∷ number_bytes word
line_bytes NewYear = 2 ∷ []
line_bytes WoundUp = 3 ∷ []

-- the death whose bytes, after its kind, begin these, and the bytes after it; none where they end in the death
unfoldable pub death_at : List ℕ → Option (Line × List ℕ)
death_at bs = if nat_lt (length bs) 5 then None else Some (Death (slice_index bs 0) (number_in (drop 1 bs)), drop 5 bs)

-- the line that begins these bytes and the bytes after it, or none: where there are no bytes, where the first is no line's kind, or where they end in the line
abbrev pub line_at : List ℕ → Option (Line × List ℕ)
line_at [] = None
line_at (kind ∷ rest) =
    if kind == 1 then death_at rest
    else (if kind == 2 then Some (NewYear, rest)
    else (if kind == 3 then Some (WoundUp, rest)
    else None))

-- what a reader handed on: a line, and what the part after it holds
abbrev pub handed : Option (Line × Bor (List ℕ)) → Option (Line × List ℕ)
handed r = option_map (λ x. (x.0, x.1.now)) r

-- a list of lines, and bytes that were left
pub record Text : Type 0 where
  pub lines : List Line
  pub left : List ℕ

-- a line before a text
abbrev pub before : Line → Text → Text
before l t = record { lines = l ∷ t.lines; left = t.left }

-- the lines that can be read from the start of these bytes, at most so many of them, and what is left
unfoldable pub lines_in : ℕ → List ℕ → Text
lines_in zero bs = record { lines = []; left = bs }
lines_in (suc n) bs = elim (line_at bs) [ None ↦ record { lines = []; left = bs } | Some x ↦ before x.0 (lines_in n x.1) ]

-- all lines that can be read from the start of these bytes, each of a byte at least
abbrev pub text_of : List ℕ → Text
text_of bs = lines_in (length bs) bs

-- 1 where something is left, which is a line that cannot be read, else 0
abbrev pub unreadable : List ℕ → ℕ
unreadable [] = 0
unreadable (b ∷ bs) = 1

-- how many lines the bytes have, one that cannot be read being the last
unfoldable pub line_count : List ℕ → ℕ
line_count bs = length (text_of bs).lines + unreadable (text_of bs).left
