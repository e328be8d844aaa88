-- What the checks of a head hand on. It serves functions that no other crate can call. Assumes nothing: these are definitions.
use Rattle.std.specs.Prelude.{ℕ, List, Some, None, Ok, Err, Option, Result}
use Rattle.members.specs.declared.entries.Entries.{Entries}
use Rattle.members.specs.declared.entries.Founding.{Founding}
use Rattle.members.specs.declared.head.Head.{Head}
use Rattle.members.specs.declared.refusal.Refusal.{Refusal}

-- entries as values: the bytes of the book, and for how many members they are
abbrev pub found : Option Entries → Option (List ℕ × ℕ)
found (Some e) = Some (e.book.now, e.count)
found None = None

-- a head in place of all that it was founded on; a refusal stays one
abbrev pub outcome : Result Founding Refusal → Result Head Refusal
outcome (Ok f) = Ok (record { count = f.entries.count; table = f.table })
outcome (Err e) = Err e
