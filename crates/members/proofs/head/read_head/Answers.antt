use Rattle.std.proofs.Common.{◌≡◌, ◌++◌, None, length, map, drop, sym, ap, ◌∙◌, rules}
use Rattle.std.specs.List.{range_with_len}
use Rattle.members.specs.Heads.{lacking, member_at}
use Rattle.members.proofs.Founded.{head_reads_back, head_is_its_bytes, one_book_one_meaning}
use Rattle.members.proofs.Heads.{answered, taken}
use Rattle.members.proofs.head.read_head.Goals as goal
use Rattle.members.proofs.head.read_head.Goals.{In_ok-founding}

-- enough memory was lent
full : (c : In_ok-founding) → lacking (length c.args.members.now) c.args.room c.args.book.now ≡ None
full c = sym c.in_ok-check_memory.ensures

pub returns : goal.returns
returns c =
    let d = (goal.at.returns c).In_ok-founding in
    let head = sym c.in_ok-founding.ensures.value in
    let count = c.in_ok-founding.founding.entries.count in
    let seats = ap (λ bs. map (member_at bs) (range_with_len 0 count) ++ drop count c.args.members.now) c.in_ok-founding.ensures.book in
    record { value = answered _ _ c.args.book.now (full d) _ head; members = taken c.args.book.now _ _ _ head (c.seat.ensures ∙ seats); back = head_reads_back; bytes = head_is_its_bytes; once = one_book_one_meaning }

pub returns-in_err-check_memory : goal.returns-in_err-check_memory
returns-in_err-check_memory c = record { value = search rules; members = search rules; back = head_reads_back; bytes = head_is_its_bytes; once = one_book_one_meaning }

pub returns-in_err-founding : goal.returns-in_err-founding
returns-in_err-founding c = record { value = search rules; members = search rules; back = head_reads_back; bytes = head_is_its_bytes; once = one_book_one_meaning }
