-- `memory_reads::records::body_of` meets its contract. Assumes nothing.
use mathlib.Core.Path.{sym}
use native.Mathlib.Nat.{lt_of_le_of_lt}
use lib.Dec.{lit≤}
use Rattle.memory_records.specs.Seen.{seen_body}
use Rattle.memory_layout.specs.Laws.{held-length}
use Rattle.memory_reads.proofs.records.body_of.Goals as goal

pub bounds-w-0 : goal.bounds-w-0
bounds-w-0 c = lt_of_le_of_lt (lit≤ tt) c.requires.place

pub bounds-w-2 : goal.bounds-w-2
bounds-w-2 c = c.requires.place

pub returns : goal.returns
unfolding seen_body
returns c =
    let s = c in
    let regions = held-length s.args.w.now 2 s.requires in
    λ i. record { kind = c.kind_of.ensures i; regions = sym regions i }
