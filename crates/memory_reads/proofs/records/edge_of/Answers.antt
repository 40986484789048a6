-- `memory_reads::records::edge_of` meets its contract. Assumes nothing.
use mathlib.Core.Path.{sym}
use native.Mathlib.Nat.{lt_of_le_of_lt}
use lib.Dec.{lit<, lit≤}
use Rattle.memory_records.specs.Seen.{seen_edge}
use Rattle.memory_records.specs.Laws.{within}
use Rattle.memory_layout.specs.Laws.{held-length}
use Rattle.memory_reads.proofs.records.edge_of.Goals as goal

pub ref_at-requires : goal.ref_at-requires
ref_at-requires c = lt_of_le_of_lt (lit≤ tt) c.requires.held.place

pub ref_at-requires-2 : goal.ref_at-requires-2
ref_at-requires-2 c = lt_of_le_of_lt (lit≤ tt) c.requires.held.place

pub ref_at-requires-3 : goal.ref_at-requires-3
ref_at-requires-3 c = lt_of_le_of_lt (lit≤ tt) c.requires.held.place

pub bounds-w-6 : goal.bounds-w-6
bounds-w-6 c = lt_of_le_of_lt (lit≤ tt) c.requires.held.place

pub bounds-x-0 : goal.bounds-x-0
bounds-x-0 c = within 0 c.requires.x_len (lit< tt)

pub bounds-w-7 : goal.bounds-w-7
bounds-w-7 c = c.requires.held.place

pub returns : goal.returns
unfolding seen_edge
returns c =
    let curve = c in
    let s = curve in
    let fins = held-length s.args.w.now 7 s.requires.held in
    λ i. record {
      start = curve.ref_at.ensures i;
      end = curve.ref_at-2.ensures i;
      curve = curve.ref_at-3.ensures i;
      tolerance = c.tolerance_of.ensures i;
      fins = sym fins i;
    }
