-- `memory_reads::records::face_of` meets its contract. Assumes nothing.
use mathlib.Core.Path.{sym}
use native.Mathlib.Nat.{lt_of_le_of_lt}
use lib.Dec.{lit≤}
use Rattle.memory_records.specs.Seen.{seen_face}
use Rattle.memory_layout.specs.Laws.{held-length}
use Rattle.memory_reads.proofs.records.face_of.Goals as goal

pub ref_at-requires : goal.ref_at-requires
ref_at-requires c = lt_of_le_of_lt (lit≤ tt) c.requires.place

pub ref_at-requires-2 : goal.ref_at-requires-2
ref_at-requires-2 c = lt_of_le_of_lt (lit≤ tt) c.requires.place

pub ref_at-requires-3 : goal.ref_at-requires-3
ref_at-requires-3 c = lt_of_le_of_lt (lit≤ tt) c.requires.place

pub bounds-w-6 : goal.bounds-w-6
bounds-w-6 c = lt_of_le_of_lt (lit≤ tt) c.requires.place

pub bounds-w-7 : goal.bounds-w-7
bounds-w-7 c = c.requires.place

pub returns : goal.returns
unfolding seen_face
returns c =
    let surface = c in
    let s = surface in
    let loops = held-length s.args.w.now 7 s.requires in
    λ i. record {
      front = surface.ref_at.ensures i;
      back = surface.ref_at-2.ensures i;
      surface = surface.ref_at-3.ensures i;
      sense = c.sense_of.ensures i;
      loops = sym loops i;
    }
