-- `split_bounds::ends::segment_at` meets its contract. Assumes nothing.
use native.Mathlib.Omega.{arith}
use mathlib.Core.Path.{◌≡◌, ap, ◌∙◌}
use lib.Dec.{lit<}
use lib.ListN.{length}
use Rattle.memory_layout.specs.Laws.{used-inside}
use Rattle.memory_layout.proofs.Laws.{words-length}
use Rattle.split_segment.specs.Segment.{segment_at}
use Rattle.memory_records.specs.Laws.{within}
use Rattle.split_bounds.specs.EndsLaws.{ended}
use Rattle.split_bounds.proofs.ends.segment_at.Goals as goal

pub words_of-w-requires : goal.words_of-w-requires
words_of-w-requires c =
    let s = c in
    let k = ended s.args.room.now s.args.words.now s.args.reals.now s.args.edge s.requires.edge_value in
    record { small = s.requires.fit.sized.small; inside = (used-inside s.args.room.now s.args.words.now s.args.reals.now 6 s.args.edge s.requires.fit.sized (lit< tt) k.there).0 }

pub bounds-w-5 : goal.bounds-w-5
bounds-w-5 c =
    let s = c in
    let k = ended s.args.room.now s.args.words.now s.args.reals.now s.args.edge s.requires.edge_value in
    let l : length c.words_of-w.result.now ≡ 16 = ap length c.words_of-w.ensures ∙ words-length s.args.room.now s.args.words.now 6 s.args.edge (used-inside s.args.room.now s.args.words.now s.args.reals.now 6 s.args.edge s.requires.fit.sized (lit< tt) k.there).0 in
    within 5 l (lit< tt)

pub curve_found-requires : goal.curve_found-requires
curve_found-requires c = c.requires.fit.sized

pub bounds-w-1 : goal.bounds-w-1
bounds-w-1 c =
    let s = c in
    let k = ended s.args.room.now s.args.words.now s.args.reals.now s.args.edge s.requires.edge_value in
    let l : length c.words_of-w.result.now ≡ 16 = ap length c.words_of-w.ensures ∙ words-length s.args.room.now s.args.words.now 6 s.args.edge (used-inside s.args.room.now s.args.words.now s.args.reals.now 6 s.args.edge s.requires.fit.sized (lit< tt) k.there).0 in
    within 1 l (lit< tt)

pub point_at-requires : goal.point_at-requires
point_at-requires c =
    let s = c in
    let k = ended s.args.room.now s.args.words.now s.args.reals.now s.args.edge s.requires.edge_value in
    record { sized = s.requires.fit.sized; i_bound = rw c.words_of-w.ensures k.start }

pub bounds-w-3 : goal.bounds-w-3
bounds-w-3 c =
    let s = c in
    let k = ended s.args.room.now s.args.words.now s.args.reals.now s.args.edge s.requires.edge_value in
    let l : length c.words_of-w.result.now ≡ 16 = ap length c.words_of-w.ensures ∙ words-length s.args.room.now s.args.words.now 6 s.args.edge (used-inside s.args.room.now s.args.words.now s.args.reals.now 6 s.args.edge s.requires.fit.sized (lit< tt) k.there).0 in
    within 3 l (lit< tt)

pub point_at-requires-2 : goal.point_at-requires-2
point_at-requires-2 c =
    let s = c in
    let k = ended s.args.room.now s.args.words.now s.args.reals.now s.args.edge s.requires.edge_value in
    record { sized = s.requires.fit.sized; i_bound = rw c.words_of-w.ensures k.end }

pub returns : goal.returns
unfolding segment_at
returns c =
    let s = c in
    let k = ended s.args.room.now s.args.words.now s.args.reals.now s.args.edge s.requires.edge_value in
    rw (c.point_at-2.ensures, c.point_at.ensures, c.the_line.ensures, c.curve_found.ensures, c.words_of-w.ensures, k.line, k.start-point, k.end-point)
