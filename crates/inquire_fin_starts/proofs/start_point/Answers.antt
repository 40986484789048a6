-- `inquire_fin_starts::start_point` meets its contract. Assumes nothing.
use Rattle.memory_layout.specs.Laws.{lists_of}
use Rattle.memory_records.specs.Seen.{seen_vertex}
use Rattle.inquire_fin_starts.specs.Laws.{start-there, start_is}
use Rattle.inquire_fin_starts.proofs.start_point.Goals as goal

pub start_id-requires : goal.start_id-requires
start_id-requires c =
    let s = c in
    record { lists = lists_of s.args.room.now s.args.words.now s.args.reals.now s.requires.fit; whole = s.requires.whole }

pub vertex_at-requires : goal.vertex_at-requires
vertex_at-requires c =
    let s = c in
    record { sized = s.requires.fit.sized; i_bound = rw c.start_id.ensures (start-there s.args.room.now s.args.words.now s.args.reals.now s.args.i s.requires.i_value) }

pub returns : goal.returns
unfolding seen_vertex
returns c =
    let s = c in
    rw (c.vertex_at.ensures, c.start_id.ensures) (start_is s.args.room.now s.args.words.now s.args.reals.now s.args.i s.requires.i_value)
