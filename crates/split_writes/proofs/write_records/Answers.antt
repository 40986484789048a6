use Rattle.split_writes.specs.Chain.{behind-fins, behind-second, behind-first}
use Rattle.split_writes.specs.Written.{records_put}
use Rattle.split_pieces.specs.Steps.{stage-none}
use Rattle.split_pieces.specs.Pieces.{second_put, first_put, vertex_put}
use Rattle.memory_layout.specs.Layout.{words_of}
use lib.ListN.{length}
use mathlib.Core.Path.{ap, ◌∙◌}
use borrow.Author.Rules.{rules}
use Rattle.split_writes.proofs.write_records.Goals as goal

pub put_second-requires : goal.put_second-requires
put_second-requires c =
    let s = c in
    let room = s.args.room.now in
    let w = s.args.words.now in
    let both = behind-fins room w w s.args.edge s.args.owners.now s.args.senses.now (words_of room w) (stage-none room w) s.requires.slots s.requires.edge_bound c.put_fins.new.words c.put_fins.ensures in record { slots = both.0; edge_bound = both.1 }

pub put_first-requires : goal.put_first-requires
put_first-requires c =
    let s = c in
    let room = s.args.room.now in
    let w = s.args.words.now in
    let both = behind-second room w w s.args.edge s.args.owners.now s.args.senses.now (words_of room w) (stage-none room w) s.requires.slots s.requires.edge_bound c.put_second.new.words
    (c.put_second.ensures ∙ ap (second_put room s.args.edge (length s.args.owners.now)) c.put_fins.ensures) in record { slots = both.0; edge_bound = both.1 }

pub put_vertex-requires : goal.put_vertex-requires
put_vertex-requires c =
    let s = c in
    let room = s.args.room.now in
    let w = s.args.words.now in
    let both = behind-first room w w s.args.edge s.args.owners.now s.args.senses.now (words_of room w) (stage-none room w) s.requires.slots s.requires.edge_bound c.put_first.new.words
    (c.put_first.ensures ∙ ap (first_put room s.args.edge) (c.put_second.ensures ∙ ap (second_put room s.args.edge (length s.args.owners.now)) c.put_fins.ensures)) in record { slots = both.0; edge_bound = both.1 }

pub returns : goal.returns
unfolding records_put
returns c =
    let s = c in
    let room = s.args.room.now in
    c.put_vertex.ensures
    ∙ ap (vertex_put room s.args.edge)
    (c.put_first.ensures ∙ ap (first_put room s.args.edge) (c.put_second.ensures ∙ ap (second_put room s.args.edge (length s.args.owners.now)) c.put_fins.ensures))
