use Rattle.split_writes.specs.Chain.{behind-lists, behind-records}
use Rattle.split_writes.specs.Written.{records_put, split_put}
use Rattle.split_pieces.specs.Pieces.{counts_put}
use lib.ListN.{length}
use mathlib.Core.Path.{sym, ap, ◌∙◌}
use borrow.Author.Rules.{rules}
use Rattle.split_writes.proofs.write_with.Goals as goal

pub write_records-requires : goal.write_records-requires
write_records-requires c =
    let s = c in
    let g = behind-lists s.args.room.now s.args.words.now s.args.edge s.args.fins.now s.args.owners.now s.args.senses.now s.requires c.write_lists.new.words c.write_lists.ensures in
    record { slots = g.0; edge_bound = g.1; senses_len = s.requires.olds.sense ∙ sym s.requires.olds.own }

pub put_counts-requires : goal.put_counts-requires
put_counts-requires c =
    let s = c in
    behind-records s.args.room.now s.args.words.now s.args.edge s.args.fins.now s.args.owners.now s.args.senses.now s.requires c.write_records.new.words
    (c.write_records.ensures ∙ ap (records_put s.args.room.now s.args.edge s.args.owners.now s.args.senses.now) c.write_lists.ensures)

pub returns : goal.returns
unfolding split_put
returns c =
    let s = c in
    c.put_counts.ensures
    ∙ ap (counts_put (length s.args.owners.now))
    (c.write_records.ensures ∙ ap (records_put s.args.room.now s.args.edge s.args.owners.now s.args.senses.now) c.write_lists.ensures)
