-- `memory_lookups::edge` meets its contract. Assumes nothing.
use Rattle.memory_records.specs.Seen.{seen_edge}
use Rattle.memory_layout.specs.Decode.{decode}
use Rattle.memory_lookups.specs.declared.EdgeFound.TheVariants.{Is, Refused}
use Rattle.memory_lookups.specs.Lookup.{edge_answer}
use Rattle.memory_lookups.specs.Laws.{looked-up, look-refused, look-given}
use borrow.Author.Rules.{rules}
use Rattle.memory_lookups.proofs.edge.Goals as goal

pub returns-then-number-ne0 : goal.returns-then-number-ne0
unfolding decode edge_answer
returns-then-number-ne0 c =
    let s = c in
    look-refused s.args.room.now s.args.words.now s.args.reals.now Is Refused seen_edge (decode s.args.room.now s.args.words.now s.args.reals.now).edges s.args.id c.refusal-number.result c.refusal-number.ensures c.if-number-ne0.true

pub edge_at-requires : goal.edge_at-requires
edge_at-requires c =
    let s = c in
    let both = looked-up s.args.room.now s.args.words.now s.args.reals.now 6 s.args.id c.refusal-number.result c.refusal-number.ensures c.if-number-ne0.false in record { fit = both.0; i_bound = both.1 }

pub returns : goal.returns
unfolding decode edge_answer
returns c =
    let s = c in
    look-given s.args.room.now s.args.words.now s.args.reals.now Is Refused seen_edge (decode s.args.room.now s.args.words.now s.args.reals.now).edges s.args.id c.refusal-number.result c.refusal-number.ensures c.edge_at.result c.if-number-ne0.false c.edge_at.ensures
