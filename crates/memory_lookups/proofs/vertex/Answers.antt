-- `memory_lookups::vertex` meets its contract. Assumes nothing.
use Rattle.memory_records.specs.Seen.{seen_vertex}
use Rattle.memory_layout.specs.Decode.{decode}
use Rattle.memory_lookups.specs.declared.VertexFound.TheVariants.{Is, Refused}
use Rattle.memory_lookups.specs.Lookup.{vertex_answer}
use Rattle.memory_lookups.specs.Laws.{looked-up, look-refused, look-given}
use borrow.Author.Rules.{rules}
use Rattle.memory_lookups.proofs.vertex.Goals as goal

pub returns-then-number-ne0 : goal.returns-then-number-ne0
unfolding decode vertex_answer
returns-then-number-ne0 c =
    let s = c in
    look-refused s.args.room.now s.args.words.now s.args.reals.now Is Refused seen_vertex (decode s.args.room.now s.args.words.now s.args.reals.now).vertices s.args.id c.refusal-number.result c.refusal-number.ensures c.if-number-ne0.true

pub vertex_at-requires : goal.vertex_at-requires
vertex_at-requires c =
    let s = c in
    let f = looked-up s.args.room.now s.args.words.now s.args.reals.now 7 s.args.id c.refusal-number.result c.refusal-number.ensures c.if-number-ne0.false in
    record { sized = f.0.sized; i_bound = f.1 }

pub returns : goal.returns
unfolding decode vertex_answer
returns c =
    let s = c in
    look-given s.args.room.now s.args.words.now s.args.reals.now Is Refused seen_vertex (decode s.args.room.now s.args.words.now s.args.reals.now).vertices s.args.id c.refusal-number.result c.refusal-number.ensures c.vertex_at.result c.if-number-ne0.false c.vertex_at.ensures
