-- `memory_lookups::body` meets its contract. Assumes nothing.
use Rattle.memory_records.specs.Seen.{seen_body}
use Rattle.memory_layout.specs.Laws.{lists_of}
use Rattle.memory_layout.specs.Decode.{decode}
use Rattle.memory_lookups.specs.declared.BodyFound.TheVariants.{Is, Refused}
use Rattle.memory_lookups.specs.Lookup.{body_answer}
use Rattle.memory_lookups.specs.Laws.{looked-up, look-refused, look-given}
use borrow.Author.Rules.{rules}
use Rattle.memory_lookups.proofs.body.Goals as goal

pub returns-then-number-ne0 : goal.returns-then-number-ne0
unfolding decode body_answer
returns-then-number-ne0 c =
    let s = c in
    look-refused s.args.room.now s.args.words.now s.args.reals.now Is Refused seen_body (decode s.args.room.now s.args.words.now s.args.reals.now).bodies s.args.id c.refusal-number.result c.refusal-number.ensures c.if-number-ne0.true

pub body_at-requires : goal.body_at-requires
body_at-requires c =
    let s = c in
    let f = looked-up s.args.room.now s.args.words.now s.args.reals.now 0 s.args.id c.refusal-number.result c.refusal-number.ensures c.if-number-ne0.false in
    record { lists = lists_of s.args.room.now s.args.words.now s.args.reals.now f.0; i_bound = f.1 }

pub returns : goal.returns
unfolding decode body_answer
returns c =
    let s = c in
    look-given s.args.room.now s.args.words.now s.args.reals.now Is Refused seen_body (decode s.args.room.now s.args.words.now s.args.reals.now).bodies s.args.id c.refusal-number.result c.refusal-number.ensures c.body_at.result c.if-number-ne0.false (c.body_at.ensures s.args.reals.now)
