-- `memory_lookups::loop_` meets its contract. Assumes nothing.
use Rattle.memory_records.specs.Seen.{seen_loop}
use Rattle.memory_layout.specs.Laws.{lists_of}
use Rattle.memory_layout.specs.Decode.{decode}
use Rattle.memory_lookups.specs.declared.LoopFound.TheVariants.{Is, Refused}
use Rattle.memory_lookups.specs.Lookup.{loop_answer}
use Rattle.memory_lookups.specs.Laws.{looked-up, look-refused, look-given}
use borrow.Author.Rules.{rules}
use Rattle.memory_lookups.proofs.loop_.Goals as goal

pub returns-then-number-ne0 : goal.returns-then-number-ne0
unfolding decode loop_answer
returns-then-number-ne0 c =
    let s = c in
    look-refused s.args.room.now s.args.words.now s.args.reals.now Is Refused seen_loop (decode s.args.room.now s.args.words.now s.args.reals.now).loops s.args.id c.refusal-number.result c.refusal-number.ensures c.if-number-ne0.true

pub loop_at-requires : goal.loop_at-requires
loop_at-requires c =
    let s = c in
    let f = looked-up s.args.room.now s.args.words.now s.args.reals.now 4 s.args.id c.refusal-number.result c.refusal-number.ensures c.if-number-ne0.false in
    record { lists = lists_of s.args.room.now s.args.words.now s.args.reals.now f.0; i_bound = f.1 }

pub returns : goal.returns
unfolding decode loop_answer
returns c =
    let s = c in
    look-given s.args.room.now s.args.words.now s.args.reals.now Is Refused seen_loop (decode s.args.room.now s.args.words.now s.args.reals.now).loops s.args.id c.refusal-number.result c.refusal-number.ensures c.loop_at.result c.if-number-ne0.false (c.loop_at.ensures s.args.reals.now)
