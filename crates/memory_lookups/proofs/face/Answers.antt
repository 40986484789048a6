-- `memory_lookups::face` meets its contract. Assumes nothing.
use Rattle.memory_records.specs.Seen.{seen_face}
use Rattle.memory_layout.specs.Laws.{lists_of}
use Rattle.memory_layout.specs.Decode.{decode}
use Rattle.memory_lookups.specs.declared.FaceFound.TheVariants.{Is, Refused}
use Rattle.memory_lookups.specs.Lookup.{face_answer}
use Rattle.memory_lookups.specs.Laws.{looked-up, look-refused, look-given}
use borrow.Author.Rules.{rules}
use Rattle.memory_lookups.proofs.face.Goals as goal

pub returns-then-number-ne0 : goal.returns-then-number-ne0
unfolding decode face_answer
returns-then-number-ne0 c =
    let s = c in
    look-refused s.args.room.now s.args.words.now s.args.reals.now Is Refused seen_face (decode s.args.room.now s.args.words.now s.args.reals.now).faces s.args.id c.refusal-number.result c.refusal-number.ensures c.if-number-ne0.true

pub face_at-requires : goal.face_at-requires
face_at-requires c =
    let s = c in
    let f = looked-up s.args.room.now s.args.words.now s.args.reals.now 3 s.args.id c.refusal-number.result c.refusal-number.ensures c.if-number-ne0.false in
    record { lists = lists_of s.args.room.now s.args.words.now s.args.reals.now f.0; i_bound = f.1 }

pub returns : goal.returns
unfolding decode face_answer
returns c =
    let s = c in
    look-given s.args.room.now s.args.words.now s.args.reals.now Is Refused seen_face (decode s.args.room.now s.args.words.now s.args.reals.now).faces s.args.id c.refusal-number.result c.refusal-number.ensures c.face_at.result c.if-number-ne0.false (c.face_at.ensures s.args.reals.now)
