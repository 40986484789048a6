-- `image_writer::write_refusal` meets its contract: each way out is the first test that fails. Assumes nothing.
use mathlib.Core.Path.{◌≡◌, sym, ◌∙◌}
use mathlib.Core.Bool.{true, false}
use lib.Dec.{leb}
use lib.ListN.{length}
use borrow.Author.Tests.{lt-leb, le-leb}
use Rattle.memory_layout.specs.Laws.{fit_of}
use Rattle.memory_layout.specs.Readable.{readable}
use Rattle.image_format.specs.Image.{image_of}
use Rattle.memory_layout.specs.Decode.{decode}
use Rattle.image_writer.specs.Answers.{write_number}
use Rattle.image_writer.specs.Laws.{used-of, image-long}
use Rattle.image_writer.proofs.write_refusal.Goals as goal

pub returns-then-not-readable : goal.returns-then-not-readable
unfolding write_number
returns-then-not-readable c =
    let s = c in
    let room = s.args.room.now in
    let w = s.args.words.now in
    let x = s.args.reals.now in
    let e : readable room w x ≡ false = sym c.readable.ensures ∙ c.if-not-readable.true in
    rw e

pub whole_length-requires : goal.whole_length-requires
whole_length-requires c =
    let s = c in
    let room = s.args.room.now in
    let w = s.args.words.now in
    let x = s.args.reals.now in
    let e : readable room w x ≡ true = sym c.readable.ensures ∙ c.if-not-readable.false in
    used-of room w x (fit_of room w x e)

pub returns-then-bytes-whole_length : goal.returns-then-bytes-whole_length
unfolding write_number
returns-then-bytes-whole_length c =
    let s = c in
    let room = s.args.room.now in
    let w = s.args.words.now in
    let x = s.args.reals.now in
    let e : readable room w x ≡ true = sym c.readable.ensures ∙ c.if-not-readable.false in
    let l = c.whole_length.ensures ∙ sym (image-long room w x (fit_of room w x e)) in
    let f : leb (length (image_of (decode room w x))) (length s.args.bytes.now) ≡ false = lt-leb _ _ (rw l at c.if-bytes-whole_length.true) in
    rw (e, f)

pub returns : goal.returns
unfolding write_number
returns c =
    let s = c in
    let room = s.args.room.now in
    let w = s.args.words.now in
    let x = s.args.reals.now in
    let e : readable room w x ≡ true = sym c.readable.ensures ∙ c.if-not-readable.false in
    let l = c.whole_length.ensures ∙ sym (image-long room w x (fit_of room w x e)) in
    let f : leb (length (image_of (decode room w x))) (length s.args.bytes.now) ≡ true = le-leb _ _ (rw l at c.if-bytes-whole_length.false) in
    rw (e, f)
