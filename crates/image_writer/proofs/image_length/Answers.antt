-- `image_writer::image_length` meets its contract: the first test that fails, or the length. Assumes nothing.
use mathlib.Core.Path.{◌≡◌, sym, ap, ◌∙◌}
use mathlib.Core.Bool.{true, false}
use Rattle.memory_layout.specs.Laws.{fit_of}
use Rattle.memory_layout.specs.Readable.{readable}
use Rattle.image_writer.specs.declared.Length.TheVariants.{Is}
use Rattle.image_writer.specs.Answers.{length_number, length_answer}
use Rattle.image_writer.specs.Laws.{used-of, image-long}
use Rattle.image_writer.proofs.image_length.Goals as goal

pub returns-then-not-readable : goal.returns-then-not-readable
unfolding length_answer length_number
returns-then-not-readable c =
    let s = c in
    let room = s.args.room.now in
    let w = s.args.words.now in
    let x = s.args.reals.now in
    let e : readable room w x ≡ false = sym c.readable.ensures ∙ c.if-not-readable.true in
    rw e

pub whole_length-requires : goal.whole_length-requires
whole_length-requires c =
    let s = c in
    let room = s.args.room.now in
    let w = s.args.words.now in
    let x = s.args.reals.now in
    let e : readable room w x ≡ true = sym c.readable.ensures ∙ c.if-not-readable.false in
    used-of room w x (fit_of room w x e)

pub returns : goal.returns
unfolding length_answer length_number
returns c =
    let s = c in
    let room = s.args.room.now in
    let w = s.args.words.now in
    let x = s.args.reals.now in
    let e : readable room w x ≡ true = sym c.readable.ensures ∙ c.if-not-readable.false in
    rw e (ap Is (c.whole_length.ensures ∙ sym (image-long room w x (fit_of room w x e))))
