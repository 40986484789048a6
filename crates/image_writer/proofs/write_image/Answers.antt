-- `image_writer::write_image` meets its contract: a refusal writes nothing. Assumes nothing.
use mathlib.Core.Path.{◌≡◌, sym, ap, ◌∙◌}
use Rattle.meaning_list_laws.specs.Tests.{refused-answer}
use Rattle.memory_writes.specs.Kept.{refused-keeps}
use Rattle.image_writer.specs.declared.Length.TheVariants.{Is, Refused}
use Rattle.image_writer.specs.Answers.{write_number, write_answer, written_bytes}
use Rattle.image_writer.specs.Laws.{write-open}
use Rattle.image_writer.proofs.write_image.Goals as goal

pub returns-then-n-ne0 : goal.returns-then-n-ne0
unfolding write_answer written_bytes
returns-then-n-ne0 c =
    let e = c.write_refusal-n.ensures in
    let n = c.write_refusal-n.result in
    record { answer = rw (← e) (refused-answer Is Refused n _ c.if-n-ne0.true); image = rw (← e) (refused-keeps n _ _ c.if-n-ne0.true) }

pub write_whole-requires : goal.write_whole-requires
write_whole-requires c =
    let s = c in
    let room = s.args.room.now in
    let w = s.args.words.now in
    let x = s.args.reals.now in
    let b = s.args.bytes.now in
    let z : write_number room w x b ≡ 0 = sym c.write_refusal-n.ensures ∙ c.if-n-ne0.false in
    let o = write-open room w x b z in
    record { fit = o.fit; reals_in_bounds = o.long }

pub returns : goal.returns
unfolding write_answer written_bytes
returns c =
    let s = c in
    let room = s.args.room.now in
    let w = s.args.words.now in
    let x = s.args.reals.now in
    let b = s.args.bytes.now in
    let z : write_number room w x b ≡ 0 = sym c.write_refusal-n.ensures ∙ c.if-n-ne0.false in
    record { answer = rw z (ap Is c.write_whole.ensures.end); image = rw z c.write_whole.ensures.written }
