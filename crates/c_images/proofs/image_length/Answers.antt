-- `c_images::image_length` meets its contract. Assumes nothing.
use mathlib.Core.Path.{sym, ap, ◌∙◌}
use lib.ListN.{length}
use Rattle.image_writer.specs.declared.Length.TheVariants.{Is, Refused}
use Rattle.memory_layout.specs.Decode.{decode}
use Rattle.image_format.specs.Image.{image_of}
use Rattle.image_writer.specs.Answers.{length_number, length_answer}
use Rattle.c_lent.specs.Lent.{alone}
use Rattle.geom_lines_planes.specs.Laws.{Cases, given, denied}
use borrow.Author.Rules.{rules}
use Rattle.c_images.proofs.image_length.Goals as goal

cases : Cases Is Refused
cases = record { apart = λ b m e. cc; values = λ a b e. cc; numbers = λ m n e. cc }

pub returns-in-Is : goal.returns-in-Is
unfolding length_answer
returns-in-Is c =
    let s = c.args in
    let e = sym c.image_length.ensures ∙ c.in-Is.is in
    let p = given cases (length_number s.room.now s.words.now s.reals.now) (length (image_of (decode s.room.now s.words.now s.reals.now))) _ e in
    record { answer = p.0; slots = ap alone p.1 }

pub returns-in-Refused : goal.returns-in-Refused
unfolding length_answer
returns-in-Refused c =
    let s = c.args in
    let e = sym c.image_length.ensures ∙ c.in-Refused.is in
    let p = denied cases (length_number s.room.now s.words.now s.reals.now) (length (image_of (decode s.room.now s.words.now s.reals.now))) _ e in
    record { answer = p.0; slots = rw p.1 }
