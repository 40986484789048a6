-- `stl_writer::volume_refusal` meets its contract. Assumes nothing.
use mathlib.Core.Path.{sym, ◌∙◌}
use borrow.Author.Rules.{rules}
use Rattle.interval_arithmetic.specs.Ops.{zero_f}
use Rattle.geom_lines_planes.specs.Laws.{Cases, given, denied}
use Rattle.meaning.specs.Inquire.{solid_sides, sum_volumes}
use Rattle.memory_layout.specs.Decode.{decode}
use Rattle.inquire_volume.specs.Answers.{volume_number, volume_answer}
use Rattle.station_answers.specs.declared.Volume.TheVariants.{Is, Refused}
use Rattle.stl_writer.proofs.volume_refusal.Goals as goal

cases : Cases Is Refused
cases = record { apart = λ b m e. cc; values = λ a b e. cc; numbers = λ m n e. cc }

pub returns-in-Is : goal.returns-in-Is
unfolding volume_answer
returns-in-Is c =
    let s = c in
    let m = decode s.args.room.now s.args.words.now s.args.reals.now in
    let e = sym c.body_volume.ensures.answer ∙ c.in-Is.is in
    record { answer = (given cases (volume_number s.args.room.now s.args.words.now s.args.reals.now s.args.body s.args.faces.now) (sum_volumes m zero_f (solid_sides m s.args.body)) _ e).0; faces = c.body_volume.ensures.faces }

pub returns-in-Refused : goal.returns-in-Refused
unfolding volume_answer
returns-in-Refused c =
    let s = c in
    let m = decode s.args.room.now s.args.words.now s.args.reals.now in
    let e = sym c.body_volume.ensures.answer ∙ c.in-Refused.is in
    record { answer = (denied cases (volume_number s.args.room.now s.args.words.now s.args.reals.now s.args.body s.args.faces.now) (sum_volumes m zero_f (solid_sides m s.args.body)) _ e).0; faces = c.body_volume.ensures.faces }
