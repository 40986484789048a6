-- `stl_writer::body_stl` meets its contract. Assumes nothing.
use mathlib.Core.Path.{ap, ◌∙◌}
use borrow.Author.Rules.{rules}
use Rattle.geom_lines_planes.specs.Refuse.{◌then◌}
use Rattle.stl_writer.specs.Laws.{count-is, accepted, write-refused, not-refused, fits, write-given}
use Rattle.stl_writer.proofs.body_stl.Goals as goal

pub returns-then-n-ne0 : goal.returns-then-n-ne0
returns-then-n-ne0 c =
    let s = c in
    let k = c.sketched-s in
    let u = write-refused s.args.room.now s.args.words.now s.args.reals.now s.args.body s.args.faces.now k.result k.ensures.answer s.args.bytes.now _ (c.then-n.ensures ∙ ap (λ n. k.result.refused then n) c.unless.ensures) c.if-n-ne0.true in
    record { answer = u.0; bytes = u.1; faces = k.ensures.faces }

pub write_whole-requires : goal.write_whole-requires
write_whole-requires c =
    let s = c in
    let k = c.sketched-s in
    let told = c.then-n.ensures ∙ ap (λ n. k.result.refused then n) c.unless.ensures in
    let z = not-refused s.args.room.now s.args.words.now s.args.reals.now s.args.body s.args.faces.now k.result k.ensures.answer s.args.bytes.now _ told c.if-n-ne0.false in
    record { drawable = accepted s.args.room.now s.args.words.now s.args.reals.now s.args.body s.args.faces.now k.result k.ensures.answer z; count_value = (count-is s.args.room.now s.args.words.now s.args.reals.now s.args.body s.args.faces.now k.result k.ensures.answer z, k.ensures.few); count_in_bounds = fits s.args.room.now s.args.words.now s.args.reals.now s.args.body s.args.faces.now k.result k.ensures.answer s.args.bytes.now _ told c.if-n-ne0.false }

pub returns : goal.returns
returns c =
    let s = c in
    let k = c.sketched-s in
    let u = write-given s.args.room.now s.args.words.now s.args.reals.now s.args.body s.args.faces.now k.result k.ensures.answer s.args.bytes.now _ (c.then-n.ensures ∙ ap (λ n. k.result.refused then n) c.unless.ensures) c.if-n-ne0.false _ c.write_whole.ensures in
    record { answer = u.0; bytes = u.1; faces = k.ensures.faces }
