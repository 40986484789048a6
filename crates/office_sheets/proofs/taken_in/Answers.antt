-- `office_sheets::taken_in` meets its contract. Assumes nothing.
use mathlib.Core.Path.{ap, ◌∙◌}
use borrow.Author.Rules.{rules}
use Rattle.geom_lines_planes.specs.Refuse.{◌then◌}
use Rattle.office_sheets.specs.Laws.{take-refused, take-given, has_room}
use Rattle.office_sheets.proofs.taken_in.Goals as goal

pub returns-then-n-ne0 : goal.returns-then-n-ne0
returns-then-n-ne0 c =
    let s = c in
    take-refused s.args.sheet s.args.body s.args.stone _ (c.then-n.ensures ∙ ap (λ k. s.args.stone.refused then k) c.unless.ensures) c.if-n-ne0.true

pub with_stone-requires : goal.with_stone-requires
with_stone-requires c =
    let s = c in
    record { s_value = s.requires.sheet_value; stones_bound = has_room s.args.sheet s.args.body s.args.stone _ (c.then-n.ensures ∙ ap (λ k. s.args.stone.refused then k) c.unless.ensures) c.if-n-ne0.false; plus_bound = s.requires.plus_bound }

pub returns : goal.returns
returns c =
    let s = c in
    take-given s.args.sheet s.args.body s.args.stone _ (c.then-n.ensures ∙ ap (λ k. s.args.stone.refused then k) c.unless.ensures) _ c.if-n-ne0.false c.with_stone.ensures
