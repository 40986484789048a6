-- `split_stop_place::faces::plane_stop` meets its contract. Assumes nothing.
use Rattle.split_stop_place.specs.Laws.{plane-refuses}
use Rattle.split_stop_place.specs.FinRows.{plane_told}
use Rattle.split_stop_parts.specs.Laws.{part-passes}
use Rattle.geom_lines_planes.specs.Laws.{read-number}
use Rattle.geom_carriers.specs.Laws.{plane-given}
use Rattle.geom_carriers.specs.Queries.{plane_refusal, the_plane, plane_answer}
use mathlib.Core.Path.{sym, ◌∙◌}
use Rattle.split_stop_place.proofs.faces.plane_stop.Goals as goal

pub returns-in-Err : goal.returns-in-Err
unfolding plane_answer plane_told
returns-in-Err c = let s = c in
    let f = s.args.found in
    c.stop_at.ensures ∙ plane-refuses (plane_refusal f) _ s.args.surface s.args.face _ (read-number (plane_refusal f) _ (the_plane f) _ (sym c.plane_of.ensures ∙ c.in-Err.is) c.number.ensures)

pub returns-in-Ok : goal.returns-in-Ok
unfolding plane_answer plane_told
returns-in-Ok c = let s = c in
    let f = s.args.found in
    let w = plane-given (plane_refusal f) (the_plane f) _ (sym c.plane_of.ensures ∙ c.in-Ok.is) in
    rw (w.number, w.value) (c.off_stop.ensures ∙ sym (part-passes 11 8 9 s.args.surface 3 s.args.face _))
