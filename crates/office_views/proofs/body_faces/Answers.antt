-- `office_views::body_faces` meets its contract. Assumes nothing.
use mathlib.Core.Path.{sym, ap, ◌∙◌}
use borrow.Author.Rules.{rules}
use lib.ListN.{length}
use Rattle.walk_answers.specs.Laws.{view}
use Rattle.office_views.proofs.body_faces.Goals as goal

pub slice_bounds-result-end : goal.slice_bounds-result-end
slice_bounds-result-end c =
    let done = c.write_faces-n.ensures in
    done.count ∙ sym (ap length (view _ _ _ _ done.count done.list))

pub returns : goal.returns
returns c =
    let done = c.write_faces-n.ensures in
    record { answer = view _ _ _ _ done.count done.list; code = done.code; faces = done.faces }
