-- `inquire_corners::cross` meets its contract. Assumes nothing.
use borrow.Author.Rules.{rules}
use Rattle.meaning_sheets.specs.Sheets.{cross_c}
use Rattle.inquire_corners.specs.Machines.{read-part, made}
use Rattle.inquire_corners.proofs.cross.Goals as goal

pub returns : goal.returns
unfolding cross_c
returns c =
    let s = c in
    let v = s.args.v in
    let w = s.args.w in
    let h = s.requires.0 in
    let g = s.requires.1 in
    made _ _ _ _ _ _
    (read-part _ v.y w.z v.z w.y c.component.ensures h.y g.z h.z g.y)
    (read-part _ v.z w.x v.x w.z c.component-2.ensures h.z g.x h.x g.z)
    (read-part _ v.x w.y v.y w.x c.component-3.ensures h.x g.y h.y g.x)
