-- `check_fit::own_sides` meets its contract. Assumes nothing.
use mathlib.Core.Path.{ap, ap₂, ◌∙◌}
use mathlib.Core.Bool.{◌&&◌}
use mathlib.Core.List.{[]}
use Rattle.meaning.specs.Model.{face}
use Rattle.memory_layout.specs.Decode.{decode}
use Rattle.memory_records.specs.declared.records.Face.{Face}
use Rattle.memory_records.specs.Seen.{seen_face}
use Rattle.check_ends.specs.Ends.{ref_of}
use Rattle.check_ends.specs.Laws.{ref_back}
use Rattle.check_fit.specs.Whole.{side_in, owns_in}
use Rattle.check_fit.proofs.own_sides.Goals as goal

pub returns : goal.returns
unfolding owns_in seen_face decode
returns c =
    let s = c in
    let side = side_in s.args.room.now s.args.words.now s.args.path.now s.args.f in
    let seen = c.face_at-face.ensures [] in
    let m = decode s.args.room.now s.args.words.now [] in
    ap₂ (λ a b. a && b)
    (c.own_side-a.ensures ∙ ap (λ (g : Face). side (ref_of g.front)) seen ∙ ap side (ref_back (face m s.args.f).front))
    (c.own_side-b.ensures ∙ ap (λ (g : Face). side (ref_of g.back)) seen ∙ ap side (ref_back (face m s.args.f).back))
