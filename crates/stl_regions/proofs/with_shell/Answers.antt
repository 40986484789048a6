-- `stl_regions::with_shell` meets its contract: a turn of the loop is one face more. Assumes nothing.
use Rattle.std.specs.Prelude.{List, [], ◌∷◌, map, length, get_or, take}
use Rattle.std.proofs.Common.{arith, ap, ◌∙◌, subst, take_all}
use Rattle.meaning.specs.Lists.{all}
use Rattle.meaning.specs.Inquire.{Side}
use Rattle.walk_marks.specs.Laws.{all-nth}
use Rattle.memory_layout.specs.Decode.{decode}
use Rattle.memory_layout.specs.Laws.{lists_of}
use Rattle.memory_layout.proofs.Laws.{listed_le}
use Rattle.inquire_sides.specs.Sides.{face_whole}
use Rattle.inquire_regions.specs.Regions.{faces_whole}
use Rattle.inquire_regions.specs.Laws.{faces-turn, sides-list}
use Rattle.stl_fan.specs.Pens.{Drawn}
use Rattle.stl_fan.specs.Laws.{drawn-none, drawn-more}
use Rattle.stl_regions.specs.Laws.{side-none}
use Rattle.stl_regions.proofs.with_shell.Goals as goal

pub list-faces-requires : goal.list-faces-requires
list-faces-requires c =
    let s = c in
    record { lists = lists_of s.args.room.now s.args.words.now s.args.reals.now s.requires.fit; j_bound = (omega arith, s.requires.shell_bound) }

pub loop-face-init : goal.loop-face-init
loop-face-init c =
    let s = c in
    (omega arith, drawn-none (decode s.args.room.now s.args.words.now s.args.reals.now) s.args.before s.args.bytes.now)

pub with_side-t-requires : goal.with_side-t-requires
unfolding faces_whole
with_side-t-requires c =
    let s = c in
    let faces = c.list-faces.result.now in
    let k = c.loop-face.face-index in
    let few = c.loop-face.invariant.0 in
    let start = s.requires.count_bound in
    let short = listed_le s.args.room.now s.args.words.now 2 s.args.shell (lists_of s.args.room.now s.args.words.now s.args.reals.now s.requires.fit) (omega arith) s.requires.shell_bound in
    record { fit = s.requires.fit; face_value = all-nth (face_whole s.args.room.now s.args.words.now) faces k (ap (all (face_whole s.args.room.now s.args.words.now)) c.list-faces.ensures ∙ s.requires.shell_value) (omega arith); face_value_2 = side-none s.args.room.now s.args.words.now s.args.reals.now s.args.shell faces k (omega arith) c.list-faces.ensures s.requires.shell_value_2; count_bound = omega (arith, ap length c.list-faces.ensures) }

pub loop-face-preserved : goal.loop-face-preserved
loop-face-preserved c =
    let s = c in
    let turn = c.loop-face in
    let faces = c.list-faces.result.now in
    let few = turn.invariant.0 in
    let more = c.with_side-t.ensures.few in (
      omega arith,
      subst (λ (l : List Side). Drawn (decode s.args.room.now s.args.words.now s.args.reals.now) l s.args.before c.with_side-t.result s.args.bytes.now c.with_side-t.new.bytes) (faces-turn (decode s.args.room.now s.args.words.now s.args.reals.now) [] s.args.shell faces turn.face-index (omega arith))
          (drawn-more (decode s.args.room.now s.args.words.now s.args.reals.now) (map (λ f. record { shell = s.args.shell; face = f }) (take turn.face-index faces)) (record { shell = s.args.shell; face = get_or faces turn.face-index 0 } ∷ []) turn.invariant.1 c.with_side-t.ensures.drawn),
    )

pub returns : goal.returns
returns c =
    let s = c in
    let turn = c.loop-face in
    let few = turn.invariant.0 in
    let short = listed_le s.args.room.now s.args.words.now 2 s.args.shell (lists_of s.args.room.now s.args.words.now s.args.reals.now s.requires.fit) (omega arith) s.requires.shell_bound in record {
      drawn = subst (λ (l : List Side). Drawn (decode s.args.room.now s.args.words.now s.args.reals.now) l s.args.before turn.t s.args.bytes.now turn.bytes)
          (ap (map (λ f. record { shell = s.args.shell; face = f })) (take_all turn.face-index c.list-faces.result.now (omega arith) ∙ c.list-faces.ensures) ∙ sides-list s.args.room.now s.args.words.now s.args.reals.now s.args.shell)
          turn.invariant.1;
      few = omega (arith, ap length c.list-faces.ensures);
    }
