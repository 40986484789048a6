-- `inquire_regions::with_shell` meets its contract: a turn of the loop is one face more. Assumes nothing.
use Rattle.std.specs.Prelude.{◌++◌, map}
use Rattle.std.proofs.Common.{take, ap, ◌∙◌, arith}
use lib.Seq.{take_all}
use Rattle.meaning.specs.Lists.{all}
use Rattle.walk_marks.specs.Laws.{all-nth}
use Rattle.memory_layout.specs.Decode.{decode}
use Rattle.memory_layout.specs.Laws.{lists_of}
use Rattle.inquire_sides.specs.Sides.{face_whole}
use Rattle.inquire_regions.specs.Regions.{tally_of, faces_whole}
use Rattle.inquire_regions.specs.Laws.{faces-none, faces-turn, sides-list}
use Rattle.inquire_regions.proofs.with_shell.Goals as goal

pub list-faces-requires : goal.list-faces-requires
list-faces-requires c =
    let s = c in
    record { lists = lists_of s.args.room.now s.args.words.now s.args.reals.now s.requires.fit; j_bound = (omega arith, s.requires.shell_bound) }

pub loop-face-init : goal.loop-face-init
loop-face-init c = λ l e. faces-none (decode c.args.room.now c.args.words.now c.args.reals.now) l c.args.whole _ e

pub with_side-t-requires : goal.with_side-t-requires
unfolding faces_whole
with_side-t-requires c =
    let s = c in
    record { fit = s.requires.fit; face_value = all-nth (face_whole s.args.room.now s.args.words.now) c.list-faces.result.now c.loop-face.face-index (ap (all (face_whole s.args.room.now s.args.words.now)) c.list-faces.ensures ∙ s.requires.shell_value) (omega arith) }

pub loop-face-preserved : goal.loop-face-preserved
loop-face-preserved c =
    let s = c in
    let k = c.loop-face.face-index in
    let faces = c.list-faces.result.now in
    λ l e. c.with_side-t.ensures (l ++ map (λ f. record { shell = s.args.shell; face = f }) (take k faces)) (c.loop-face.invariant l e) ∙ ap (tally_of s.args.whole (decode s.args.room.now s.args.words.now s.args.reals.now)) (faces-turn (decode s.args.room.now s.args.words.now s.args.reals.now) l s.args.shell faces k (omega arith))

pub returns : goal.returns
returns c =
    let s = c in
    λ l e. c.loop-face.invariant l e ∙ ap (λ t. tally_of s.args.whole (decode s.args.room.now s.args.words.now s.args.reals.now) (l ++ map (λ f. record { shell = s.args.shell; face = f }) t)) (take_all c.loop-face.face-index c.list-faces.result.now (omega arith) ∙ c.list-faces.ensures) ∙ ap (λ t. tally_of s.args.whole (decode s.args.room.now s.args.words.now s.args.reals.now) (l ++ t)) (sides-list s.args.room.now s.args.words.now s.args.reals.now s.args.shell)
