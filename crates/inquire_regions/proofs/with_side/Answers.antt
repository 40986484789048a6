-- `inquire_regions::with_side` meets its contract. Assumes nothing.
use mathlib.Core.Path.{ap, ◌∙◌}
use lib.Ieee.{of_bits}
use Rattle.float_vectors.specs.Space.{◌+ᶠ◌}
use Rattle.geom_lines_planes.specs.Refuse.{◌then◌}
use Rattle.memory_layout.specs.Decode.{decode}
use Rattle.memory_layout.specs.Laws.{lists_of}
use Rattle.inquire_sides.specs.Sides.{side_number}
use Rattle.inquire_sides.specs.Laws.{side-number}
use Rattle.inquire_regions.specs.Laws.{tally-refused, tally-weighed, tally-more, side-passed}
use Rattle.inquire_regions.proofs.with_side.Goals as goal

pub side_refusal-requires : goal.side_refusal-requires
side_refusal-requires c =
    let s = c in
    record { lists = lists_of s.args.room.now s.args.words.now s.args.reals.now s.requires.fit; face_value = s.requires.face_value }

pub returns-then-n-ne0 : goal.returns-then-n-ne0
unfolding of_bits
returns-then-n-ne0 c =
    let s = c in
    λ l e. tally-refused (decode s.args.room.now s.args.words.now s.args.reals.now) s.args.whole s.args.t l (record { shell = s.args.shell; face = s.args.face }) _ e (c.then-n.ensures ∙ ap (λ k. s.args.t.refused then k) (c.side_refusal.ensures ∙ side-number s.args.room.now s.args.words.now s.args.reals.now s.args.shell s.args.face)) _ c.no_weight.ensures c.if-n-ne0.true

pub with_weight-requires : goal.with_weight-requires
with_weight-requires c =
    let s = c in
    record { fit = s.requires.fit; face_value = s.requires.face_value; face_value_2 = side-passed s.args.t.refused (side_number s.args.room.now s.args.words.now s.args.shell s.args.face) _ (c.then-n.ensures ∙ ap (λ k. s.args.t.refused then k) c.side_refusal.ensures) c.if-n-ne0.false }

pub returns-then-whole : goal.returns-then-whole
unfolding of_bits
returns-then-whole c =
    let s = c in
    λ l e. tally-weighed (decode s.args.room.now s.args.words.now s.args.reals.now) s.args.whole s.args.t l (record { shell = s.args.shell; face = s.args.face }) _ e (c.then-n.ensures ∙ ap (λ k. s.args.t.refused then k) (c.side_refusal.ensures ∙ side-number s.args.room.now s.args.words.now s.args.reals.now s.args.shell s.args.face)) c.if-n-ne0.false _ c.if-whole.true c.with_weight.ensures

pub side_volume-requires : goal.side_volume-requires
side_volume-requires c =
    let s = c in
    record { fit = s.requires.fit; face_value = s.requires.face_value; face_value_2 = side-passed s.args.t.refused (side_number s.args.room.now s.args.words.now s.args.shell s.args.face) _ (c.then-n.ensures ∙ ap (λ k. s.args.t.refused then k) c.side_refusal.ensures) c.if-n-ne0.false }

pub returns : goal.returns
returns c =
    let s = c in
    λ l e. tally-more (decode s.args.room.now s.args.words.now s.args.reals.now) s.args.whole s.args.t l (record { shell = s.args.shell; face = s.args.face }) _ e (c.then-n.ensures ∙ ap (λ k. s.args.t.refused then k) (c.side_refusal.ensures ∙ side-number s.args.room.now s.args.words.now s.args.reals.now s.args.shell s.args.face)) c.if-n-ne0.false _ c.if-whole.false (ap (λ a. s.args.t.volume +ᶠ a) c.side_volume.ensures)
