-- `slab_rules::body_verdict` meets its contract. Assumes nothing.
use mathlib.Core.Path.{ap, ◌∙◌}
use Rattle.meaning.specs.Lists.{all}
use Rattle.memory_layout.specs.Decode.{decode}
use Rattle.memory_layout.specs.Laws.{lists_of}
use Rattle.walk_answers.specs.Laws.{zeros-on, zeros-same}
use Rattle.inquire_sides.specs.Sides.{face_whole}
use Rattle.inquire_regions.specs.Whole.{walk-whole}
use Rattle.slab_rules.specs.Laws.{verdict-is}
use borrow.Author.Rules.{rules}
use Rattle.slab_rules.proofs.body_verdict.Goals as goal

pub edges_broken-four-requires : goal.edges_broken-four-requires
edges_broken-four-requires c = let s = c in record { fit = s.requires.fit; edged = s.requires.edged; faces_value = s.requires.faces_value }

pub vertices_broken-five-requires : goal.vertices_broken-five-requires
vertices_broken-five-requires c = let s = c in record { fit = s.requires.fit; edged = s.requires.edged; faces_value = zeros-same s.args.faces.now _ c.edges_broken-four.ensures.faces_after; edges_value = s.requires.edges_value }

pub faces_tested-requires : goal.faces_tested-requires
faces_tested-requires c = let s = c in record { fit = s.requires.fit; faces_value = ap (all (face_whole s.args.room.now s.args.words.now)) s.requires.list_value ∙ walk-whole s.args.room.now s.args.words.now s.args.reals.now s.args.body (lists_of s.args.room.now s.args.words.now s.args.reals.now s.requires.fit) s.requires.edged }

pub faces_tested-requires-2 : goal.faces_tested-requires-2
faces_tested-requires-2 c = let s = c in record { fit = s.requires.fit; faces_value = ap (all (face_whole s.args.room.now s.args.words.now)) s.requires.list_value ∙ walk-whole s.args.room.now s.args.words.now s.args.reals.now s.args.body (lists_of s.args.room.now s.args.words.now s.args.reals.now s.requires.fit) s.requires.edged }

pub faces_tested-requires-3 : goal.faces_tested-requires-3
faces_tested-requires-3 c = let s = c in record { fit = s.requires.fit; faces_value = ap (all (face_whole s.args.room.now s.args.words.now)) s.requires.list_value ∙ walk-whole s.args.room.now s.args.words.now s.args.reals.now s.args.body (lists_of s.args.room.now s.args.words.now s.args.reals.now s.requires.fit) s.requires.edged }

pub faces_tested-requires-4 : goal.faces_tested-requires-4
faces_tested-requires-4 c = let s = c in record { fit = s.requires.fit; faces_value = ap (all (face_whole s.args.room.now s.args.words.now)) s.requires.list_value ∙ walk-whole s.args.room.now s.args.words.now s.args.reals.now s.args.body (lists_of s.args.room.now s.args.words.now s.args.reals.now s.requires.fit) s.requires.edged }

pub returns : goal.returns
returns c = let s = c in let v = c.vertices_broken-five.ensures in record { result_value = verdict-is (decode s.args.room.now s.args.words.now s.args.reals.now) s.args.body _ _ _ _ _ _ _ _ s.requires.list_value c.faces_tested.ensures c.faces_tested-2.ensures c.faces_tested-3.ensures c.edges_broken-four.ensures.value v.value c.faces_tested-4.ensures c.judged.ensures.is; faces_after = zeros-on s.args.faces.now c.edges_broken-four.new.faces _ c.edges_broken-four.ensures.faces_after v.faces_after; edges_after = v.edges_after }
