-- `slab_profile::walked` meets its contract. Assumes nothing.
use mathlib.Core.Path.{sym, ◌∙◌}
use lib.ListN.{length}
use lib.Seq.{length-take-le}
use Rattle.memory_layout.specs.Laws.{lists_of}
use Rattle.walk_paths.specs.Laws.{faces-short, visited-short, faces-front}
use Rattle.walk_answers.specs.Laws.{face-list, marked-zeros, zeros-on, zeros-same}
use Rattle.slab_profile.specs.Laws.{faces-measurable, walk-short}
use borrow.Author.Rules.{rules}
use native.Mathlib.Omega.{arith}
use Rattle.slab_profile.proofs.walked.Goals as goal

pub faces-n-requires : goal.faces-n-requires
faces-n-requires c = let s = c in record { lists = lists_of s.args.room.now s.args.words.now s.args.reals.now s.requires.fit; shelled = s.requires.edged.looped.faced.shelled; marked = marked-zeros (length s.args.faces.now) _ s.requires.faces_value }

pub slice_bounds-list-end : goal.slice_bounds-list-end
slice_bounds-list-end c = let s = c in visited-short _ _ _ _ c.faces-n.ensures.visited (faces-short s.args.room.now s.args.words.now s.args.body (lists_of s.args.room.now s.args.words.now s.args.reals.now s.requires.fit) s.requires.edged.looped.faced)

pub slice_bounds-body_verdict-end : goal.slice_bounds-body_verdict-end
slice_bounds-body_verdict-end c = let s = c in sym (length-take-le c.faces-n.result c.faces-n.new.out (visited-short _ _ _ _ c.faces-n.ensures.visited (faces-short s.args.room.now s.args.words.now s.args.body (lists_of s.args.room.now s.args.words.now s.args.reals.now s.requires.fit) s.requires.edged.looped.faced)))

pub body_verdict-v-requires : goal.body_verdict-v-requires
body_verdict-v-requires c = let s = c in record { fit = s.requires.fit; edged = s.requires.edged; list_value = faces-front s.args.room.now s.args.words.now s.args.body (lists_of s.args.room.now s.args.words.now s.args.reals.now s.requires.fit) _ _ _ s.requires.edged.looped.faced c.faces-n.ensures.visited (omega arith) ∙ sym (face-list s.args.room.now s.args.words.now s.args.reals.now s.args.body); faces_value = zeros-same s.args.faces.now _ c.faces-n.ensures.marks_after; edges_value = s.requires.edges_value }

pub slice_bounds-list-end-2 : goal.slice_bounds-list-end-2
slice_bounds-list-end-2 c = let s = c in visited-short _ _ _ _ c.faces-n.ensures.visited (faces-short s.args.room.now s.args.words.now s.args.body (lists_of s.args.room.now s.args.words.now s.args.reals.now s.requires.fit) s.requires.edged.looped.faced)

pub slice_bounds-measured-end : goal.slice_bounds-measured-end
slice_bounds-measured-end c = let s = c in sym (length-take-le c.faces-n.result c.faces-n.new.out (visited-short _ _ _ _ c.faces-n.ensures.visited (faces-short s.args.room.now s.args.words.now s.args.body (lists_of s.args.room.now s.args.words.now s.args.reals.now s.requires.fit) s.requires.edged.looped.faced)))

pub measured-requires : goal.measured-requires
measured-requires c = let s = c in let front = faces-front s.args.room.now s.args.words.now s.args.body (lists_of s.args.room.now s.args.words.now s.args.reals.now s.requires.fit) _ _ _ s.requires.edged.looped.faced c.faces-n.ensures.visited (omega arith) ∙ sym (face-list s.args.room.now s.args.words.now s.args.reals.now s.args.body) in record { fit = s.requires.fit; list_value = front; list_len_bound = walk-short s.args.room.now s.args.words.now s.args.reals.now s.args.body (lists_of s.args.room.now s.args.words.now s.args.reals.now s.requires.fit) s.requires.edged _ front; v_value = c.body_verdict-v.ensures.result_value; list_value_2 = λ v. faces-measurable s.args.room.now s.args.words.now s.args.reals.now s.args.body _ (lists_of s.args.room.now s.args.words.now s.args.reals.now s.requires.fit) s.requires.edged front v }

pub returns : goal.returns
returns c = let s = c in let v = c.body_verdict-v.ensures in record { told = c.measured.ensures; faces_after = zeros-on s.args.faces.now c.faces-n.new.marks _ c.faces-n.ensures.marks_after v.faces_after; edges_after = v.edges_after }
