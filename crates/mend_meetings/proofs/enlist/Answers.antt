-- `mend_meetings::enlist` meets its contract: by the list of the fin's edge. Assumes nothing.
use native.Mathlib.Omega.{arith}
use mathlib.Core.Path.{refl, sym, ap, ◌∙◌}
use Prim.Native.Nat.{◌+◌}
use lib.ListN.{length, set}
use Rattle.memory_layout.specs.Layout.{word}
use Rattle.memory_layout.proofs.Laws.{listed_le}
use Rattle.mend_meetings.specs.Facts.{model_of}
use Rattle.mend_meetings.specs.Laws.{fins-of, edge-there, edge_few, enlist-none, enlist-full, enlist-one}
use borrow.Author.Rules.{rules}
use Rattle.mend_meetings.proofs.enlist.Goals as goal

pub fin_edge-e-requires : goal.fin_edge-e-requires
fin_edge-e-requires c = let s = c in record { lists = s.requires.ready.lists; present = s.requires.present }

pub list-fins-requires : goal.list-fins-requires
list-fins-requires c = let s = c in record { lists = s.requires.ready.lists; j_bound = (omega arith, edge-there s.args.room.now s.args.words.now s.args.marks.now s.args.i _ s.requires.ready s.requires.present c.fin_edge-e.ensures) }

pub returns-then-has : goal.returns-then-has
returns-then-has c =
    let s = c in
    enlist-none (model_of s.args.room.now s.args.words.now) s.args.i _ _ _ _ _ c.fin_edge-e.ensures
    (c.list-fins.ensures ∙ fins-of s.args.room.now s.args.words.now _) (sym c.has.ensures ∙ c.if-has.true)

pub mark_at-at-requires : goal.mark_at-at-requires
mark_at-at-requires c = let s = c in (omega arith, omega (arith, edge_few _ _ _ s.requires.ready (edge-there s.args.room.now s.args.words.now s.args.marks.now s.args.i _ s.requires.ready s.requires.present c.fin_edge-e.ensures)))

pub mark_of-n-requires : goal.mark_of-n-requires
mark_of-n-requires c = let s = c in omega (arith, c.mark_at-at.ensures, s.requires.ready.marks, edge_few _ _ _ s.requires.ready (edge-there s.args.room.now s.args.words.now s.args.marks.now s.args.i _ s.requires.ready s.requires.present c.fin_edge-e.ensures))

pub overflow_add-place : goal.overflow_add-place
overflow_add-place c = let s = c in omega (arith, ap length c.list-fins.ensures, listed_le s.args.room.now s.args.words.now 7 _ s.requires.ready.lists (omega arith) (edge-there s.args.room.now s.args.words.now s.args.marks.now s.args.i _ s.requires.ready s.requires.present c.fin_edge-e.ensures))

pub returns-then-place-ge8 : goal.returns-then-place-ge8
returns-then-place-ge8 c =
    let s = c in
    enlist-full (model_of s.args.room.now s.args.words.now) s.args.i _ _ _ _ _ _ c.fin_edge-e.ensures
    (c.list-fins.ensures ∙ fins-of s.args.room.now s.args.words.now _) (c.mark_of-n.ensures ∙ ap (word s.args.marks.now) c.mark_at-at.ensures)
    (sym c.has.ensures ∙ c.if-has.false) c.if-place-ge8.true

pub overflow_add-marks : goal.overflow_add-marks
overflow_add-marks c = omega arith

pub bounds-marks-at : goal.bounds-marks-at
bounds-marks-at c = let s = c in omega (arith, c.mark_at-at.ensures, s.requires.ready.marks, edge_few _ _ _ s.requires.ready (edge-there s.args.room.now s.args.words.now s.args.marks.now s.args.i _ s.requires.ready s.requires.present c.fin_edge-e.ensures))

pub overflow_cast-place-2 : goal.overflow_cast-place-2
overflow_cast-place-2 c = omega arith

pub shape_of-nums : goal.shape_of-nums
shape_of-nums c = omega (arith, (c.log.ensures c.args.marks.now).long)

pub returns : goal.returns
returns c =
    let s = c in
    let at = c.mark_at-at.ensures in
    enlist-one (model_of s.args.room.now s.args.words.now) s.args.i _ _ _ _ _ _ _ _ _ _ c.fin_edge-e.ensures
    (c.list-fins.ensures ∙ fins-of s.args.room.now s.args.words.now _) (c.mark_of-n.ensures ∙ ap (word s.args.marks.now) at)
    (sym c.has.ensures ∙ c.if-has.false) refl c.if-place-ge8.false (ap (λ j. set s.args.marks.now j (c.mark_of-n.result + 1)) at) (c.log.ensures _)
