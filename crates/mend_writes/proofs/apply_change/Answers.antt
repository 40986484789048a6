-- `mend_writes::apply_change` meets its contract: the store, or the two, that the words of a change name. Assumes nothing.
use native.Mathlib.Omega.{arith}
use mathlib.Core.Path.{◌∙◌}
use borrow.Author.Tests.{eq-eqb, ne_eqb}
use Rattle.memory_layout.specs.Layout.{word}
use Rattle.memory_layout.specs.Laws.{capacity-le}
use Rattle.mend_writes.specs.Laws.{entry_made, parent-inside, fins-inside}
use Rattle.mend_writes.proofs.apply_change.Goals as goal

pub word_at-at-requires : goal.word_at-at-requires
word_at-at-requires c =
    let s = c in
    let e = s.requires.stored in
    let small = capacity-le s.args.room.now s.requires.small (word s.args.change.now 0) e.table in
    record { small = s.requires.small; k_bound = (e.table, omega (arith, e.slot)) }

pub offset_bounds-words-at : goal.offset_bounds-words-at
offset_bounds-words-at c =
    let s = c in
    let h = parent-inside s.args.room.now s.args.words.now s.args.change.now s.requires.room_in_bounds s.requires.stored in
    let e = c.word_at-at.ensures in
    record { fits = omega arith }

pub bounds-words-at : goal.bounds-words-at
bounds-words-at c =
    let s = c in
    let h = parent-inside s.args.room.now s.args.words.now s.args.change.now s.requires.room_in_bounds s.requires.stored in
    let e = c.word_at-at.ensures in
    omega arith

pub returns-then-change-eq-PARENT : goal.returns-then-change-eq-PARENT
unfolding entry_made
returns-then-change-eq-PARENT c =
    let s = c in
    rw (eq-eqb (word s.args.change.now 2) 0 c.if-change-eq-PARENT.true, c.word_at-at.ensures)

pub overflow_add-at : goal.overflow_add-at
overflow_add-at c =
    let s = c in
    let h = fins-inside s.args.room.now s.args.words.now s.args.change.now s.requires.room_in_bounds s.requires.stored c.if-change-eq-PARENT.false in
    let e = c.word_at-at.ensures in
    record { fits = omega arith }

pub enlist-requires : goal.enlist-requires
enlist-requires c =
    let s = c in
    let other = c.if-change-eq-PARENT.false in
    let h = fins-inside s.args.room.now s.args.words.now s.args.change.now s.requires.room_in_bounds s.requires.stored other in
    let e = c.word_at-at.ensures in
    (omega arith, (s.requires.stored.list other).1)

pub returns : goal.returns
unfolding entry_made
returns c =
    let s = c in
    c.enlist.ensures
    ∙ rw (ne_eqb (word s.args.change.now 2) 0 c.if-change-eq-PARENT.false, c.word_at-at.ensures)
