-- `mend_meetings::meet` meets its contract: by the record's mark. Assumes nothing.
use native.Mathlib.Omega.{arith}
use mathlib.Core.Path.{◌≡◌, refl, sym, ap, ◌∙◌, subst}
use mathlib.Core.List.{List}
use Prim.Native.Nat.{ℕ}
use lib.ListN.{length, set, length-set}
use Rattle.memory_layout.specs.Layout.{word}
use Rattle.mend_meetings.specs.Machine.{mark_at, rename_step, enlist_step, list_step}
use Rattle.mend_meetings.specs.Facts.{Ready, Present, model_of}
use Rattle.mend_meetings.specs.Laws.{slot-few, table-few, place_in, met-before, met-first, not-a-fin, a-fin, goes_on, goes_in}
use borrow.Author.Rules.{rules}
use Rattle.mend_meetings.proofs.meet.Goals as goal

pub mark_at-at-requires : goal.mark_at-at-requires
mark_at-at-requires c = let s = c in (omega (arith, s.requires.present.table), omega (arith, table-few _ _ s.requires.ready.lists _ _ s.requires.present.table s.requires.present.slot))

pub mark_of-requires : goal.mark_of-requires
mark_of-requires c = let s = c in omega (arith, c.mark_at-at.ensures, s.requires.ready.marks, place_in s.args.k s.args.i s.requires.present.table (slot-few _ _ s.requires.ready.lists _ _ (omega (arith, s.requires.present.table)) s.requires.present.slot))

pub returns-then-mark_of-ne0 : goal.returns-then-mark_of-ne0
returns-then-mark_of-ne0 c = λ k e.
    let s = c in
    let mark = ap (λ j. word s.args.marks.now (mark_at j s.args.i)) e ∙ sym (c.mark_of.ensures ∙ ap (word s.args.marks.now) c.mark_at-at.ensures) in
    met-before (model_of s.args.room.now s.args.words.now) k s.args.p s.args.i _ _ _ (λ z. c.if-mark_of-ne0.true (sym mark ∙ z))

pub bounds-marks-at : goal.bounds-marks-at
bounds-marks-at c = let s = c in omega (arith, c.mark_at-at.ensures, s.requires.ready.marks, place_in s.args.k s.args.i s.requires.present.table (slot-few _ _ s.requires.ready.lists _ _ (omega (arith, s.requires.present.table)) s.requires.present.slot))

pub rename-n-requires : goal.rename-n-requires
rename-n-requires c = let s = c in record { lists = s.requires.ready.lists; present = s.requires.present }

pub returns-then-k-ne-FINS : goal.returns-then-k-ne-FINS
returns-then-k-ne-FINS c = λ k e.
    let s = c in
    let at = c.mark_at-at.ensures in
    let mark = ap (λ j. word s.args.marks.now (mark_at j s.args.i)) e ∙ sym (c.mark_of.ensures ∙ ap (word s.args.marks.now) at) ∙ c.if-mark_of-ne0.false in
    met-first (model_of s.args.room.now s.args.words.now) k s.args.p s.args.i _ _ _ _ _ _ _ mark (ap (λ j. set s.args.marks.now j 1) (at ∙ ap (λ j. mark_at j s.args.i) (sym e)))
    (let m = model_of s.args.room.now s.args.words.now in goes_in (rename_step m k s.args.p s.args.i) (λ x. x) (list_step m k s.args.i) (λ x. sym (not-a-fin m k s.args.i x (λ z. c.if-k-ne-FINS.true (sym e ∙ z)))) (c.rename-n.ensures k _ e))

pub enlist-requires : goal.enlist-requires
enlist-requires c =
    let s = c in
    record { ready = record { lists = s.requires.ready.lists; marks = search rules }; present = subst (λ (j : ℕ). Present s.args.room.now s.args.words.now j s.args.i) c.if-k-ne-FINS.false s.requires.present }

pub shape_of-marks : goal.shape_of-marks
shape_of-marks c = omega (arith, c.enlist.ensures.marks, length-set c.args.marks.now c.mark_at-at.result 1)

pub returns : goal.returns
returns c = λ k e.
    let s = c in
    let at = c.mark_at-at.ensures in
    let mark = ap (λ j. word s.args.marks.now (mark_at j s.args.i)) e ∙ sym (c.mark_of.ensures ∙ ap (word s.args.marks.now) at) ∙ c.if-mark_of-ne0.false in
    met-first (model_of s.args.room.now s.args.words.now) k s.args.p s.args.i _ _ _ _ _ _ _ mark (ap (λ j. set s.args.marks.now j 1) (at ∙ ap (λ j. mark_at j s.args.i) (sym e)))
    (let m = model_of s.args.room.now s.args.words.now in goes_in (rename_step m k s.args.p s.args.i) (enlist_step m s.args.i) (list_step m k s.args.i) (λ x. sym (a-fin m k s.args.i x (e ∙ c.if-k-ne-FINS.false))) (goes_on (c.rename-n.ensures k _ e) c.enlist.ensures))
