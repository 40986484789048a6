-- `mend_meetings::rename` meets its contract: by the first word of the record. Assumes nothing.
use native.Mathlib.Omega.{arith}
use mathlib.Core.Path.{◌≡◌, sym, ap, ◌∙◌, subst}
use Prim.Native.Nat.{ℕ}
use lib.ListN.{length}
use Rattle.memory_layout.specs.Layout.{word, words_of}
use Rattle.memory_layout.specs.Laws.{words_inside}
use Rattle.memory_layout.proofs.Laws.{words-length}
use Rattle.meaning_mends.specs.Mends.{Child, named, child_table}
use Rattle.mend_meetings.specs.Machine.{Goes, logged}
use Rattle.mend_meetings.specs.Facts.{model_of}
use Rattle.mend_meetings.specs.Laws.{named-word, rename-none, rename-one, stride-some}
use borrow.Author.Rules.{rules}
use Rattle.mend_meetings.proofs.rename.Goals as goal

pub words_of-w-requires : goal.words_of-w-requires
words_of-w-requires c = let s = c in record { small = s.requires.lists.small; inside = words_inside _ _ _ _ s.requires.lists (omega (arith, s.requires.present.table)) s.requires.present.slot }

pub bounds-w-0 : goal.bounds-w-0
bounds-w-0 c =
    let s = c in
    omega (arith, ap length c.words_of-w.ensures, words-length s.args.room.now s.args.words.now s.args.k s.args.i (words_inside _ _ _ _ s.requires.lists (omega (arith, s.requires.present.table)) s.requires.present.slot), stride-some s.args.k s.requires.present.table)

pub returns-then-old-p : goal.returns-then-old-p
returns-then-old-p c = λ k t e.
    let s = c in
    rename-none (model_of s.args.room.now s.args.words.now) k s.args.p s.args.i _ t _
    (named-word s.args.room.now s.args.words.now k s.args.i ∙ ap (λ j. word (words_of s.args.room.now s.args.words.now j s.args.i) 0) e ∙ ap (λ l. word l 0) (sym c.words_of-w.ensures) ∙ c.if-old-p.true)

pub returns : goal.returns
returns c = λ k t e.
    let s = c in
    let old = ap (λ l. word l 0) c.words_of-w.ensures ∙ ap (λ j. word (words_of s.args.room.now s.args.words.now j s.args.i) 0) (sym e) ∙ sym (named-word s.args.room.now s.args.words.now k s.args.i) in
    rename-one (model_of s.args.room.now s.args.words.now) k s.args.p s.args.i _ _ t _ _ _ old c.if-old-p.false
    (rw e (c.log.ensures t))
