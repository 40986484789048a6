-- `check_regions::shell` meets its contract: by whether the shell is there. Assumes nothing.
use native.Mathlib.Omega.{arith}
use mathlib.Core.Path.{sym, ◌∙◌}
use borrow.Author.Tests.{le-ltb, lt-ltb}
use Rattle.memory_records.specs.Laws.{counts-there}
use Rattle.memory_layout.specs.Decode.{decode}
use Rattle.memory_layout.specs.Laws.{lists_of}
use Rattle.check_reasons.specs.Laws.{enough-same, noted-same, noted-over}
use Rattle.check_ends.specs.Steps.{enough-one, enough-two, noted-two}
use Rattle.check_loop.specs.Loop.{options}
use Rattle.check_regions.specs.Laws.{shell-missing, shell-there, shell-list}
use borrow.Author.Rules.{rules}
use Rattle.check_regions.proofs.shell.Goals as goal

pub returns-then-done : goal.returns-then-done
returns-then-done c = noted-over _ _ _ (sym c.done.ensures ∙ c.if-done.true)

pub bounds-words-2 : goal.bounds-words-2
bounds-words-2 c = omega (arith, counts-there _ _ _ c.requires.fit.sized)

pub note-requires : goal.note-requires
unfolding decode
note-requires c = record { n_nonzero = search rules; enough = enough-same (shell-missing (decode c.args.room.now c.args.words.now c.args.reals.now) (options c.args.geometry c.args.n) c.args.r c.args.s (le-ltb _ _ c.if-words-s.true)) c.requires.enough }

pub returns-then-words-s : goal.returns-then-words-s
unfolding decode
returns-then-words-s c = noted-same (sym (shell-missing (decode c.args.room.now c.args.words.now c.args.reals.now) (options c.args.geometry c.args.n) c.args.r c.args.s (le-ltb _ _ c.if-words-s.true))) c.note.ensures

pub shell_at-owner-requires : goal.shell_at-owner-requires
shell_at-owner-requires c = record { lists = lists_of _ _ _ c.requires.fit; i_bound = c.if-words-s.false }

pub note_if-a-requires : goal.note_if-a-requires
unfolding decode
note_if-a-requires c = record { n_nonzero = search rules; enough = enough-one _ _ _ (shell-there (decode c.args.room.now c.args.words.now c.args.reals.now) (options c.args.geometry c.args.n) c.args.r c.args.s _ _ (lt-ltb _ _ c.if-words-s.false) (c.shell_at-owner.ensures c.args.reals.now) (shell-list c.args.room.now c.args.words.now c.args.reals.now c.args.s)) c.requires.enough }

pub list-faces-requires : goal.list-faces-requires
list-faces-requires c = record { lists = lists_of _ _ _ c.requires.fit; j_bound = (search rules, c.if-words-s.false) }

pub all_faces-requires : goal.all_faces-requires
unfolding decode
all_faces-requires c = record { fit = c.requires.fit; n_bound = c.requires.n_bound; enough = enough-two _ _ _ (shell-there (decode c.args.room.now c.args.words.now c.args.reals.now) (options c.args.geometry c.args.n) c.args.r c.args.s _ _ (lt-ltb _ _ c.if-words-s.false) (c.shell_at-owner.ensures c.args.reals.now) (c.list-faces.ensures ∙ shell-list c.args.room.now c.args.words.now c.args.reals.now c.args.s)) c.requires.enough c.note_if-a.ensures }

pub returns : goal.returns
unfolding decode
returns c = noted-two _ _ _ (shell-there (decode c.args.room.now c.args.words.now c.args.reals.now) (options c.args.geometry c.args.n) c.args.r c.args.s _ _ (lt-ltb _ _ c.if-words-s.false) (c.shell_at-owner.ensures c.args.reals.now) (c.list-faces.ensures ∙ shell-list c.args.room.now c.args.words.now c.args.reals.now c.args.s)) c.note_if-a.ensures c.all_faces.ensures
