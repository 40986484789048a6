-- `check_regions::region` meets its contract: by whether the region is there. Assumes nothing.
use native.Mathlib.Omega.{arith}
use mathlib.Core.Path.{sym, ◌∙◌}
use borrow.Author.Tests.{le-ltb, lt-ltb}
use Rattle.memory_records.specs.Laws.{counts-there}
use Rattle.memory_layout.specs.Decode.{decode}
use Rattle.memory_layout.specs.Laws.{lists_of}
use Rattle.check_reasons.specs.Laws.{enough-same, noted-same, noted-over}
use Rattle.check_ends.specs.Steps.{enough-one, enough-two, noted-two}
use Rattle.check_loop.specs.Loop.{options}
use Rattle.check_regions.specs.Laws.{region-missing, region-there, region-list}
use borrow.Author.Rules.{rules}
use Rattle.check_regions.proofs.region.Goals as goal

pub returns-then-done : goal.returns-then-done
returns-then-done c = noted-over _ _ _ (sym c.done.ensures ∙ c.if-done.true)

pub bounds-words-1 : goal.bounds-words-1
bounds-words-1 c = omega (arith, counts-there _ _ _ c.requires.fit.sized)

pub note-requires : goal.note-requires
unfolding decode
note-requires c = record { n_nonzero = search rules; enough = enough-same (region-missing (decode c.args.room.now c.args.words.now c.args.reals.now) (options c.args.geometry c.args.n) c.args.b c.args.r (le-ltb _ _ c.if-words-r.true)) c.requires.enough }

pub returns-then-words-r : goal.returns-then-words-r
unfolding decode
returns-then-words-r c = noted-same (sym (region-missing (decode c.args.room.now c.args.words.now c.args.reals.now) (options c.args.geometry c.args.n) c.args.b c.args.r (le-ltb _ _ c.if-words-r.true))) c.note.ensures

pub region_at-owner-requires : goal.region_at-owner-requires
region_at-owner-requires c = record { lists = lists_of _ _ _ c.requires.fit; i_bound = c.if-words-r.false }

pub note_if-a-requires : goal.note_if-a-requires
unfolding decode
note_if-a-requires c = record { n_nonzero = search rules; enough = enough-one _ _ _ (region-there (decode c.args.room.now c.args.words.now c.args.reals.now) (options c.args.geometry c.args.n) c.args.b c.args.r _ _ (lt-ltb _ _ c.if-words-r.false) (c.region_at-owner.ensures c.args.reals.now) (region-list c.args.room.now c.args.words.now c.args.reals.now c.args.r)) c.requires.enough }

pub list-shells-requires : goal.list-shells-requires
list-shells-requires c = record { lists = lists_of _ _ _ c.requires.fit; j_bound = (search rules, c.if-words-r.false) }

pub all_shells-requires : goal.all_shells-requires
unfolding decode
all_shells-requires c = record { fit = c.requires.fit; n_bound = c.requires.n_bound; enough = enough-two _ _ _ (region-there (decode c.args.room.now c.args.words.now c.args.reals.now) (options c.args.geometry c.args.n) c.args.b c.args.r _ _ (lt-ltb _ _ c.if-words-r.false) (c.region_at-owner.ensures c.args.reals.now) (c.list-shells.ensures ∙ region-list c.args.room.now c.args.words.now c.args.reals.now c.args.r)) c.requires.enough c.note_if-a.ensures }

pub returns : goal.returns
unfolding decode
returns c = noted-two _ _ _ (region-there (decode c.args.room.now c.args.words.now c.args.reals.now) (options c.args.geometry c.args.n) c.args.b c.args.r _ _ (lt-ltb _ _ c.if-words-r.false) (c.region_at-owner.ensures c.args.reals.now) (c.list-shells.ensures ∙ region-list c.args.room.now c.args.words.now c.args.reals.now c.args.r)) c.note_if-a.ensures c.all_shells.ensures
