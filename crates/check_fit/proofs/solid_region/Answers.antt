-- `check_fit::solid_region` meets its contract. Assumes nothing.
use native.Mathlib.Omega.{arith}
use mathlib.Core.Path.{ap, ap₂, ◌∙◌}
use mathlib.Core.Bool.{not, ◌&&◌}
use lib.Dec.{eqb}
use lib.ListN.{length}
use Rattle.meaning.specs.Lists.{any}
use Rattle.memory_layout.specs.Layout.{word}
use Rattle.memory_layout.specs.Laws.{words_inside}
use Rattle.memory_layout.proofs.Laws.{words-length}
use Rattle.walk_sources.specs.Laws.{followed-slot, followed-entries}
use Rattle.check_fit.specs.Whole.{faced_in, solid_in}
use Rattle.check_fit.proofs.solid_region.Goals as goal

pub words_of-w-requires : goal.words_of-w-requires
words_of-w-requires c =
    let s = c in
    record { small = s.requires.lists.small; inside = words_inside s.args.room.now s.args.words.now 1 s.args.region s.requires.lists (omega arith) (followed-slot s.args.room.now s.args.words.now 1 s.args.region s.requires.region_value) }

pub bounds-w-1 : goal.bounds-w-1
bounds-w-1 c =
    let s = c in
    omega (arith, ap length c.words_of-w.ensures, words-length s.args.room.now s.args.words.now 1 s.args.region (words_inside s.args.room.now s.args.words.now 1 s.args.region s.requires.lists (omega arith) (followed-slot s.args.room.now s.args.words.now 1 s.args.region s.requires.region_value)))

pub list-requires : goal.list-requires
list-requires c =
    let s = c in
    record { lists = s.requires.lists; j_bound = (omega arith, followed-slot s.args.room.now s.args.words.now 1 s.args.region s.requires.region_value) }

pub any_face-faced-requires : goal.any_face-faced-requires
any_face-faced-requires c =
    let s = c in
    record { lists = s.requires.lists; shells_value = rw c.list.ensures (followed-entries s.args.room.now s.args.words.now 1 s.args.region s.requires.region_value) }

pub returns : goal.returns
unfolding solid_in
returns c =
    let s = c in
    ap₂ (λ a b. a && b) (ap (λ l. not (eqb (word l 1) 0)) c.words_of-w.ensures) (c.any_face-faced.ensures ∙ ap (any (faced_in s.args.room.now s.args.words.now)) c.list.ensures)
