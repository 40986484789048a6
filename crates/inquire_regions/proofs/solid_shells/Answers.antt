-- `inquire_regions::solid_shells` meets its contract. Assumes nothing.
use native.Mathlib.Omega.{arith}
use mathlib.Core.Path.{◌≡◌, ap}
use mathlib.Core.Bool.{true, false}
use lib.Dec.{eqb}
use lib.ListN.{length}
use borrow.Author.Tests.{eq-eqb, ne_eqb}
use Rattle.memory_layout.specs.Layout.{word}
use Rattle.memory_layout.specs.Laws.{words_inside}
use Rattle.memory_layout.proofs.Laws.{words-length}
use Rattle.inquire_regions.specs.Regions.{solid_shells}
use Rattle.inquire_regions.proofs.solid_shells.Goals as goal

pub words_of-w-requires : goal.words_of-w-requires
words_of-w-requires c =
    let s = c in
    record { small = s.requires.lists.small; inside = words_inside s.args.room.now s.args.words.now 1 s.args.region s.requires.lists (omega arith) s.requires.region_bound }

pub bounds-w-1 : goal.bounds-w-1
bounds-w-1 c =
    let s = c in
    omega (arith, ap length c.words_of-w.ensures, words-length s.args.room.now s.args.words.now 1 s.args.region (words_inside s.args.room.now s.args.words.now 1 s.args.region s.requires.lists (omega arith) s.requires.region_bound))

pub returns-then-w-eq0 : goal.returns-then-w-eq0
unfolding solid_shells
returns-then-w-eq0 c =
    let s = c in
    let e : eqb (word c.words_of-w.result.now 1) 0 ≡ true = eq-eqb _ _ c.if-w-eq0.true in
    rw (← c.words_of-w.ensures, e)

pub returns : goal.returns
unfolding solid_shells
returns c =
    let s = c in
    let e : eqb (word c.words_of-w.result.now 1) 0 ≡ false = ne_eqb _ _ c.if-w-eq0.false in
    rw (← c.words_of-w.ensures, e) c.list-shells.ensures
