-- `split_fins::use_refusal` meets its contract. Assumes nothing.
use native.Mathlib.Omega.{arith}
use mathlib.Core.Path.{◌≡◌, sym, ap}
use lib.Dec.{eqb, ltb}
use lib.ListN.{length, get_or, take}
use lib.Seq.{length-take-le}
use Rattle.geom_lines_planes.specs.Refuse.{◌unless◌, ◌then◌}
use Rattle.meaning.specs.Lists.{member}
use Rattle.memory_layout.specs.Layout.{word}
use Rattle.memory_records.specs.Laws.{words-whole}
use Rattle.split_fins.specs.Fins.{use_test}
use Rattle.split_fins.specs.Laws.{counts-listed}
use Rattle.meaning_list_laws.specs.Tests.{unless_not}
use Rattle.memory_layout.specs.Laws.{words_inside}
use borrow.Author.Rules.{rules}
use Rattle.split_fins.proofs.use_refusal.Goals as goal

pub overflow_cast-fin : goal.overflow_cast-fin
overflow_cast-fin c = omega (arith, c.type_inv.fins c.args.k)

pub words_of-w-requires : goal.words_of-w-requires
words_of-w-requires c =
    let s = c in
    let f = get_or s.args.fins.now s.args.k 0 in
    record { small = s.requires.lists.small; inside = words_inside s.args.room.now s.args.words.now 5 f s.requires.lists (search rules) (s.requires.present.there s.args.k s.requires.k_in_bounds) }

pub slice_bounds-occurs-end : goal.slice_bounds-occurs-end
slice_bounds-occurs-end c =
    let s = c in
    let h = s.requires.k_in_bounds in
    sym (length-take-le s.args.k s.args.fins.now (omega arith))

pub bounds-w-1 : goal.bounds-w-1
bounds-w-1 c =
    let s = c in
    let f = get_or s.args.fins.now s.args.k 0 in
    let l : length c.words_of-w.result.now ≡ 4 = words-whole s.args.room.now s.args.words.now c.words_of-w.result.now 5 f c.words_of-w.ensures (words_inside s.args.room.now s.args.words.now 5 f s.requires.lists (search rules) (s.requires.present.there s.args.k s.requires.k_in_bounds)) in
    omega arith

pub overflow_cast-w : goal.overflow_cast-w
overflow_cast-w c = omega (arith, c.type_inv.w 1)

pub bounds-w-0 : goal.bounds-w-0
bounds-w-0 c =
    let s = c in
    let f = get_or s.args.fins.now s.args.k 0 in
    let l : length c.words_of-w.result.now ≡ 4 = words-whole s.args.room.now s.args.words.now c.words_of-w.result.now 5 f c.words_of-w.ensures (words_inside s.args.room.now s.args.words.now 5 f s.requires.lists (search rules) (s.requires.present.there s.args.k s.requires.k_in_bounds)) in
    omega arith

pub bounds-words-4 : goal.bounds-words-4
bounds-words-4 c = let s = c in let n = counts-listed s.args.room.now s.args.words.now s.requires.lists in omega arith

pub returns : goal.returns
unfolding use_test
returns c =
    rw (← c.words_of-w.ensures, c.then-2.ensures, c.then.ensures, c.unless-2.ensures, c.unless.ensures, c.unless-once.ensures, c.occurs.ensures)
    (ap (λ n. n then 1 unless eqb (word c.words_of-w.result.now 1) c.args.edge then 2 unless ltb (word c.words_of-w.result.now 0) (word c.args.words.now 4))
    (unless_not 1 (member (get_or c.args.fins.now c.args.k 0) (take c.args.k c.args.fins.now))))
