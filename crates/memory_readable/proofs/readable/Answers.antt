-- `memory_readable::readable` meets its contract. Assumes nothing.
use mathlib.Core.Path.{◌≡◌, sym, ◌∙◌}
use mathlib.Core.Bool.{true, false}
use native.Mathlib.Omega.{arith}
use Rattle.memory_layout.specs.Layout.{real_strides}
use Rattle.memory_layout.specs.Readable.{sized_ok, readable}
use Rattle.memory_layout.specs.Laws.{sized_of, before-tables, version-there}
use Rattle.memory_readable.proofs.readable.Goals as goal

pub returns-then-not-sized : goal.returns-then-not-sized
unfolding readable
returns-then-not-sized c =
    let s = c in
    let a : sized_ok s.args.room.now s.args.words.now s.args.reals.now ≡ false = sym c.sized.ensures ∙ c.if-not-sized.true in
    rw a

pub bounds-words-10 : goal.bounds-words-10
bounds-words-10 c =
    let s = c in
    let z = (sized_of s.args.room.now s.args.words.now s.args.reals.now (sym c.sized.ensures ∙ c.if-not-sized.false)).words in
    omega (arith, version-there s.args.room.now s.args.words.now z)

pub bounds-reals-0 : goal.bounds-reals-0
bounds-reals-0 c =
    let s = c in
    let z = (sized_of s.args.room.now s.args.words.now s.args.reals.now (sym c.sized.ensures ∙ c.if-not-sized.false)).reals in
    let f = before-tables 1 real_strides s.args.room.now 10 in
    omega arith

pub tables_ok-requires : goal.tables_ok-requires
tables_ok-requires c =
    let s = c in
    sized_of s.args.room.now s.args.words.now s.args.reals.now (sym c.sized.ensures ∙ c.if-not-sized.false)

pub returns : goal.returns
unfolding readable
returns c =
    let s = c in
    let a : sized_ok s.args.room.now s.args.words.now s.args.reals.now ≡ true = sym c.sized.ensures ∙ c.if-not-sized.false in
    rw (a, c.version_ok.ensures, c.precision_ok.ensures, c.tables_ok.ensures)
