-- `memory_contains::contains` meets its contract. Assumes nothing.
use mathlib.Core.Path.{◌≡◌, sym, ap, ◌∙◌}
use mathlib.Core.Bool.{true, false}
use native.Mathlib.Omega.{arith}
use borrow.Author.Tests.{not-true, not-false}
use Rattle.memory_layout.specs.Readable.{readable}
use Rattle.memory_layout.specs.Laws.{fit_of}
use Rattle.memory_contains.specs.declared.Contained.TheVariants.{Is}
use Rattle.memory_contains.specs.Answers.{contains_answer}
use Rattle.memory_records.specs.Laws.{counts-there}
use Rattle.memory_contains.specs.Laws.{table-small, contained-at}
use borrow.Author.Rules.{rules}
use Rattle.memory_contains.proofs.contains.Goals as goal

pub returns-then-not-readable : goal.returns-then-not-readable
unfolding contains_answer
returns-then-not-readable c =
    let s = c in
    let e : readable s.args.room.now s.args.words.now s.args.reals.now ≡ false = sym c.readable.ensures ∙ c.if-not-readable.true in
    rw e

pub offset_bounds-words-table_of : goal.offset_bounds-words-table_of
offset_bounds-words-table_of c =
    let t = table-small c.args.entity in
    let e = c.table_of.ensures in
    record { fits = omega arith }

pub bounds-words-table_of : goal.bounds-words-table_of
bounds-words-table_of c =
    let s = c in
    let e : readable s.args.room.now s.args.words.now s.args.reals.now ≡ true = sym c.readable.ensures ∙ c.if-not-readable.false in
    let n = counts-there s.args.room.now s.args.words.now s.args.reals.now (fit_of s.args.room.now s.args.words.now s.args.reals.now e).sized in
    let t = table-small s.args.entity in
    let f = c.table_of.ensures in
    omega arith

pub overflow_cast-used : goal.overflow_cast-used
overflow_cast-used c = omega (arith, c.type_inv.words c.table_of.result)

pub returns : goal.returns
unfolding contains_answer
returns c =
    let s = c in
    let e : readable s.args.room.now s.args.words.now s.args.reals.now ≡ true = sym c.readable.ensures ∙ c.if-not-readable.false in
    rw (e, c.id_of.ensures, c.table_of.ensures) (ap Is (contained-at s.args.room.now s.args.words.now s.args.reals.now s.args.entity))
