-- `split_room::tables::tables_fit` meets its contract. Assumes nothing.
use native.Mathlib.Omega.{arith}
use mathlib.Core.Path.{refl}
use Rattle.split_fins.specs.Laws.{counts-listed}
use Rattle.split_place.specs.Place.{tables_test}
use Rattle.split_room.proofs.tables.tables_fit.Goals as goal

pub bounds-words-5 : goal.bounds-words-5
bounds-words-5 c = let s = c in let n = counts-listed s.args.room.now s.args.words.now s.requires in omega arith

pub overflow_cast-result : goal.overflow_cast-result
overflow_cast-result c = omega (arith, c.type_inv.words 5)

pub overflow_add-result : goal.overflow_add-result
overflow_add-result c = omega (arith, c.type_inv.words 5)

pub bounds-words-6 : goal.bounds-words-6
bounds-words-6 c = let s = c in let n = counts-listed s.args.room.now s.args.words.now s.requires in omega arith

pub overflow_cast-result-2 : goal.overflow_cast-result-2
overflow_cast-result-2 c = omega (arith, c.type_inv.words 6)

pub overflow_add-result-2 : goal.overflow_add-result-2
overflow_add-result-2 c = omega (arith, c.type_inv.words 6)

pub bounds-words-7 : goal.bounds-words-7
bounds-words-7 c = let s = c in let n = counts-listed s.args.room.now s.args.words.now s.requires in omega arith

pub overflow_cast-result-3 : goal.overflow_cast-result-3
overflow_cast-result-3 c = omega (arith, c.type_inv.words 7)

pub overflow_add-result-3 : goal.overflow_add-result-3
overflow_add-result-3 c = omega (arith, c.type_inv.words 7)

pub returns : goal.returns
unfolding tables_test
returns c = refl
