-- `image_records::record_length` meets its contract. Assumes nothing.
use native.Mathlib.Omega.{arith}
use Rattle.image_records.specs.Kept.{record_length}
use Rattle.image_records.specs.Laws.{seven-words, six-floats, record-small}
use Rattle.image_records.proofs.record_length.Goals as goal

pub overflow_mul-result : goal.overflow_mul-result
overflow_mul-result c =
    let s = c in
    let a = seven-words s.args.k s.requires.table in
    let e = c.word_count.ensures in
    record { fits = omega arith }

pub overflow_add-result : goal.overflow_add-result
overflow_add-result c =
    let s = c in
    let a = seven-words s.args.k s.requires.table in
    let e = c.word_count.ensures in
    record { fits = omega arith }

pub overflow_mul-result-2 : goal.overflow_mul-result-2
overflow_mul-result-2 c =
    let s = c in
    let a = six-floats s.args.k s.requires.table in
    let e = c.float_count.ensures in
    record { fits = omega arith }

pub overflow_add-result-2 : goal.overflow_add-result-2
overflow_add-result-2 c =
    let s = c in
    let a = seven-words s.args.k s.requires.table in
    let b = six-floats s.args.k s.requires.table in
    let e = c.word_count.ensures in
    let f = c.float_count.ensures in
    record { fits = omega arith }

pub overflow_add-result-3 : goal.overflow_add-result-3
unfolding record_length
overflow_add-result-3 c =
    let s = c in
    let a = record-small s.args.k s.args.w.now s.requires in
    let d = c.word_count.ensures in
    let e = c.float_count.ensures in
    let f = c.lists_length.ensures in
    record { fits = omega arith }

pub returns : goal.returns
unfolding record_length
returns c =
    let d = c.word_count.ensures in
    let e = c.float_count.ensures in
    let f = c.lists_length.ensures in
    omega arith
