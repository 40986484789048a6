-- `image_writer::whole_length` meets its contract. Assumes nothing.
use Prim.Native.Nat.{◌+◌}
use native.Mathlib.Omega.{arith}
use mathlib.Core.Path.{ap₂}
use Rattle.memory_layout.specs.Laws.{version-there}
use Rattle.image_writer.specs.Rows.{image_length}
use Rattle.image_writer.specs.Laws.{version-short, tables-length-small}
use Rattle.image_writer.proofs.whole_length.Goals as goal

pub version_length-requires : goal.version_length-requires
version_length-requires c = let s = c in version-there s.args.room.now s.args.words.now s.requires.words

pub overflow_add-result : goal.overflow_add-result
overflow_add-result c =
    let s = c in
    let a = version-short s.args.words.now in
    let b = tables-length-small s.args.room.now s.args.words.now s.requires 10 (omega arith) in
    let e = c.version_length.ensures in
    let f = c.tables_length.ensures in
    record { fits = omega arith }

pub returns : goal.returns
unfolding image_length
returns c = ap₂ ◌+◌ c.version_length.ensures c.tables_length.ensures
