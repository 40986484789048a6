-- `memory_record_test::face_ok` meets its contract. Assumes nothing.
use native.Mathlib.Omega.{arith}
use borrow.Author.Rules.{rules}
use Rattle.memory_record_test.proofs.face_ok.Goals as goal

pub marked-requires : goal.marked-requires
marked-requires c = omega arith

pub returns : goal.returns
returns c = rw c.marked.ensures
