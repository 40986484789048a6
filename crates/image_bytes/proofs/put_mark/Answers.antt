-- `image_bytes::put_mark` meets its contract: two stores. Assumes nothing.
use native.Mathlib.Omega.{arith}
use lib.ListN.{length-set}
use Rattle.memory_writes.specs.Over.{two-stores}
use Rattle.image_format.specs.Bytes.{little}
use Rattle.image_bytes.proofs.put_mark.Goals as goal

pub overflow_cast-bytes : goal.overflow_cast-bytes
overflow_cast-bytes c = omega arith

pub bounds-bytes-at : goal.bounds-bytes-at
bounds-bytes-at c = omega arith

pub overflow_cast-bytes-2 : goal.overflow_cast-bytes-2
overflow_cast-bytes-2 c = omega arith

pub overflow_add-bytes : goal.overflow_add-bytes
overflow_add-bytes c = omega arith

pub bounds-bytes-at-2 : goal.bounds-bytes-at-2
bounds-bytes-at-2 c = simp length-set (omega arith)

pub returns : goal.returns
unfolding little
returns c = two-stores c.args.bytes.now c.args.at _ _ (omega arith)
