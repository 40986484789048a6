-- `c_mends::put_count` meets its contract. Assumes nothing.
use mathlib.Core.Path.{refl, sym}
use Rattle.memory_writes.specs.Kept.{refused-keeps}
use Rattle.c_mends.proofs.put_count.Goals as goal

pub returns-then-r-ne0 : goal.returns-then-r-ne0
returns-then-r-ne0 c = record { value = refl; value_after = refused-keeps _ _ _ c.if-r-ne0.true }

pub returns : goal.returns
returns c = record { value = sym c.if-r-ne0.false; value_after = refl }
