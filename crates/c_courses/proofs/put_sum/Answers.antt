-- `c_courses::put_sum` meets its contract. Assumes nothing.
use mathlib.Core.Path.{refl, sym}
use Rattle.memory_writes.specs.Kept.{refused-keeps}
use Rattle.c_courses.proofs.put_sum.Goals as goal

pub returns-then-s-ne0 : goal.returns-then-s-ne0
returns-then-s-ne0 c = record { answer = refl; slots = refused-keeps _ _ _ c.if-s-ne0.true }

pub returns : goal.returns
returns c = let z = c.if-s-ne0.false in record { answer = sym z; slots = rw z }
