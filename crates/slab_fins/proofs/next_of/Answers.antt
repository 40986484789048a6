-- `slab_fins::next_of` meets its contract. Assumes nothing.
use Rattle.meaning_slab_laws.specs.Steps.{closed_at, closed-last}
use mathlib.Core.Path.{sym}
use native.Mathlib.Omega.{arith}
use Rattle.slab_fins.proofs.next_of.Goals as goal

pub overflow_add-i : goal.overflow_add-i
overflow_add-i c = omega arith

pub offset_bounds-fins-i : goal.offset_bounds-fins-i
offset_bounds-fins-i c = omega arith

pub bounds-fins-i : goal.bounds-fins-i
bounds-fins-i c = omega arith

pub returns-then-i-fins : goal.returns-then-i-fins
returns-then-i-fins c = let s = c in sym (closed_at 0 s.args.fins.now _ c.if-i-fins.true)

pub bounds-fins-0 : goal.bounds-fins-0
bounds-fins-0 c = omega arith

pub returns : goal.returns
returns c = let s = c in sym (closed-last 0 s.args.fins.now s.args.k s.requires c.if-i-fins.false)
