-- `slab_faces::level` meets its contract. Assumes nothing.
use Rattle.slab_faces.specs.Laws.{level-none}
use Rattle.slab_faces.specs.Tested.{level_at}
use Rattle.meaning_slabs.specs.Slabs.{level}
use Rattle.meaning.specs.Lists.{all}
use Rattle.memory_layout.specs.Decode.{decode}
use mathlib.Core.Path.{ap, ◌∙◌}
use Rattle.inquire_fin_starts.specs.Laws.{rim-whole, rim-start}
use native.Mathlib.Omega.{arith}
use Rattle.slab_faces.proofs.level.Goals as goal

pub returns-then-fins-eq0 : goal.returns-then-fins-eq0
returns-then-fins-eq0 c = let s = c in level-none (decode s.args.room.now s.args.words.now s.args.reals.now) s.args.axis s.args.fins.now c.if-fins-eq0.true

pub bounds-fins-0 : goal.bounds-fins-0
bounds-fins-0 c = let h = c.if-fins-eq0.false in omega arith

pub overflow_cast-fins : goal.overflow_cast-fins
overflow_cast-fins c = omega (arith, c.type_inv.fins 0)

pub height-at-requires : goal.height-at-requires
height-at-requires c = let s = c in let h = c.if-fins-eq0.false in record { fit = s.requires.fit; whole = rim-whole s.args.room.now s.args.words.now s.args.fins.now 0 (omega arith) s.requires.rim; i_value = rim-start s.args.room.now s.args.words.now s.args.fins.now 0 (omega arith) s.requires.rim }

pub level_at-requires : goal.level_at-requires
level_at-requires c = c.requires

pub returns : goal.returns
unfolding level
returns c = let s = c in c.level_at.ensures ∙ ap (λ t. all (level_at (decode s.args.room.now s.args.words.now s.args.reals.now) s.args.axis t) s.args.fins.now) c.height-at.ensures
