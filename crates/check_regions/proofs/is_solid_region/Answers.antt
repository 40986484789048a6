-- `check_regions::is_solid_region` meets its contract: by whether the region is there. Assumes nothing.
use native.Mathlib.Omega.{arith}
use native.Mathlib.Nat.{le_trans}
use borrow.Author.Tests.{le-ltb, lt-ltb}
use Rattle.memory_layout.specs.Layout.{word_strides}
use Rattle.memory_layout.specs.Decode.{decode}
use Rattle.memory_layout.specs.Laws.{before-tables}
use Rattle.check_regions.specs.Laws.{solid-not, solid-told}
use Rattle.check_regions.proofs.is_solid_region.Goals as goal

pub bounds-words-1 : goal.bounds-words-1
bounds-words-1 c = omega (arith, le_trans (before-tables 11 word_strides c.args.room.now 10) c.requires.words)

pub returns-then-words-r : goal.returns-then-words-r
unfolding decode
returns-then-words-r c = λ x. solid-not (decode c.args.room.now c.args.words.now x) c.args.r (le-ltb _ _ c.if-words-r.true)

pub region_at-requires : goal.region_at-requires
region_at-requires c = record { lists = c.requires; i_bound = c.if-words-r.false }

pub returns : goal.returns
unfolding decode
returns c = λ x. solid-told (decode c.args.room.now c.args.words.now x) c.args.r _ (lt-ltb _ _ c.if-words-r.false) (c.region_at.ensures x)
