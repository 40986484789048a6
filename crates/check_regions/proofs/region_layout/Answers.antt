-- `check_regions::region_layout` meets its contract: by whether there is a region. Assumes nothing.
use mathlib.Core.Path.{sym}
use Rattle.memory_layout.specs.Decode.{decode}
use Rattle.memory_layout.specs.Laws.{lists_of}
use Rattle.check_reasons.specs.Laws.{enough-same, noted-same}
use Rattle.check_regions.specs.Laws.{layout-none, layout-first}
use borrow.Author.Rules.{rules}
use Rattle.check_regions.proofs.region_layout.Goals as goal

pub note-requires : goal.note-requires
note-requires c = record { n_nonzero = search rules; enough = enough-same (layout-none (decode c.args.room.now c.args.words.now c.args.reals.now) c.args.b c.args.regions.now c.if-regions-eq0.true) c.requires.enough }

pub returns-then-regions-eq0 : goal.returns-then-regions-eq0
returns-then-regions-eq0 c = noted-same (sym (layout-none (decode c.args.room.now c.args.words.now c.args.reals.now) c.args.b c.args.regions.now c.if-regions-eq0.true)) c.note.ensures

pub is_solid_region-solid-requires : goal.is_solid_region-solid-requires
is_solid_region-solid-requires c = lists_of _ _ _ c.requires.fit

pub note_if-requires : goal.note_if-requires
note_if-requires c = record { n_nonzero = search rules; enough = enough-same (layout-first (decode c.args.room.now c.args.words.now c.args.reals.now) c.args.b c.args.regions.now _ c.if-regions-eq0.false (c.is_solid_region-solid.ensures c.args.reals.now)) c.requires.enough }

pub returns : goal.returns
returns c = noted-same (sym (layout-first (decode c.args.room.now c.args.words.now c.args.reals.now) c.args.b c.args.regions.now _ c.if-regions-eq0.false (c.is_solid_region-solid.ensures c.args.reals.now))) c.note_if.ensures
