-- `inquire_regions::regions_tally` meets its contract: a turn of the loop is one region more. Assumes nothing.
use Rattle.std.proofs.Common.{get_or, take, ap, ◌∙◌, arith}
use Rattle.meaning.specs.Lists.{joined}
use Rattle.walk_marks.specs.Laws.{all-nth}
use Rattle.memory_layout.specs.Decode.{decode}
use Rattle.memory_layout.specs.Laws.{lists_of}
use Rattle.inquire_regions.specs.Regions.{tally_of, region_sides, region_whole}
use Rattle.inquire_regions.specs.Laws.{region-there, shells-there, shells-whole}
use Rattle.inquire_regions.proofs.Laws.{regions-turn}
use Rattle.inquire_regions.proofs.regions_tally.Goals as goal

pub loop-region-init : goal.loop-region-init
unfolding joined
loop-region-init c = c.none-t.ensures c.args.whole (decode c.args.room.now c.args.words.now c.args.reals.now)

pub solid_shells-shells-requires : goal.solid_shells-shells-requires
solid_shells-shells-requires c =
    let s = c in
    let k = c.loop-region.region-index in
    let r = get_or s.args.regions.now k 0 in
    let h = all-nth (region_whole s.args.room.now s.args.words.now) s.args.regions.now k s.requires.regions_value (omega arith) in
    record { lists = lists_of s.args.room.now s.args.words.now s.args.reals.now s.requires.fit; region_bound = region-there s.args.room.now s.args.words.now r h }

pub with_shells-t-requires : goal.with_shells-t-requires
with_shells-t-requires c =
    let s = c in
    let k = c.loop-region.region-index in
    let r = get_or s.args.regions.now k 0 in
    let h = all-nth (region_whole s.args.room.now s.args.words.now) s.args.regions.now k s.requires.regions_value (omega arith) in
    rw c.solid_shells-shells.ensures record { fit = s.requires.fit; shells_value = shells-there s.args.room.now s.args.words.now r h; shells_value_2 = shells-whole s.args.room.now s.args.words.now r h }

pub loop-region-preserved : goal.loop-region-preserved
loop-region-preserved c =
    let s = c in
    let k = c.loop-region.region-index in
    c.with_shells-t.ensures (joined (region_sides (decode s.args.room.now s.args.words.now s.args.reals.now)) (take k s.args.regions.now)) c.loop-region.invariant ∙ ap (tally_of s.args.whole (decode s.args.room.now s.args.words.now s.args.reals.now)) (regions-turn s.args.room.now s.args.words.now s.args.reals.now s.args.regions.now _ k (omega arith) c.solid_shells-shells.ensures)
