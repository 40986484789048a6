-- `stl_regions::draw_regions` meets its contract: a turn of the loop is one region more. Assumes nothing.
use Rattle.std.specs.Prelude.{true, List, get_or, take}
use Rattle.std.proofs.Common.{arith, refl, ap, subst, take_all}
use Rattle.meaning.specs.Lists.{joined}
use Rattle.meaning.specs.Inquire.{Side, sides_of}
use Rattle.walk_marks.specs.Laws.{all-nth}
use Rattle.memory_layout.specs.Decode.{decode}
use Rattle.memory_layout.specs.Laws.{lists_of}
use Rattle.inquire_regions.specs.Regions.{region_sides, region_whole}
use Rattle.inquire_regions.specs.Laws.{region-there, shells-there, shells-whole}
use Rattle.inquire_regions.proofs.Laws.{regions-turn}
use Rattle.stl_fan.specs.Pens.{Drawn}
use Rattle.stl_fan.specs.Laws.{drawn-none, drawn-more}
use Rattle.stl_regions.specs.Laws.{region-none, solid-few}
use Rattle.stl_regions.proofs.draw_regions.Goals as goal

pub loop-region-init : goal.loop-region-init
unfolding joined
loop-region-init c =
    let s = c in
    (omega arith, drawn-none (decode s.args.room.now s.args.words.now s.args.reals.now) (record { narrow = true; count = 0 }) s.args.bytes.now)

pub solid_shells-shells-requires : goal.solid_shells-shells-requires
solid_shells-shells-requires c =
    let s = c in
    let k = c.loop-region.region-index in
    let h = all-nth (region_whole s.args.room.now s.args.words.now) s.args.regions.now k s.requires.regions_value (omega arith) in
    record { lists = lists_of s.args.room.now s.args.words.now s.args.reals.now s.requires.fit; region_bound = region-there s.args.room.now s.args.words.now (get_or s.args.regions.now k 0) h }

pub with_shells-t-requires : goal.with_shells-t-requires
with_shells-t-requires c =
    let s = c in
    let k = c.loop-region.region-index in
    let r = get_or s.args.regions.now k 0 in
    let few = c.loop-region.invariant.0 in
    let short = s.requires.regions_len_bound in
    let lists = lists_of s.args.room.now s.args.words.now s.args.reals.now s.requires.fit in
    let h = all-nth (region_whole s.args.room.now s.args.words.now) s.args.regions.now k s.requires.regions_value (omega arith) in
    let none = region-none s.args.room.now s.args.words.now s.args.reals.now s.args.regions.now _ k (omega arith) refl s.requires.regions_value_2 in
    rw c.solid_shells-shells.ensures record { fit = s.requires.fit; shells_value = shells-there s.args.room.now s.args.words.now r h; shells_value_2 = shells-whole s.args.room.now s.args.words.now r h; shells_value_3 = none; shells_len_bound = (solid-few s.args.room.now s.args.words.now r lists (region-there s.args.room.now s.args.words.now r h), omega arith) }

pub loop-region-preserved : goal.loop-region-preserved
loop-region-preserved c =
    let s = c in
    let turn = c.loop-region in
    let few = turn.invariant.0 in
    let more = c.with_shells-t.ensures.few in (
      omega arith,
      subst (λ (l : List Side). Drawn (decode s.args.room.now s.args.words.now s.args.reals.now) l (record { narrow = true; count = 0 }) c.with_shells-t.result s.args.bytes.now c.with_shells-t.new.bytes) (regions-turn s.args.room.now s.args.words.now s.args.reals.now s.args.regions.now _ turn.region-index (omega arith) c.solid_shells-shells.ensures)
          (drawn-more (decode s.args.room.now s.args.words.now s.args.reals.now) (joined (region_sides (decode s.args.room.now s.args.words.now s.args.reals.now)) (take turn.region-index s.args.regions.now)) (joined (sides_of (decode s.args.room.now s.args.words.now s.args.reals.now)) c.solid_shells-shells.result.now) turn.invariant.1 c.with_shells-t.ensures.drawn),
    )

pub returns : goal.returns
returns c =
    let s = c in
    let turn = c.loop-region in
    let few = turn.invariant.0 in
    let short = s.requires.regions_len_bound in record { drawn = subst (λ (l : List Side). Drawn (decode s.args.room.now s.args.words.now s.args.reals.now) l (record { narrow = true; count = 0 }) turn.t s.args.bytes.now turn.bytes) (ap (joined (region_sides (decode s.args.room.now s.args.words.now s.args.reals.now))) (take_all turn.region-index s.args.regions.now (omega arith))) turn.invariant.1; few = omega arith }
