-- `stl_writer::draw` meets its contract. Assumes nothing.
use native.Mathlib.Omega.{arith}
use mathlib.Core.Path.{ap, ◌∙◌, subst}
use mathlib.Core.List.{List}
use borrow.Author.Rules.{rules}
use Rattle.meaning.specs.Lists.{joined}
use Rattle.meaning.specs.Inquire.{Side, sides_refusal}
use Rattle.memory_layout.specs.Decode.{decode}
use Rattle.memory_layout.specs.Laws.{lists_of}
use Rattle.memory_layout.proofs.Laws.{listed_le}
use Rattle.inquire_regions.specs.Regions.{region_sides}
use Rattle.inquire_regions.specs.Whole.{regions-whole}
use Rattle.stl_fan.specs.Pens.{Drawn}
use Rattle.stl_writer.specs.Laws.{fresh, sides-are}
use Rattle.stl_writer.proofs.draw.Goals as goal

pub list-requires : goal.list-requires
list-requires c =
    let s = c in
    record { lists = lists_of s.args.room.now s.args.words.now s.args.reals.now s.requires.fit; j_bound = (omega arith, s.requires.edged.looped.faced.shelled.body) }

pub draw_regions-requires : goal.draw_regions-requires
draw_regions-requires c =
    let s = c in
    let l = lists_of s.args.room.now s.args.words.now s.args.reals.now s.requires.fit in
    rw c.list.ensures record { fit = s.requires.fit; regions_value = regions-whole s.args.room.now s.args.words.now s.args.reals.now s.args.body l s.requires.edged; regions_value_2 = ap (sides_refusal (decode s.args.room.now s.args.words.now s.args.reals.now)) (sides-are s.args.room.now s.args.words.now s.args.reals.now s.args.body) ∙ s.requires.sides; regions_len_bound = listed_le s.args.room.now s.args.words.now 0 s.args.body l (omega arith) s.requires.edged.looped.faced.shelled.body }

pub returns : goal.returns
returns c =
    let s = c in
    let e = c.draw_regions.ensures in record { drawn = subst (λ (l : List Side). Drawn (decode s.args.room.now s.args.words.now s.args.reals.now) l fresh c.draw_regions.result s.args.bytes.now c.draw_regions.new.bytes) (ap (joined (region_sides (decode s.args.room.now s.args.words.now s.args.reals.now))) c.list.ensures ∙ sides-are s.args.room.now s.args.words.now s.args.reals.now s.args.body) e.drawn; few = e.few }
