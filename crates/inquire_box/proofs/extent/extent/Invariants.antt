-- `inquire_box::extent::extent` meets its contract: a turn of the loop is one vertex more. Assumes nothing.
use Rattle.std.specs.Prelude.{◌≡◌, map}
use Rattle.std.proofs.Common.{take}
use Rattle.meaning.specs.Model.{point_of}
use Rattle.memory_layout.specs.Decode.{decode}
use Rattle.inquire_bbox.specs.Boxes.{extent_of}
use Rattle.inquire_box.proofs.extent.extent.Given as goal

abbrev pub invariant-loop-id : goal.invariant-loop-id
invariant-loop-id l = l.e ≡ extent_of (map (point_of (decode l.room l.words l.reals)) (take l.id-index l.ids))
