-- `bbox::Aabb::including` meets its contract, axis by axis. Assumes nothing.
use Rattle.inquire_bbox.specs.Boxes.{included, seen_box}
use borrow.Author.Rules.{rules}
use Rattle.inquire_bbox.proofs.bbox.Aabb.including.Goals as goal

pub returns : goal.returns
unfolding included seen_box
returns c =
    let greater2 = c in
    let lesser3 = greater2 in
    let lesser2 = lesser3 in
    λ i. record {
      min = record { x = lesser2.lesser.ensures i; y = lesser2.lesser-2.ensures i; z = lesser3.lesser-3.ensures i };
      max = record { x = greater2.greater.ensures i; y = greater2.greater-2.ensures i; z = c.greater-3.ensures i };
    }
