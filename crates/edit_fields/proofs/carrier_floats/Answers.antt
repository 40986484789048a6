-- `edit_fields::carrier_floats` meets its contract, case by case. Assumes nothing.
use lib.Ieee.{of_bits}
use Rattle.edit_fields.specs.Fields.{carrier_floats}
use borrow.Author.Rules.{rules}
use Rattle.edit_fields.proofs.carrier_floats.Goals as goal

pub returns-in-Line : goal.returns-in-Line
unfolding carrier_floats
returns-in-Line c = rw c.in-Line.is c.six.ensures

pub returns-in-Plane : goal.returns-in-Plane
unfolding carrier_floats
returns-in-Plane c = rw c.in-Plane.is c.six-in-Plane.ensures

pub returns-in-Other : goal.returns-in-Other
unfolding carrier_floats of_bits
returns-in-Other c = rw c.in-Other.is
