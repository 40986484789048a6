-- `inquire_sides::rim_refusal` meets its contract. Assumes nothing.
use mathlib.Core.Path.{ap}
use lib.Dec.{ltb}
use lib.ListN.{length}
use Rattle.geom_lines_planes.specs.Refuse.{◌then◌}
use Rattle.meaning.specs.Refuse.{first_of}
use Rattle.inquire_fin_starts.specs.Starts.{start_number}
use Rattle.inquire_sides.specs.Sides.{rim_number}
use Rattle.meaning_list_laws.specs.Tests.{unless_not}
use borrow.Author.Rules.{rules}
use Rattle.inquire_sides.proofs.rim_refusal.Goals as goal

pub returns : goal.returns
unfolding rim_number
returns c = rw (c.then.ensures, c.starts_refusal.ensures, c.unless.ensures) (ap (λ k. k then first_of (start_number c.args.room.now c.args.words.now) c.args.fins.now) (unless_not 4 (ltb (length c.args.fins.now) 3)))
