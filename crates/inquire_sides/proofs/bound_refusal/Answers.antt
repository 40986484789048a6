-- `inquire_sides::bound_refusal` meets its contract. Assumes nothing.
use mathlib.Core.Path.{ap}
use lib.Dec.{eqb}
use Rattle.geom_lines_planes.specs.Refuse.{◌unless◌, ◌then◌}
use Rattle.meaning.specs.Inquire.{alike}
use Rattle.inquire_sides.specs.Sides.{is_at}
use Rattle.inquire_sides.specs.Sides.{bound_number}
use Rattle.meaning_list_laws.specs.Tests.{unless_not}
use borrow.Author.Rules.{rules}
use Rattle.inquire_sides.proofs.bound_refusal.Goals as goal

pub returns : goal.returns
unfolding bound_number
returns c = rw (c.then.ensures, c.unless-2.ensures, c.unless.ensures, c.alike-both.ensures, c.is_at-2.ensures, c.is_at.ensures) (ap (λ k. k then 7 unless eqb c.args.loops 1) (unless_not 1 (alike (is_at c.args.w.now 2 c.args.shell) (is_at c.args.w.now 0 c.args.shell))))
