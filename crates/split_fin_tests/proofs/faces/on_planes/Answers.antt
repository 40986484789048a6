-- `split_fin_tests::faces::on_planes` meets its contract. Assumes nothing.
use Rattle.split_fin_tests.specs.FaceTests.{on_planes}
use Rattle.split_fin_tests.proofs.faces.on_planes.Goals as goal

pub returns : goal.returns
unfolding on_planes
returns c =
    rw (c.then-2.ensures, c.then.ensures, c.within-at.ensures, c.off_plane-3.ensures, c.within-hi.ensures, c.off_plane-2.ensures, c.within-lo.ensures, c.off_plane.ensures)
