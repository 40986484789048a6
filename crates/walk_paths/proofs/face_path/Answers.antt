-- `walk_paths::face_path` meets its contract. Assumes nothing.
use Rattle.walk_paths.specs.Paths.{face_path}
use Rattle.walk_paths.specs.Laws.{laid_one}
use Rattle.walk_paths.proofs.face_path.Goals as goal

pub returns : goal.returns
unfolding face_path
returns c = laid_one _ _ _ _ _ c.shells.ensures.value c.shells.ensures.path_after
