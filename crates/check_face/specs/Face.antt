-- What is found of a face, part by part (`Laws.antt`: it is what `meaning` says). No reader of a public promise needs this file. Definitions only.
use Rattle.std.specs.Prelude.{ℕ, not, List, ◌++◌}
use Rattle.meaning.specs.Lists.{is_some, joined}
use Rattle.meaning.specs.Model.{Model, face}
use Rattle.meaning.specs.Faults.{Finding, only_if, fault, CheckOptions, loop_findings}

-- `face_findings`: the face's surface and loops
unfoldable pub inside_findings : Model → CheckOptions → ℕ → List Finding
inside_findings m o f = only_if (not (is_some (face m f).surface)) (fault 9 f) ++ joined (loop_findings m o f) (face m f).loops
