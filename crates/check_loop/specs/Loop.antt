-- What is found of a loop, part by part (`Laws.antt`: it is what `meaning` says). No reader of a public promise needs this file. Definitions only.
use Rattle.std.specs.Prelude.{ℕ, Bool, cond, List, [], ◌∷◌, ◌++◌, eqb, length}
use Rattle.meaning.specs.Lists.{joined, rotated}
use Rattle.meaning.specs.Model.{Model}
use Rattle.meaning.specs.Faults.{Finding, fault, CheckOptions, fin_findings, fin_geometry, opens}

-- whether geometry is checked, and with how many samples
abbrev pub options : Bool → ℕ → CheckOptions
options geometry n = record { geometry = geometry; edge_samples = n }

-- `loop_findings`: what the fins of the loop l add
unfoldable pub fins_findings : Model → CheckOptions → ℕ → ℕ → List ℕ → List Finding
fins_findings m o f l fins =
    cond (eqb (length fins) 0)
    (fault 12 l ∷ [])
    (joined (fin_findings m l) fins ++ opens m fins (rotated fins) ++ cond o.geometry (joined (fin_geometry m o.edge_samples f) fins) [])
