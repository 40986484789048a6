-- What the first fault puts into lent slots, where the number is 0. Definitions only.
use Rattle.std.specs.Prelude.{ℕ, List, [], ◌∷◌, Float}
use Rattle.std.proofs.Math.Option.{Option, none, some}
use Rattle.meaning.specs.Faults.{CheckOptions}
use Rattle.check_report.specs.declared.FaultFound.{FaultFound}
use Rattle.check_report.specs.Calls.{first_of, report_on}

-- 1, then "kind, entity class, id, reason"; zeros where there is no fault
abbrev pub found_value : Option FaultFound → List ℕ
found_value none = 0 ∷ 0 ∷ 0 ∷ 0 ∷ 0 ∷ []
found_value (some f) = 1 ∷ f.kind ∷ f.class ∷ f.id ∷ f.reason ∷ []

abbrev pub first_value : List ℕ → List ℕ → List Float → ℕ → CheckOptions → List ℕ
first_value room w x b o = found_value (first_of (report_on room w x b o).faults)
