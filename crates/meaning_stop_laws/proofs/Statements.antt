-- The statement of specs/Statements.antt that rests on `office-told`. Assumes nothing.
use Rattle.std.specs.Prelude.{ℕ}
use Rattle.meaning.specs.Model.{Model}
use Rattle.meaning.specs.Refuse.{◌if◌}
use Rattle.meaning_isolation.specs.Offices.{OthersDiffer}
use Rattle.meaning_isolation.proofs.Asked.{others-alike}
use Rattle.meaning_stop_laws.specs.Statements.{ToldSame, office-told}

-- whatever stands in the other's records (`OthersDiffer`: meaning_isolation/specs/Offices.antt)
pub others-make-no-difference : (m n : Model) (o : ℕ) → OthersDiffer m n o → (b : ℕ) → ToldSame m n o b
others-make-no-difference m n o d = office-told m n o (others-alike m n o d)
