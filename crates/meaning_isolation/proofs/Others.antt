-- What stands in the other's records makes no difference to what an office is told (W-206). This rests on those of proofs/Statements.antt. Assumes nothing.
use Rattle.std.specs.Prelude.{ℕ, ◌≡◌, List}
use Rattle.meaning.specs.Model.{Model}
use Rattle.meaning.specs.Offices.{body_for}
use Rattle.meaning_sheets.specs.Sheets.{Sheet, after_takes}
use Rattle.meaning_isolation.specs.Told.{asked_by, SameAnswers}
use Rattle.meaning_isolation.specs.Offices.{OthersDiffer}
use Rattle.meaning_isolation.proofs.Asked.{others-alike}
use Rattle.meaning_isolation.specs.Weighed as Weighed
use Rattle.meaning_isolation.proofs.Statements.{office-answers}

-- "What one office is told by checks, walks, box and volume is the same whatever stands in the other's records, provided that no record is reached from both, that an id met from its own
-- bodies names a record in both cases or in neither" (`OthersDiffer`: Offices.antt)
pub others-make-no-difference : (m n : Model) (o : ℕ) → OthersDiffer m n o → (b : ℕ) → SameAnswers m n (body_for m o b) (body_for n o b)
others-make-no-difference m n o d = office-answers m n o (others-alike m n o d)

-- and so is the stone sheet behind any bodies that the office takes in (W-201), whatever sheet it began with
pub others-leave-the-sheet : (m n : Model) (o : ℕ) → OthersDiffer m n o → (l : List ℕ) (h : Sheet) → after_takes m (asked_by o l) h ≡ after_takes n (asked_by o l) h
others-leave-the-sheet m n o d = Weighed.takes_same m n o (λ b. (others-make-no-difference m n o d b).stone)
