-- What stands in records that are not reached from a body makes no difference to what is told of it (W-206, "What one office is told by checks, walks, box and volume is the same whatever stands in the other's records").
-- The answers are compared whole: the value, or the refusal and its number. These rest on all the answers of this folder. Assumes nothing.
use Rattle.std.specs.Prelude.{ℕ}
use Rattle.meaning.specs.Model.{Model}
use Rattle.meaning.specs.Offices.{body_for}
use Rattle.meaning_isolation.specs.Reached.{Alike}
use Rattle.meaning_isolation.specs.Told.{SameAnswers}
use Rattle.meaning_isolation.specs.Offices.{OfficeAlike}
use Rattle.meaning_isolation.specs.Asked.{told-by}
use Rattle.meaning_isolation.proofs.Walked as Walked
use Rattle.meaning_isolation.proofs.Measured as Measured
use Rattle.meaning_isolation.proofs.Stones as Stones
use Rattle.meaning_isolation.proofs.Reported as Reported

-- two models that are alike from the body on, well formed or not
pub alike-answers : (m n : Model) (b : ℕ) → Alike m n b → SameAnswers m n b b
alike-answers m n b a =
    record {
      faces = Walked.faces-same m n b a;
      edges = Walked.edges-same m n b a;
      vertices = Walked.vertices-same m n b a;
      box = Measured.box-same m n b a;
      volume = Measured.volume-same m n b a;
      stone = Stones.stone-same m n b a;
      report = Reported.report-same m n b a;
      fit = Reported.fit_same m n b a;
    }

-- ---- for an office: what it is told of an id b is what is told of `body_for m o b`, behind 1 for an office above 1, which asks nothing of the tables

-- two models that agree on an office's bodies and on all records reached from them, and in which an id met from those names a record in both or in neither
pub office-answers : (m n : Model) (o : ℕ) → OfficeAlike m n o → (b : ℕ) → SameAnswers m n (body_for m o b) (body_for n o b)
office-answers m n o a b = told-by m n o b (a.own_same b) (λ h. alike-answers m n b (a.each b h))
