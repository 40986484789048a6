-- Office 0 is told the same of the two models of specs/TwoOffices.antt, by the theorem of proofs/Others.antt. Assumes nothing.
use Rattle.std.specs.Prelude.{ℕ}
use Rattle.meaning.specs.Offices.{body_for}
use Rattle.meaning_isolation.specs.Told.{SameAnswers}
use Rattle.meaning_isolation.proofs.Others.{others-make-no-difference}
use Rattle.meaning_isolation.specs.TwoOffices.{blades, other_blades, blades-differ}

-- so office 0 is told the same of them
pub blades-told-same : (b : ℕ) → SameAnswers blades other_blades (body_for blades 0 b) (body_for other_blades 0 b)
blades-told-same = others-make-no-difference blades other_blades 0 blades-differ
