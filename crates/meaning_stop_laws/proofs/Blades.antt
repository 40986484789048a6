-- What `others-make-no-difference` (proofs/Statements.antt) asks can be met: the two blades of specs/Met.antt. Assumes nothing.
use Rattle.std.specs.Prelude.{ℕ}
use Rattle.meaning_isolation.specs.TwoOffices.{blades, other_blades, blades-differ}
use Rattle.meaning_stop_laws.specs.Statements.{ToldSame}
use Rattle.meaning_stop_laws.proofs.Statements.{others-make-no-difference}

pub blades-told-same : (b : ℕ) → ToldSame blades other_blades 0 b
blades-told-same = others-make-no-difference blades other_blades 0 blades-differ
