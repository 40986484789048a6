-- The statements of this crate, which rest on proofs/Laws.antt. Assumes nothing.
-- "Proved: there are `unchecked` of them". Assumes nothing.
use Rattle.std.specs.Prelude.{ℕ, ◌≡◌, length}
use Rattle.meaning.specs.Model.{Model}
use Rattle.meaning.specs.Faults.{fin_geometry, findings, skipped_of, CheckOptions, report_of}
use Rattle.meaning_doubts.specs.Doubts.{fin_doubts, doubts}
use Rattle.meaning_doubts.proofs.Laws.{fin-same, doubts-same}

-- of every body, for all options
pub doubts-are-unchecked : (m : Model) (o : CheckOptions) (b : ℕ) → length (doubts m o b) ≡ (report_of (findings m o b)).unchecked
unfolding report_of
doubts-are-unchecked = doubts-same

-- and fin by fin, in the checker's order
pub each-fins-doubts : (m : Model) (n f i : ℕ) → length (fin_doubts m n f i) ≡ skipped_of (fin_geometry m n f i)
each-fins-doubts = fin-same
