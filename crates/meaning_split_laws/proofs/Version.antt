-- The theorem of the statements that rests on `gives-back-any` (proofs/Statements.antt). Assumes nothing.
use Rattle.std.specs.Prelude.{◌≡◌, List}
use Rattle.meaning.specs.Model.{Model, Limits}
use Rattle.meaning.specs.Split.{Cut, after_all}
use Rattle.meaning_split_laws.proofs.Statements.{gives-back-any}

-- (W-211) "A model names its version and keeps it through splits"
pub version-stays : (x : Limits) (m : Model) (l : List Cut) → (after_all x m l).version ≡ m.version
version-stays x m l = (gives-back-any x m l).version
