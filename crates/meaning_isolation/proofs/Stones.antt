-- The stone that a body is for a sheet (W-201), in two models that are alike from the body on. It rests on those of proofs/Weighed.antt. Assumes nothing.
use Prim.Native.Nat.{ℕ}
use Rattle.std.specs.Prelude.{◌≡◌, ℤ}
use Rattle.std.proofs.Math.Path.{ap}
use Rattle.meaning.specs.Model.{Model}
use Rattle.meaning_sheets.specs.Sheets.{stone_refusal}
use Rattle.meaning_isolation.specs.Reached.{Alike}
use Rattle.meaning_isolation.specs.Laws.{answered-same}
use Rattle.meaning_isolation.specs.Told.{body_stone}
use Rattle.meaning_isolation.proofs.Weighed.{stone-refused, six-volume-same}

module _ (m n : Model) (b : ℕ) (a : Alike m n b) where
  pub stone-same : body_stone m b ≡ body_stone n b
  stone-same = answered-same (stone_refusal m b) (stone_refusal n b) _ _ (stone-refused m n b a) (λ y. ap (λ (z : ℤ). record { body = b; number = z }) (six-volume-same m n b a y))
