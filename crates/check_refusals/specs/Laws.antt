-- What is refused before a body is checked. Assumes nothing.
use Rattle.std.specs.Prelude.{ℕ, ◌≤◌, ◌<◌, ◌≡◌, true, false}
use Rattle.std.proofs.Math.Dec.{leb}
use Rattle.std.proofs.Common.{leb-true, le-leb}
use Rattle.std.proofs.lemmas.Bool.{lt-leb}
use Rattle.geom_lines_planes.specs.Refuse.{◌unless◌}
use Rattle.meaning.specs.Model.{Model, has}
use Rattle.meaning_list_laws.specs.Tests.{then-zero, unless-zero}
use Rattle.check_refusals.specs.Facts.{ask_refusal}

module _ (m : Model) (samples b : ℕ) where
  pub ask-samples : 255 < samples → 1 ≡ ask_refusal m samples b
  unfolding ask_refusal
  ask-samples h = rw (lt-leb samples 255 h)

  pub ask-body : samples ≤ 255 → has m.bodies b ≡ false → 2 ≡ ask_refusal m samples b
  unfolding ask_refusal
  ask-body h g = rw (le-leb samples 255 h, g)

  pub ask-none : samples ≤ 255 → has m.bodies b ≡ true → 0 ≡ ask_refusal m samples b
  unfolding ask_refusal
  ask-none h g = rw (le-leb samples 255 h, g)

  pub ask-passed : ask_refusal m samples b ≡ 0 → (samples ≤ 255) × (has m.bodies b ≡ true)
  unfolding ask_refusal
  ask-passed e =
      let p = then-zero (1 unless leb samples 255) (2 unless has m.bodies b) e in
      (leb-true samples 255 (unless-zero 0 (leb samples 255) p.0), unless-zero 1 (has m.bodies b) p.1)
