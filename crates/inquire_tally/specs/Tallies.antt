-- The tally of a body. No reader of a public promise needs this file. Definitions only.
use Rattle.std.specs.Prelude.{ℕ, zero, suc, Bool, false, cond, List, Float}
use Rattle.interval_arithmetic.specs.Ops.{zero_f}
use Rattle.meaning.specs.Model.{Model, body}
use Rattle.meaning.specs.Inquire.{require_polyhedral, is_solid, solid_sides}
use Rattle.memory_layout.specs.Names.{FACES}
use Rattle.memory_layout.specs.Decode.{decode}
use Rattle.memory_layout.specs.Readable.{readable}
use Rattle.walk_answers.specs.Calls.{reach}
use Rattle.walk_answers.specs.Decoded.{refused_by}
use Rattle.inquire_weight.specs.Weights.{no_weight}
use Rattle.inquire_regions.specs.declared.Tally.{Tally}
use Rattle.inquire_regions.specs.Regions.{tally_of}

abbrev pub refused_tally : ℕ → Tally
refused_tally n = record { refused = n; empty = false; volume = zero_f; weight = no_weight }

-- 01, "Volume: not solid 6", then the sides
unfoldable pub solid_tally : Bool → Model → ℕ → Tally
solid_tally whole m b = cond (is_solid (body m b).kind) (tally_of whole m (solid_sides m b)) (refused_tally 6)

abbrev pub unless_walked : ℕ → Tally → Tally
unless_walked zero t = t
unless_walked (suc n) t = refused_tally (suc n)

module _ (whole : Bool) (room w : List ℕ) (x : List Float) (b : ℕ) (face_marks : List ℕ) where
  -- what refuses the walks that come first
  abbrev pub walked : ℕ
  walked = refused_by (readable room w x) (reach room FACES face_marks) (require_polyhedral (decode room w x) b)

  unfoldable pub body_tally : Tally
  body_tally = unless_walked walked (solid_tally whole (decode room w x) b)
