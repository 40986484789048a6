-- What is known of sides met one after the other, and which regions are whole. No reader of a public promise needs this file. Definitions only.
use Rattle.std.specs.Prelude.{ℕ, Bool, not, cond, ◌&&◌, List, [], eqb, length}
use Rattle.interval_arithmetic.specs.Ops.{zero_f}
use Rattle.meaning.specs.Lists.{all, joined}
use Rattle.meaning.specs.Model.{Model, region}
use Rattle.meaning.specs.Inquire.{Side, sides_of, sides_refusal, sum_volumes}
use Rattle.memory_layout.specs.Names.{REGIONS, REGION_SHELLS, SHELL_FACES, AT_REGION_SOLID}
use Rattle.memory_layout.specs.Layout.{words_of}
use Rattle.memory_layout.specs.Decode.{flag_at}
use Rattle.memory_layout.specs.Entries.{list_of}
use Rattle.walk_sources.specs.Sources.{followed}
use Rattle.inquire_sides.specs.Sides.{face_whole}
use Rattle.inquire_weight.specs.Weights.{no_weight, weight_of}
use Rattle.inquire_regions.specs.declared.Tally.{Tally}

-- in floats, or in whole numbers
unfoldable pub tally_of : Bool → Model → List Side → Tally
tally_of whole m l =
    record {
      refused = sides_refusal m l;
      empty = eqb (length l) 0;
      volume = cond (not whole && eqb (sides_refusal m l) 0) (sum_volumes m zero_f l) zero_f;
      weight = cond (whole && eqb (sides_refusal m l) 0) (weight_of m l) no_weight;
    }

-- the sides of one region (`solid_sides` of meaning)
unfoldable pub region_sides : Model → ℕ → List Side
region_sides m r = cond (region m r).solid (joined (sides_of m) (region m r).shells) []

module _ (room w : List ℕ) where
  -- the shells of a region that is solid
  unfoldable pub solid_shells : ℕ → List ℕ
  solid_shells r = cond (flag_at (words_of room w REGIONS r) AT_REGION_SOLID) (list_of room w REGION_SHELLS r) []

  -- all that the volume follows exists: from a shell on, and from a region on
  unfoldable pub faces_whole : ℕ → Bool
  faces_whole s = all (face_whole room w) (list_of room w SHELL_FACES s)

  unfoldable pub region_whole : ℕ → Bool
  region_whole r = followed room w REGION_SHELLS r && all faces_whole (list_of room w REGION_SHELLS r)
