-- What the slab profile answers an office (W-212), and the lent list behind the call. Definitions only.
-- The profile, its areas and the refusals behind 9 and the office's 1 stand in `slab_profile` and `meaning_slabs`.
use Rattle.std.specs.Prelude.{ℕ, List, Float}
use Rattle.geom_lines_planes.specs.Refuse.{answer}
use Rattle.meaning_slabs.specs.Slabs as Slabs
use Rattle.meaning_slabs.specs.Slabs.{profile}
use Rattle.memory_layout.specs.Decode.{decode}
use Rattle.memory_writes.specs.Put.{unless_refused}
use Rattle.memory_offices.specs.Sight.{by_office, body_asked}
use Rattle.slab_profile.specs.declared.Profile.{Profile}
use Rattle.slab_profile.specs.declared.Profile.TheVariants.{Refused}
use Rattle.slab_profile.specs.Answers.{told, areas_in, profile_number}

-- the profile of the body that the id is for the office
abbrev pub profile_asked : List ℕ → List ℕ → List Float → ℕ → ℕ → Slabs.Profile
profile_asked room w x o b = profile (decode room w x) (body_asked room w x o b)

module _ (room w : List ℕ) (x : List Float) (o b : ℕ) (face_marks edge_marks list : List ℕ) where
  unfoldable pub office_profile_number : ℕ
  office_profile_number = by_office room w x o (profile_number room w x (body_asked room w x o b) face_marks edge_marks list)

  unfoldable pub office_profile : Profile
  office_profile = answer told Refused office_profile_number (profile_asked room w x o b)

  -- the areas in front, where the body is accepted; the list as it was where a rule is broken or the call is refused
  unfoldable pub office_areas : List ℕ
  office_areas = unless_refused office_profile_number (areas_in (decode room w x) (body_asked room w x o b) list) list
