-- The tests of an edge's faces (01, "Splitting: order of tests", 11 from the face on), each of the words and floats that it reads. `Laws.antt` says that they are those of `meaning`. Definitions only.
use Rattle.std.specs.Prelude.{ℕ, List, ltb, Float}
use Rattle.geom_lines_planes.specs.declared.surface.Plane.{Plane}
use Rattle.geom_lines_planes.specs.Refuse.{◌unless◌, ◌then◌}
use Rattle.geom_carriers.specs.Found.{Found}
use Rattle.geom_carriers.specs.Queries.{plane_refusal, the_plane}
use Rattle.geom_signs.specs.Signs.{off_plane_s}
use Rattle.meaning.specs.Model.{surface}
use Rattle.meaning.specs.Split.{within}
use Rattle.memory_layout.specs.Names.{FACES, AT_FACE_SURFACE, AT_FACE_SURFACE_ID}
use Rattle.memory_layout.specs.Layout.{word, words_of}
use Rattle.memory_layout.specs.Decode.{flag_at, decode}
use Rattle.split_fin_tests.specs.declared.faces.Cut.{Cut}

-- "squared plane distance less squared edge tolerance: positive 1, unresolved 7"
unfoldable pub on_planes : Plane → Cut → ℕ
on_planes s c =
    within (off_plane_s s c.lo c.tolerance)
    then within (off_plane_s s c.hi c.tolerance)
    then within (off_plane_s s c.at c.tolerance)

-- "surface missing 2; not a plane 7; then .."
unfoldable pub plane_test : Found → Cut → ℕ
plane_test f c = plane_refusal f then on_planes (the_plane f) c

module _ (room w : List ℕ) (x : List Float) where
  -- "face missing 2; no surface 1; surface missing 2; .."
  unfoldable pub face_test : Cut → ℕ → ℕ
  face_test c f =
      2 unless ltb f (word w FACES)
      then 1 unless flag_at (words_of room w FACES f) AT_FACE_SURFACE
      then plane_test (surface (decode room w x) (word (words_of room w FACES f) AT_FACE_SURFACE_ID)) c
