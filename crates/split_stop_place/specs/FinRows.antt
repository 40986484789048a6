-- Row 11 of one fin, each of its parts of what the code reads. `Laws.antt` says that it is that of `meaning_stops`. Definitions only.
use Rattle.std.specs.Prelude.{ℕ, List, eqb, ltb, Float}
use Rattle.geom_lines_planes.specs.declared.surface.Plane.{Plane}
use Rattle.geom_lines_planes.specs.Refuse.{◌unless◌}
use Rattle.geom_carriers.specs.Found.{Found}
use Rattle.geom_carriers.specs.Queries.{plane_refusal, the_plane}
use Rattle.geom_signs.specs.Signs.{off_plane_s}
use Rattle.meaning.specs.Lists.{member, count}
use Rattle.meaning.specs.Model.{Model, surface}
use Rattle.meaning.specs.Refuse.{◌if◌}
use Rattle.meaning.specs.Split.{within}
use Rattle.memory_layout.specs.Names.{FACES, LOOPS, FINS, LOOP_FINS, AT_FACE_SURFACE, AT_FACE_SURFACE_ID, AT_LOOP_FACE, AT_FIN_LOOP, AT_FIN_EDGE}
use Rattle.memory_layout.specs.Layout.{word, words_of}
use Rattle.memory_layout.specs.Decode.{flag_at, decode}
use Rattle.memory_layout.specs.Entries.{list_of}
use Rattle.split_fin_tests.specs.declared.faces.Cut.{Cut}
use Rattle.split_stop_parts.specs.declared.Stop.{Stop}
use Rattle.split_stop_parts.specs.Told.{tell_at, first_told}

-- "then at lo, hi and the split parameter, ..": the fin i of the loop l
unfoldable pub off_told : Plane → ℕ → ℕ → Cut → Stop
off_told p i l c =
    first_told (tell_at 11 9 (within (off_plane_s p c.lo c.tolerance)) 5 i 4 l)
    (first_told (tell_at 11 10 (within (off_plane_s p c.hi c.tolerance)) 5 i 4 l) (tell_at 11 11 (within (off_plane_s p c.at c.tolerance)) 5 i 4 l))

-- "not a plane 7": what the table has under the surface s of the face f
unfoldable pub plane_told : Found → ℕ → ℕ → ℕ → ℕ → Cut → Stop
plane_told found s f i l c = first_told (tell_at 11 8 (plane_refusal found) 9 s 3 f) (off_told (the_plane found) i l c)

-- "surface missing 2"
unfoldable pub surface_told : Model → ℕ → ℕ → ℕ → ℕ → Cut → Stop
surface_told m s f i l c = first_told (tell_at 11 7 (2 unless ltb s m.surfaces.used) 9 s 3 f) (plane_told (surface m s) s f i l c)

module _ (room w : List ℕ) (x : List Float) where
  -- "face missing 2; no surface 1"
  unfoldable pub face_told : ℕ → ℕ → ℕ → Cut → Stop
  face_told f i l c =
      first_told (tell_at 11 5 (2 unless ltb f (word w FACES)) 3 f 4 l)
      (first_told (tell_at 11 6 (1 unless flag_at (words_of room w FACES f) AT_FACE_SURFACE) 3 f 4 l) (surface_told (decode room w x) (word (words_of room w FACES f) AT_FACE_SURFACE_ID) f i l c))

  -- "not exactly once in its loop 1"
  unfoldable pub loop_told : ℕ → ℕ → Cut → Stop
  loop_told i l c = first_told (tell_at 11 4 (1 unless eqb (count i (list_of room w LOOP_FINS l)) 1) 5 i 4 l) (face_told (word (words_of room w LOOPS l) AT_LOOP_FACE) i l c)

-- "repeated 1; points to another edge 1; loop missing 2"
unfoldable pub use_told : List ℕ → List ℕ → ℕ → List ℕ → ℕ → Stop
use_told room w e seen i =
    first_told (tell_at 11 1 (1 if member i seen) 5 i 6 e)
    (first_told (tell_at 11 2 (1 unless eqb (word (words_of room w FINS i) AT_FIN_EDGE) e) 5 i 6 e)
    (tell_at 11 3 (2 unless ltb (word (words_of room w FINS i) AT_FIN_LOOP) (word w LOOPS)) 4 (word (words_of room w FINS i) AT_FIN_LOOP) 5 i))

unfoldable pub fin_told : List ℕ → List ℕ → List Float → ℕ → Cut → List ℕ → ℕ → Stop
fin_told room w x e c seen i = first_told (use_told room w e seen i) (loop_told room w x i (word (words_of room w FINS i) AT_FIN_LOOP) c)
