-- A side off the lent words. No reader of a public promise needs this file. Definitions only.
use Rattle.std.specs.Prelude.{ℕ, ◌+◌, Bool, ◌&&◌, List, eqb, ltb, length}
use Rattle.geom_lines_planes.specs.Refuse.{◌unless◌, ◌then◌}
use Rattle.meaning.specs.Lists.{all}
use Rattle.meaning.specs.Refuse.{◌if◌, first_of}
use Rattle.meaning.specs.Inquire.{alike}
use Rattle.memory_layout.specs.Names.{FACES, LOOPS, FACE_LOOPS, LOOP_FINS, AT_FACE_FRONT, AT_FACE_BACK}
use Rattle.memory_layout.specs.Layout.{word, words_of}
use Rattle.memory_layout.specs.Decode.{flag_at}
use Rattle.memory_layout.specs.Entries.{list_of}
use Rattle.inquire_fin_starts.specs.Starts.{start_number, fin_whole}

-- an optional id at a place of a record is y
unfoldable pub is_at : List ℕ → ℕ → ℕ → Bool
is_at w at y = flag_at w at && eqb (word w (at + 1)) y

-- the tests of a side one after the other (`side_refusal` of meaning): of the face's words, then of its rim
unfoldable pub bound_number : List ℕ → ℕ → ℕ → ℕ
bound_number w loops s = 1 if alike (is_at w AT_FACE_BACK s) (is_at w AT_FACE_FRONT s) then 7 unless eqb loops 1

module _ (room w : List ℕ) where
  unfoldable pub rim_of : ℕ → List ℕ
  rim_of f = list_of room w LOOP_FINS (word (list_of room w FACE_LOOPS f) 0)

  unfoldable pub rim_number : List ℕ → ℕ
  rim_number fins = 4 if ltb (length fins) 3 then first_of (start_number room w) fins

  unfoldable pub side_number : ℕ → ℕ → ℕ
  side_number s f = bound_number (words_of room w FACES f) (length (list_of room w FACE_LOOPS f)) s then rim_number (rim_of f)

  -- the loop exists, and so do the fins that it lists and their edges; the face and its loops
  unfoldable pub loop_whole : ℕ → Bool
  loop_whole l = ltb l (word w LOOPS) && all (fin_whole room w) (list_of room w LOOP_FINS l)

  unfoldable pub face_whole : ℕ → Bool
  face_whole f = ltb f (word w FACES) && all loop_whole (list_of room w FACE_LOOPS f)
