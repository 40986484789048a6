-- The tests of what a body's shells list, off the lent words. No reader of a public promise needs this file. Definitions only.
use Rattle.std.specs.Prelude.{ℕ, cond, ◌&&◌, List, eqb, ltb, Float}
use Rattle.geom_lines_planes.specs.Refuse.{◌unless◌, ◌then◌}
use Rattle.meaning.specs.Lists.{all}
use Rattle.meaning.specs.Refuse.{first_of}
use Rattle.meaning.specs.Inquire.{flat_face, straight_edge}
use Rattle.memory_layout.specs.Names.{FACES, LOOPS, FINS, REGION_SHELLS, SHELL_FACES, SHELL_WIRES, FACE_LOOPS, LOOP_FINS}
use Rattle.memory_layout.specs.Layout.{word}
use Rattle.memory_layout.specs.Decode.{decode}
use Rattle.memory_layout.specs.Entries.{list_of}
use Rattle.walk_sources.specs.Sources.{fin_edge, followed}

-- the tests: a face is flat; it, its loops and their fins are there; their edges are straight; a wire edge is
abbrev pub FLAT : ℕ
FLAT = 0

abbrev pub THERE : ℕ
THERE = 1

abbrev pub STRAIGHT : ℕ
STRAIGHT = 2

abbrev pub WIRES : ℕ
WIRES = 3

-- the shell's list of what a test is about
unfoldable pub list_by : ℕ → ℕ
list_by test = cond (eqb test WIRES) SHELL_WIRES SHELL_FACES

-- the face, its loops and their fins exist (`face_followed` of meaning)
unfoldable pub face_there : List ℕ → List ℕ → ℕ → ℕ
face_there room w f = 2 unless (ltb f (word w FACES) && all (followed room w LOOP_FINS) (list_of room w FACE_LOOPS f))

module _ (room w : List ℕ) (x : List Float) where
  -- the edges of a face's fins, where they are listed
  unfoldable pub fin_straight : ℕ → ℕ
  fin_straight i = 2 unless ltb i (word w FINS) then straight_edge (decode room w x) (fin_edge room w i)

  unfoldable pub loop_straight : ℕ → ℕ
  loop_straight l = 2 unless ltb l (word w LOOPS) then first_of fin_straight (list_of room w LOOP_FINS l)

  unfoldable pub face_straight : ℕ → ℕ
  face_straight f = 2 unless ltb f (word w FACES) then first_of loop_straight (list_of room w FACE_LOOPS f)

  -- one id, a shell and a region, by the test
  unfoldable pub tested : ℕ → ℕ → ℕ
  tested test i =
      cond (eqb test FLAT) (flat_face (decode room w x) i)
      (cond (eqb test THERE) (face_there room w i)
      (cond (eqb test STRAIGHT) (face_straight i) (straight_edge (decode room w x) i)))

  unfoldable pub shell_tested : ℕ → ℕ → ℕ
  shell_tested test s = first_of (tested test) (list_of room w (list_by test) s)

  unfoldable pub region_tested : ℕ → ℕ → ℕ
  region_tested test r = first_of (shell_tested test) (list_of room w REGION_SHELLS r)
