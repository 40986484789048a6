-- The paths of a body's walks on the lent words, and what the walks follow. No reader of a public promise needs this file. Definitions only.
use Rattle.std.specs.Prelude.{ℕ, ◌<◌, ◌≡◌, Bool, true, ◌&&◌, List, ◌++◌, ltb, length}
use Rattle.meaning.specs.Lists.{all, joined, firsts}
use Rattle.memory_layout.specs.Names.{BODIES, FACES, EDGES, BODY_REGIONS, REGION_SHELLS, SHELL_FACES, SHELL_WIRES, SHELL_ACORNS, FACE_LOOPS, LOOP_FINS, EDGE_FINS}
use Rattle.memory_layout.specs.Layout.{word}
use Rattle.memory_layout.specs.Entries.{list_of}
use Rattle.walk_marks.specs.Marks.{puts}
use Rattle.walk_sources.specs.Sources.{sourced, followed}
use Rattle.walk_visits.specs.Visits.{ids_of}

module _ (room w : List ℕ) (b : ℕ) where
  unfoldable pub shell_list : List ℕ
  shell_list = joined (list_of room w REGION_SHELLS) (list_of room w BODY_REGIONS b)

  -- the faces walk goes by the shells' faces
  unfoldable pub face_path : List ℕ
  face_path = sourced SHELL_FACES shell_list

  unfoldable pub face_list : List ℕ
  face_list = firsts (ids_of room w face_path)

  -- the edges walk by the fins of the faces' loops, then by the shells' wire edges
  unfoldable pub loop_list : List ℕ
  loop_list = joined (list_of room w FACE_LOOPS) face_list

  unfoldable pub edge_path : List ℕ
  edge_path = sourced LOOP_FINS loop_list ++ sourced SHELL_WIRES shell_list

  unfoldable pub edge_list : List ℕ
  edge_list = firsts (ids_of room w edge_path)

  -- the vertices walk by the edges' ends, then by the shells' acorn vertices
  unfoldable pub vertex_path : List ℕ
  vertex_path = sourced EDGE_FINS edge_list ++ sourced SHELL_ACORNS shell_list

  -- ---- what is followed

  unfoldable pub body_followed : Bool
  body_followed = ltb b (word w BODIES) && all (followed room w REGION_SHELLS) (list_of room w BODY_REGIONS b)

  unfoldable pub faces_there : Bool
  faces_there = all (λ f. ltb f (word w FACES)) (ids_of room w face_path)

  unfoldable pub loops_followed : Bool
  loops_followed = all (followed room w LOOP_FINS) loop_list

  unfoldable pub edges_there : Bool
  edges_there = all (λ e. ltb e (word w EDGES)) (ids_of room w edge_path)

  pub record Shelled : Type 0 where
    pub body : b < word w BODIES
    pub regions : all (followed room w REGION_SHELLS) (list_of room w BODY_REGIONS b) ≡ true

  pub record Faced : Type 0 where
    pub shelled : Shelled
    pub faces : all (λ f. ltb f (word w FACES)) (ids_of room w face_path) ≡ true

  pub record Looped : Type 0 where
    pub faced : Faced
    pub loops : all (followed room w LOOP_FINS) loop_list ≡ true

  pub record Edged : Type 0 where
    pub looped : Looped
    pub edges : all (λ e. ltb e (word w EDGES)) (ids_of room w edge_path) ≡ true

-- a path was put into the front of a list
pub record Laid (path out₀ out : List ℕ) (n : ℕ) : Type 0 where
  pub count : n ≡ length path
  pub list : out ≡ puts out₀ 0 path
