-- 01's limits are `largest` of `meaning`; every other list of them is tied to it here. Assumes nothing.
use Rattle.std.specs.Prelude.{ℕ, ◌+◌, ◌≡◌, Bool, ◌&&◌, List, [], ◌∷◌, map, leb, Float}
use Rattle.std.proofs.Math.Path.{refl}
use Rattle.meaning.specs.Lists.{run}
use Rattle.meaning.specs.Model.{Limits, largest}
use Rattle.memory_layout.specs.Names.{BODIES, REGIONS, SHELLS, FACES, LOOPS, EDGES, AT_BODY_KIND, AT_BODY_OFFICE, AT_BODY_REGIONS, AT_REGION_SOLID, AT_REGION_SHELLS, AT_SHELL_FACES, AT_SHELL_WIRES, AT_SHELL_ACORNS, AT_FACE_FRONT, AT_FACE_BACK, AT_FACE_SURFACE, AT_FACE_SENSE, AT_FACE_LOOPS, AT_LOOP_FINS, AT_FIN_PCURVE, AT_EDGE_START, AT_EDGE_END, AT_EDGE_CURVE, AT_EDGE_TOLERANCE, AT_EDGE_FINS, AT_VERTEX_TOLERANCE, AT_CARRIER_TAG, FLOAT_EDGE_TOLERANCE}
use Rattle.memory_layout.specs.Layout.{word_strides, largest_tables, word, real}
use Rattle.memory_layout.specs.Readable.{own_ok, record_ok}
use Rattle.memory_layout.specs.Entries.{list_limits}
use Rattle.memory_layout.specs.Limits.{limits}

-- the limits of the ten tables, and of the eight lists, by number
abbrev pub tables_of : Limits → List ℕ
tables_of l = l.bodies ∷ l.regions ∷ l.shells ∷ l.faces ∷ l.loops ∷ l.fins ∷ l.edges ∷ l.vertices ∷ l.curves ∷ l.surfaces ∷ []

abbrev pub lists_of : Limits → List ℕ
lists_of l = l.body_regions ∷ l.region_shells ∷ l.shell_faces ∷ l.shell_wire_edges ∷ l.shell_acorn_vertices ∷ l.face_loops ∷ l.loop_fins ∷ l.edge_fins ∷ []

-- the capacities that refusal 9 allows
pub tables-are : largest_tables ≡ tables_of largest
tables-are = refl

-- the length to which an entry is appended
pub lists-are : list_limits ≡ lists_of largest
lists-are = refl

-- how many words a record takes: it ends behind its last list, which has a count and room for as many entries as 01 allows, or behind its last field where it has none
pub strides-are : word_strides
    ≡ (AT_BODY_REGIONS + 1 + largest.body_regions)
    ∷ (AT_REGION_SHELLS + 1 + largest.region_shells)
    ∷ (AT_SHELL_ACORNS + 1 + largest.shell_acorn_vertices)
    ∷ (AT_FACE_LOOPS + 1 + largest.face_loops)
    ∷ (AT_LOOP_FINS + 1 + largest.loop_fins)
    ∷ (AT_FIN_PCURVE + 1)
    ∷ (AT_EDGE_FINS + 1 + largest.edge_fins)
    ∷ (AT_VERTEX_TOLERANCE + 1)
    ∷ (AT_CARRIER_TAG + 1)
    ∷ (AT_CARRIER_TAG + 1)
    ∷ []
strides-are = refl

-- of a shell's three lists each begins where the one before it ends
pub shell-lists-are : (AT_SHELL_WIRES ≡ AT_SHELL_FACES + 1 + largest.shell_faces) × (AT_SHELL_ACORNS ≡ AT_SHELL_WIRES + 1 + largest.shell_wire_edges)
shell-lists-are = (refl, refl)

-- a split: 01, "capacity is what is lent, at most these"; the lists are no shorter and no longer
pub split-tables-are : (room : List ℕ) → tables_of (limits room) ≡ map (word room) (run 0 10)
unfolding run
split-tables-are room = refl

pub split-lists-are : (room : List ℕ) → lists_of (limits room) ≡ lists_of largest
split-lists-are room = refl

-- the lists that refusal 9 allows, beside the tags of their records
module _ (w : List ℕ) (x : List Float) where
  pub body-test : record_ok BODIES w x ≡ (leb (word w AT_BODY_KIND) 4 && leb (word w AT_BODY_OFFICE) 1 && leb (word w AT_BODY_REGIONS) largest.body_regions)
  unfolding record_ok
  body-test = refl

  pub region-test : record_ok REGIONS w x ≡ (leb (word w AT_REGION_SOLID) 1 && leb (word w AT_REGION_SHELLS) largest.region_shells)
  unfolding record_ok
  region-test = refl

  pub shell-test : record_ok SHELLS w x ≡ (leb (word w AT_SHELL_FACES) largest.shell_faces && leb (word w AT_SHELL_WIRES) largest.shell_wire_edges && leb (word w AT_SHELL_ACORNS) largest.shell_acorn_vertices)
  unfolding record_ok
  shell-test = refl

  pub face-test : record_ok FACES w x ≡ (leb (word w AT_FACE_FRONT) 1 && leb (word w AT_FACE_BACK) 1 && leb (word w AT_FACE_SURFACE) 1 && leb (word w AT_FACE_SENSE) 1 && leb (word w AT_FACE_LOOPS) largest.face_loops)
  unfolding record_ok
  face-test = refl

  pub loop-test : record_ok LOOPS w x ≡ leb (word w AT_LOOP_FINS) largest.loop_fins
  unfolding record_ok
  loop-test = refl

  pub edge_test : record_ok EDGES w x
      ≡ (leb (word w AT_EDGE_START) 1 && leb (word w AT_EDGE_END) 1 && leb (word w AT_EDGE_CURVE) 1 && leb (word w AT_EDGE_TOLERANCE) 1 && leb (word w AT_EDGE_FINS) largest.edge_fins && own_ok (word w AT_EDGE_TOLERANCE) (real x FLOAT_EDGE_TOLERANCE))
  unfolding record_ok
  edge_test = refl
