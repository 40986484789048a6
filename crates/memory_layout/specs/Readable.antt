-- The test of refusal 9: 01, "tables unreadable (added): a used count above capacity, a list above its limit, an unknown tag, a tolerance or
-- precision that an insert would refuse"; and capacities above the largest tables, or lent memory that is too short for them. Definitions only.
use Rattle.std.specs.Prelude.{ℕ, Bool, true, ◌&&◌, ◌||◌, List, [], ◌∷◌, eqb, leb, length, get_or, Float}
use Rattle.geom_lines_planes.specs.declared.tolerance.Tolerance.TheVariants.{Own}
use Rattle.geom_lines_planes.specs.Refuse.{◌unless◌, ◌then◌}
use Rattle.meaning.specs.Lists.{all_below, every}
use Rattle.meaning.specs.Edits.{tolerance_ok, precision_ok}
use Rattle.memory_layout.specs.Names.{AT_BODY_KIND, AT_BODY_OFFICE, AT_BODY_REGIONS, AT_REGION_SOLID, AT_REGION_SHELLS, AT_SHELL_FACES, AT_SHELL_WIRES, AT_SHELL_ACORNS, AT_FACE_FRONT, AT_FACE_BACK, AT_FACE_SURFACE, AT_FACE_SENSE, AT_FACE_LOOPS, AT_LOOP_FINS, AT_FIN_SENSE, AT_FIN_PCURVE, AT_EDGE_START, AT_EDGE_END, AT_EDGE_CURVE, AT_EDGE_TOLERANCE, AT_EDGE_FINS, AT_VERTEX_TOLERANCE, AT_CARRIER_TAG, VERSION, PRECISION, FLOAT_EDGE_TOLERANCE, FLOAT_VERTEX_TOLERANCE}
use Rattle.memory_layout.specs.Layout.{largest_tables, word, real, words_needed, reals_needed, words_of, reals_of}

-- ---- a record's tags are known, and its lists within their limits: 01, "Lists: body 16 regions; region 16 shells; shell 512 faces, 256 wire edges,
-- 64 acorn vertices; face 16 loops; loop 1,024 fins; edge 8 fins"

-- W-206, "an office number, 0 or 1"
abbrev pub body_ok : List ℕ → Bool
body_ok w = leb (word w AT_BODY_KIND) 4 && leb (word w AT_BODY_OFFICE) 1 && leb (word w AT_BODY_REGIONS) 16

abbrev pub region_ok : List ℕ → Bool
region_ok w = leb (word w AT_REGION_SOLID) 1 && leb (word w AT_REGION_SHELLS) 16

abbrev pub shell_ok : List ℕ → Bool
shell_ok w = leb (word w AT_SHELL_FACES) 512 && leb (word w AT_SHELL_WIRES) 256 && leb (word w AT_SHELL_ACORNS) 64

abbrev pub face_ok : List ℕ → Bool
face_ok w = leb (word w AT_FACE_FRONT) 1 && leb (word w AT_FACE_BACK) 1 && leb (word w AT_FACE_SURFACE) 1 && leb (word w AT_FACE_SENSE) 1 && leb (word w AT_FACE_LOOPS) 16

abbrev pub loop_ok : List ℕ → Bool
loop_ok w = leb (word w AT_LOOP_FINS) 1024

abbrev pub fin_ok : List ℕ → Bool
fin_ok w = leb (word w AT_FIN_SENSE) 1 && leb (word w AT_FIN_PCURVE) 1

-- an own tolerance is one that an insert would take
abbrev pub own_ok : ℕ → Float → Bool
own_ok tag t = eqb tag 0 || tolerance_ok (Own t)

abbrev pub edge_ok : List ℕ → List Float → Bool
edge_ok w x = leb (word w AT_EDGE_START) 1 && leb (word w AT_EDGE_END) 1 && leb (word w AT_EDGE_CURVE) 1 && leb (word w AT_EDGE_TOLERANCE) 1 && leb (word w AT_EDGE_FINS) 8 && own_ok (word w AT_EDGE_TOLERANCE) (real x FLOAT_EDGE_TOLERANCE)

abbrev pub vertex_ok : List ℕ → List Float → Bool
vertex_ok w x = leb (word w AT_VERTEX_TOLERANCE) 1 && own_ok (word w AT_VERTEX_TOLERANCE) (real x FLOAT_VERTEX_TOLERANCE)

abbrev pub carrier_ok : List ℕ → Bool
carrier_ok w = leb (word w AT_CARRIER_TAG) 2

-- the version is 1 or 2 (W-211): else it is "an unknown tag"
abbrev pub version_ok : ℕ → Bool
version_ok n = eqb n 1 || eqb n 2

-- by table
abbrev pub record_tests : List (List ℕ → List Float → Bool)
record_tests =
    (λ w x. body_ok w)
    ∷ (λ w x. region_ok w)
    ∷ (λ w x. shell_ok w)
    ∷ (λ w x. face_ok w)
    ∷ (λ w x. loop_ok w)
    ∷ (λ w x. fin_ok w)
    ∷ edge_ok
    ∷ vertex_ok
    ∷ (λ w x. carrier_ok w)
    ∷ (λ w x. carrier_ok w)
    ∷ []

unfoldable pub record_ok : ℕ → List ℕ → List Float → Bool
record_ok k w x = get_or record_tests k (λ _ _. true) w x

-- ---- the whole

-- no capacity is above 01's largest table
unfoldable pub room_ok : List ℕ → Bool
room_ok room = all_below (λ k. leb (word room k) (word largest_tables k)) 10

-- no used count is above its capacity
unfoldable pub counts_ok : List ℕ → List ℕ → Bool
counts_ok room w = all_below (λ k. leb (word w k) (word room k)) 10

-- every used record
unfoldable pub table_ok : List ℕ → List ℕ → List Float → ℕ → Bool
table_ok room w x k = all_below (λ i. record_ok k (words_of room w k i) (reals_of room x k i)) (word w k)

unfoldable pub tables_ok : List ℕ → List ℕ → List Float → Bool
tables_ok room w x = all_below (table_ok room w x) 10

-- the capacities and the lent memory agree
unfoldable pub lent_ok : List ℕ → List ℕ → List Float → Bool
lent_ok room w x = every (room_ok room ∷ leb (words_needed room) (length w) ∷ leb (reals_needed room) (length x) ∷ [])

-- and so do the used counts
unfoldable pub sized_ok : List ℕ → List ℕ → List Float → Bool
sized_ok room w x = lent_ok room w x && counts_ok room w

unfoldable pub readable : List ℕ → List ℕ → List Float → Bool
readable room w x = sized_ok room w x && version_ok (word w VERSION) && precision_ok (real x PRECISION) && tables_ok room w x

-- a call that is handed a tag that is none: 01, "Every call tests 9 first"
unfoldable pub tag_number : List ℕ → List ℕ → List Float → ℕ
tag_number room w x = 9 unless readable room w x then 1
