-- What an image keeps of a record of the lent memory, read off the record's own words w and floats x. Definitions only.
use Rattle.std.specs.Prelude.{ℕ, suc, ◌+◌, ◌*◌, ◌-◌, ◌≤◌, ◌<◌, ◌≡◌, true, cond, ◌||◌, List, [], ◌∷◌, ◌++◌, map, eqb, length, get_or, take, replicate, Float}
use Rattle.interval_arithmetic.specs.Ops.{zero_f}
use Rattle.meaning.specs.Model.{Office, office-0}
use Rattle.memory_layout.specs.Names.{BODIES, FACES, EDGES, BODY_REGIONS, REGION_SHELLS, SHELL_FACES, FACE_LOOPS, LOOP_FINS, EDGE_FINS, AT_BODY_OFFICE, AT_FACE_FRONT, AT_FACE_BACK, AT_FACE_SURFACE, AT_FACE_SENSE, AT_EDGE_TOLERANCE, AT_VERTEX_TOLERANCE, AT_CARRIER_TAG}
use Rattle.memory_layout.specs.Layout.{word_strides, word}
use Rattle.memory_layout.specs.Decode.{list_at, office_of, body_of, region_of, shell_of, face_of, loop_of, fin_of, edge_of, vertex_of, carrier_of}
use Rattle.memory_layout.specs.Readable.{record_ok}
use Rattle.memory_layout.specs.Fit.{Whole, Held}
use Rattle.image_format.specs.Bytes.{lists}
use Rattle.image_format.specs.Fields.{Fields, word_counts, float_counts, list_counts, list_places_of, body_fields, region_fields, shell_fields, face_fields, loop_fields, fin_fields, edge_fields, vertex_fields, carrier_fields}

-- ---- the fields, by table

abbrev field_makers : List (List ℕ → List Float → Fields)
field_makers =
    (λ w x. body_fields (body_of w))
    ∷ (λ w x. region_fields (region_of w))
    ∷ (λ w x. shell_fields (shell_of w))
    ∷ (λ w x. face_fields (face_of w))
    ∷ (λ w x. loop_fields (loop_of w))
    ∷ (λ w x. fin_fields (fin_of w))
    ∷ (λ w x. edge_fields (edge_of w x))
    ∷ (λ w x. vertex_fields (vertex_of w x))
    ∷ (λ w x. carrier_fields (carrier_of w x))
    ∷ (λ w x. carrier_fields (carrier_of w x))
    ∷ []

abbrev no_fields : Fields
no_fields = record { office = office-0; words = []; floats = []; lists = [] }

unfoldable pub fields_of : ℕ → List ℕ → List Float → Fields
fields_of k w x = get_or field_makers k (λ _ _. no_fields) w x

-- a record that passes its test
pub record Kept (k : ℕ) (w : List ℕ) (x : List Float) : Type 0 where
  pub whole : Whole k w x
  pub ok : record_ok k w x ≡ true

-- ---- the same, as the code builds it. No reader of a public promise needs what follows.

-- the office whose mark a record stands under
unfoldable pub office_here : ℕ → List ℕ → Office
office_here k w = cond (eqb k BODIES) (office_of (word w AT_BODY_OFFICE)) office-0

-- the id at a place, 0 where the tag before it says none
unfoldable pub id_behind : List ℕ → ℕ → ℕ
id_behind w at = cond (eqb (word w at) 0) 0 (word w (suc at))

-- a face and an edge begin with three optional ids and a tag
unfoldable pub three_ids : List ℕ → List ℕ
three_ids w =
    word w AT_FACE_FRONT
    ∷ id_behind w AT_FACE_FRONT
    ∷ word w AT_FACE_BACK
    ∷ id_behind w AT_FACE_BACK
    ∷ word w AT_FACE_SURFACE
    ∷ id_behind w AT_FACE_SURFACE
    ∷ word w AT_FACE_SENSE
    ∷ []

unfoldable pub head_of : ℕ → List ℕ → List ℕ
head_of k w = cond (eqb k FACES || eqb k EDGES) (three_ids w) (take (word word_counts k) w)

-- by table: the place of the tag that may leave the last floats unsaid, the tag that does, and how many they are
abbrev pub tag_places : List ℕ
tag_places = 0 ∷ 0 ∷ 0 ∷ 0 ∷ 0 ∷ 0 ∷ AT_EDGE_TOLERANCE ∷ AT_VERTEX_TOLERANCE ∷ AT_CARRIER_TAG ∷ AT_CARRIER_TAG ∷ []

abbrev pub quiet_tags : List ℕ
quiet_tags = 0 ∷ 0 ∷ 0 ∷ 0 ∷ 0 ∷ 0 ∷ 0 ∷ 0 ∷ 2 ∷ 2 ∷ []

abbrev pub quiet_floats : List ℕ
quiet_floats = 0 ∷ 0 ∷ 0 ∷ 0 ∷ 0 ∷ 0 ∷ 1 ∷ 1 ∷ 6 ∷ 6 ∷ []

unfoldable pub unsaid : ℕ → List ℕ → ℕ
unsaid k w = cond (eqb (word w (word tag_places k)) (word quiet_tags k)) (word quiet_floats k) 0

unfoldable pub tail_of : ℕ → List ℕ → List Float → List Float
tail_of k w x = take (word float_counts k - unsaid k w) x ++ take (unsaid k w) (replicate 6 zero_f)

abbrev pub places_of : ℕ → List ℕ
places_of k = get_or list_places_of k []

-- the bytes of a record's first j lists
unfoldable pub lists_of : ℕ → List ℕ → ℕ → List ℕ
lists_of k w j = lists (map (list_at w) (take j (places_of k)))

unfoldable pub record_length : ℕ → List ℕ → ℕ
record_length k w = 2 + 4 * word word_counts k + 8 * word float_counts k + length (lists_of k w (word list_counts k))

-- the first of a record's lists, by its number in `Entries.antt` of `memory_layout`
abbrev pub first_lists : List ℕ
first_lists = BODY_REGIONS ∷ REGION_SHELLS ∷ SHELL_FACES ∷ FACE_LOOPS ∷ LOOP_FINS ∷ 0 ∷ EDGE_FINS ∷ 0 ∷ 0 ∷ 0 ∷ []

-- the words of a record of table k, whose lists stand whole
pub record Listed (k : ℕ) (w : List ℕ) : Type 0 where
  pub table : k < 10
  pub words : length w ≡ word word_strides k
  pub held : (j : ℕ) → j < word list_counts k → Held w (word (places_of k) j)
  pub short : (j : ℕ) → j < word list_counts k → word w (word (places_of k) j) ≤ 1024
