-- A record of table k that begins with the first of the bytes s: whether an image may have it, and where it ends. No reader of a public promise needs this file. Definitions only.
use Rattle.std.specs.Prelude.{ℕ, ◌+◌, Bool, true, ◌&&◌, cond, List, [], ◌∷◌, eqb, length, get_or, drop}
use Rattle.image_format.specs.Fields.{Fields, record_image, fields_in, body_fields, region_fields, shell_fields, face_fields, loop_fields, fin_fields, edge_fields, vertex_fields, carrier_fields, body_in, region_in, shell_in, face_in, loop_in, fin_in, edge_in, vertex_in, carrier_in}
use Rattle.image_format.specs.Image.{body_held, region_held, shell_held, face_held, loop_held, edge_held, vertex_held}
use Rattle.image_laws.specs.Starts.{starts}

-- by table: the fields that are written for the record that is read from these
abbrev pub spelling : List (Fields → Fields)
spelling =
    (λ f. body_fields (body_in f))
    ∷ (λ f. region_fields (region_in f))
    ∷ (λ f. shell_fields (shell_in f))
    ∷ (λ f. face_fields (face_in f))
    ∷ (λ f. loop_fields (loop_in f))
    ∷ (λ f. fin_fields (fin_in f))
    ∷ (λ f. edge_fields (edge_in f))
    ∷ (λ f. vertex_fields (vertex_in f))
    ∷ (λ f. carrier_fields (carrier_in f))
    ∷ (λ f. carrier_fields (carrier_in f))
    ∷ []

unfoldable pub spelled : ℕ → Fields → Fields
spelled k f = get_or spelling k (λ f. f) f

-- by table: whether that record is one that 01's tables hold
abbrev pub holding : List (Fields → Bool)
holding =
    (λ f. body_held (body_in f))
    ∷ (λ f. region_held (region_in f))
    ∷ (λ f. shell_held (shell_in f))
    ∷ (λ f. face_held (face_in f))
    ∷ (λ f. loop_held (loop_in f))
    ∷ (λ _. true)
    ∷ (λ f. edge_held (edge_in f))
    ∷ (λ f. vertex_held (vertex_in f))
    ∷ []

unfoldable pub holds : ℕ → Fields → Bool
holds k f = get_or holding k (λ _. true) f

unfoldable pub record_good : ℕ → List ℕ → Bool
record_good k s = holds k (fields_in k s) && starts (record_image k (spelled k (fields_in k s))) s

unfoldable pub record_size : ℕ → List ℕ → ℕ
record_size k s = length (record_image k (fields_in k s))

-- where the record ends that begins at a place of the bytes b: 0 where it is not good, and so where the one before it was not
unfoldable pub record_end : ℕ → List ℕ → ℕ → ℕ
record_end k b at = cond (eqb at 0) 0 (cond (record_good k (drop at b)) (at + record_size k (drop at b)) 0)
