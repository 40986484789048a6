-- The image of a model, read back: its version, then table by table. Assumes nothing.
use Rattle.std.specs.Prelude.{ℕ, ◌<◌, ◌≡◌, refl, true, drop}
use Rattle.std.proofs.Common.{arith, sym, ◌∙◌}
use Rattle.std.proofs.Math.Path.{ap}
use mathlib.Core.List.{List, [], ◌∷◌, ◌++◌, append_assoc}
use Rattle.std.proofs.Math.Seq.{drop-append_seam}
use Rattle.geom_lines_planes.specs.declared.tolerance.Version.{Version}
use Rattle.geom_lines_planes.specs.declared.tolerance.Version.TheVariants.{First, Second}
use Rattle.meaning.specs.Lists.{all, every}
use Rattle.meaning.specs.Model.{Model, largest, office-0}
use Rattle.meaning.specs.Edits.{precision_ok}
use Rattle.memory_layout.specs.Names.{BODIES, REGIONS, SHELLS, FACES, LOOPS, FINS, EDGES, VERTICES, CURVES, SURFACES}
use Rattle.memory_layout.specs.Layout.{word}
use Rattle.memory_layout.specs.Laid.{version_tag}
use Rattle.memory_writes.specs.Change.{SameModel}
use Rattle.image_format.specs.Bytes.{number}
use Rattle.image_format.specs.Fields.{PRECISION_RECORD, VERSION_RECORD, marks, record_image, body_fields, region_fields, shell_fields, face_fields, loop_fields, fin_fields, edge_fields, vertex_fields, carrier_fields}
use Rattle.image_format.specs.Image.{precision_fields, table_image, records_image, version_image, image_of, version_in, records_in, body_held, region_held, shell_held, face_held, loop_held, edge_held, vertex_held, held}
use Rattle.image_laws.specs.Records.{first-marked, Fitting, record-mark}
use Rattle.image_laws.specs.Tables.{table_same, held-table, same-third}

-- ---- a model of numbers of 32 bits and floats of 64, as all lent memory is
pub record Machine (m : Model) : Type 0 where
  pub precision : Fitting PRECISION_RECORD (precision_fields m)
  pub bodies : (i : ℕ) → i < m.bodies.used → Fitting BODIES (body_fields (m.bodies.slot i))
  pub regions : (i : ℕ) → i < m.regions.used → Fitting REGIONS (region_fields (m.regions.slot i))
  pub shells : (i : ℕ) → i < m.shells.used → Fitting SHELLS (shell_fields (m.shells.slot i))
  pub faces : (i : ℕ) → i < m.faces.used → Fitting FACES (face_fields (m.faces.slot i))
  pub loops : (i : ℕ) → i < m.loops.used → Fitting LOOPS (loop_fields (m.loops.slot i))
  pub fins : (i : ℕ) → i < m.fins.used → Fitting FINS (fin_fields (m.fins.slot i))
  pub edges : (i : ℕ) → i < m.edges.used → Fitting EDGES (edge_fields (m.edges.slot i))
  pub vertices : (i : ℕ) → i < m.vertices.used → Fitting VERTICES (vertex_fields (m.vertices.slot i))
  pub curves : (i : ℕ) → i < m.curves.used → Fitting CURVES (carrier_fields (m.curves.slot i))
  pub surfaces : (i : ℕ) → i < m.surfaces.used → Fitting SURFACES (carrier_fields (m.surfaces.slot i))

-- ---- the parts of an image behind its version

-- the precision's record, then the tables
abbrev parts : Model → List (List ℕ)
parts m =
    record_image PRECISION_RECORD (precision_fields m)
    ∷ table_image BODIES body_fields m.bodies
    ∷ table_image REGIONS region_fields m.regions
    ∷ table_image SHELLS shell_fields m.shells
    ∷ table_image FACES face_fields m.faces
    ∷ table_image LOOPS loop_fields m.loops
    ∷ table_image FINS fin_fields m.fins
    ∷ table_image EDGES edge_fields m.edges
    ∷ table_image VERTICES vertex_fields m.vertices
    ∷ table_image CURVES carrier_fields m.curves
    ∷ table_image SURFACES carrier_fields m.surfaces
    ∷ []

abbrev chained : List (List ℕ) → List ℕ → List ℕ
chained [] c = c
chained (l ∷ r) c = l ++ chained r c

-- one behind the other, from part n on, and behind them the bytes c
abbrev pub from : ℕ → Model → List ℕ → List ℕ
from n m c = chained (drop n (parts m)) c

pub image-parts : (m : Model) (c : List ℕ) → records_image m ++ c ≡ from 0 m c
unfolding records_image
image-parts m c = simp append_assoc

-- whatever stands behind them
module _ (m : Model) (w : Machine m) (c : List ℕ) where
  abbrev image : List ℕ
  image = records_image m ++ c

-- ---- and the version

version-fits : Fitting VERSION_RECORD (record { office = office-0; words = version_tag Second ∷ []; floats = []; lists = [] })
unfolding all
version-fits =
    record { mark = first-marked VERSION_RECORD (omega arith); words = refl; floats = refl; lists = refl; small = refl; double = tt; short = tt }

-- the precision's record does not begin as the version's
pub version-back : (v : Version) (s : List ℕ) → number 2 s ≡ word marks PRECISION_RECORD → version_in (version_image v ++ s) ≡ v
unfolding version_in version_image
version-back First s first = rw first
version-back Second s first = rw (record-mark VERSION_RECORD _ s version-fits)

pub records-back : (v : Version) (s : List ℕ) → number 2 s ≡ word marks PRECISION_RECORD → records_in (version_image v ++ s) ≡ s
unfolding records_in
records-back v s first = rw (version-back v s first) (drop-append_seam (version_image v) s)

module _ (m : Model) (w : Machine m) (c : List ℕ) where
  pub whole_parts : image_of m ++ c ≡ version_image m.version ++ (records_image m ++ c)
  unfolding image_of
  whole_parts = append_assoc (version_image m.version) (records_image m) c

  pub begins : number 2 (records_image m ++ c) ≡ word marks PRECISION_RECORD
  begins = ap (number 2) (image-parts m c) ∙ record-mark PRECISION_RECORD (precision_fields m) (from 1 m c) w.precision

-- ---- models that are the same

module _ (m n : Model) (s : SameModel m n) where
  records-same : records_image m ≡ records_image n
  unfolding records_image
  records-same =
      λ i.
      record_image PRECISION_RECORD (record { office = office-0; words = s.bodies.used i ∷ s.regions.used i ∷ s.shells.used i ∷ s.faces.used i ∷ s.loops.used i ∷ s.fins.used i ∷ s.edges.used i ∷ s.vertices.used i ∷ s.curves.used i ∷ s.surfaces.used i ∷ []; floats = s.precision i ∷ []; lists = [] })
      ++ table_same s.bodies BODIES body_fields i
      ++ table_same s.regions REGIONS region_fields i
      ++ table_same s.shells SHELLS shell_fields i
      ++ table_same s.faces FACES face_fields i
      ++ table_same s.loops LOOPS loop_fields i
      ++ table_same s.fins FINS fin_fields i
      ++ table_same s.edges EDGES edge_fields i
      ++ table_same s.vertices VERTICES vertex_fields i
      ++ table_same s.curves CURVES carrier_fields i
      ++ table_same s.surfaces SURFACES carrier_fields i

  pub image-same : image_of m ≡ image_of n
  unfolding image_of
  image-same = λ i. version_image (s.version i) ++ records-same i

  pub held_same : held m ≡ held n
  unfolding held
  held_same =
      λ i.
      every (
      precision_ok (s.precision i)
      ∷ held-table s.bodies body_held largest.bodies i
      ∷ held-table s.regions region_held largest.regions i
      ∷ held-table s.shells shell_held largest.shells i
      ∷ held-table s.faces face_held largest.faces i
      ∷ held-table s.loops loop_held largest.loops i
      ∷ held-table s.fins (λ _. true) largest.fins i
      ∷ held-table s.edges edge_held largest.edges i
      ∷ held-table s.vertices vertex_held largest.vertices i
      ∷ held-table s.curves (λ _. true) largest.curves i
      ∷ held-table s.surfaces (λ _. true) largest.surfaces i
      ∷ []
      )

-- two that are the same as a third
pub same-models : (k m n : Model) → SameModel k m → SameModel k n → SameModel m n
same-models k m n p q =
    record {
      version = sym p.version ∙ q.version;
      precision = sym p.precision ∙ q.precision;
      bodies = same-third p.bodies q.bodies;
      regions = same-third p.regions q.regions;
      shells = same-third p.shells q.shells;
      faces = same-third p.faces q.faces;
      loops = same-third p.loops q.loops;
      fins = same-third p.fins q.fins;
      edges = same-third p.edges q.edges;
      vertices = same-third p.vertices q.vertices;
      curves = same-third p.curves q.curves;
      surfaces = same-third p.surfaces q.surfaces;
    }
