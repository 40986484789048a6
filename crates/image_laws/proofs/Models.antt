-- The theorems of specs/Models.antt that rest on numbers-read. Assumes nothing.
use Rattle.std.specs.Prelude.{ℕ, ◌≡◌}
use Rattle.std.proofs.Common.{◌∙◌}
use Rattle.std.proofs.Math.Path.{ap}
use mathlib.Core.List.{List, ◌++◌}
use Rattle.geom_lines_planes.specs.declared.tolerance.Version.{Version}
use Rattle.meaning.specs.Model.{Model}
use Rattle.memory_layout.specs.Names.{BODIES, REGIONS, SHELLS, FACES, LOOPS, FINS, EDGES, VERTICES, CURVES, SURFACES, PRECISION}
use Rattle.memory_layout.specs.Layout.{word, real}
use Rattle.memory_layout.specs.Laid.{rooms}
use Rattle.memory_writes.specs.Change.{SameModel}
use Rattle.image_format.specs.Fields.{PRECISION_RECORD, fields_in, behind, body_fields, region_fields, shell_fields, face_fields, loop_fields, fin_fields, edge_fields, vertex_fields, carrier_fields, body_in, region_in, shell_in, face_in, loop_in, fin_in, edge_in, vertex_in, carrier_in}
use Rattle.image_format.specs.Image.{precision_fields, records_image, version_image, image_of, count_in, table_bytes, model_of, version_in, model_in}
use Rattle.image_laws.specs.Records.{body_back, region-back, shell-back, face-back, loop-back, fin-back, edge-back, vertex-back, carrier-back}
use Rattle.image_laws.proofs.Records.{fields_read, behind-read}
use Rattle.image_laws.specs.Tables.{Written}
use Rattle.image_laws.proofs.Tables.{behind-table, table-read}
use Rattle.image_laws.specs.Models.{Machine, from, image-parts, version-back, records-back, whole_parts, begins}

-- whatever stands behind them
module _ (m : Model) (w : Machine m) (c : List ℕ) where
  abbrev image : List ℕ
  image = records_image m ++ c

  first : fields_in PRECISION_RECORD image ≡ precision_fields m
  first = ap (fields_in PRECISION_RECORD) (image-parts m c) ∙ fields_read PRECISION_RECORD (precision_fields m) (from 1 m c) w.precision

  counts : (k : ℕ) → count_in image k ≡ word (rooms m) k
  unfolding count_in
  counts k = ap (λ f. word f.words k) first

  bodies : Written image BODIES body_fields m.bodies (from 2 m c)
  unfolding table_bytes
  bodies =
      record {
        fit = w.bodies;
        count = counts BODIES;
        bytes = ap (behind PRECISION_RECORD) (image-parts m c) ∙ behind-read PRECISION_RECORD (precision_fields m) (from 1 m c) w.precision;
      }

  regions : Written image REGIONS region_fields m.regions (from 3 m c)
  regions = record { fit = w.regions; count = counts REGIONS; bytes = behind-table bodies }

  shells : Written image SHELLS shell_fields m.shells (from 4 m c)
  shells = record { fit = w.shells; count = counts SHELLS; bytes = behind-table regions }

  faces : Written image FACES face_fields m.faces (from 5 m c)
  faces = record { fit = w.faces; count = counts FACES; bytes = behind-table shells }

  loops : Written image LOOPS loop_fields m.loops (from 6 m c)
  loops = record { fit = w.loops; count = counts LOOPS; bytes = behind-table faces }

  fins : Written image FINS fin_fields m.fins (from 7 m c)
  fins = record { fit = w.fins; count = counts FINS; bytes = behind-table loops }

  edges : Written image EDGES edge_fields m.edges (from 8 m c)
  edges = record { fit = w.edges; count = counts EDGES; bytes = behind-table fins }

  vertices : Written image VERTICES vertex_fields m.vertices (from 9 m c)
  vertices = record { fit = w.vertices; count = counts VERTICES; bytes = behind-table edges }

  curves : Written image CURVES carrier_fields m.curves (from 10 m c)
  curves = record { fit = w.curves; count = counts CURVES; bytes = behind-table vertices }

  surfaces : Written image SURFACES carrier_fields m.surfaces (from 11 m c)
  surfaces = record { fit = w.surfaces; count = counts SURFACES; bytes = behind-table curves }

  records-read : (v : Version) → v ≡ m.version → SameModel (model_of image v) m
  unfolding model_of
  records-read v e =
      record {
        version = e;
        precision = ap (λ f. real f.floats PRECISION) first;
        bodies = table-read bodies body_in body_back;
        regions = table-read regions region_in region-back;
        shells = table-read shells shell_in shell-back;
        faces = table-read faces face_in face-back;
        loops = table-read loops loop_in loop-back;
        fins = table-read fins fin_in fin-back;
        edges = table-read edges edge_in edge-back;
        vertices = table-read vertices vertex_in vertex-back;
        curves = table-read curves carrier_in carrier-back;
        surfaces = table-read surfaces carrier_in carrier-back;
      }

module _ (m : Model) (w : Machine m) (c : List ℕ) where
  pub model-read : SameModel (model_in (image_of m ++ c)) m
  unfolding model_in
  model-read =
      rw (whole_parts m w c, records-back m.version (records_image m ++ c) (begins m w c))
      (records-read m w c (version_in (version_image m.version ++ (records_image m ++ c))) (version-back m.version (records_image m ++ c) (begins m w c)))
