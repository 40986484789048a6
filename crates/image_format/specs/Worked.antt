-- docs/IMAGE.md's worked records; a model with one record of each table, read back; and images that are refused, each for one reason: by evaluation. Assumes nothing.
use Rattle.std.specs.Prelude.{ℕ, ◌≡◌, refl, true, false, List, [], ◌∷◌, ◌++◌, map, length, take, drop, set, replicate, Float}
use Rattle.std.proofs.Math.Option.{none, some}
use Rattle.std.specs.Float.{nan, binary64}
use Rattle.std.specs.Float.Ieee.{of_bits}
use Rattle.interval_arithmetic.specs.Ops.{zero_f}
use Rattle.geom_lines_planes.specs.declared.tolerance.Tolerance.TheVariants.{Own, Session}
use Rattle.geom_lines_planes.specs.declared.tolerance.Version.{Version}
use Rattle.geom_lines_planes.specs.declared.tolerance.Version.TheVariants.{First, Second}
use Rattle.geom_carriers.specs.declared.Carrier.TheVariants as Carriers
use Rattle.meaning.specs.Model.{Model, Table, Body, solid, office-0, office-1, negative, body, region, shell, face, loop, fin, edge, vertex}
use Rattle.meaning.specs.Computing.{computing}
use Rattle.memory_layout.specs.Names.{BODIES, EDGES}
use Rattle.memory_layout.specs.Decode.{office_of}
use Rattle.image_format.specs.Bytes.{little, floats, lists, number, words_in, floats_in, lists_in, same_bytes}
use Rattle.image_format.specs.Fields.{record_image, fields_in, behind, body_fields, edge_fields}
use Rattle.image_format.specs.Image.{table_image, records_image, version_image, image_of, count_in, behind_records, table_bytes, fields_at, model_of, version_in, records_in, model_in, held, accepted}

-- for evaluation: opens every definition of this crate and what they are made of
unfoldable pub bytes : ℕ
unfolding computing little floats lists number words_in floats_in lists_in same_bytes record_image fields_in behind table_image records_image version_image image_of count_in behind_records table_bytes fields_at model_of version_in records_in model_in
    held accepted
bytes = 0

abbrev half : Float
half = of_bits binary64 0x3fe0_0000_0000_0000

edge-worked : record_image EDGES (edge_fields (record { fins = 1 ∷ 2 ∷ []; start = some 3; end = none; curve = some 258; tolerance = Own half }))
    ≡ 0x45 ∷ 0x44
    ∷ 1 ∷ 0 ∷ 0 ∷ 0 ∷ 3 ∷ 0 ∷ 0 ∷ 0
    ∷ 0 ∷ 0 ∷ 0 ∷ 0 ∷ 0 ∷ 0 ∷ 0 ∷ 0
    ∷ 1 ∷ 0 ∷ 0 ∷ 0 ∷ 2 ∷ 1 ∷ 0 ∷ 0
    ∷ 1 ∷ 0 ∷ 0 ∷ 0
    ∷ 0 ∷ 0 ∷ 0 ∷ 0 ∷ 0 ∷ 0 ∷ 0xe0 ∷ 0x3f
    ∷ 2 ∷ 0 ∷ 0 ∷ 0
    ∷ 1 ∷ 0 ∷ 0 ∷ 0 ∷ 2 ∷ 0 ∷ 0 ∷ 0
    ∷ []
unfolding bytes
edge-worked = refl

body-worked : record_image BODIES (body_fields (record { kind = solid; office = office-1; regions = 7 ∷ 258 ∷ [] }))
    ≡ 0x42 ∷ 0x50
    ∷ 3 ∷ 0 ∷ 0 ∷ 0
    ∷ 2 ∷ 0 ∷ 0 ∷ 0
    ∷ 7 ∷ 0 ∷ 0 ∷ 0 ∷ 2 ∷ 1 ∷ 0 ∷ 0
    ∷ []
unfolding bytes
body-worked = refl

-- ---- one record of each table

abbrev one : {A : Type 0} → A → Table A
one r = record { used = 1; slot = λ _. r }

abbrev small : Model
small =
    record {
      version = First;
      precision = half;
      bodies = one (record { kind = solid; office = office-0; regions = 7 ∷ [] });
      regions = one (record { body = 1; solid = true; shells = [] });
      shells = one (record { region = 2; faces = 3 ∷ []; wire_edges = []; acorn_vertices = 4 ∷ 5 ∷ [] });
      faces = one (record { front = some 6; back = none; loops = 8 ∷ []; surface = none; sense = negative });
      loops = one (record { face = 9; fins = 0xffff_ffff ∷ [] });
      fins = one (record { owner = 1; edge = 2; sense = negative; pcurve = true });
      edges = one (record { fins = []; start = none; end = some 3; curve = none; tolerance = Session });
      vertices = one (record { point = record { x = half; y = nan; z = zero_f }; tolerance = Own half });
      curves = one (Carriers.Line (record { origin = record { x = half; y = half; z = half }; direction = record { x = zero_f; y = half; z = nan } }));
      surfaces = one Carriers.Other;
    }

small-long : length (image_of small) ≡ 366
unfolding bytes
small-long = refl

small-accepted : accepted (image_of small) ≡ true
unfolding bytes
small-accepted = refl

-- "Reading what was written gives the same model"
pub record Back (m n : Model) : Type 0 where
  pub version : m.version ≡ n.version
  pub precision : m.precision ≡ n.precision
  pub body : body m 0 ≡ body n 0
  pub region : region m 0 ≡ region n 0
  pub shell : shell m 0 ≡ shell n 0
  pub face : face m 0 ≡ face n 0
  pub loop : loop m 0 ≡ loop n 0
  pub fin : fin m 0 ≡ fin n 0
  pub edge : edge m 0 ≡ edge n 0
  pub vertex : vertex m 0 ≡ vertex n 0
  pub curve : m.curves.slot 0 ≡ n.curves.slot 0
  pub surface : m.surfaces.slot 0 ≡ n.surfaces.slot 0

small-back : Back (model_in (image_of small)) small
unfolding bytes
small-back =
    record {
      version = refl;
      precision = refl;
      body = refl;
      region = refl;
      shell = refl;
      face = refl;
      loop = refl;
      fin = refl;
      edge = refl;
      vertex = refl;
      curve = refl;
      surface = refl;
    }

-- ---- refused

-- the image with another byte at a place
abbrev other : ℕ → ℕ → List ℕ
other at v = set (image_of small) at v

-- cut within the precision's record, before the last record, before the last byte; a byte more
-- a body's mark; its sixth kind; a third answer of yes or no; the id of none; a third sense; the float of a tolerance that is the session's; a NaN of another pattern;
-- a tolerance below zero; a negative zero of a carrier that is other; a precision below zero; one surface more than there is, and one less
abbrev wrong : List (List ℕ)
wrong =
    take 49 (image_of small)
    ∷ take 312 (image_of small)
    ∷ take 365 (image_of small)
    ∷ (image_of small ++ (0 ∷ []))
    ∷ other 50 0x43
    ∷ other 52 5
    ∷ other 70 2
    ∷ other 122 1
    ∷ other 134 2
    ∷ other 208 1
    ∷ other 234 1
    ∷ other 257 0xbf
    ∷ other 325 0x80
    ∷ other 49 0xbf
    ∷ other 38 2
    ∷ other 38 0
    ∷ []

wrong-refused : map accepted wrong ≡ replicate 16 false
unfolding bytes
wrong-refused = refl

-- bodies alone
abbrev bare : Version → Table Body → Model
bare v t =
    record {
      version = v;
      precision = half;
      bodies = t;
      regions = record { used = 0; slot = small.regions.slot };
      shells = record { used = 0; slot = small.shells.slot };
      faces = record { used = 0; slot = small.faces.slot };
      loops = record { used = 0; slot = small.loops.slot };
      fins = record { used = 0; slot = small.fins.slot };
      edges = record { used = 0; slot = small.edges.slot };
      vertices = record { used = 0; slot = small.vertices.slot };
      curves = record { used = 0; slot = small.curves.slot };
      surfaces = record { used = 0; slot = small.surfaces.slot };
    }

-- as many regions as a body may list, and one more
abbrev listing : Version → ℕ → Model
listing v n = bare v (one (record { kind = solid; office = office-0; regions = replicate n 0 }))

sixteen-accepted : map (λ n. accepted (image_of (listing First n))) (16 ∷ 17 ∷ []) ≡ true ∷ false ∷ []
unfolding bytes
sixteen-accepted = refl

-- ---- version 2 (W-211)

abbrev old : List ℕ
old = image_of (listing First 1)

abbrev second : List ℕ
second = image_of (listing Second 1)

-- VN and 2, then all "as before"
second-begins : second ≡ (0x56 ∷ 0x4e ∷ 2 ∷ 0 ∷ 0 ∷ 0 ∷ []) ++ old
unfolding bytes
second-begins = refl

both-accepted : map accepted (old ∷ second ∷ []) ≡ true ∷ true ∷ []
unfolding bytes
both-accepted = refl

-- "so old images are read as version 1"
both_read : map (λ b. (model_in b).version) (old ∷ second ∷ []) ≡ First ∷ Second ∷ []
unfolding bytes
both_read = refl

second-body : body (model_in second) 0 ≡ body (listing Second 1) 0
unfolding bytes
second-body = refl

-- a version record that names 0, 1, 3, or 2 and more in its highest byte; cut within it, and behind it; that record twice; behind the precision's record; another mark
abbrev misnamed : List (List ℕ)
misnamed =
    set second 2 0
    ∷ set second 2 1
    ∷ set second 2 3
    ∷ set second 5 1
    ∷ take 1 second
    ∷ take 2 second
    ∷ take 5 second
    ∷ take 6 second
    ∷ (take 6 second ++ second)
    ∷ (take 50 old ++ take 6 second ++ drop 50 old)
    ∷ set second 1 0x4f
    ∷ []

misnamed-refused : map accepted misnamed ≡ replicate 11 false
unfolding bytes
misnamed-refused = refl

-- ---- two offices (W-206)

-- a body of each office
abbrev shared : List ℕ
shared = image_of (bare First (record { used = 2; slot = λ i. record { kind = solid; office = office_of i; regions = i ∷ [] } }))

-- "office 1's bodies under a second body mark", all else the same
shared-marks : drop 50 shared
    ≡ (0x42 ∷ 0x4f ∷ 3 ∷ 0 ∷ 0 ∷ 0 ∷ 1 ∷ 0 ∷ 0 ∷ 0 ∷ 0 ∷ 0 ∷ 0 ∷ 0 ∷ [])
    ++ (0x42 ∷ 0x50 ∷ 3 ∷ 0 ∷ 0 ∷ 0 ∷ 1 ∷ 0 ∷ 0 ∷ 0 ∷ 1 ∷ 0 ∷ 0 ∷ 0 ∷ [])
unfolding bytes
shared-marks = refl

shared-accepted : accepted shared ≡ true
unfolding bytes
shared-accepted = refl

shared-read : map (λ i. (body (model_in shared) i).office) (0 ∷ 1 ∷ []) ≡ office-0 ∷ office-1 ∷ []
unfolding bytes
shared-read = refl

-- "so old images read as office 0", and the same under the second mark as office 1
old-read : map (λ b. (body (model_in b) 0).office) (old ∷ set old 51 0x50 ∷ []) ≡ office-0 ∷ office-1 ∷ []
unfolding bytes
old-read = refl

-- both marks of a body, the letters before and behind them, and the second one of a region
marks-known : map accepted (old ∷ set old 51 0x50 ∷ set old 51 0x4e ∷ set old 51 0x51 ∷ set (other 64 0x42) 65 0x50 ∷ []) ≡ true ∷ true ∷ false ∷ false ∷ false ∷ []
unfolding bytes
marks-known = refl
