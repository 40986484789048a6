-- A model laid out in words and floats, a record of each shape that decodes to what was laid out, and the tags that are known, by evaluation. Assumes nothing.
use Rattle.std.specs.Prelude.{ℕ, suc, ◌≡◌, refl, Bool, true, false, cond, List, [], ◌∷◌, ◌++◌, map, length, take, replicate, Float}
use Rattle.std.proofs.Math.Option.{Option, none, some}
use Rattle.interval_arithmetic.specs.Ops.{zero_f}
use Rattle.float_vectors.specs.declared.vector.Point3.{Point3}
use Rattle.float_vectors.specs.declared.vector.Vec3.{Vec3}
use Rattle.geom_lines_planes.specs.declared.tolerance.Tolerance.{Tolerance}
use Rattle.geom_lines_planes.specs.declared.tolerance.Tolerance.TheVariants.{Own, Session}
use Rattle.geom_lines_planes.specs.declared.tolerance.Version.{Version}
use Rattle.geom_lines_planes.specs.declared.tolerance.Version.TheVariants.{First, Second}
use Rattle.geom_carriers.specs.declared.Carrier.{Carrier}
use Rattle.geom_carriers.specs.declared.Carrier.TheVariants as Carriers
use Rattle.meaning.specs.Lists.{run, joined}
use Rattle.meaning.specs.Model.{Model, Table, BodyKind, acorn, wire, sheet, solid, general, Sense, positive, negative, Office, office-0, office-1}
use Rattle.meaning.specs.Computing.{computing}
use Rattle.memory_layout.specs.Decode.{list_at, shell_of, face_of, fin_of}
use Rattle.memory_layout.specs.Readable.{version_ok, body_ok, region_ok, face_ok, fin_ok, edge_ok, vertex_ok, carrier_ok}

-- ---- a record as words and floats

abbrev pub bit : Bool → ℕ
bit b = cond b 1 0

abbrev pub sense : Sense → ℕ
sense positive = 0
sense negative = 1

abbrev pub kind : BodyKind → ℕ
kind acorn = 0
kind wire = 1
kind sheet = 2
kind solid = 3
kind general = 4

abbrev pub office : Office → ℕ
office office-0 = 0
office office-1 = 1

abbrev pub maybe : Option ℕ → List ℕ
maybe none = 0 ∷ 0 ∷ []
maybe (some i) = 1 ∷ i ∷ []

-- a list with room for n entries
abbrev pub listed : ℕ → List ℕ → List ℕ
listed n l = length l ∷ take n (l ++ replicate n 0)

abbrev pub version_tag : Version → ℕ
version_tag First = 1
version_tag Second = 2

abbrev pub tag : Tolerance → ℕ
tag (Own t) = 1
tag Session = 0

abbrev pub own : Tolerance → Float
own (Own t) = t
own Session = zero_f

abbrev pub coordinates : Point3 → List Float
coordinates p = p.x ∷ p.y ∷ p.z ∷ []

abbrev pub components : Vec3 → List Float
components v = v.x ∷ v.y ∷ v.z ∷ []

abbrev pub carrier_tag : Carrier → List ℕ
carrier_tag (Carriers.Line l) = 0 ∷ []
carrier_tag (Carriers.Plane s) = 1 ∷ []
carrier_tag Carriers.Other = 2 ∷ []

abbrev pub carrier_reals : Carrier → List Float
carrier_reals (Carriers.Line l) = coordinates l.origin ++ components l.direction
carrier_reals (Carriers.Plane s) = coordinates s.origin ++ components s.normal
carrier_reals Carriers.Other = replicate 6 zero_f

-- ---- a model as words and floats, each table with room for the records that it has

abbrev pub each : {A B : Type 0} → Table A → (A → List B) → List B
each t f = joined (λ i. f (t.slot i)) (run 0 t.used)

abbrev pub rooms : Model → List ℕ
rooms m =
    m.bodies.used
    ∷ m.regions.used
    ∷ m.shells.used
    ∷ m.faces.used
    ∷ m.loops.used
    ∷ m.fins.used
    ∷ m.edges.used
    ∷ m.vertices.used
    ∷ m.curves.used
    ∷ m.surfaces.used
    ∷ []

abbrev pub words : Model → List ℕ
words m =
    rooms m
    ++ (version_tag m.version ∷ [])
    ++ each m.bodies (λ r. kind r.kind ∷ office r.office ∷ listed 16 r.regions)
    ++ each m.regions (λ r. r.body ∷ bit r.solid ∷ listed 16 r.shells)
    ++ each m.shells (λ r. r.region ∷ listed 512 r.faces ++ listed 256 r.wire_edges ++ listed 64 r.acorn_vertices)
    ++ each m.faces (λ r. maybe r.front ++ maybe r.back ++ maybe r.surface ++ (sense r.sense ∷ listed 16 r.loops))
    ++ each m.loops (λ r. r.face ∷ listed 1024 r.fins)
    ++ each m.fins (λ r. r.owner ∷ r.edge ∷ sense r.sense ∷ bit r.pcurve ∷ [])
    ++ each m.edges (λ r. maybe r.start ++ maybe r.end ++ maybe r.curve ++ (tag r.tolerance ∷ listed 8 r.fins))
    ++ each m.vertices (λ r. tag r.tolerance ∷ [])
    ++ each m.curves carrier_tag
    ++ each m.surfaces carrier_tag

abbrev pub reals : Model → List Float
reals m =
    m.precision
    ∷ each m.edges (λ r. own r.tolerance ∷ [])
    ++ each m.vertices (λ r. coordinates r.point ++ (own r.tolerance ∷ []))
    ++ each m.curves carrier_reals
    ++ each m.surfaces carrier_reals

-- ---- the trial stone has no wires and no acorns: the three lists of a shell, one after the other
pub shell-decodes : shell_of (7 ∷ listed 512 (1 ∷ []) ++ listed 256 (2 ∷ 3 ∷ []) ++ listed 64 (4 ∷ 5 ∷ 6 ∷ []))
    ≡ record { region = 7; faces = 1 ∷ []; wire_edges = 2 ∷ 3 ∷ []; acorn_vertices = 4 ∷ 5 ∷ 6 ∷ [] }
unfolding list_at
shell-decodes = refl

-- the optional ids and the sense of a face, and of a fin
pub face-decodes : face_of (maybe (some 1) ++ maybe none ++ maybe (some 2) ++ (sense negative ∷ listed 16 (3 ∷ 4 ∷ [])))
    ≡ record { front = some 1; back = none; loops = 3 ∷ 4 ∷ []; surface = some 2; sense = negative }
unfolding list_at
face-decodes = refl

pub fin-decodes : fin_of (1 ∷ 2 ∷ sense positive ∷ bit true ∷ []) ≡ record { owner = 1; edge = 2; sense = positive; pcurve = true }
fin-decodes = refl

-- ---- 01, "an unknown tag": words that are 0 but for the one at the place k, which has the last known tag n, or the one behind it

abbrev tagged : (List ℕ → Bool) → ℕ → ℕ → List Bool
tagged ok k n = map (λ v. ok (replicate k 0 ++ (v ∷ []))) (n ∷ suc n ∷ [])

-- own tolerances of 0
abbrev zeros : List Float
zeros = replicate 4 zero_f

-- a body's kind and office; a region's mark; of a face front, back, surface, sense; of a fin sense, pcurve mark; of an edge start, end, curve, tolerance; a vertex's tolerance; a carrier
tags-known : tagged body_ok 0 4 ∷ tagged body_ok 1 1
    ∷ tagged region_ok 1 1
    ∷ tagged face_ok 0 1 ∷ tagged face_ok 2 1 ∷ tagged face_ok 4 1 ∷ tagged face_ok 6 1
    ∷ tagged fin_ok 2 1 ∷ tagged fin_ok 3 1
    ∷ tagged (λ w. edge_ok w zeros) 0 1 ∷ tagged (λ w. edge_ok w zeros) 2 1 ∷ tagged (λ w. edge_ok w zeros) 4 1 ∷ tagged (λ w. edge_ok w zeros) 6 1
    ∷ tagged (λ w. vertex_ok w zeros) 0 1
    ∷ tagged carrier_ok 0 2
    ∷ []
    ≡ replicate 15 (true ∷ false ∷ [])
unfolding computing
tags-known = refl

-- the version is neither 0 nor 3
versions-known : map version_ok (0 ∷ 1 ∷ 2 ∷ 3 ∷ []) ≡ false ∷ true ∷ true ∷ false ∷ []
versions-known = refl
