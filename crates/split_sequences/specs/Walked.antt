-- Models with the same records in use are alike from every body on, so that the same is told of it: `report-same`, and of a well-formed one `walks_same`. Assumes nothing.
use Rattle.std.specs.Prelude.{ℕ, ◌<◌, ◌≡◌, List, [], ◌∷◌, ltb}
use Rattle.std.proofs.Common.{ap, ◌∙◌, ltb-true, lt-ltb}
use Rattle.meaning.specs.Model.{Model, Limits, Table}
use Rattle.meaning.specs.Faults.{report_of}
use Rattle.meaning.specs.Formed.{WellFormed, topological, topological_report}
use Rattle.meaning_isolation.specs.Reached.{regions_met, shells_met, faces_met, loops_met, fins_seen, edges_met, vertices_met, curves_met, surfaces_met, Agree, Alike}
use Rattle.meaning_isolation.proofs.Walked.{faces-refused, face-walk-same, edges-refused, edge-walk-same, vertices-refused, vertex-walk-same}
use Rattle.meaning_isolation.proofs.Reported.{findings-same}
use Rattle.meaning_split_laws.specs.Terms.{SameWalks, euler_number}
use Rattle.meaning_split_laws.specs.Walked.{faces-given, edges-given, vertices-given}
use Rattle.memory_writes.specs.Change.{SameTable, SameModel}

agree : {A : Type 0} (l : List ℕ) (t u : Table A) → SameTable t u → Agree l t u
agree l t u s = record { there = λ i h. ap (ltb i) s.used; same = λ i h g. s.slots i (ltb-true i t.used g) }

module _ (m n : Model) (s : SameModel m n) (b : ℕ) where
  pub alike : Alike m n b
  alike =
      record {
        version = s.version;
        precision = s.precision;
        bodies = agree (b ∷ []) m.bodies n.bodies s.bodies;
        regions = agree (regions_met m b) m.regions n.regions s.regions;
        shells = agree (shells_met m b) m.shells n.shells s.shells;
        faces = agree (faces_met m b) m.faces n.faces s.faces;
        loops = agree (loops_met m b) m.loops n.loops s.loops;
        fins = agree (fins_seen m b) m.fins n.fins s.fins;
        edges = agree (edges_met m b) m.edges n.edges s.edges;
        vertices = agree (vertices_met m b) m.vertices n.vertices s.vertices;
        curves = agree (curves_met m b) m.curves n.curves s.curves;
        surfaces = agree (surfaces_met m b) m.surfaces n.surfaces s.surfaces;
      }

  pub report-same : b < n.bodies.used → topological_report m b ≡ topological_report n b
  report-same hb = ap report_of (findings-same m n b alike topological (ap (ltb b) s.bodies.used ∙ lt-ltb b n.bodies.used hb))

  -- of a well-formed model no walk is refused
  pub walks_same : (x : Limits) → WellFormed x n → b < n.bodies.used → SameWalks n m b
  walks_same x w hb =
      record {
        faces = face-walk-same m n b alike (faces-refused m n b alike ∙ faces-given x n w b hb);
        edges = edge-walk-same m n b alike (edges-refused m n b alike ∙ edges-given x n w b hb);
        vertices = vertex-walk-same m n b alike (vertices-refused m n b alike ∙ vertices-given x n w b hb);
      }

pub euler-same : (m n : Model) (b : ℕ) → SameWalks m n b → euler_number n b ≡ euler_number m b
unfolding euler_number
euler-same m n b s = rw (s.faces, s.edges, s.vertices)
