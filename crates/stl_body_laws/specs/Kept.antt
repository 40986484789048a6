-- 01, "Well formed": setting surfaces and curves that are there keeps a model well formed. Assumes nothing.
use Rattle.std.specs.Prelude.{ℕ, ◌≤◌, ◌<◌, ◌≡◌, true, eqb, length}
use Rattle.std.proofs.Math.Path.{refl, ap, ap₂}
use Rattle.std.proofs.Common.{◌∙◌}
use Rattle.std.proofs.Math.Bool.{not, ◌&&◌}
use mathlib.Core.List.{List, [], ◌∷◌}
use Rattle.std.proofs.Math.Option.{Option}
use Rattle.geom_carriers.specs.declared.Carrier.{Carrier}
use Rattle.meaning.specs.Lists.{rotated, same}
use Rattle.meaning.specs.Model.{Model, Limits, Table, changed, loop}
use Rattle.meaning.specs.Walks.{Ends}
use Rattle.meaning.specs.Formed.{has_maybe, closed, loop_closes, WellFormed}
use Rattle.stl_body_laws.specs.Terms.{dressed}
use Rattle.stl_body_laws.specs.Dressed.{same_ends}

module _ (m : Model) (curves surfaces : Table Carrier) (along on : ℕ → Option ℕ) where
  abbrev after : Model
  after = dressed m curves surfaces along on

  same-closed : (k l : List ℕ) → closed after k l ≡ closed m k l
  unfolding closed
  same-closed [] l = refl
  same-closed (i ∷ k) [] = refl
  same-closed (i ∷ k) (j ∷ l) = ap₂ ◌&&◌ (ap₂ (λ (d e : Ends). same d.end e.start) (same_ends m curves surfaces along on i) (same_ends m curves surfaces along on j)) (same-closed k l)

  same-closes : (l : List ℕ) → loop_closes after l ≡ loop_closes m l
  unfolding loop_closes
  same-closes l = ap (λ b. not (eqb (length l) 0) && b) (same-closed l (rotated l))

  -- the carriers fit their tables, and each that a face or an edge is given is there
  pub dressed-formed : (x : Limits) → WellFormed x m → curves.used ≤ x.curves → surfaces.used ≤ x.surfaces
      → ((i : ℕ) → i < m.faces.used → has_maybe surfaces (on i) ≡ true) → ((i : ℕ) → i < m.edges.used → has_maybe curves (along i) ≡ true) → WellFormed x after
  unfolding dressed changed
  dressed-formed x w few-curves few-surfaces on-there along-there =
      record {
        tables = record {
          bodies = w.tables.bodies;
          regions = w.tables.regions;
          shells = w.tables.shells;
          faces = w.tables.faces;
          loops = w.tables.loops;
          fins = w.tables.fins;
          edges = w.tables.edges;
          vertices = w.tables.vertices;
          curves = few-curves;
          surfaces = few-surfaces;
          body-regions = w.tables.body-regions;
          region-shells = w.tables.region-shells;
          shell-faces = w.tables.shell-faces;
          shell-wire-edges = w.tables.shell-wire-edges;
          shell-acorn-vertices = w.tables.shell-acorn-vertices;
          face-loops = w.tables.face-loops;
          loop-fins = w.tables.loop-fins;
          edge-fins = w.tables.edge-fins;
          precision = w.tables.precision;
          edge-tolerance = w.tables.edge-tolerance;
          vertex-tolerance = w.tables.vertex-tolerance;
        };
        ids = record {
          body-regions = w.ids.body-regions;
          region-body = w.ids.region-body;
          region-shells = w.ids.region-shells;
          shell-region = w.ids.shell-region;
          shell-faces = w.ids.shell-faces;
          shell-wire-edges = w.ids.shell-wire-edges;
          shell-acorn-vertices = w.ids.shell-acorn-vertices;
          face-front = w.ids.face-front;
          face-back = w.ids.face-back;
          face-loops = w.ids.face-loops;
          face-surface = on-there;
          loop-face = w.ids.loop-face;
          loop-fins = w.ids.loop-fins;
          fin-owner = w.ids.fin-owner;
          fin-edge = w.ids.fin-edge;
          edge-fins = w.ids.edge-fins;
          edge-start = w.ids.edge-start;
          edge-end = w.ids.edge-end;
          edge-curve = along-there;
        };
        regions = w.regions;
        shells = w.shells;
        loops = w.loops;
        fins = w.fins;
        faces = w.faces;
        edges = w.edges;
        closes = λ l h. same-closes (loop m l).fins ∙ w.closes l h;
        wires = w.wires;
      }
