-- What a model gives back when what was added is struck out, a model with the same records in use gives back: `restored_same`. Assumes nothing.
use Rattle.std.specs.Prelude.{ℕ, ◌≤◌, ◌<◌, ◌≡◌, true, false, List}
use Rattle.std.proofs.Common.{arith, sym, ◌∙◌, subst}
use Rattle.std.proofs.Math.Option.{some}
use Rattle.meaning.specs.Lists.{member}
use Rattle.meaning.specs.Model.{Model, Table, body, region, shell, face, loop, fin, edge, vertex}
use Rattle.meaning_split_laws.specs.Terms.{struck_from, Restored}
use Rattle.memory_writes.specs.Change.{SameTable, SameModel}

-- what holds of each old record
module _ {A : Type 0} {t u : Table A} (s : SameTable t u) {k : ℕ} (b : k ≤ u.used) where
  old : (P : ℕ → A → Type 0) → ((i : ℕ) → i < k → P i (u.slot i)) → (i : ℕ) → i < k → P i (t.slot i)
  old P h i g = subst (P i) (sym (s.slots i (rw s.used (omega arith)))) (h i g)

module _ (m after same : Model) (s : SameModel same after) (split : List ℕ) (start : ℕ → List ℕ → List ℕ) (r : Restored m after split start) where
  pub restored_same : Restored m same split start
  restored_same =
      let bodies : m.bodies.used ≤ after.bodies.used = omega (arith, r.bodies) in
      let regions : m.regions.used ≤ after.regions.used = omega (arith, r.regions) in
      let shells : m.shells.used ≤ after.shells.used = omega (arith, r.shells) in
      let faces : m.faces.used ≤ after.faces.used = omega (arith, r.faces) in
      let loops : m.loops.used ≤ after.loops.used = omega (arith, r.loops) in
      let curves : m.curves.used ≤ after.curves.used = omega (arith, r.curves) in
      let surfaces : m.surfaces.used ≤ after.surfaces.used = omega (arith, r.surfaces) in
      record {
        bodies = s.bodies.used ∙ r.bodies;
        regions = s.regions.used ∙ r.regions;
        shells = s.shells.used ∙ r.shells;
        faces = s.faces.used ∙ r.faces;
        loops = s.loops.used ∙ r.loops;
        fins = rw s.fins.used r.fins;
        edges = rw s.edges.used r.edges;
        vertices = rw s.vertices.used r.vertices;
        curves = s.curves.used ∙ r.curves;
        surfaces = s.surfaces.used ∙ r.surfaces;
        version = s.version ∙ r.version;
        precision = s.precision ∙ r.precision;
        body-regions = old s.bodies bodies (λ i a. struck_from m.regions.used a.regions ≡ start m.regions.used (body m i).regions) r.body-regions;
        region-shells = old s.regions regions (λ i a. struck_from m.shells.used a.shells ≡ start m.shells.used (region m i).shells) r.region-shells;
        shell-faces = old s.shells shells (λ i a. struck_from m.faces.used a.faces ≡ start m.faces.used (shell m i).faces) r.shell-faces;
        shell-wire-edges = old s.shells shells (λ i a. struck_from m.edges.used a.wire_edges ≡ start m.edges.used (shell m i).wire_edges) r.shell-wire-edges;
        shell-acorn-vertices =
            old s.shells shells (λ i a. struck_from m.vertices.used a.acorn_vertices ≡ start m.vertices.used (shell m i).acorn_vertices) r.shell-acorn-vertices;
        face-loops = old s.faces faces (λ i a. struck_from m.loops.used a.loops ≡ start m.loops.used (face m i).loops) r.face-loops;
        loop-fins = old s.loops loops (λ i a. struck_from m.fins.used a.fins ≡ start m.fins.used (loop m i).fins) r.loop-fins;
        edge-fins = old s.edges r.edges (λ i a. struck_from m.fins.used a.fins ≡ start m.fins.used (edge m i).fins) r.edge-fins;
        body-kind = old s.bodies bodies (λ i a. a.kind ≡ (body m i).kind) r.body-kind;
        body-office = old s.bodies bodies (λ i a. a.office ≡ (body m i).office) r.body-office;
        region-body = old s.regions regions (λ i a. a.body ≡ (region m i).body) r.region-body;
        region-solid = old s.regions regions (λ i a. a.solid ≡ (region m i).solid) r.region-solid;
        shell-region = old s.shells shells (λ i a. a.region ≡ (shell m i).region) r.shell-region;
        face-front = old s.faces faces (λ i a. a.front ≡ (face m i).front) r.face-front;
        face-back = old s.faces faces (λ i a. a.back ≡ (face m i).back) r.face-back;
        face-surface = old s.faces faces (λ i a. a.surface ≡ (face m i).surface) r.face-surface;
        face-sense = old s.faces faces (λ i a. a.sense ≡ (face m i).sense) r.face-sense;
        loop-face = old s.loops loops (λ i a. a.face ≡ (loop m i).face) r.loop-face;
        fin-whole = old s.fins r.fins (λ i a. a ≡ fin m i) r.fin-whole;
        edge-start = old s.edges r.edges (λ i a. a.start ≡ (edge m i).start) r.edge-start;
        edge-curve = old s.edges r.edges (λ i a. a.curve ≡ (edge m i).curve) r.edge-curve;
        edge-tolerance = old s.edges r.edges (λ i a. a.tolerance ≡ (edge m i).tolerance) r.edge-tolerance;
        vertex-whole = old s.vertices r.vertices (λ i a. a ≡ vertex m i) r.vertex-whole;
        curve-whole = old s.curves curves (λ i a. a ≡ m.curves.slot i) r.curve-whole;
        surface-whole = old s.surfaces surfaces (λ i a. a ≡ m.surfaces.slot i) r.surface-whole;
        edge-end = old s.edges r.edges (λ i a. member i split ≡ false → a.end ≡ (edge m i).end) r.edge-end;
        edge-end-split = old s.edges r.edges (λ i a. member i split ≡ true → (v : ℕ) × (m.vertices.used ≤ v) × (a.end ≡ some v)) r.edge-end-split;
      }
