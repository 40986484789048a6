-- The records of the model behind a reading: those of before stand, and the new ones are as the definition names them; a fin goes as its step goes. Assumes nothing.
use Rattle.std.specs.Prelude.{ℕ, ◌+◌, ◌*◌, ◌<◌, ◌≡◌, Bool, cond, List, length, get_or}
use Rattle.std.proofs.Common.{arith, ap, ◌∙◌}
use Rattle.std.proofs.Math.Path.{refl}
use Rattle.std.proofs.Math.Bool.{true, false}
use Rattle.std.proofs.Math.Option.{some}
use Rattle.meaning.specs.Model.{Model, Table, Office, positive, negative, Fin, Edge, extended, body, region, shell, face, loop, fin, edge, vertex}
use Rattle.meaning.specs.Walks.{Ends, directed, ends_of}
use Rattle.meaning_list_laws.specs.Tables.{extended-old, extended-new}
use Rattle.stl_body.specs.Read.{Step, step, rising, edge_of, sense_of, Mesh, fins_on, new_body, new_region, new_shell, new_face, new_loop, new_fin, edge_along, new_edge, new_vertex, built}
use Rattle.stl_body.specs.Meshes.{Ranged}
use Rattle.stl_body.specs.Records.{Grown}

pub built-grown : (m : Model) (o : Office) (t : Mesh) → Grown m (built m o t)
unfolding built
built-grown m o t =
    record {
      version = refl;
      precision = refl;
      bodies = extended-old m.bodies 1 (λ k. new_body m o);
      regions = extended-old m.regions 2 (new_region m);
      shells = extended-old m.shells 2 (new_shell m t);
      faces = extended-old m.faces t.triangles (new_face m);
      loops = extended-old m.loops t.triangles (new_loop m);
      fins = extended-old m.fins (3 * t.triangles) (new_fin m t);
      edges = extended-old m.edges (length t.edges) (new_edge m t);
      vertices = extended-old m.vertices (length t.points) (new_vertex t);
      curves = refl;
      surfaces = refl;
    }

new-at : {A : Type 0} (t : Table A) (n : ℕ) (new : ℕ → A) (k : ℕ) → (extended t n new).slot (t.used + k) ≡ new k
new-at t n new k = extended-new t n new (t.used + k) (omega arith) ∙ ap new (omega arith)

module _ (m : Model) (o : Office) (t : Mesh) where
  pub body_new : body (built m o t) m.bodies.used ≡ new_body m o
  unfolding built
  body_new = extended-new m.bodies 1 (λ k. new_body m o) m.bodies.used (omega arith)

  pub region-new : (k : ℕ) → region (built m o t) (m.regions.used + k) ≡ new_region m k
  unfolding built
  region-new k = new-at m.regions 2 (new_region m) k

  pub shell-new : (k : ℕ) → shell (built m o t) (m.shells.used + k) ≡ new_shell m t k
  unfolding built
  shell-new k = new-at m.shells 2 (new_shell m t) k

  pub face-new : (k : ℕ) → face (built m o t) (m.faces.used + k) ≡ new_face m k
  unfolding built
  face-new k = new-at m.faces t.triangles (new_face m) k

  pub loop-new : (k : ℕ) → loop (built m o t) (m.loops.used + k) ≡ new_loop m k
  unfolding built
  loop-new k = new-at m.loops t.triangles (new_loop m) k

  pub fin-new : (k : ℕ) → fin (built m o t) (m.fins.used + k) ≡ new_fin m t k
  unfolding built
  fin-new k = new-at m.fins (3 * t.triangles) (new_fin m t) k

  pub edge-new : (k : ℕ) → edge (built m o t) (m.edges.used + k) ≡ new_edge m t k
  unfolding built
  edge-new k = new-at m.edges (length t.edges) (new_edge m t) k

  pub vertex-new : (k : ℕ) → vertex (built m o t) (m.vertices.used + k) ≡ new_vertex t k
  unfolding built
  vertex-new k = new-at m.vertices (length t.points) (new_vertex t) k

  -- ---- a fin starts and ends where its step does

  abbrev pub ends_on : Step → Ends
  ends_on s = record { start = some (m.vertices.used + s.from); end = some (m.vertices.used + s.to) }

  along : (l : List ℕ) (s : Step) → directed (sense_of s) (edge_along m l (edge_of s)) ≡ ends_on s
  unfolding edge_of
  along l s = by (rising s)
    where
      by : (b : Bool) → directed (cond b positive negative) (edge_along m l (cond b s (step s.to s.from))) ≡ ends_on s
      by true = refl
      by false = refl

  pub fin-ends : Ranged t → (k : ℕ) → k < 3 * t.triangles → ends_of (built m o t) (m.fins.used + k) ≡ ends_on (get_or t.steps k (step 0 0))
  fin-ends r k h =
      let s = get_or t.steps k (step 0 0) in
      let e = get_or t.edge_numbers k 0 in
      let l = fins_on e m.fins.used t.edge_numbers in
      ap (λ (f : Fin). directed f.sense (edge (built m o t) f.edge)) (fin-new k)
      ∙ ap (λ (d : Edge). directed (sense_of s) d) (edge-new e)
      ∙ ap (λ (d : Step). directed (sense_of s) (edge_along m l d)) (r.fin-joins k h)
      ∙ along l s
