-- "then 8 for capacity": what is read where there is room leaves tables that pass the test of refusal 9. Assumes nothing.
use Rattle.std.specs.Prelude.{ℕ, ◌+◌, ◌*◌, ◌-◌, ◌≤◌, ◌<◌, ◌≡◌, refl, Bool, true, false, ltb}
use Rattle.std.proofs.Common.{arith, sym, subst}
use Rattle.std.proofs.Math.Dec.{leb}
use Rattle.std.proofs.Math.ListN.{length}
use borrow.Author.Tests.{ltb-true, ltb-false, leb-true}
use Rattle.meaning.specs.Lists.{count}
use Rattle.meaning.specs.Model.{Model, Limits, Table, Office, Body, Region, Shell, Face, Loop, Edge, Vertex, extended}
use Rattle.meaning.specs.Edits.{tolerance_ok}
use Rattle.meaning.specs.Formed.{Readable}
use Rattle.meaning_list_laws.specs.Tests.{every-at, all_below-at}
use Rattle.meaning_list_laws.specs.Lists.{length_run}
use Rattle.meaning_list_laws.specs.Tables.{extended-old, extended-new}
use Rattle.stl_body.specs.Read.{Mesh, room_tests, has_room, new_body, new_region, new_shell, new_face, new_loop, new_edge, new_vertex, built}
use Rattle.stl_body.proofs.Laws.{fins-length}

-- what holds of the records of before and of the new ones holds of all
pub old-and-new : {A : Type 0} (P : A → Type 0) (t : Table A) (n : ℕ) (new : ℕ → A) → ((i : ℕ) → i < t.used → P (t.slot i)) → ((k : ℕ) → k < n → P (new k))
    → (i : ℕ) → i < t.used + n → P ((extended t n new).slot i)
old-and-new P t n new old fresh i h = by (ltb i t.used) refl
  where
    by : (b : Bool) → ltb i t.used ≡ b → P ((extended t n new).slot i)
    by true e = let a : i < t.used = ltb-true i t.used e in subst P (sym (extended-old t n new i a)) (old i a)
    by false e =
        let a : t.used ≤ i = ltb-false i t.used e in
        subst P (sym (extended-new t n new i a)) (fresh (i - t.used) (omega arith))

module _ (x : Limits) (m : Model) (o : Office) (t : Mesh) where
  pub room-kept : has_room x m t ≡ true → Readable x m → Readable x (built m o t)
  unfolding has_room built extended
  room-kept h r =
      record {
        bodies = leb-true _ _ (every-at (room_tests x m t) h 0);
        regions = leb-true _ _ (every-at (room_tests x m t) h 1);
        shells = leb-true _ _ (every-at (room_tests x m t) h 2);
        faces = leb-true _ _ (every-at (room_tests x m t) h 3);
        loops = leb-true _ _ (every-at (room_tests x m t) h 4);
        fins = leb-true _ _ (every-at (room_tests x m t) h 5);
        edges = leb-true _ _ (every-at (room_tests x m t) h 6);
        vertices = leb-true _ _ (every-at (room_tests x m t) h 7);
        curves = r.curves;
        surfaces = r.surfaces;
        body-regions = old-and-new (λ (a : Body). length a.regions ≤ x.body_regions) m.bodies 1 (λ k. new_body m o) r.body-regions (λ k b. rw (length_run m.regions.used 2) (leb-true _ _ (every-at (room_tests x m t) h 8)));
        region-shells = old-and-new (λ (a : Region). length a.shells ≤ x.region_shells) m.regions 2 (new_region m) r.region-shells (λ k b. leb-true _ _ (every-at (room_tests x m t) h 9));
        shell-faces = old-and-new (λ (a : Shell). length a.faces ≤ x.shell_faces) m.shells 2 (new_shell m t) r.shell-faces (λ k b. rw (length_run m.faces.used t.triangles) (leb-true _ _ (every-at (room_tests x m t) h 10)));
        shell-wire-edges = old-and-new (λ (a : Shell). length a.wire_edges ≤ x.shell_wire_edges) m.shells 2 (new_shell m t) r.shell-wire-edges (λ k b. omega arith);
        shell-acorn-vertices = old-and-new (λ (a : Shell). length a.acorn_vertices ≤ x.shell_acorn_vertices) m.shells 2 (new_shell m t) r.shell-acorn-vertices (λ k b. omega arith);
        face-loops = old-and-new (λ (a : Face). length a.loops ≤ x.face_loops) m.faces t.triangles (new_face m) r.face-loops (λ k b. leb-true _ _ (every-at (room_tests x m t) h 11));
        loop-fins = old-and-new (λ (a : Loop). length a.fins ≤ x.loop_fins) m.loops t.triangles (new_loop m) r.loop-fins (λ k b. rw (length_run (m.fins.used + 3 * k) 3) (leb-true _ _ (every-at (room_tests x m t) h 12)));
        edge-fins = old-and-new (λ (a : Edge). length a.fins ≤ x.edge_fins) m.edges (length t.edges) (new_edge m t) r.edge-fins eighth;
        precision = r.precision;
        edge-tolerance = old-and-new (λ (a : Edge). tolerance_ok a.tolerance ≡ true) m.edges (length t.edges) (new_edge m t) r.edge-tolerance (λ k b. refl);
        vertex-tolerance = old-and-new (λ (a : Vertex). tolerance_ok a.tolerance ≡ true) m.vertices (length t.points) (new_vertex t) r.vertex-tolerance (λ k b. refl);
      }
    where
      -- "an edge's ninth fin included"
      eighth : (k : ℕ) → k < length t.edges → length (new_edge m t k).fins ≤ x.edge_fins
      eighth k b = rw (fins-length k m.fins.used t.edge_numbers) (leb-true _ _ (all_below-at (λ e. leb (count e t.edge_numbers) x.edge_fins) (length t.edges) k (every-at (room_tests x m t) h 13) b))
