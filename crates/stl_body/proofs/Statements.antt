-- What holds of a reading as a whole (W-210). Assumes nothing.
use Prim.Native.Nat.{ℕ, zero, suc}
use Rattle.std.specs.Prelude.{◌≡◌, true, List, ◌++◌, map, length, drop}
use Rattle.std.proofs.Math.Path.{refl}
use Rattle.std.proofs.Common.{ap, ◌∙◌}
use Rattle.geom_lines_planes.specs.Refuse.{◌unless◌, ◌then◌}
use Rattle.meaning.specs.Lists.{run}
use Rattle.meaning.specs.Model.{Model, Limits}
use Rattle.meaning.specs.Refuse.{refused, answered}
use Rattle.meaning.specs.Faults.{fault, manifold_edges, findings}
use Rattle.meaning.specs.Formed.{Readable}
use Rattle.meaning.specs.Offices.{office_refusal}
use Rattle.meaning.specs.Split.{where_accepted}
use Rattle.memory_layout.specs.Decode.{office_of}
use Rattle.meaning_list_laws.specs.Tests.{then-zero, unless-zero}
use Rattle.stl_body.specs.Read.{triangles_in, count_in, stl_triangles, length_fits, corners, mesh_of, built, after_read, all_finite, all_apart, has_room, triangles_refusal, read_refusal, read_stl, model_after_read}
use Rattle.stl_body.proofs.Meshes.{mesh-ranged}
use Rattle.stl_body.specs.Records.{Grown}
use Rattle.stl_body.proofs.Records.{built-grown}
use Rattle.stl_body.proofs.Room.{room-kept}
use Rattle.stl_body.specs.Sound.{topology}
use Rattle.stl_body.proofs.Sound.{read-findings}
use Rattle.stl_body.specs.Statements.{Accepted}

pub triangles-length : (n : ℕ) (s : List ℕ) → length (triangles_in n s) ≡ n
unfolding triangles_in
triangles-length zero s = refl
triangles-length (suc n) s = ap suc (triangles-length n (drop 50 s))

module _ (x : Limits) (m : Model) (o : ℕ) (s : List ℕ) where
  pub accepted : read_refusal x m o s ≡ 0 → Accepted x m o s
  unfolding read_refusal triangles_refusal
  accepted h =
      let l = stl_triangles s in
      let a = then-zero (9 unless length_fits s) (office_refusal o then triangles_refusal x m l) h in
      let b = then-zero (office_refusal o) (triangles_refusal x m l) a.1 in
      let c = then-zero (5 unless all_finite (corners l)) (1 unless all_apart l then 8 unless has_room x m (mesh_of l)) b.1 in
      let d = then-zero (1 unless all_apart l) (8 unless has_room x m (mesh_of l)) c.1 in
      record {
        long = unless-zero 8 (length_fits s) a.0;
        office = b.0;
        finite = unless-zero 4 (all_finite (corners l)) c.0;
        apart = unless-zero 0 (all_apart l) d.0;
        room = unless-zero 7 (has_room x m (mesh_of l)) d.1;
      }

  -- 01, "A refusal .. alters no table, list or fault entry"
  pub refused-keeps : (n : ℕ) → read_stl x m o s ≡ refused n → model_after_read x m o s ≡ m
  unfolding model_after_read
  refused-keeps n h = by (read_refusal x m o s) h
    where
      by : (k : ℕ) → answered {A = ℕ} k m.bodies.used ≡ refused n → where_accepted k m (after_read m o s) ≡ m
      by zero e = cc
      by (suc k) e = refl

  pub accepted-is : read_refusal x m o s ≡ 0 → model_after_read x m o s ≡ built m (office_of o) (mesh_of (stl_triangles s))
  unfolding model_after_read after_read
  accepted-is h = rw h

  -- "a face for each triangle": behind an accepted reading the checker finds each face's missing surface, and what the edges' fins show it
  pub read-report : read_refusal x m o s ≡ 0
      → findings (model_after_read x m o s) topology m.bodies.used ≡ map (fault 9) (run m.faces.used (count_in s)) ++ manifold_edges (model_after_read x m o s) m.bodies.used
  read-report h =
      let a = accepted h in
      rw (accepted-is h)
      (read-findings m (office_of o) (mesh_of (stl_triangles s)) (mesh-ranged (stl_triangles s) a.finite)
      ∙ ap (λ n. map (fault 9) (run m.faces.used n) ++ manifold_edges (built m (office_of o) (mesh_of (stl_triangles s))) m.bodies.used) how-many)
    where
      how-many : (mesh_of (stl_triangles s)).triangles ≡ count_in s
      how-many = unfold mesh_of stl_triangles in triangles-length (count_in s) (drop 84 s)

  -- every record of before stands, and tables that pass the test of refusal 9 pass it behind the call, accepted or not
  pub read-grown : read_refusal x m o s ≡ 0 → Grown m (model_after_read x m o s)
  read-grown h = rw (accepted-is h) (built-grown m (office_of o) (mesh_of (stl_triangles s)))

  pub read-readable : Readable x m → Readable x (model_after_read x m o s)
  unfolding model_after_read after_read
  read-readable r = by (read_refusal x m o s) refl
    where
      by : (k : ℕ) → read_refusal x m o s ≡ k → Readable x (where_accepted k m (built m (office_of o) (mesh_of (stl_triangles s))))
      by zero e = room-kept x m (office_of o) (mesh_of (stl_triangles s)) (accepted e).room r
      by (suc k) e = r
