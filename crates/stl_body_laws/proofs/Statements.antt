-- What holds of the body that an accepted reading builds (W-210): its walks, its report, its triangles as W-209 writes them; and that the model stays well formed. Assumes nothing.
use Rattle.std.specs.Prelude.{ℕ, zero, suc, ◌+◌, ◌^◌, ◌≤◌, ◌<◌, ◌≡◌, drop}
use Rattle.std.proofs.Common.{arith, sym, ap, ◌∙◌, length-append}
use Rattle.std.proofs.Math.Path.{refl}
use Rattle.std.proofs.Math.Bool.{true}
use mathlib.Core.List.{List, [], ◌∷◌, ◌++◌, map}
use Rattle.std.proofs.Math.Option.{Option}
use Rattle.std.proofs.Math.Dec.{eqb}
use Rattle.std.proofs.Math.ListN.{length}
use borrow.Author.Tests.{eqb-true}
use Rattle.geom_carriers.specs.declared.Carrier.{Carrier}
use Rattle.meaning.specs.Lists.{run, count, is_some}
use Rattle.meaning.specs.Model.{Model, Limits, Table}
use Rattle.meaning.specs.Refuse.{given}
use Rattle.meaning.specs.Walks.{body_faces, body_edges, body_vertices}
use Rattle.meaning.specs.Faults.{Finding, fault, faults_of, findings, report_of}
use Rattle.meaning.specs.Inquire.{flat_face, straight_edge, solid_sides}
use Rattle.meaning.specs.Split.{where_accepted}
use Rattle.meaning.specs.Formed.{has_maybe, topological_report, empty_report, WellFormed}
use Rattle.memory_layout.specs.Decode.{office_of}
use Rattle.meaning_list_laws.specs.Tests.{both_ways}
use Rattle.stl_format.specs.Stl.{Triangle, triangles_of, stl_of, body_stl, stl_refusal}
use Rattle.stl_body.specs.Read.{count_in, stl_triangles, corners, Mesh, mesh_of, built, after_read, read_refusal, model_after_read}
use Rattle.stl_body.specs.Laws.{holds}
use Rattle.stl_body.proofs.Meshes.{mesh-ranged}
use Rattle.stl_body.specs.Sound.{topology}
use Rattle.stl_body.proofs.Statements.{triangles-length, accepted, accepted-is}
use Rattle.stl_body_laws.specs.Terms.{closed_surface, edge_shown, edges_shown, read_report, dressed, stored_triangle, same_triangles, plain_point}
use Rattle.stl_body_laws.specs.Walked.{Proper, mesh-proper, faces-walked, edges-walked, faces-followed, edges-followed, vertices-followed}
use Rattle.stl_body_laws.specs.Vertices.{vertices-walked}
use Rattle.stl_body_laws.proofs.Uses.{fins-are-uses, report-is}
use Rattle.stl_body_laws.proofs.Closed.{edge-otherwise, closed-quiet, quiet-closed, closed-report}
use Rattle.stl_body_laws.proofs.Round.{set-findings, written, stored-by-value}
use Rattle.stl_body_laws.proofs.Formed.{formed-kept}
use Rattle.stl_body_laws.specs.Kept.{dressed-formed}
use Rattle.stl_body_laws.proofs.Zeros.{read_fits, stored-as-read}
use Rattle.stl_body_laws.proofs.Writing.{write-accepted, vertices-narrow}
use Rattle.stl_body_laws.specs.Again.{reads-back}

-- nothing behind a list that is the whole
nothing-behind : {A : Type 0} (k l : List A) → k ++ l ≡ k → l ≡ []
nothing-behind k [] h = refl
nothing-behind k (a ∷ l) h = let z : length (k ++ (a ∷ l)) ≡ length k = ap length h in let y = length-append k (a ∷ l) in absurd (omega arith)

-- ---- any reading, accepted or not

pub stays-formed : (x : Limits) (m : Model) (o : ℕ) (s : List ℕ) → WellFormed x m → WellFormed x (model_after_read x m o s)
unfolding model_after_read after_read
stays-formed x m o s w = by (read_refusal x m o s) refl
  where
    by : (k : ℕ) → read_refusal x m o s ≡ k → WellFormed x (where_accepted k m (built m (office_of o) (mesh_of (stl_triangles s))))
    by zero e = let a = accepted x m o s e in formed-kept m (office_of o) (mesh_of (stl_triangles s)) (mesh-ranged (stl_triangles s) a.finite) x w a.room
    by (suc k) e = w

-- ---- an accepted reading

module _ (x : Limits) (m : Model) (o : ℕ) (s : List ℕ) (h : read_refusal x m o s ≡ 0) where
  abbrev read : List Triangle
  read = stl_triangles s

  abbrev mesh : Mesh
  mesh = mesh_of read

  abbrev now : Model
  now = model_after_read x m o s

  abbrev new : ℕ
  new = m.bodies.used

  proper : Proper mesh
  proper = let a = accepted x m o s h in mesh-proper read a.finite a.apart

  how-many : mesh.triangles ≡ count_in s
  how-many = unfold mesh_of stl_triangles in triangles-length (count_in s) (drop 84 s)

  -- "Records are made in the order met": the three walks list the new ids in this order
  pub faces-in-order : body_faces now new ≡ given (run m.faces.used (count_in s))
  faces-in-order = rw (accepted-is x m o s h, faces-followed m (office_of o) mesh, faces-walked m (office_of o) mesh, how-many)

  pub edges-in-order : body_edges now new ≡ given (run m.edges.used (length mesh.edges))
  edges-in-order = rw (accepted-is x m o s h, edges-followed m (office_of o) mesh, edges-walked m (office_of o) mesh proper)

  pub vertices-in-order : body_vertices now new ≡ given (run m.vertices.used (length mesh.points))
  vertices-in-order = rw (accepted-is x m o s h, vertices-followed m (office_of o) mesh proper, vertices-walked m (office_of o) read (accepted x m o s h).finite proper)

  -- the whole topological report: reason 9 for each face, then what each edge's uses show; "nothing else is hidden"
  pub whole-report : findings now topology new ≡ read_report m mesh
  whole-report = rw (accepted-is x m o s h) (report-is m (office_of o) mesh proper)

  -- "An edge used once or thrice is left to the checker": reason 19 stands in the report at the edge's place, where its fins are not two
  pub once-or-thrice : (k : ℕ) → k < length mesh.edges → (count k mesh.edge_numbers ≡ 2 → ⊥) → edge_shown m mesh k ≡ fault 19 (m.edges.used + k) ∷ []
  once-or-thrice k b other = edge-otherwise m mesh k (λ q. other (fins-are-uses m (office_of o) mesh proper k b ∙ q))

  -- "a closed surface (every unordered pair used twice, once in each direction)": reason 9 for each face, and only that; and only then
  pub closed-only-nine : closed_surface mesh ≡ true → findings now topology new ≡ map (fault 9) (run m.faces.used (count_in s))
  closed-only-nine c = whole-report ∙ closed-report m mesh proper c ∙ ap (λ n. map (fault 9) (run m.faces.used n)) how-many

  pub only-nine-closed : findings now topology new ≡ map (fault 9) (run m.faces.used (count_in s)) → closed_surface mesh ≡ true
  only-nine-closed f = quiet-closed m mesh proper (ap (λ l. length (faults_of l)) (nothing-behind nines (edges_shown m mesh) none-behind) ∙ (unfold faults_of in refl))
    where
      nines : List Finding
      nines = map (fault 9) (run m.faces.used mesh.triangles)

      none-behind : nines ++ edges_shown m mesh ≡ nines
      none-behind = told ∙ sym whole-report ∙ f ∙ ap (λ n. map (fault 9) (run m.faces.used n)) (sym how-many)
        where
          told : nines ++ edges_shown m mesh ≡ read_report m mesh
          told = unfold read_report in refl

  -- ---- surfaces and curves set

  module _ (curves surfaces : Table Carrier) (along on : ℕ → Option ℕ) where
    abbrev set : Model
    set = dressed now curves surfaces along on

    as-built : set ≡ dressed (built m (office_of o) mesh) curves surfaces along on
    as-built = ap (λ n. dressed n curves surfaces along on) (accepted-is x m o s h)

    -- where each new face has a surface, what the edges' uses show is all that is found
    pub report-set : ((k : ℕ) → k < count_in s → is_some (on (m.faces.used + k)) ≡ true) → findings set topology new ≡ edges_shown m mesh
    report-set a = ap (λ n. findings n topology new) as-built ∙ set-findings m (office_of o) mesh proper curves surfaces along on (λ k b. a k (rw how-many at b))

    -- and so the topological report is empty just where the surface is closed
    pub empty-is-closed : ((k : ℕ) → k < count_in s → is_some (on (m.faces.used + k)) ≡ true) → empty_report (topological_report set new) ≡ closed_surface mesh
    unfolding report_of
    empty-is-closed a = both_ways (eqb (length (faults_of (findings set topology new))) 0) (closed_surface mesh) there back
      where
        there : eqb (length (faults_of (findings set topology new))) 0 ≡ true → closed_surface mesh ≡ true
        there e =
            quiet-closed m mesh proper (ap (λ l. length (faults_of l)) (sym (report-set a)) ∙ eqb-true (length (faults_of (findings set topology new))) 0 e)

        back : closed_surface mesh ≡ true → eqb (length (faults_of (findings set topology new))) 0 ≡ true
        back c = ap (λ l. eqb (length (faults_of l)) 0) (report-set a ∙ closed-quiet m mesh proper c) ∙ (unfold faults_of in refl)

    -- ---- W-209's triangles of it

    -- those read, in their order, each from its first corner, each corner as it was first met
    pub written-as-stored : triangles_of set (solid_sides set new) ≡ map (stored_triangle mesh.points) read
    written-as-stored = ap (λ n. triangles_of n (solid_sides n new)) as-built ∙ written m (office_of o) read proper curves surfaces along on

    -- corner by corner equal to those read, both zeros counting as equal
    pub written_same : same_triangles read (triangles_of set (solid_sides set new)) ≡ true
    written_same = ap (same_triangles read) written-as-stored ∙ stored-by-value read (accepted x m o s h).finite

    -- and the very same where no coordinate read is the zero below zero
    pub written-exactly : holds plain_point (corners read) ≡ true → triangles_of set (solid_sides set new) ≡ read
    written-exactly g = written-as-stored ∙ stored-as-read read (accepted x m o s h).finite (read_fits s) g

    -- "where planes were set": each face on a plane, each edge on a line, and one triangle at least. Then it can be written
    pub can-be-written : 0 < count_in s → ((k : ℕ) → k < count_in s → flat_face set (m.faces.used + k) ≡ 0) → ((k : ℕ) → k < length mesh.edges → straight_edge set (m.edges.used + k) ≡ 0)
        → stl_refusal set new ≡ 0
    can-be-written some-face flat straight =
        ap (λ n. stl_refusal n new) as-built
        ∙ write-accepted m (office_of o) mesh proper curves surfaces along on (rw how-many some-face)
        (record { flat = λ k b. ap (λ n. flat_face n (m.faces.used + k)) (sym as-built) ∙ flat k (rw how-many at b); straight = λ k b. ap (λ n. straight_edge n (m.edges.used + k)) (sym as-built) ∙ straight k b })
        (vertices-narrow read (read_fits s) (accepted x m o s h).finite)

    -- "read what was written gives a body with the same triangles, vertices by value": any body's triangles, as W-209 writes them
    pub read_again : (k : Model) (c : ℕ) → stl_refusal k c ≡ 0 → length (triangles_of k (solid_sides k c)) < 2 ^ 32 → s ≡ body_stl k c
        → same_triangles (triangles_of k (solid_sides k c)) (triangles_of set (solid_sides set new)) ≡ true
    read_again k c w few e = ap (λ l. same_triangles l (triangles_of set (solid_sides set new))) (sym (ap stl_triangles e ∙ reads-back k c w few)) ∙ written_same
