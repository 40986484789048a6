-- The test of well-formedness passes exactly where the facts hold: `decided`, `facts-pass`. Assumes nothing.
use Rattle.std.specs.Prelude.{ℕ, ◌≤◌, ◌<◌, ◌≡◌, Bool, List, eqb, ltb}
use Rattle.std.proofs.Common.{arith}
use Rattle.std.proofs.Math.Decide.{dec_lt}
use Rattle.std.proofs.Math.Bool.{true}
use Rattle.std.proofs.Math.Dec.{leb}
use Rattle.std.proofs.Math.ListN.{length, get_or}
use borrow.Author.Tests.{ltb-true, leb-true, eqb-true, lt-ltb, eq-eqb, le-leb}
use Rattle.meaning.specs.Lists.{all_below, count}
use Rattle.meaning.specs.Model.{Model, body, region, shell, face, loop, fin, edge, vertex, Limits}
use Rattle.meaning.specs.Edits.{tolerance_ok}
use Rattle.meaning.specs.Formed.{table_tests, tables_pass, Readable, has_all, has_maybe, id_tests, ids_ok, StoredIds, bit, Listed, listed_ok, region_names, shell_names, loop_names, fin_names, face_names, fin_names_edge, loop_closes, WellFormed, wires_ok, formed_tests, well_formed}
use Rattle.meaning_list_laws.specs.Tests.{every-at, all_below-at, every-cons, every-none, all_below-all}
use Rattle.meaning_list_laws.specs.Lists.{all-at, all-counted}

wires-once : (l : List ℕ) (c : ℕ) → wires_ok l ≡ true → count c l ≤ 1
wires-once l c h =
    elim (dec_lt 0 (count c l)) [
      | yes there ↦ leb-true (count c l) 1 (all-at (λ e. leb (count e l) 1) l c h there)
      | no absent ↦ omega arith
    ]

listed-once : (n k : ℕ) (list : ℕ → List ℕ) (names : ℕ → ℕ → Bool) → listed_ok n k list names ≡ true → Listed n k list names
unfolding listed_ok
listed-once n k list names h =
    record {
      once = λ p c hp hc.
          eqb-true (count c (list p)) (bit (names c p))
          (all_below-at (λ c. eqb (count c (list p)) (bit (names c p))) k c
          (all_below-at (λ p. all_below (λ c. eqb (count c (list p)) (bit (names c p))) k) n p h hp) hc);
    }

-- a bound that holds of every record
bounds : (f : ℕ → ℕ) (limit n : ℕ) → all_below (λ i. leb (f i) limit) n ≡ true → (i : ℕ) → i < n → f i ≤ limit
bounds f limit n h i hi = leb-true (f i) limit (all_below-at (λ i. leb (f i) limit) n i h hi)

-- an id in every record
named : (f : ℕ → ℕ) (limit n : ℕ) → all_below (λ i. ltb (f i) limit) n ≡ true → (i : ℕ) → i < n → f i < limit
named f limit n h i hi = ltb-true (f i) limit (all_below-at (λ i. ltb (f i) limit) n i h hi)

module _ (x : Limits) (m : Model) where
  pub readable : tables_pass x m ≡ true → Readable x m
  unfolding tables_pass
  readable h =
      let t : (k : ℕ) → get_or (table_tests x m) k true ≡ true = every-at (table_tests x m) h in
      record {
        bodies = leb-true m.bodies.used x.bodies (t 0);
        regions = leb-true m.regions.used x.regions (t 1);
        shells = leb-true m.shells.used x.shells (t 2);
        faces = leb-true m.faces.used x.faces (t 3);
        loops = leb-true m.loops.used x.loops (t 4);
        fins = leb-true m.fins.used x.fins (t 5);
        edges = leb-true m.edges.used x.edges (t 6);
        vertices = leb-true m.vertices.used x.vertices (t 7);
        curves = leb-true m.curves.used x.curves (t 8);
        surfaces = leb-true m.surfaces.used x.surfaces (t 9);
        body-regions = bounds (λ i. length (body m i).regions) x.body_regions m.bodies.used (t 10);
        region-shells = bounds (λ i. length (region m i).shells) x.region_shells m.regions.used (t 11);
        shell-faces = bounds (λ i. length (shell m i).faces) x.shell_faces m.shells.used (t 12);
        shell-wire-edges = bounds (λ i. length (shell m i).wire_edges) x.shell_wire_edges m.shells.used (t 13);
        shell-acorn-vertices = bounds (λ i. length (shell m i).acorn_vertices) x.shell_acorn_vertices m.shells.used (t 14);
        face-loops = bounds (λ i. length (face m i).loops) x.face_loops m.faces.used (t 15);
        loop-fins = bounds (λ i. length (loop m i).fins) x.loop_fins m.loops.used (t 16);
        edge-fins = bounds (λ i. length (edge m i).fins) x.edge_fins m.edges.used (t 17);
        precision = t 18;
        edge-tolerance = λ i h. all_below-at (λ i. tolerance_ok (edge m i).tolerance) m.edges.used i (t 19) h;
        vertex-tolerance = λ i h. all_below-at (λ i. tolerance_ok (vertex m i).tolerance) m.vertices.used i (t 20) h;
      }

  pub stored-ids : ids_ok m ≡ true → StoredIds m
  unfolding ids_ok
  stored-ids h =
      let t : (k : ℕ) → get_or (id_tests m) k true ≡ true = every-at (id_tests m) h in
      record {
        body-regions = λ i h. all_below-at (λ i. has_all m.regions (body m i).regions) m.bodies.used i (t 0) h;
        region-body = named (λ i. (region m i).body) m.bodies.used m.regions.used (t 1);
        region-shells = λ i h. all_below-at (λ i. has_all m.shells (region m i).shells) m.regions.used i (t 2) h;
        shell-region = named (λ i. (shell m i).region) m.regions.used m.shells.used (t 3);
        shell-faces = λ i h. all_below-at (λ i. has_all m.faces (shell m i).faces) m.shells.used i (t 4) h;
        shell-wire-edges = λ i h. all_below-at (λ i. has_all m.edges (shell m i).wire_edges) m.shells.used i (t 5) h;
        shell-acorn-vertices = λ i h. all_below-at (λ i. has_all m.vertices (shell m i).acorn_vertices) m.shells.used i (t 6) h;
        face-front = λ i h. all_below-at (λ i. has_maybe m.shells (face m i).front) m.faces.used i (t 7) h;
        face-back = λ i h. all_below-at (λ i. has_maybe m.shells (face m i).back) m.faces.used i (t 8) h;
        face-loops = λ i h. all_below-at (λ i. has_all m.loops (face m i).loops) m.faces.used i (t 9) h;
        face-surface = λ i h. all_below-at (λ i. has_maybe m.surfaces (face m i).surface) m.faces.used i (t 10) h;
        loop-face = named (λ i. (loop m i).face) m.faces.used m.loops.used (t 11);
        loop-fins = λ i h. all_below-at (λ i. has_all m.fins (loop m i).fins) m.loops.used i (t 12) h;
        fin-owner = named (λ i. (fin m i).owner) m.loops.used m.fins.used (t 13);
        fin-edge = named (λ i. (fin m i).edge) m.edges.used m.fins.used (t 14);
        edge-fins = λ i h. all_below-at (λ i. has_all m.fins (edge m i).fins) m.edges.used i (t 15) h;
        edge-start = λ i h. all_below-at (λ i. has_maybe m.vertices (edge m i).start) m.edges.used i (t 16) h;
        edge-end = λ i h. all_below-at (λ i. has_maybe m.vertices (edge m i).end) m.edges.used i (t 17) h;
        edge-curve = λ i h. all_below-at (λ i. has_maybe m.curves (edge m i).curve) m.edges.used i (t 18) h;
      }

  pub decided : well_formed x m ≡ true → WellFormed x m
  unfolding well_formed
  decided h =
      let t : (k : ℕ) → get_or (formed_tests x m) k true ≡ true = every-at (formed_tests x m) h in
      record {
        tables = readable (t 0);
        ids = stored-ids (t 1);
        regions = listed-once m.bodies.used m.regions.used (λ b. (body m b).regions) (region_names m) (t 2);
        shells = listed-once m.regions.used m.shells.used (λ r. (region m r).shells) (shell_names m) (t 3);
        loops = listed-once m.faces.used m.loops.used (λ f. (face m f).loops) (loop_names m) (t 4);
        fins = listed-once m.loops.used m.fins.used (λ l. (loop m l).fins) (fin_names m) (t 5);
        faces = listed-once m.shells.used m.faces.used (λ s. (shell m s).faces) (face_names m) (t 6);
        edges = listed-once m.edges.used m.fins.used (λ e. (edge m e).fins) (fin_names_edge m) (t 7);
        closes = λ l h. all_below-at (λ l. loop_closes m (loop m l).fins) m.loops.used l (t 8) h;
        wires = λ s e h. wires-once (shell m s).wire_edges e (all_below-at (λ s. wires_ok (shell m s).wire_edges) m.shells.used s (t 9) h);
      }

-- ---- and the facts make the test pass

below : (f : ℕ → ℕ) (limit n : ℕ) → ((i : ℕ) → i < n → f i ≤ limit) → all_below (λ i. leb (f i) limit) n ≡ true
below f limit n h = all_below-all (λ i. leb (f i) limit) n (λ i q. le-leb (f i) limit (h i q))

names : (f : ℕ → ℕ) (limit n : ℕ) → ((i : ℕ) → i < n → f i < limit) → all_below (λ i. ltb (f i) limit) n ≡ true
names f limit n h = all_below-all (λ i. ltb (f i) limit) n (λ i q. lt-ltb (f i) limit (h i q))

once-listed : (n k : ℕ) (list : ℕ → List ℕ) (Named-by : ℕ → ℕ → Bool) → Listed n k list Named-by → listed_ok n k list Named-by ≡ true
unfolding listed_ok
once-listed n k list Named-by s =
    all_below-all (λ p. all_below (λ c. eqb (count c (list p)) (bit (Named-by c p))) k) n
    (λ p hp. all_below-all (λ c. eqb (count c (list p)) (bit (Named-by c p))) k (λ c hc. eq-eqb (count c (list p)) (bit (Named-by c p)) (s.once p c hp hc)))

module _ (x : Limits) (m : Model) where
  pub readable-passes : Readable x m → tables_pass x m ≡ true
  unfolding tables_pass
  readable-passes r = every-cons _ _ (le-leb m.bodies.used x.bodies r.bodies) (every-cons _ _ (le-leb m.regions.used x.regions r.regions) (every-cons _ _ (le-leb m.shells.used x.shells r.shells) (every-cons _ _ (le-leb m.faces.used x.faces r.faces) (every-cons _ _ (le-leb m.loops.used x.loops r.loops) (every-cons _ _ (le-leb m.fins.used x.fins r.fins) (every-cons _ _ (le-leb m.edges.used x.edges r.edges) (every-cons _ _ (le-leb m.vertices.used x.vertices r.vertices) (every-cons _ _ (le-leb m.curves.used x.curves r.curves) (every-cons _ _ (le-leb m.surfaces.used x.surfaces r.surfaces) (every-cons _ _ (below (λ i. length (body m i).regions) x.body_regions m.bodies.used r.body-regions) (every-cons _ _ (below (λ i. length (region m i).shells) x.region_shells m.regions.used r.region-shells) (every-cons _ _ (below (λ i. length (shell m i).faces) x.shell_faces m.shells.used r.shell-faces) (every-cons _ _ (below (λ i. length (shell m i).wire_edges) x.shell_wire_edges m.shells.used r.shell-wire-edges) (every-cons _ _ (below (λ i. length (shell m i).acorn_vertices) x.shell_acorn_vertices m.shells.used r.shell-acorn-vertices) (every-cons _ _ (below (λ i. length (face m i).loops) x.face_loops m.faces.used r.face-loops) (every-cons _ _ (below (λ i. length (loop m i).fins) x.loop_fins m.loops.used r.loop-fins) (every-cons _ _ (below (λ i. length (edge m i).fins) x.edge_fins m.edges.used r.edge-fins) (every-cons _ _ r.precision (every-cons _ _ (all_below-all (λ i. tolerance_ok (edge m i).tolerance) m.edges.used r.edge-tolerance) (every-cons _ _ (all_below-all (λ i. tolerance_ok (vertex m i).tolerance) m.vertices.used r.vertex-tolerance) (every-none)))))))))))))))))))))

  pub stored-ids-pass : StoredIds m → ids_ok m ≡ true
  unfolding ids_ok
  stored-ids-pass r = every-cons _ _ (all_below-all (λ i. has_all m.regions (body m i).regions) m.bodies.used r.body-regions) (every-cons _ _ (names (λ i. (region m i).body) m.bodies.used m.regions.used r.region-body) (every-cons _ _ (all_below-all (λ i. has_all m.shells (region m i).shells) m.regions.used r.region-shells) (every-cons _ _ (names (λ i. (shell m i).region) m.regions.used m.shells.used r.shell-region) (every-cons _ _ (all_below-all (λ i. has_all m.faces (shell m i).faces) m.shells.used r.shell-faces) (every-cons _ _ (all_below-all (λ i. has_all m.edges (shell m i).wire_edges) m.shells.used r.shell-wire-edges) (every-cons _ _ (all_below-all (λ i. has_all m.vertices (shell m i).acorn_vertices) m.shells.used r.shell-acorn-vertices) (every-cons _ _ (all_below-all (λ i. has_maybe m.shells (face m i).front) m.faces.used r.face-front) (every-cons _ _ (all_below-all (λ i. has_maybe m.shells (face m i).back) m.faces.used r.face-back) (every-cons _ _ (all_below-all (λ i. has_all m.loops (face m i).loops) m.faces.used r.face-loops) (every-cons _ _ (all_below-all (λ i. has_maybe m.surfaces (face m i).surface) m.faces.used r.face-surface) (every-cons _ _ (names (λ i. (loop m i).face) m.faces.used m.loops.used r.loop-face) (every-cons _ _ (all_below-all (λ i. has_all m.fins (loop m i).fins) m.loops.used r.loop-fins) (every-cons _ _ (names (λ i. (fin m i).owner) m.loops.used m.fins.used r.fin-owner) (every-cons _ _ (names (λ i. (fin m i).edge) m.edges.used m.fins.used r.fin-edge) (every-cons _ _ (all_below-all (λ i. has_all m.fins (edge m i).fins) m.edges.used r.edge-fins) (every-cons _ _ (all_below-all (λ i. has_maybe m.vertices (edge m i).start) m.edges.used r.edge-start) (every-cons _ _ (all_below-all (λ i. has_maybe m.vertices (edge m i).end) m.edges.used r.edge-end) (every-cons _ _ (all_below-all (λ i. has_maybe m.curves (edge m i).curve) m.edges.used r.edge-curve) (every-none)))))))))))))))))))

  pub facts-pass : WellFormed x m → well_formed x m ≡ true
  unfolding well_formed
  facts-pass w = every-cons _ _ (readable-passes w.tables) (every-cons _ _ (stored-ids-pass w.ids) (every-cons _ _ (once-listed m.bodies.used m.regions.used (λ b. (body m b).regions) (region_names m) w.regions) (every-cons _ _ (once-listed m.regions.used m.shells.used (λ r. (region m r).shells) (shell_names m) w.shells) (every-cons _ _ (once-listed m.faces.used m.loops.used (λ f. (face m f).loops) (loop_names m) w.loops) (every-cons _ _ (once-listed m.loops.used m.fins.used (λ l. (loop m l).fins) (fin_names m) w.fins) (every-cons _ _ (once-listed m.shells.used m.faces.used (λ s. (shell m s).faces) (face_names m) w.faces) (every-cons _ _ (once-listed m.edges.used m.fins.used (λ e. (edge m e).fins) (fin_names_edge m) w.edges) (every-cons _ _ (all_below-all (λ l. loop_closes m (loop m l).fins) m.loops.used w.closes) (every-cons _ _ (all_below-all (λ s. wires_ok (shell m s).wire_edges) m.shells.used (λ s h. all-counted (λ e. leb (count e (shell m s).wire_edges) 1) (shell m s).wire_edges (λ e q. le-leb (count e (shell m s).wire_edges) 1 (w.wires s e h)))) (every-none))))))))))
