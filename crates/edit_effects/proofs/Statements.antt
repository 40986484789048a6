-- The theorems of specs/Statements.antt that rest on leaves. Assumes nothing.
use Prim.Native.Nat.{ℕ}
use Rattle.std.proofs.Common.{arith}
use Rattle.std.specs.Prelude.{Bool, leb, Float}
use Rattle.std.proofs.Math.Path.{refl, ap}
use Rattle.std.proofs.Math.Bool.{true}
use mathlib.Core.List.{List, [], ◌∷◌}
use Rattle.std.proofs.Math.ListN.{replicate}
use Rattle.float_vectors.specs.declared.vector.Point3.{Point3}
use Rattle.geom_lines_planes.specs.declared.tolerance.Tolerance.{Tolerance}
use Rattle.geom_carriers.specs.declared.Carrier.{Carrier}
use Rattle.meaning.specs.Model.{Model, Body, Region, Shell, Face, Loop, Fin, Edge, Vertex}
use Rattle.meaning.specs.Edits.{tolerance_ok, inserted, edited}
use Rattle.memory_layout.specs.Names.{BODIES, REGIONS, SHELLS, FACES, LOOPS, FINS, EDGES, VERTICES, CURVES, SURFACES, AT_FIN_PCURVE}
use Rattle.memory_layout.specs.Layout.{words_of, reals_of}
use Rattle.memory_layout.specs.Decode.{list_at, office_of, decode}
use Rattle.memory_layout.specs.Readable.{record_ok}
use Rattle.memory_writes.specs.Put.{new_words}
use Rattle.memory_records.specs.declared.records.BodyKind.{BodyKind}
use Rattle.memory_records.specs.declared.records.Sense.{Sense}
use Rattle.memory_records.specs.Seen.{Ref}
use Rattle.edit_tags.specs.Tags.{mark}
use Rattle.edit_fields.specs.Fields.{body_fields, kind_fields, region_fields, shell_fields, face_fields, loop_fields, fin_fields, edge_fields, vertex_fields, carrier_fields, edge_floats, vertex_floats, carrier_floats}
use Rattle.edit_effects.specs.Meant.{meant_kind, meant_sense, meant_ref, with_bodies, with_regions, with_shells, with_faces, with_loops, with_fins, with_edges, with_vertices, with_curves, with_surfaces}
use Rattle.edit_effects.specs.Leaves.{Inserts, Sets}
use Rattle.edit_effects.specs.Read.{body-read, body_ok, kind-set, kind_ok, region-read, region-ok, shell-read, shell-ok, face-read, face-ok, loop-read, loop-ok, fin-read, fin-ok, edge-read, edge-ok, vertex-read, vertex-ok, carrier-read, carrier-long, carrier-known, marked-read, marked-ok}
use Rattle.edit_effects.specs.Laws.{edited-by, within, office-within}
use Rattle.edit_effects.proofs.Laws.{inserts, sets}

module _ (room w : List ℕ) (x : List Float) where
  -- the model that stands in the memory
  abbrev m : Model
  m = decode room w x

  -- into the office that makes it; an office above 1 is refused
  pub insert-body : (office : ℕ) (kind : BodyKind)
      → Inserts room w x (leb office 1) BODIES (body_fields kind office) []
      (with_bodies m (inserted m.bodies (record { kind = meant_kind kind; office = office_of office; regions = [] })))
  unfolding new_words list_at body_fields
  insert-body office kind =
      let r : List ℕ = replicate 19 0 in
      inserts room w x (leb office 1) 0 (body_fields kind office) [] _ (record { table = omega arith; words = omega arith; reals = refl })
      (λ o. body_ok r kind office o refl) (ap (λ (a : Body). with_bodies m (inserted m.bodies a)) (body-read r kind office))

  -- which stays with its office
  pub set_body : (ok : Bool) (i : ℕ) (kind : BodyKind)
      → Sets room w x ok BODIES i 0 (kind_fields kind) []
      (with_bodies m (edited m.bodies i (λ b. record { kind = meant_kind kind; office = b.office; regions = b.regions })))
  unfolding decode kind_fields
  set_body ok i kind =
      let r : List ℕ = words_of room w BODIES i in
      sets room w x ok 0 (kind_fields kind) [] _ i 0 (record { table = omega arith; words = omega arith; reals = refl })
      (λ _ f h _. kind_ok r kind (office-within room w x i f h) (within room w x 0 i f (omega arith) h))
      (λ _. ap (with_bodies m) (edited-by m.bodies i _ _ (kind-set r kind)))

  pub insert-region : (body : ℕ) (solid : Bool)
      → Inserts room w x true REGIONS (region_fields body solid) []
      (with_regions m (inserted m.regions (record { body = body; solid = solid; shells = [] })))
  unfolding new_words list_at region_fields
  insert-region body solid =
      let r : List ℕ = replicate 19 0 in
      inserts room w x true 1 (region_fields body solid) [] _ (record { table = omega arith; words = omega arith; reals = refl })
      (λ _. region-ok r body solid refl) (ap (λ (a : Region). with_regions m (inserted m.regions a)) (region-read r body solid))

  pub set-region : (i body : ℕ) (solid : Bool)
      → Sets room w x true REGIONS i 0 (region_fields body solid) []
      (with_regions m (edited m.regions i (λ r. record { body = body; solid = solid; shells = r.shells })))
  unfolding decode region_fields
  set-region i body solid =
      let r : List ℕ = words_of room w REGIONS i in
      sets room w x true 1 (region_fields body solid) [] _ i 0 (record { table = omega arith; words = omega arith; reals = refl })
      (λ _ f h _. region-ok r body solid (within room w x 1 i f (omega arith) h))
      (λ _. ap (with_regions m) (edited-by m.regions i _ _ (region-read r body solid)))

  pub insert-shell : (region : ℕ)
      → Inserts room w x true SHELLS (shell_fields region) []
      (with_shells m (inserted m.shells (record { region = region; faces = []; wire_edges = []; acorn_vertices = [] })))
  unfolding new_words list_at
  insert-shell region =
      let r : List ℕ = replicate 836 0 in
      inserts room w x true 2 (shell_fields region) [] _ (record { table = omega arith; words = omega arith; reals = refl })
      (λ _. shell-ok r region refl refl refl) (ap (λ (a : Shell). with_shells m (inserted m.shells a)) (shell-read r region))

  pub set-shell : (i region : ℕ)
      → Sets room w x true SHELLS i 0 (shell_fields region) []
      (with_shells m (edited m.shells i (λ s. record { region = region; faces = s.faces; wire_edges = s.wire_edges; acorn_vertices = s.acorn_vertices })))
  unfolding decode
  set-shell i region =
      let r : List ℕ = words_of room w SHELLS i in
      sets room w x true 2 (shell_fields region) [] _ i 0 (record { table = omega arith; words = omega arith; reals = refl })
      (λ _ f h _. shell-ok r region (within room w x 2 i f (omega arith) h) (within room w x 3 i f (omega arith) h) (within room w x 4 i f (omega arith) h))
      (λ _. ap (with_shells m) (edited-by m.shells i _ _ (shell-read r region)))

  pub insert-face : (front back surface : Ref) (sense : Sense)
      → Inserts room w x true FACES (face_fields front back surface sense) []
      (with_faces m (inserted m.faces (record { front = meant_ref front; back = meant_ref back; surface = meant_ref surface; sense = meant_sense sense; loops = [] })))
  unfolding new_words list_at face_fields
  insert-face front back surface sense =
      let r : List ℕ = replicate 24 0 in
      inserts room w x true 3 (face_fields front back surface sense) [] _ (record { table = omega arith; words = omega arith; reals = refl })
      (λ _. face-ok r front back surface sense refl) (ap (λ (a : Face). with_faces m (inserted m.faces a)) (face-read r front back surface sense))

  pub set-face : (i : ℕ) (front back surface : Ref) (sense : Sense)
      → Sets room w x true FACES i 0 (face_fields front back surface sense) []
      (with_faces m (edited m.faces i (λ f. record { front = meant_ref front; back = meant_ref back; surface = meant_ref surface; sense = meant_sense sense; loops = f.loops })))
  unfolding decode face_fields
  set-face i front back surface sense =
      let r : List ℕ = words_of room w FACES i in
      sets room w x true 3 (face_fields front back surface sense) [] _ i 0 (record { table = omega arith; words = omega arith; reals = refl })
      (λ _ f h _. face-ok r front back surface sense (within room w x 5 i f (omega arith) h))
      (λ _. ap (with_faces m) (edited-by m.faces i _ _ (face-read r front back surface sense)))

  pub insert-loop : (face : ℕ)
      → Inserts room w x true LOOPS (loop_fields face) []
      (with_loops m (inserted m.loops (record { face = face; fins = [] })))
  unfolding new_words list_at
  insert-loop face =
      let r : List ℕ = replicate 1026 0 in
      inserts room w x true 4 (loop_fields face) [] _ (record { table = omega arith; words = omega arith; reals = refl })
      (λ _. loop-ok r face refl) (ap (λ (a : Loop). with_loops m (inserted m.loops a)) (loop-read r face))

  pub set-loop : (i face : ℕ)
      → Sets room w x true LOOPS i 0 (loop_fields face) []
      (with_loops m (edited m.loops i (λ l. record { face = face; fins = l.fins })))
  unfolding decode
  set-loop i face =
      let r : List ℕ = words_of room w LOOPS i in
      sets room w x true 4 (loop_fields face) [] _ i 0 (record { table = omega arith; words = omega arith; reals = refl })
      (λ _ f h _. loop-ok r face (within room w x 6 i f (omega arith) h))
      (λ _. ap (with_loops m) (edited-by m.loops i _ _ (loop-read r face)))

  pub insert-fin : (owner edge : ℕ) (sense : Sense) (pcurve : Bool)
      → Inserts room w x true FINS (fin_fields owner edge sense pcurve) []
      (with_fins m (inserted m.fins (record { owner = owner; edge = edge; sense = meant_sense sense; pcurve = pcurve })))
  unfolding new_words fin_fields
  insert-fin owner edge sense pcurve =
      let r : List ℕ = replicate 4 0 in
      inserts room w x true 5 (fin_fields owner edge sense pcurve) [] _ (record { table = omega arith; words = omega arith; reals = refl })
      (λ _. fin-ok r owner edge sense pcurve) (ap (λ (a : Fin). with_fins m (inserted m.fins a)) (fin-read r owner edge sense pcurve))

  pub set-fin : (i owner edge : ℕ) (sense : Sense) (pcurve : Bool)
      → Sets room w x true FINS i 0 (fin_fields owner edge sense pcurve) []
      (with_fins m (edited m.fins i (λ _. record { owner = owner; edge = edge; sense = meant_sense sense; pcurve = pcurve })))
  unfolding decode fin_fields
  set-fin i owner edge sense pcurve =
      let r : List ℕ = words_of room w FINS i in
      sets room w x true 5 (fin_fields owner edge sense pcurve) [] _ i 0 (record { table = omega arith; words = omega arith; reals = refl })
      (λ _ _ _ _. fin-ok r owner edge sense pcurve)
      (λ _. ap (with_fins m) (edited-by m.fins i _ _ (fin-read r owner edge sense pcurve)))

  pub insert-edge : (start end curve : Ref) (t : Tolerance)
      → Inserts room w x (tolerance_ok t) EDGES (edge_fields start end curve t) (edge_floats t)
      (with_edges m (inserted m.edges (record { start = meant_ref start; end = meant_ref end; curve = meant_ref curve; tolerance = t; fins = [] })))
  unfolding new_words list_at edge_fields edge_floats
  insert-edge start end curve t =
      let r : List ℕ = replicate 16 0 in
      inserts room w x (tolerance_ok t) 6 (edge_fields start end curve t) (edge_floats t) _ (record { table = omega arith; words = omega arith; reals = refl })
      (λ e. edge-ok r start end curve t e refl) (ap (λ (a : Edge). with_edges m (inserted m.edges a)) (edge-read r start end curve t))

  pub set-edge : (i : ℕ) (start end curve : Ref) (t : Tolerance)
      → Sets room w x (tolerance_ok t) EDGES i 0 (edge_fields start end curve t) (edge_floats t)
      (with_edges m (edited m.edges i (λ e. record { start = meant_ref start; end = meant_ref end; curve = meant_ref curve; tolerance = t; fins = e.fins })))
  unfolding decode edge_fields edge_floats
  set-edge i start end curve t =
      let r : List ℕ = words_of room w EDGES i in
      sets room w x (tolerance_ok t) 6 (edge_fields start end curve t) (edge_floats t) _ i 0 (record { table = omega arith; words = omega arith; reals = refl })
      (λ e f h _. edge-ok r start end curve t e (within room w x 7 i f (omega arith) h))
      (λ _. ap (with_edges m) (edited-by m.edges i _ _ (edge-read r start end curve t)))

  pub insert-vertex : (p : Point3) (t : Tolerance)
      → Inserts room w x (tolerance_ok t) VERTICES (vertex_fields t) (vertex_floats p t)
      (with_vertices m (inserted m.vertices (record { point = p; tolerance = t })))
  unfolding new_words vertex_fields vertex_floats
  insert-vertex p t =
      let r : List ℕ = replicate 1 0 in
      inserts room w x (tolerance_ok t) 7 (vertex_fields t) (vertex_floats p t) _ (record { table = omega arith; words = omega arith; reals = refl })
      (λ e. vertex-ok r p t e) (ap (λ (a : Vertex). with_vertices m (inserted m.vertices a)) (vertex-read r p t))

  pub set-vertex : (i : ℕ) (p : Point3) (t : Tolerance)
      → Sets room w x (tolerance_ok t) VERTICES i 0 (vertex_fields t) (vertex_floats p t)
      (with_vertices m (edited m.vertices i (λ _. record { point = p; tolerance = t })))
  unfolding decode vertex_fields vertex_floats
  set-vertex i p t =
      let r : List ℕ = words_of room w VERTICES i in
      sets room w x (tolerance_ok t) 7 (vertex_fields t) (vertex_floats p t) _ i 0 (record { table = omega arith; words = omega arith; reals = refl })
      (λ e _ _ _. vertex-ok r p t e)
      (λ _. ap (with_vertices m) (edited-by m.vertices i _ _ (vertex-read r p t)))

  pub insert-curve : (c : Carrier)
      → Inserts room w x true CURVES (carrier_fields c) (carrier_floats c)
      (with_curves m (inserted m.curves c))
  unfolding new_words carrier_fields carrier_floats record_ok
  insert-curve c =
      let r : List ℕ = replicate 1 0 in
      inserts room w x true 8 (carrier_fields c) (carrier_floats c) _ (record { table = omega arith; words = omega arith; reals = carrier-long r c })
      (λ _. carrier-known r c) (ap (λ (a : Carrier). with_curves m (inserted m.curves a)) (carrier-read r c))

  pub set-curve : (i : ℕ) (c : Carrier)
      → Sets room w x true CURVES i 0 (carrier_fields c) (carrier_floats c)
      (with_curves m (edited m.curves i (λ _. c)))
  unfolding decode carrier_fields carrier_floats record_ok
  set-curve i c =
      let r : List ℕ = words_of room w CURVES i in
      sets room w x true 8 (carrier_fields c) (carrier_floats c) _ i 0 (record { table = omega arith; words = omega arith; reals = carrier-long r c })
      (λ _ _ _ _. carrier-known r c)
      (λ _. ap (with_curves m) (edited-by m.curves i _ _ (carrier-read r c)))

  pub insert-surface : (c : Carrier)
      → Inserts room w x true SURFACES (carrier_fields c) (carrier_floats c)
      (with_surfaces m (inserted m.surfaces c))
  unfolding new_words carrier_fields carrier_floats record_ok
  insert-surface c =
      let r : List ℕ = replicate 1 0 in
      inserts room w x true 9 (carrier_fields c) (carrier_floats c) _ (record { table = omega arith; words = omega arith; reals = carrier-long r c })
      (λ _. carrier-known r c) (ap (λ (a : Carrier). with_surfaces m (inserted m.surfaces a)) (carrier-read r c))

  pub set-surface : (i : ℕ) (c : Carrier)
      → Sets room w x true SURFACES i 0 (carrier_fields c) (carrier_floats c)
      (with_surfaces m (edited m.surfaces i (λ _. c)))
  unfolding decode carrier_fields carrier_floats record_ok
  set-surface i c =
      let r : List ℕ = words_of room w SURFACES i in
      sets room w x true 9 (carrier_fields c) (carrier_floats c) _ i 0 (record { table = omega arith; words = omega arith; reals = carrier-long r c })
      (λ _ _ _ _. carrier-known r c)
      (λ _. ap (with_surfaces m) (edited-by m.surfaces i _ _ (carrier-read r c)))

  -- the mark of a fin that has a pcurve
  pub set-fin-geometry : (i : ℕ)
      → Sets room w x true FINS i AT_FIN_PCURVE (mark true ∷ []) []
      (with_fins m (edited m.fins i (λ f. record { owner = f.owner; edge = f.edge; sense = f.sense; pcurve = true })))
  unfolding decode
  set-fin-geometry i =
      let r : List ℕ = words_of room w FINS i in
      sets room w x true 5 (mark true ∷ []) [] _ i 3 (record { table = omega arith; words = omega arith; reals = refl })
      (λ _ f h l. marked-ok r (reals_of room x FINS i) l (f.rows 5 i (omega arith) h))
      (λ l. ap (with_fins m) (edited-by m.fins i _ _ (marked-read r l)))
