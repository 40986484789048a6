-- "nothing of the other office's records in an answer": why walks, box and volume are refused and what is unchecked is the same whatever stands in the other's records, and of an edge that is missing or
-- the other's no more is told than the id that was asked about. Assumes nothing.
use Rattle.std.specs.Prelude.{ℕ, ◌≡◌, refl, Bool, false, length, Float}
use Rattle.std.proofs.Common.{arith, ap, ◌∙◌, le-ltb}
use Rattle.std.proofs.Math.Path.{sym, ap₂}
use Rattle.std.proofs.Math.Bool.{true}
use Rattle.std.proofs.lemmas.Bool.{false≢true}
use mathlib.Core.List.{List, [], ◌∷◌}
use Rattle.std.proofs.Math.Dec.{eqb, leb}
use Rattle.geom_lines_planes.specs.Refuse.{◌unless◌, ◌then◌}
use Rattle.meaning.specs.Lists.{joined}
use Rattle.meaning.specs.Model.{Model, Limits, Body, has}
use Rattle.meaning.specs.Refuse.{◌if◌, first_refusal}
use Rattle.meaning.specs.Walks.{face_walk, faces_refusal, edge_walk, edges_refusal, vertices_refusal}
use Rattle.meaning.specs.Inquire.{flat_face, straight_edge, require_polyhedral, is_solid, Side}
use Rattle.meaning.specs.Faults.{of_body, of_edge, CheckOptions, check_refusal}
use Rattle.meaning.specs.Offices.{office_refusal, body_for, foreign_edge, edge_for}
use Rattle.meaning_list_laws.specs.Tests.{then-zero, unless-zero}
use Rattle.meaning_isolation.specs.Reached.{Alike}
use Rattle.meaning_isolation.specs.Laws.{answered-same}
use Rattle.meaning_isolation.specs.Offices.{own, OfficeAlike}
use Rattle.meaning_isolation.specs.Asked.{there-for, own-itself}
use Rattle.meaning_isolation.proofs.Measured as Measures
use Rattle.meaning_isolation.proofs.Walked as Walks
use Rattle.meaning_stops.specs.Stops.{this, nothing, part, numbers, Row, ◌∶◌, stop_at, first_part, first_stop}
use Rattle.meaning_stops.specs.Splits.{row1, split_stops, split_stop}
use Rattle.meaning_stops.specs.Bodies.{face_parts, edge_parts, vertex_parts, flat_parts, straight_parts, faces_stops, edges_stops, vertices_stops, box_stops, volume_stops, office_stop, faces_stop, edges_stop, vertices_stop, box_stop, volume_stop}
use Rattle.meaning_stops.specs.Laws.{parts-joined}
use Rattle.meaning_stops.specs.BodyNumbers.{face-numbers, edge-numbers, vertex-numbers, flat-numbers, straight-numbers}
use Rattle.meaning_doubts.specs.Doubts.{doubts, office_doubts}
use Rattle.meaning_stop_laws.specs.Follows.{row_same, follows-none, follows-more, follows_itself}
use Rattle.meaning_stop_laws.specs.Walked.{face-parts, edge-parts, vertex-parts}
use Rattle.meaning_stop_laws.specs.Measured.{flat-parts, straight-parts, box-parts, sides-parts}
use Rattle.meaning_stop_laws.specs.Doubted.{doubts-same}

-- ---- two models that are alike from the body on, well formed or not: the same stops

pub record SameStops (m n : Model) (asked b c : ℕ) : Type 0 where
  pub faces : first_stop (faces_stops m asked b) ≡ first_stop (faces_stops n asked c)
  pub edges : first_stop (edges_stops m asked b) ≡ first_stop (edges_stops n asked c)
  pub vertices : first_stop (vertices_stops m asked b) ≡ first_stop (vertices_stops n asked c)
  pub box : first_stop (box_stops m asked b) ≡ first_stop (box_stops n asked c)
  pub volume : first_stop (volume_stops m asked b) ≡ first_stop (volume_stops n asked c)

module _ (m n : Model) (asked b : ℕ) (a : Alike m n b) where
  -- behind the row of faces
  first-row : (p q : List Row) → (faces_refusal m b ≡ 0 → first_stop p ≡ first_stop q) → first_stop ((1 ∶ face_parts m asked b) ∷ p) ≡ first_stop ((1 ∶ face_parts n asked b) ∷ q)
  first-row p q f = row_same 1 _ _ p q (face-parts m n b a asked) (λ z. f (sym (face-numbers m asked b) ∙ z))

  -- where the faces and the loops can be walked
  edges-ok : faces_refusal m b ≡ 0 → first_refusal (numbers (edge_parts m b)) ≡ 0 → edges_refusal m b ≡ 0
  unfolding edges_refusal
  edges-ok z y = ap₂ ◌then◌ z (sym (edge-numbers m b) ∙ y)

  vertices-ok : edges_refusal m b ≡ 0 → first_refusal (numbers (vertex_parts m b)) ≡ 0 → vertices_refusal m b ≡ 0
  unfolding vertices_refusal
  vertices-ok z y = ap₂ ◌then◌ z (sym (vertex-numbers m b) ∙ y)

  abbrev flat : Model → Row
  flat w = 4 ∶ joined (flat_parts w b) (face_walk w b)

  abbrev straight : Model → Row
  straight w = 5 ∶ joined (straight_parts w b) (edge_walk w b)

  polyhedral : faces_refusal m b ≡ 0 → first_refusal (numbers (flat m).parts) ≡ 0 → edges_refusal m b ≡ 0 → first_refusal (numbers (straight m).parts) ≡ 0 → require_polyhedral m b ≡ 0
  unfolding require_polyhedral
  polyhedral z y x w =
      ap₂ ◌then◌ z
      (ap₂ ◌then◌ (sym (parts-joined (flat_parts m b) (flat_face m) (face_walk m b) (flat-numbers m b)) ∙ y)
      (ap₂ ◌then◌ x (sym (parts-joined (straight_parts m b) (straight_edge m) (edge_walk m b) (straight-numbers m b)) ∙ w)))

  -- behind the rows of faces, flat faces, edges and straight edges
  straight-rows : (p q : List Row) → (edges_refusal m b ≡ 0 → require_polyhedral m b ≡ 0 → first_stop p ≡ first_stop q)
      → first_stop ((1 ∶ face_parts m asked b) ∷ flat m ∷ (2 ∶ edge_parts m b) ∷ straight m ∷ p) ≡ first_stop ((1 ∶ face_parts n asked b) ∷ flat n ∷ (2 ∶ edge_parts n b) ∷ straight n ∷ q)
  straight-rows p q f =
      first-row _ _
      (λ z. row_same 4 _ _ _ _ (flat-parts m n b a z)
      (λ y. row_same 2 _ _ _ _ (edge-parts m n b a z)
      (λ x. row_same 5 _ _ _ _ (straight-parts m n b a (edges-ok z x))
      (λ w. f (edges-ok z x) (polyhedral z y (edges-ok z x) w)))))

  pub alike-stops : SameStops m n asked b b
  unfolding faces_stops edges_stops vertices_stops box_stops volume_stops
  alike-stops =
      record {
        faces = first-row [] [] (λ _. refl);
        edges = first-row _ _ (λ z. row_same 2 _ _ [] [] (edge-parts m n b a z) (λ _. refl));
        vertices = first-row _ _ (λ z. row_same 2 _ _ _ _ (edge-parts m n b a z) (λ y. row_same 3 _ _ [] [] (vertex-parts m n b a (edges-ok z y)) (λ _. refl)));
        box = straight-rows _ _ (λ z _. row_same 3 _ _ _ _ (vertex-parts m n b a z) (λ y. row_same 6 _ _ [] [] (box-parts m n b a (vertices-ok z y)) (λ _. refl)));
        volume = straight-rows _ _
            (λ _ z. row_same 7 _ _ _ _ (follows-more _ _ [] [] (ap (λ (d : Body). part 1 (6 unless is_solid d.kind) (this of_body b) nothing) (Walks.body_same m n b a (Measures.body-there m n b a z))) (λ _. follows-none))
            (λ _. row_same 8 _ _ _ _ (sides-parts m n b a z)
            (λ _. row_same 9 _ _ [] [] (follows-more _ _ [] [] (ap (λ (l : List Side). part 1 (4 if eqb (length l) 0) (this of_body b) nothing) (Measures.sides-same m n b a z)) (λ _. follows-none)) (λ _. refl))));
      }

-- ---- an id that names no body: of it no more is told than the id that was asked about

missing-body : (m : Model) (asked b : ℕ) → has m.bodies b ≡ false → (l : List Row) → first_stop ((1 ∶ face_parts m asked b) ∷ l) ≡ stop_at 1 (part 1 2 (this of_body asked) nothing)
unfolding first_stop first_part
missing-body m asked b gone l = rw gone

gone-stops : (m n : Model) (asked b c : ℕ) → has m.bodies b ≡ false → has n.bodies c ≡ false → SameStops m n asked b c
unfolding faces_stops edges_stops vertices_stops box_stops volume_stops
gone-stops m n asked b c h g =
    record {
      faces = missing-body m asked b h _ ∙ sym (missing-body n asked c g _);
      edges = missing-body m asked b h _ ∙ sym (missing-body n asked c g _);
      vertices = missing-body m asked b h _ ∙ sym (missing-body n asked c g _);
      box = missing-body m asked b h _ ∙ sym (missing-body n asked c g _);
      volume = missing-body m asked b h _ ∙ sym (missing-body n asked c g _);
    }

-- ---- for an office: "What one office is told .. is the same whatever stands in the other's records" (W-206)

pub record ToldSame (m n : Model) (o b : ℕ) : Type 0 where
  pub faces : faces_stop m o b ≡ faces_stop n o b
  pub edges : edges_stop m o b ≡ edges_stop n o b
  pub vertices : vertices_stop m o b ≡ vertices_stop n o b
  pub box : box_stop m o b ≡ box_stop n o b
  pub volume : volume_stop m o b ≡ volume_stop n o b
  pub doubts : (c : CheckOptions) → office_doubts m o c b ≡ office_doubts n o c b

by-office : (rows : Model → ℕ → ℕ → List Row) (m n : Model) (o b : ℕ) → first_stop (rows m b (body_for m o b)) ≡ first_stop (rows n b (body_for n o b)) → office_stop rows m o b ≡ office_stop rows n o b
by-office rows m n o b e = row_same 0 _ _ (rows m b (body_for m o b)) (rows n b (body_for n o b)) (follows_itself _) (λ _. e)

module _ (m n : Model) (o : ℕ) (a : OfficeAlike m n o) (b : ℕ) where
  stops : SameStops m n b (body_for m o b) (body_for n o b)
  stops = by (own m o b) refl
    where
      by : (t : Bool) → own m o b ≡ t → SameStops m n b (body_for m o b) (body_for n o b)
      by true h = rw (own-itself m o b h, own-itself n o b (sym (a.own_same b) ∙ h)) (alike-stops m n b b (a.each b h))
      by false h = gone-stops m n b (body_for m o b) (body_for n o b) (there-for m o b ∙ h) (there-for n o b ∙ sym (a.own_same b) ∙ h)

  unchecked : (c : CheckOptions) → office_doubts m o c b ≡ office_doubts n o c b
  unfolding check_refusal
  unchecked c =
      answered-same (office_refusal o then check_refusal m c (body_for m o b)) (office_refusal o then check_refusal n c (body_for n o b)) _ _ (ap (λ (k : ℕ). office_refusal o then k) refused)
      (λ z. let there = check-there (then-zero (office_refusal o) (check_refusal m c (body_for m o b)) z).1 in
      let h : own m o b ≡ true = sym (there-for m o b) ∙ there in
      rw (own-itself m o b h, own-itself n o b (sym (a.own_same b) ∙ h)) (doubts-same m n b (a.each b h) c (sym (ap (has m.bodies) (own-itself m o b h)) ∙ there)))
    where
      check-there : check_refusal m c (body_for m o b) ≡ 0 → has m.bodies (body_for m o b) ≡ true
      check-there z = unless-zero 1 (has m.bodies (body_for m o b)) (then-zero (1 unless leb c.edge_samples 255) (2 unless has m.bodies (body_for m o b)) z).1

      refused : check_refusal m c (body_for m o b) ≡ check_refusal n c (body_for n o b)
      refused = ap (λ k. 1 unless leb c.edge_samples 255 then 2 unless k) (there-for m o b ∙ a.own_same b ∙ sym (there-for n o b))

  pub office-told : ToldSame m n o b
  unfolding faces_stop edges_stop vertices_stop box_stop volume_stop
  office-told =
      record {
        faces = by-office faces_stops m n o b stops.faces;
        edges = by-office edges_stops m n o b stops.edges;
        vertices = by-office vertices_stops m n o b stops.vertices;
        box = by-office box_stops m n o b stops.box;
        volume = by-office volume_stops m n o b stops.volume;
        doubts = unchecked;
      }

-- ---- splits: of an edge that is missing or the other's, the same is told whatever stands in the tables and however large they are

pub foreign-edge-is-missing : (m : Model) (o e : ℕ) → foreign_edge m o e ≡ true → has m.edges (edge_for m o e) ≡ false
unfolding edge_for
foreign-edge-is-missing m o e h = rw h (le-ltb m.edges.used m.edges.used (omega arith))

pub missing-edge-told : (x y : Limits) (m n : Model) (o e : ℕ) (t : Float) → has m.edges (edge_for m o e) ≡ false → has n.edges (edge_for n o e) ≡ false → split_stop x m o e t ≡ split_stop y n o e t
unfolding split_stop split_stops first_refusal
missing-edge-told x y m n o e t h g =
    row_same 0 _ _ _ _ (follows_itself _)
    (λ _. row_same 1 (row1 e t) (row1 e t) _ _ (follows_itself _)
    (λ _. row_same 2 _ _ _ _
    (follows-more _ _ [] [] (ap (λ k. part 1 (2 unless k) (this of_edge e) nothing) (h ∙ sym g)) (λ _. follows-none))
    (λ z. absurd (refused (has m.edges (edge_for m o e)) h z))))
  where
    refused : (k : Bool) → k ≡ false → (2 unless k then 0) ≡ 0 → ⊥
    refused true q z = false≢true (sym q)
    refused false q z = omega arith
