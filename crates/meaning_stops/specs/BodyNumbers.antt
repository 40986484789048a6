-- The rows of walks, box and volume refuse what the calls do. Assumes nothing.
use Prim.Native.Nat.{ℕ, zero, suc}
use Rattle.std.specs.Prelude.{◌≡◌, length, get_or}
use Rattle.std.proofs.Math.Path.{refl, sym, ap, ap₂}
use Rattle.std.proofs.Common.{◌∙◌}
use mathlib.Core.List.{List, [], ◌∷◌, map}
use Rattle.std.proofs.Math.Dec.{eqb, ltb}
use Rattle.float_vectors.specs.Space.{finite_point}
use Rattle.geom_lines_planes.specs.Refuse.{◌unless◌, ◌then◌}
use Rattle.geom_carriers.specs.Queries.{line_refusal, plane_refusal}
use Rattle.meaning.specs.Lists.{all, the, is_some}
use Rattle.meaning.specs.Model.{Model, has, body, region, face, loop, edge, point_of, curve, surface}
use Rattle.meaning.specs.Refuse.{◌if◌, first_refusal, first_of}
use Rattle.meaning.specs.Walks.{face_walk, region_followed, faces_refusal, edge_walk, loop_followed, face_followed, edges_refusal, vertex_walk, vertices_refusal}
use Rattle.meaning.specs.Inquire.{flat_face, straight_edge, require_polyhedral, box_refusal, is_solid, Side, solid_sides, outward, inward, alike, rim, start_of, start_refusal, side_refusal, sides_refusal, volume_refusal}
use Rattle.meaning.specs.Faults.{of_region, of_shell, of_loop, of_fin, of_edge, of_vertex}
use Rattle.meaning_stops.specs.Stops.{this, part, numbers, refusal_of}
use Rattle.meaning_stops.specs.Bodies.{edge_parent, vertex_parent, region_parts, face_parts, loop_parts, walked_face, edge_parts, vertex_parts, flat_parts, straight_parts, box_parts, start_parts, side_parts, sides_parts, faces_stops, edges_stops, vertices_stops, box_stops, volume_stops}
use Rattle.meaning_stops.specs.Laws.{parts-append, parts-joined, parts-mapped, unless-both, unless-all}
use Rattle.meaning_stops.specs.Numbers.{one, line-parts, plane-parts}

module _ (m : Model) where
  -- ---- the walks

  region-numbers : (b r : ℕ) → first_refusal (numbers (region_parts m b r)) ≡ 2 unless region_followed m r
  unfolding region_parts first_refusal
  region-numbers b r =
      ap (λ (n : ℕ). 2 unless has m.regions r then n)
      (parts-mapped (λ s. part 3 (2 unless has m.shells s) (this of_shell s) (this of_region r)) (region m r).shells ∙ sym (unless-all 2 (has m.shells) (region m r).shells))
      ∙ sym (unless-both 2 (has m.regions r) (all (has m.shells) (region m r).shells))

  pub face-numbers : (asked b : ℕ) → first_refusal (numbers (face_parts m asked b)) ≡ faces_refusal m b
  unfolding first_refusal faces_refusal
  face-numbers asked b =
      ap (λ (n : ℕ). 2 unless has m.bodies b then n)
      (parts-joined (region_parts m b) (λ r. 2 unless region_followed m r) (body m b).regions (region-numbers b) ∙ sym (unless-all 2 (region_followed m) (body m b).regions))
      ∙ sym (unless-both 2 (has m.bodies b) (all (region_followed m) (body m b).regions))

  loop-numbers : (f l : ℕ) → first_refusal (numbers (loop_parts m f l)) ≡ 2 unless loop_followed m l
  unfolding loop_parts first_refusal
  loop-numbers f l =
      ap (λ (n : ℕ). 2 unless has m.loops l then n)
      (parts-mapped (λ i. part 3 (2 unless has m.fins i) (this of_fin i) (this of_loop l)) (loop m l).fins ∙ sym (unless-all 2 (has m.fins) (loop m l).fins))
      ∙ sym (unless-both 2 (has m.loops l) (all (has m.fins) (loop m l).fins))

  walked-numbers : (b f : ℕ) → first_refusal (numbers (walked_face m b f)) ≡ 2 unless face_followed m f
  unfolding walked_face first_refusal
  walked-numbers b f =
      ap (λ (n : ℕ). 2 unless has m.faces f then n)
      (parts-joined (loop_parts m f) (λ l. 2 unless loop_followed m l) (face m f).loops (loop-numbers f) ∙ sym (unless-all 2 (loop_followed m) (face m f).loops))
      ∙ sym (unless-both 2 (has m.faces f) (all (loop_followed m) (face m f).loops))

  pub edge-numbers : (b : ℕ) → first_refusal (numbers (edge_parts m b)) ≡ 2 unless all (face_followed m) (face_walk m b)
  edge-numbers b = parts-joined (walked_face m b) (λ f. 2 unless face_followed m f) (face_walk m b) (walked-numbers b) ∙ sym (unless-all 2 (face_followed m) (face_walk m b))

  pub vertex-numbers : (b : ℕ) → first_refusal (numbers (vertex_parts m b)) ≡ 2 unless all (has m.edges) (edge_walk m b)
  vertex-numbers b =
      parts-mapped (λ e. part 1 (2 unless has m.edges e) (this of_edge e) (edge_parent m b e)) (edge_walk m b) ∙ sym (unless-all 2 (has m.edges) (edge_walk m b))

  -- ---- faces and edges

  pub flat-numbers : (b f : ℕ) → first_refusal (numbers (flat_parts m b f)) ≡ flat_face m f
  unfolding flat_parts flat_face first_refusal
  flat-numbers b f =
      let s : ℕ = the (face m f).surface in
      ap (λ (n : ℕ). 2 unless has m.faces f then 1 unless is_some (face m f).surface then n) (plane-parts m.surfaces s 0 ∙ one (plane_refusal (surface m s)))

  pub straight-numbers : (b e : ℕ) → first_refusal (numbers (straight_parts m b e)) ≡ straight_edge m e
  unfolding straight_parts straight_edge first_refusal
  straight-numbers b e =
      let c : ℕ = the (edge m e).curve in
      ap (λ (n : ℕ). 2 unless has m.edges e then 1 unless is_some (edge m e).curve then n) (line-parts m.curves c 0 ∙ one (line_refusal (curve m c)))

  -- ---- the box

  box-numbers : (b : ℕ) → first_refusal (numbers (box_parts m b))
      ≡ (2 unless all (has m.vertices) (vertex_walk m b) then 4 if eqb (length (vertex_walk m b)) 0 then 4 unless all (λ v. finite_point (point_of m v)) (vertex_walk m b))
  unfolding first_refusal
  box-numbers b =
      parts-append (map (λ v. part 1 (2 unless has m.vertices v) (this of_vertex v) (vertex_parent m b v)) (vertex_walk m b)) _
      ∙ ap₂ (λ (n k : ℕ). n then 4 if eqb (length (vertex_walk m b)) 0 then k)
      (parts-mapped (λ v. part 1 (2 unless has m.vertices v) (this of_vertex v) (vertex_parent m b v)) (vertex_walk m b) ∙ sym (unless-all 2 (has m.vertices) (vertex_walk m b)))
      (parts-mapped (λ v. part 3 (4 unless finite_point (point_of m v)) (this of_vertex v) (vertex_parent m b v)) (vertex_walk m b)
      ∙ sym (unless-all 4 (λ v. finite_point (point_of m v)) (vertex_walk m b)))

  -- ---- the volume

  start-numbers : (l i : ℕ) → first_refusal (numbers (start_parts m l i)) ≡ start_refusal m i
  unfolding start_parts first_refusal
  start-numbers l i = ap (λ (n : ℕ). 7 unless is_some (start_of m i) then n) (one (2 unless has m.vertices (the (start_of m i))))

  side-numbers : (s : Side) → first_refusal (numbers (side_parts m s)) ≡ side_refusal m s
  unfolding side_parts side_refusal first_refusal
  side-numbers s =
      ap (λ (n : ℕ). 1 if alike (outward m s) (inward m s) then 7 unless eqb (length (face m s.face).loops) 1 then 4 if ltb (length (rim m s.face)) 3 then n)
      (parts-joined (start_parts m (get_or (face m s.face).loops 0 0)) (start_refusal m) (rim m s.face) (start-numbers (get_or (face m s.face).loops 0 0)))

  sides-numbers : (l : List Side) → first_refusal (numbers (sides_parts m l)) ≡ sides_refusal m l
  unfolding sides_parts sides_refusal first_refusal
  sides-numbers [] = refl
  sides-numbers (s ∷ l) = parts-append (side_parts m s) (sides_parts m l) ∙ ap₂ (λ (n k : ℕ). n then k) (side-numbers s) (sides-numbers l)

  -- ---- the calls: each row once is the calls' tests, of which some walk again

  module _ (asked b : ℕ) where
    pub faces-rows : first_refusal (map refusal_of (faces_stops m asked b)) ≡ faces_refusal m b
    unfolding faces_stops refusal_of first_refusal
    faces-rows = one (first_refusal (numbers (face_parts m asked b))) ∙ face-numbers asked b

    pub edges-rows : first_refusal (map refusal_of (edges_stops m asked b)) ≡ edges_refusal m b
    unfolding edges_stops refusal_of first_refusal edges_refusal
    edges-rows = rw (face-numbers asked b, edge-numbers b, one (2 unless all (face_followed m) (face_walk m b)))

    pub vertices-rows : first_refusal (map refusal_of (vertices_stops m asked b)) ≡ vertices_refusal m b
    unfolding vertices_stops refusal_of first_refusal vertices_refusal edges_refusal
    vertices-rows =
        rw (face-numbers asked b, edge-numbers b, vertex-numbers b, one (2 unless all (has m.edges) (edge_walk m b)))
        (go (faces_refusal m b))
      where
        go : (f : ℕ) → (f then (2 unless all (face_followed m) (face_walk m b)) then 2 unless all (has m.edges) (edge_walk m b))
            ≡ ((f then 2 unless all (face_followed m) (face_walk m b)) then 2 unless all (has m.edges) (edge_walk m b))
        go zero = refl
        go (suc n) = refl

    pub box-rows : first_refusal (map refusal_of (box_stops m asked b)) ≡ box_refusal m b
    unfolding box_stops refusal_of first_refusal box_refusal require_polyhedral vertices_refusal edges_refusal
    box-rows =
        rw (
          face-numbers asked b,
          parts-joined (flat_parts m b) (flat_face m) (face_walk m b) (flat-numbers b),
          edge-numbers b,
          parts-joined (straight_parts m b) (straight_edge m) (edge_walk m b) (straight-numbers b),
          vertex-numbers b,
          box-numbers b,
        )
        (go (faces_refusal m b) (first_of (flat_face m) (face_walk m b)) (2 unless all (face_followed m) (face_walk m b)) (first_of (straight_edge m) (edge_walk m b)) (2 unless all (has m.edges) (edge_walk m b)) _)
      where
        go : (f a e s v x : ℕ) → (f then a then e then s then v then x then 0) ≡ ((f then a then (f then e) then s) then ((f then e) then v) then x)
        go (suc f) a e s v x = refl
        go zero (suc a) e s v x = refl
        go zero zero (suc e) s v x = refl
        go zero zero zero (suc s) v x = refl
        go zero zero zero zero (suc v) x = refl
        go zero zero zero zero zero x = one x

    pub volume-rows : first_refusal (map refusal_of (volume_stops m asked b)) ≡ volume_refusal m b
    unfolding volume_stops refusal_of first_refusal volume_refusal require_polyhedral edges_refusal
    volume-rows =
        rw (
          face-numbers asked b,
          parts-joined (flat_parts m b) (flat_face m) (face_walk m b) (flat-numbers b),
          edge-numbers b,
          parts-joined (straight_parts m b) (straight_edge m) (edge_walk m b) (straight-numbers b),
          sides-numbers (solid_sides m b),
        )
        (go (faces_refusal m b) (first_of (flat_face m) (face_walk m b)) (2 unless all (face_followed m) (face_walk m b)) (first_of (straight_edge m) (edge_walk m b)) (6 unless is_solid (body m b).kind) (sides_refusal m (solid_sides m b)) (4 if eqb (length (solid_sides m b)) 0))
      where
        go : (f a e s k x n : ℕ) → (f then a then e then s then (k then 0) then x then (n then 0) then 0) ≡ ((f then a then (f then e) then s) then k then x then n)
        go (suc f) a e s k x n = refl
        go zero (suc a) e s k x n = refl
        go zero zero (suc e) s k x n = refl
        go zero zero zero (suc s) k x n = refl
        go zero zero zero zero (suc k) x n = refl
        go zero zero zero zero zero (suc x) n = refl
        go zero zero zero zero zero zero zero = refl
        go zero zero zero zero zero zero (suc n) = refl
