-- A movable body's sides, moved: each gains what its fins add, and the body gains what all of them add, which is nothing. Assumes nothing.
use Rattle.std.specs.Prelude.{ℕ, ◌+◌, ◌-◌, ◌≡◌, Bool, false, not, ◌&&◌, eqb, length, ℤ, ◌+ℤ◌}
use Rattle.std.proofs.Common.{arith, ◌∙◌}
use Rattle.std.proofs.Math.Path.{refl, sym, ap, ap₂}
use Rattle.std.proofs.Math.Bool.{true, cond}
use mathlib.Core.List.{List, [], ◌∷◌, ◌++◌, map}
use Rattle.std.proofs.Math.Option.{Option}
use Rattle.std.proofs.Math.IntN.{+ℤ_idl, +ℤ_idr, +ℤ_assoc}
use Rattle.float_values.specs.Laws.Integers.{sum-parts, same_parts}
use Rattle.float_vectors.specs.declared.vector.Point3.{Point3}
use Rattle.geom_lines_planes.specs.Refuse.{◌then◌}
use Rattle.meaning.specs.Refuse.{◌if◌}
use Rattle.meaning.specs.Lists.{member, joined, listed, the, is_some, is}
use Rattle.meaning.specs.Model.{Model, Limits, Edge, Sense, positive, negative, changed, body, shell, face, fin, edge, point_of}
use Rattle.meaning.specs.Walks.{face_walk, faces_refusal, edge_walk, edges_refusal, vertex_walk, edge_vertices, directed, ends_of}
use Rattle.meaning.specs.Faults.{meets_next}
use Rattle.meaning.specs.Inquire.{flat_face, straight_edge, require_polyhedral, Side, solid_sides, rim, start_of, side_refusal, sides_refusal, volume_refusal}
use Rattle.meaning.specs.Formed.{closed, loop_closes}
use Rattle.meaning_list_laws.specs.Tests.{and_both, same_true}
use Rattle.meaning_list_laws.specs.Lists.{member-head, member-tail, all-member}
use Rattle.meaning_isolation.specs.Laws.{in-front, behind, the-listed}
use Rattle.meaning_sheets.specs.Sheets.{Corner, corner, side_points, whole_side, whole_sum, grid_point, grid_points, grid_sides, triangles}
use Rattle.meaning_shift.specs.Corners.{plus_c, lever, chain, around}
use Rattle.meaning_shift.specs.Sums.{sum_over, sum-append}
use Rattle.meaning_shift.specs.Moving.{Movable, placed, Shifted}
use Rattle.meaning_shift.specs.Met.{end-walked}
use Rattle.meaning_shift.specs.Fins.{edge-walked}
use Rattle.meaning_shift.specs.Exchange.{start_corner, end_corner, fin_lever}

both_true : (a b : Bool) → a ≡ true → b ≡ true → (a && b) ≡ true
both_true a b p q = rw (p, q)

-- ---- once around a loop that closes

abbrev pub start_point : Model → ℕ → Point3
start_point m i = point_of m (the (start_of m i))

module _ (m : Model) (t : Corner) where
  next-corner : (i j : ℕ) → meets_next m i j ≡ true → start_corner m j ≡ end_corner m i
  next-corner i j h = ap (λ (o : Option ℕ). corner (point_of m (the o))) (sym (same_true (ends_of m i).end (ends_of m j).start h))

  chain-sum : (j i : ℕ) (k : List ℕ) → closed m (i ∷ k) (k ++ (j ∷ [])) ≡ true
      → chain t (start_corner m j) (start_corner m i) (map corner (map (start_point m) k)) ≡ sum_over (fin_lever m t) (i ∷ k)
  unfolding closed chain sum_over fin_lever
  chain-sum j i [] h =
      ap (lever t (start_corner m i)) (next-corner i j (and_both (meets_next m i j) true h).0) ∙ sym (+ℤ_idr (lever t (start_corner m i) (end_corner m i)))
  chain-sum j i (n ∷ k) h =
      let both = and_both (meets_next m i n) (closed m (n ∷ k) (k ++ (j ∷ []))) h in
      ap₂ (λ (y : ℤ) (z : ℤ). y +ℤ z) (ap (lever t (start_corner m i)) (next-corner i n both.0)) (chain-sum j n k both.1)

  pub around-sum : (l : List ℕ) → loop_closes m l ≡ true → around t (map corner (map (start_point m) l)) ≡ sum_over (fin_lever m t) l
  unfolding loop_closes around sum_over
  around-sum [] h = refl
  around-sum (i ∷ k) h = chain-sum i i k (and_both (not (eqb (length (i ∷ k)) 0)) (closed m (i ∷ k) (k ++ (i ∷ []))) h).1

-- ---- a list of points, moved

pub points-moved : (t : Corner) (g h : ℕ → Point3) (l : List ℕ) → ((i : ℕ) → member i l ≡ true → corner (h i) ≡ plus_c (corner (g i)) t)
    → map corner (map h l) ≡ map (λ c. plus_c c t) (map corner (map g l))
points-moved t g h [] e = refl
points-moved t g h (i ∷ l) e =
    ap₂ (λ (c : Corner) (k : List Corner). c ∷ k) (e i (member-head i l)) (points-moved t g h l (λ j q. e j (member-tail j i l q)))

pub points-on-grid : (g : ℕ → Point3) (l : List ℕ) → ((i : ℕ) → member i l ≡ true → grid_point (g i) ≡ true) → grid_points (map g l) ≡ true
unfolding grid_points
points-on-grid g [] e = refl
points-on-grid g (i ∷ l) e = both_true (grid_point (g i)) (grid_points (map g l)) (e i (member-head i l)) (points-on-grid g l (λ j q. e j (member-tail j i l q)))

-- the start of an edge in a fin's direction is one of its vertices
start-vertex : (s : Sense) (d : Edge) → is_some d.start ≡ true → is_some d.end ≡ true → member (the (directed s d).start) (edge_vertices d) ≡ true
start-vertex positive d p q = in-front (the d.start) (listed d.start) (listed d.end) (the-listed d.start p)
start-vertex negative d p q = behind (the d.end) (listed d.start) (listed d.end) (the-listed d.end q)

-- ---- sums over sides

gather : (a b c d : ℤ) → (a +ℤ b) +ℤ (c +ℤ d) ≡ (a +ℤ c) +ℤ (b +ℤ d)
gather a b c d =
    same_parts ((a +ℤ b) +ℤ (c +ℤ d)) ((a +ℤ c) +ℤ (b +ℤ d))
    (omega (arith, sum-parts a b, sum-parts c d, sum-parts (a +ℤ b) (c +ℤ d), sum-parts a c, sum-parts b d, sum-parts (a +ℤ c) (b +ℤ d)))

-- the side s, on the grid in both models, has gained from m to n what the fins k add; and so the sides l
pub record SideGains (m n : Model) (t : Corner) (s : Side) (k : List ℕ) : Type 0 where
  pub sum : whole_side n s ≡ whole_side m s +ℤ sum_over (fin_lever m t) k
  pub before : grid_points (side_points m s) ≡ true
  pub after : grid_points (side_points n s) ≡ true

pub record Gains (m n : Model) (t : Corner) (l : List Side) (k : List ℕ) : Type 0 where
  pub sum : whole_sum n l ≡ whole_sum m l +ℤ sum_over (fin_lever m t) k
  pub before : grid_sides m l ≡ true
  pub after : grid_sides n l ≡ true

module _ (m n : Model) (t : Corner) where
  sum-sides : (p : Model) (k l : List Side) → whole_sum p (k ++ l) ≡ whole_sum p k +ℤ whole_sum p l
  unfolding whole_sum
  sum-sides p [] l = sym (+ℤ_idl (whole_sum p l))
  sum-sides p (s ∷ k) l = ap (λ (z : ℤ). whole_side p s +ℤ z) (sum-sides p k l) ∙ sym (+ℤ_assoc (whole_side p s) (whole_sum p k) (whole_sum p l))

  grid-sides : (p : Model) (k l : List Side) → grid_sides p k ≡ true → grid_sides p l ≡ true → grid_sides p (k ++ l) ≡ true
  unfolding grid_sides
  grid-sides p [] l g h = h
  grid-sides p (s ∷ k) l g h =
      let both = and_both (grid_points (side_points p s)) (grid_sides p k) g in
      both_true (grid_points (side_points p s)) (grid_sides p (k ++ l)) both.0 (grid-sides p k l both.1 h)

  gains-none : Gains m n t [] []
  unfolding whole_sum sum_over grid_sides
  gains-none = record { sum = refl; before = refl; after = refl }

  gains-both : (k l : List Side) (i j : List ℕ) → Gains m n t k i → Gains m n t l j → Gains m n t (k ++ l) (i ++ j)
  gains-both k l i j g h =
      record {
        sum =
            sum-sides n k l
            ∙ ap₂ (λ (y : ℤ) (z : ℤ). y +ℤ z) g.sum h.sum
            ∙ gather (whole_sum m k) (sum_over (fin_lever m t) i) (whole_sum m l) (sum_over (fin_lever m t) j)
            ∙ ap₂ (λ (y : ℤ) (z : ℤ). y +ℤ z) (sym (sum-sides m k l)) (sym (sum-append (fin_lever m t) i j));
        before = grid-sides m k l g.before h.before;
        after = grid-sides n k l g.after h.after;
      }

  pub gains-joined : (g : ℕ → List Side) (h : ℕ → List ℕ) (l : List ℕ) → ((y : ℕ) → member y l ≡ true → Gains m n t (g y) (h y)) → Gains m n t (joined g l) (joined h l)
  unfolding joined
  gains-joined g h [] e = gains-none
  gains-joined g h (y ∷ l) e = gains-both (g y) (joined g l) (h y) (joined h l) (e y (member-head y l)) (gains-joined g h l (λ z q. e z (member-tail z y l q)))

  pub gains-if : (b : Bool) (l : List Side) (k : List ℕ) → (b ≡ true → Gains m n t l k) → Gains m n t (cond b l []) (cond b k [])
  gains-if true l k h = h refl
  gains-if false l k h = gains-none

  gains-one : (s : Side) (k : List ℕ) → SideGains m n t s k → Gains m n t (s ∷ []) k
  unfolding whole_sum grid_sides
  gains-one s k e =
      record {
        sum = +ℤ_idr (whole_side n s) ∙ e.sum ∙ ap (λ (z : ℤ). z +ℤ sum_over (fin_lever m t) k) (sym (+ℤ_idr (whole_side m s)));
        before = both_true (grid_points (side_points m s)) true e.before refl;
        after = both_true (grid_points (side_points n s)) true e.after refl;
      }

  pub gains-listed : (s : ℕ) (l : List ℕ) → ((f : ℕ) → member f l ≡ true → SideGains m n t (record { shell = s; face = f }) (rim m f))
      → Gains m n t (map (λ f. record { shell = s; face = f }) l) (joined (rim m) l)
  unfolding joined
  gains-listed s [] e = gains-none
  gains-listed s (f ∷ l) e =
      gains-both (record { shell = s; face = f } ∷ []) (map (λ f. record { shell = s; face = f }) l) (rim m f) (joined (rim m) l)
      (gains-one (record { shell = s; face = f }) (rim m f) (e f (member-head f l))) (gains-listed s l (λ g q. e g (member-tail g f l q)))

-- ---- of a movable body

module _ (x : Limits) (m : Model) (b r : ℕ) (k : Movable x m b r) (t : Corner) (point : ℕ → Point3) (d : Shifted m b t point) where
  pub start-walked : (f i : ℕ) → member f (face_walk m b) ≡ true → member i (rim m f) ≡ true → member (the (start_of m i)) (vertex_walk m b) ≡ true
  start-walked f i h g =
      let e = edge-walked x m b r k f h i g in
      let ends = and_both (is_some (edge m (fin m i).edge).start) (is_some (edge m (fin m i).edge).end) (all-member (λ e. is_some (edge m e).start && is_some (edge m e).end) (edge_walk m b) (fin m i).edge k.ends e) in
      end-walked m b (fin m i).edge (the (start_of m i)) e (start-vertex (fin m i).sense (edge m (fin m i).edge) ends.0 ends.1)

  pub point-moved : (v : ℕ) → member v (vertex_walk m b) ≡ true → corner (point_of (placed m b point) v) ≡ plus_c (corner (point_of m v)) t
  unfolding placed changed
  point-moved v h = ap (λ (c : Bool). corner (cond c (point v) (point_of m v))) h ∙ d.by v h

  pub point-on-grid : (v : ℕ) → member v (vertex_walk m b) ≡ true → grid_point (point_of (placed m b point) v) ≡ true
  unfolding placed changed
  point-on-grid v h = ap (λ (c : Bool). grid_point (cond c (point v) (point_of m v))) h ∙ all-member (λ v. grid_point (point v)) (vertex_walk m b) v d.after h

  -- ---- what is refused

  sides-refused : (l : List Side) → sides_refusal (placed m b point) l ≡ sides_refusal m l
  unfolding sides_refusal side_refusal placed changed
  sides-refused [] = refl
  sides-refused (s ∷ l) = ap (λ (n : ℕ). side_refusal m s then n) (sides-refused l)

  pub same-triangles : (l : List Side) → triangles (placed m b point) l ≡ triangles m l
  unfolding triangles placed
  same-triangles [] = refl
  same-triangles (s ∷ l) = ap (λ (n : ℕ). (length (rim m s.face) - 2) + n) (same-triangles l)

  pub volume-refused : volume_refusal (placed m b point) b ≡ volume_refusal m b
  unfolding volume_refusal require_polyhedral flat_face straight_edge faces_refusal edges_refusal face_walk edge_walk solid_sides placed
  volume-refused = rw (sides-refused (solid_sides m b))
