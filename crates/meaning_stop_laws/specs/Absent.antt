-- Where 2 is told, the record is missing, and the parent that is told names it: of every part of every row. Assumes nothing.
use Prim.Native.Nat.{ℕ, ◌+◌}
use native.Mathlib.Omega.{arith}
use Rattle.std.specs.Prelude.{◌≡◌, Bool, cond, ◌||◌, eqb, ltb, leb, length, get_or, Float}
use Rattle.std.proofs.Math.Path.{refl, sym, ap, ap₂}
use Rattle.std.proofs.Common.{◌∙◌, inl, inr, eqb-true, eq-eqb, le-ltb}
use Rattle.std.proofs.Math.Bool.{true, false, not, ◌&&◌}
use Rattle.std.proofs.lemmas.Bool.{false≢true}
use mathlib.Core.List.{List, [], ◌∷◌, ◌++◌, map}
use Rattle.std.proofs.Math.Option.{Option, none, some}
use Rattle.std.specs.Float.Ieee.Scale.{finite}
use Rattle.interval_arithmetic.specs.declared.Sign.{Sign}
use Rattle.interval_arithmetic.specs.declared.Sign.TheVariants.{Negative, Zero, Positive, Unresolved}
use Rattle.float_vectors.specs.Space.{finite_point}
use Rattle.geom_lines_planes.specs.Refuse.{◌unless◌}
use Rattle.geom_lines_planes.specs.Geometry.{line_point, effective}
use Rattle.geom_carriers.specs.Queries.{the_plane}
use Rattle.geom_signs.specs.Signs.{increasing_s, span_s, off_plane_s}
use Rattle.meaning.specs.Lists.{run, member, count, joined, listed, the, is_some, is}
use Rattle.meaning.specs.Model.{Model, Limits, has, body, region, shell, face, loop, fin, edge, point_of, curve, surface}
use Rattle.meaning.specs.Refuse.{◌if◌}
use Rattle.meaning.specs.Walks.{shells_of, face_walk, face_edges, edge_walk, edge_vertices, vertex_walk}
use Rattle.meaning.specs.Inquire.{Side, outward, inward, alike, rim, start_of}
use Rattle.meaning.specs.Split.{is_positive, carrier, start_point, end_point, lo, hi, parameter, split_point, apart, test7, test9, within, on_plane, edge_fits, gain}
use Rattle.meaning.specs.Faults.{of_shell, of_loop, of_fin, of_edge, of_vertex, no_line, no_plane}
use Rattle.meaning.specs.Offices.{foreign_edge, edge_for}
use Rattle.meaning_list_laws.specs.Tests.{unless-zero}
use Rattle.meaning_list_laws.specs.Lists.{member-append, member-none, member-one, member-firsts}
use Rattle.meaning_isolation.specs.Laws.{in-front, behind, append-from, map-from, joined-from, joined_in, the-listed}
use Rattle.meaning_isolation.specs.Measured.{start-listed}
use Rattle.meaning_stops.specs.Stops.{Entity, this, nothing, Part, part}
use Rattle.meaning_stops.specs.Splits.{row3, row3-fin, row4, row5, row6, row7, row8, row9, row10, row11-fin, row11-fins, row12, row13, row13-loops, row13-shells}
use Rattle.meaning_stops.specs.Bodies.{first_with, named, face_parent, fins_of, edge_parent, vertex_parent, region_parts, loop_parts, vertex_parts, flat_parts, straight_parts, box_parts, start_parts, side_parts, sides_parts}
use Rattle.meaning_stop_laws.specs.Missing.{by, nobody, missing_on}
use Rattle.meaning_stop_laws.specs.Parts.{Each, each_none, each_more, each_and, each_append, each-joined, each-mapped}

-- ---- the first whose list has an id

first-has : (f : ℕ → List ℕ) (x y : ℕ) (l : List ℕ) → first_with f x l ≡ some y → member x (f y) ≡ true
unfolding first_with
first-has f x y [] e = absurd (false≢true (ap is_some e))
first-has f x y (z ∷ l) e = go (member x (f z)) refl (first-has f x y l) e
  where
    go : (b : Bool) → member x (f z) ≡ b → (first_with f x l ≡ some y → member x (f y) ≡ true) → cond b (some z) (first_with f x l) ≡ some y → member x (f y) ≡ true
    go true h again q = ap (λ k. member x (f k)) (sym (ap the q)) ∙ h
    go false h again q = again q

first-none : (f : ℕ → List ℕ) (x : ℕ) (l : List ℕ) → first_with f x l ≡ none → member x (joined f l) ≡ false
unfolding first_with joined
first-none f x [] e = member-none x
first-none f x (z ∷ l) e = go (member x (f z)) refl (first-none f x l) e
  where
    go : (b : Bool) → member x (f z) ≡ b → (first_with f x l ≡ none → member x (joined f l) ≡ false) → cond b (some z) (first_with f x l) ≡ none → member x (f z ++ joined f l) ≡ false
    go true h again q = absurd (false≢true (sym (ap is_some q)))
    go false h again q = member-append x (f z) (joined f l) ∙ ap₂ ◌||◌ h (again q)

-- ---- parts

module _ (m : Model) (o : ℕ) where
  pub record Sound (p : Part) : Type 0 where
    pub told : p.number ≡ 2 → missing_on m o p.entity p.parent ≡ true

  -- a test that never gives 2
  unless-two : (n : ℕ) (t : Bool) → (n ≡ 2 → ⊥) → (n unless t) ≡ 2 → ⊥
  unless-two n true h z = omega arith
  unless-two n false h z = h z

  if-two : (n : ℕ) (t : Bool) → (n ≡ 2 → ⊥) → (n if t) ≡ 2 → ⊥
  if-two n true h z = h z
  if-two n false h z = omega arith

  pub never : (k n : ℕ) (t : Bool) (e p : Entity) → (n ≡ 2 → ⊥) → Sound (part k (n unless t) e p)
  never k n t e p h = record { told = λ z. absurd (unless-two n t h z) }

  pub never-if : (k n : ℕ) (t : Bool) (e p : Entity) → (n ≡ 2 → ⊥) → Sound (part k (n if t) e p)
  never-if k n t e p h = record { told = λ z. absurd (if-two n t h z) }

  -- 2 is given where the record is not there
  pub gone : (t : Bool) → (2 unless t) ≡ 2 → not t ≡ true
  gone true z = absurd (omega arith)
  gone false z = refl

  is-the : (a : Option ℕ) → is_some a ≡ true → is a (the a) ≡ true
  is-the none h = absurd (false≢true h)
  is-the (some i) h = eq-eqb i i refl

  -- an edge that is missing is missing for the office
  pub edge-gone : (e : ℕ) → (2 unless has m.edges e) ≡ 2 → not (has m.edges (edge_for m o e)) ≡ true
  unfolding edge_for
  edge-gone e z = go (foreign_edge m o e)
    where
      go : (t : Bool) → not (has m.edges (cond t m.edges.used e)) ≡ true
      go true = ap not (le-ltb m.edges.used m.edges.used (omega arith))
      go false = gone (has m.edges e) z

  -- ---- a parent that is looked for names the record

  module _ (b : ℕ) where
    abbrev names_face : ℕ → Entity → Bool
    names_face f p = by of_shell p (λ s. member f (shell m s).faces) || by of_loop p (λ l. eqb (loop m l).face f)

    pub face-named : (f : ℕ) → member f (face_walk m b) ≡ true → names_face f (face_parent m b f) ≡ true
    unfolding face_walk
    face-named f q = go (first_with (λ s. (shell m s).faces) f (shells_of m b)) refl
      where
        go : (w : Option ℕ) → first_with (λ s. (shell m s).faces) f (shells_of m b) ≡ w → names_face f (named of_shell w nothing) ≡ true
        go none e = absurd (false≢true (sym (first-none (λ s. (shell m s).faces) f (shells_of m b) e) ∙ sym (member-firsts f (joined (λ s. (shell m s).faces) (shells_of m b))) ∙ q))
        go (some s) e = rw (first-has (λ s. (shell m s).faces) f s (shells_of m b) e)

    abbrev names_edge : ℕ → Entity → Bool
    names_edge e p = nobody p || by of_fin p (λ i. eqb (fin m i).edge e) || by of_shell p (λ s. member e (shell m s).wire_edges)

    -- an edge of a fin of a face that is walked has a fin among those that are walked
    edge-of-fin : (e : ℕ) → member e (joined (face_edges m) (face_walk m b)) ≡ true → member e (joined (λ i. (fin m i).edge ∷ []) (joined (fins_of m) (face_walk m b))) ≡ true
    edge-of-fin e q =
        let p = joined-from (face_edges m) (face_walk m b) e q in
        let k = map-from (λ i. (fin m i).edge) (fins_of m p.0) e p.2 in
        joined_in (λ i. (fin m i).edge ∷ []) (joined (fins_of m) (face_walk m b)) k.0 e (joined_in (fins_of m) (face_walk m b) p.0 k.0 p.1 k.1) (member-one e (fin m k.0).edge ∙ eq-eqb e (fin m k.0).edge (sym k.2))

    edge-named : (e : ℕ) → member e (edge_walk m b) ≡ true → names_edge e (edge_parent m b e) ≡ true
    unfolding edge_walk
    edge-named e q = go (first_with own e fins) refl (first_with wires e (shells_of m b)) refl
      where
        own : ℕ → List ℕ
        own i = (fin m i).edge ∷ []

        wires : ℕ → List ℕ
        wires s = (shell m s).wire_edges

        fins : List ℕ
        fins = joined (fins_of m) (face_walk m b)

        go : (w : Option ℕ) → first_with own e fins ≡ w → (v : Option ℕ) → first_with wires e (shells_of m b) ≡ v → names_edge e (named of_fin w (named of_shell v nothing)) ≡ true
        go (some i) h v g = let same = eqb-true e (fin m i).edge (sym (member-one e (fin m i).edge) ∙ first-has own e i fins h) in rw (eq-eqb (fin m i).edge e (sym same))
        go none h (some s) g = rw (first-has wires e s (shells_of m b) g)
        go none h none g =
            let faces : List ℕ = joined (face_edges m) (face_walk m b) in
            let shells : List ℕ = joined wires (shells_of m b) in
            elim (append-from e faces shells (sym (member-firsts e (faces ++ shells)) ∙ q)) [
              | inl r ↦ absurd (false≢true (sym (first-none own e fins h) ∙ edge-of-fin e r))
              | inr r ↦ absurd (false≢true (sym (first-none wires e (shells_of m b) g) ∙ r))
            ]

    abbrev names_vertex : ℕ → Entity → Bool
    names_vertex v p = by of_edge p (λ e. member v (edge_vertices (edge m e))) || by of_shell p (λ s. member v (shell m s).acorn_vertices)

    vertex-named : (v : ℕ) → member v (vertex_walk m b) ≡ true → names_vertex v (vertex_parent m b v) ≡ true
    unfolding vertex_walk
    vertex-named v q = go (first_with ends v (edge_walk m b)) refl (first_with acorns v (shells_of m b)) refl
      where
        ends : ℕ → List ℕ
        ends e = edge_vertices (edge m e)

        acorns : ℕ → List ℕ
        acorns s = (shell m s).acorn_vertices

        go : (w : Option ℕ) → first_with ends v (edge_walk m b) ≡ w → (u : Option ℕ) → first_with acorns v (shells_of m b) ≡ u → names_vertex v (named of_edge w (named of_shell u nothing)) ≡ true
        go (some e) h u g = rw (first-has ends v e (edge_walk m b) h)
        go none h (some s) g = rw (first-has acorns v s (shells_of m b) g)
        go none h none g =
            let edges : List ℕ = joined ends (edge_walk m b) in
            let shells : List ℕ = joined acorns (shells_of m b) in
            elim (append-from v edges shells (sym (member-firsts v (edges ++ shells)) ∙ q)) [
              | inl r ↦ absurd (false≢true (sym (first-none ends v (edge_walk m b) h) ∙ r))
              | inr r ↦ absurd (false≢true (sym (first-none acorns v (shells_of m b) g) ∙ r))
            ]

    -- ---- the rows of a body

    pub region-sound : (r : ℕ) → member r (body m b).regions ≡ true → Each Sound (region_parts m b r)
    unfolding region_parts
    region-sound r q =
        (each_and Sound (record { told = λ z. ap₂ ◌&&◌ (gone (has m.regions r) z) q })
        (each-mapped Sound _ (region m r).shells (λ s p. record { told = λ z. ap₂ ◌&&◌ (gone (has m.shells s) z) p })))

    pub loop-sound : (f l : ℕ) → member l (face m f).loops ≡ true → Each Sound (loop_parts m f l)
    unfolding loop_parts
    loop-sound f l q =
        (each_and Sound (record { told = λ z. ap₂ ◌&&◌ (gone (has m.loops l) z) (rw q) })
        (each-mapped Sound _ (loop m l).fins (λ i p. record { told = λ z. ap₂ ◌&&◌ (gone (has m.fins i) z) (rw p) })))

    pub vertex-row : Each Sound (vertex_parts m b)
    vertex-row = each-mapped Sound _ (edge_walk m b) (λ e q. record { told = λ z. ap₂ ◌&&◌ (edge-gone e z) (edge-named e q) })

    pub flat_sound : (f : ℕ) → member f (face_walk m b) ≡ true → Each Sound (flat_parts m b f)
    unfolding flat_parts
    flat_sound f q =
        (each_and Sound (record { told = λ z. ap₂ ◌&&◌ (gone (has m.faces f) z) (face-named f q) })
        (each_more Sound (never 2 1 (is_some (face m f).surface) _ _ (omega arith))
        (λ y. (each_and Sound (record { told = λ z. ap₂ ◌&&◌ (gone (has m.surfaces (the (face m f).surface)) z) (is-the (face m f).surface (unless-zero 0 (is_some (face m f).surface) y)) })
        (each_and Sound (never-if 4 7 (no_plane (surface m (the (face m f).surface))) _ _ (omega arith)) (each_none Sound))))))

    pub straight-sound : (e : ℕ) → member e (edge_walk m b) ≡ true → Each Sound (straight_parts m b e)
    unfolding straight_parts
    straight-sound e q =
        (each_and Sound (record { told = λ z. ap₂ ◌&&◌ (edge-gone e z) (edge-named e q) })
        (each_more Sound (never 2 1 (is_some (edge m e).curve) _ _ (omega arith))
        (λ y. (each_and Sound (record { told = λ z. ap₂ ◌&&◌ (gone (has m.curves (the (edge m e).curve)) z) (is-the (edge m e).curve (unless-zero 0 (is_some (edge m e).curve) y)) })
        (each_and Sound (never-if 4 7 (no_line (curve m (the (edge m e).curve))) _ _ (omega arith)) (each_none Sound))))))

    pub box-row : Each Sound (box_parts m b)
    box-row =
        each_append Sound (map (λ v. part 1 (2 unless has m.vertices v) (this of_vertex v) (vertex_parent m b v)) (vertex_walk m b)) _
        (each-mapped Sound _ (vertex_walk m b) (λ v q. record { told = λ z. ap₂ ◌&&◌ (gone (has m.vertices v) z) (vertex-named v q) }))
        (λ _. (each_and Sound (never-if 2 4 (eqb (length (vertex_walk m b)) 0) _ _ (omega arith))
        (each-mapped Sound _ (vertex_walk m b) (λ v q. never 3 4 (finite_point (point_of m v)) _ _ (omega arith)))))

  start-sound : (l i : ℕ) → Each Sound (start_parts m l i)
  unfolding start_parts
  start-sound l i =
      (each_more Sound (never 4 7 (is_some (start_of m i)) _ _ (omega arith))
      (λ y. (each_and Sound (record { told = λ z. ap₂ ◌&&◌ (gone (has m.vertices (the (start_of m i))) z) (rw (start-listed (fin m i).sense (edge m (fin m i).edge) (unless-zero 6 (is_some (start_of m i)) y))) })
      (each_none Sound))))

  pub sides-row : (l : List Side) → Each Sound (sides_parts m l)
  unfolding sides_parts side_parts
  sides-row [] = each_none Sound
  sides-row (s ∷ l) =
      each_append Sound (side_parts m s) (sides_parts m l)
      (each_and Sound (never-if 1 1 (alike (outward m s) (inward m s)) _ _ (omega arith))
      (each_and Sound (never 2 7 (eqb (length (face m s.face).loops) 1) _ _ (omega arith))
      (each_and Sound (never-if 3 4 (ltb (length (rim m s.face)) 3) _ _ (omega arith))
      (each-joined Sound (start_parts m (get_or (face m s.face).loops 0 0)) (rim m s.face) (λ i _. start-sound _ i)))))
      (λ _. sides-row l)

  -- ---- the rows of a split, of the edge e that was asked about by the id `asked`

  never_on : (e : ℕ) (k : ℕ) (u : Float) (s : ℕ) (i p : Entity) → Sound (part k (on_plane m e (the_plane (surface m s)) u) i p)
  unfolding on_plane
  never_on e k u s i p = record { told = λ z. absurd (go (off_plane_s (the_plane (surface m s)) (line_point (carrier m e) u) (effective m.version (edge m e).tolerance m.precision)) z) }
    where
      go : (s : Sign) → within s ≡ 2 → ⊥
      go Negative z = omega arith
      go Zero z = omega arith
      go Positive z = omega arith
      go Unresolved z = omega arith

  module _ (x : Limits) (e : ℕ) (t : Float) where
    pub row3-sound : Each Sound (row3 m e)
    row3-sound =
        each-joined Sound (row3-fin m e) (edge m e).fins
        (λ i q. (each_and Sound (record { told = λ z. ap₂ ◌&&◌ (gone (has m.fins i) z) q }) (each_and Sound (never-if 2 7 (fin m i).pcurve _ _ (omega arith)) (each_none Sound))))

    pub row4-sound : Each Sound (row4 m e)
    row4-sound = (each_and Sound (never 1 7 (is_some (edge m e).start) _ _ (omega arith)) (each_and Sound (never 2 7 (is_some (edge m e).end) _ _ (omega arith)) (each_none Sound)))

    pub row5-sound : Each Sound (row5 m e)
    row5-sound =
        (each_more Sound (never 1 1 (is_some (edge m e).curve) _ _ (omega arith))
        (λ y. (each_and Sound (record { told = λ z. ap₂ ◌&&◌ (gone (has m.curves (the (edge m e).curve)) z) (is-the (edge m e).curve (unless-zero 0 (is_some (edge m e).curve) y)) })
        (each_and Sound (never-if 3 7 (no_line (curve m (the (edge m e).curve))) _ _ (omega arith)) (each_none Sound)))))

    -- where there are ends
    pub row6-sound : is_some (edge m e).start ≡ true → is_some (edge m e).end ≡ true → Each Sound (row6 m e)
    row6-sound a b =
        let start : List ℕ = listed (edge m e).start in
        let end : List ℕ = listed (edge m e).end in
        (each_and Sound (record { told = λ z. ap₂ ◌&&◌ (gone (has m.vertices (the (edge m e).start)) z) (rw (in-front (the (edge m e).start) start end (the-listed (edge m e).start a))) })
        (each_and Sound (record { told = λ z. ap₂ ◌&&◌ (gone (has m.vertices (the (edge m e).end)) z) (rw (behind (the (edge m e).end) start end (the-listed (edge m e).end b))) })
        (each_none Sound)))

    pub row7-sound : Each Sound (row7 m e)
    unfolding test7
    row7-sound = (each_and Sound (never 1 4 (is_positive (increasing_s (carrier m e).direction (start_point m e) (end_point m e))) _ _ (omega arith)) (each_none Sound))

    pub row8-sound : Each Sound (row8 m e)
    row8-sound = (each_and Sound (never 1 7 (finite (lo m e)) _ _ (omega arith))
        (each_and Sound (never 2 7 (finite (hi m e)) _ _ (omega arith)) (each_and Sound (never 3 7 (is_positive (span_s (lo m e) (hi m e))) _ _ (omega arith)) (each_none Sound))))

    pub row9-sound : Each Sound (row9 m e t)
    unfolding test9
    row9-sound = (each_and Sound (never 1 4 (finite_point (split_point m e t)) _ _ (omega arith)) (each_none Sound))

    pub row10-sound : Each Sound (row10 m e t)
    row10-sound =
        (each_and Sound (never 1 4 (apart m (split_point m e t) (start_point m e)) _ _ (omega arith))
        (each_and Sound (never 2 4 (apart m (split_point m e t) (end_point m e)) _ _ (omega arith)) (each_none Sound)))

    fin-sound : (i : ℕ) → Each Sound (row11-fin m e t i)
    unfolding row11-fin
    fin-sound i =
        let l = (fin m i).owner in
        let f = (loop m l).face in
        let s = the (face m f).surface in
        (each_and Sound (never 2 1 (eqb (fin m i).edge e) _ _ (omega arith))
        (each_and Sound (record { told = λ z. ap₂ ◌&&◌ (gone (has m.loops l) z) (eq-eqb l l refl) })
        (each_and Sound (never 4 1 (eqb (count i (loop m l).fins) 1) _ _ (omega arith))
        (each_and Sound (record { told = λ z. ap₂ ◌&&◌ (gone (has m.faces f) z) (eq-eqb f f refl) })
        (each_more Sound (never 6 1 (is_some (face m f).surface) _ _ (omega arith))
        (λ y. (each_and Sound (record { told = λ z. ap₂ ◌&&◌ (gone (has m.surfaces s) z) (is-the (face m f).surface (unless-zero 0 (is_some (face m f).surface) y)) })
        (each_and Sound (never-if 8 7 (no_plane (surface m s)) _ _ (omega arith))
        (each_and Sound (never_on e 9 (lo m e) s _ _) (each_and Sound (never_on e 10 (hi m e) s _ _) (each_and Sound (never_on e 11 (parameter m e t) s _ _) (each_none Sound))))))))))))

    pub row11-sound : (seen l : List ℕ) → Each Sound (row11-fins m e t seen l)
    unfolding row11-fins
    row11-sound seen [] = each_none Sound
    row11-sound seen (i ∷ l) = (each_and Sound (never-if 1 1 (member i seen) _ _ (omega arith))
        (each_append Sound (row11-fin m e t i) (row11-fins m e t (i ∷ seen) l) (fin-sound i) (λ _. row11-sound (i ∷ seen) l)))

    pub row12-sound : Each Sound (row12 m e)
    row12-sound = each-mapped Sound _ (run 0 m.shells.used) (λ s _. never 1 1 (leb (count e (shell m s).wire_edges) 1) _ _ (omega arith))

    pub row13-sound : Each Sound (row13 x m e)
    row13-sound =
        (each_and Sound (never 1 8 (leb (m.fins.used + length (edge m e).fins) x.fins) _ _ (omega arith))
        (each_and Sound (never 2 8 (leb (m.edges.used + 1) x.edges) _ _ (omega arith))
        (each_and Sound (never 3 8 (leb (m.vertices.used + 1) x.vertices) _ _ (omega arith))
        (each_and Sound (never 4 8 (edge_fits x m e) _ _ (omega arith))
        (each_append Sound (row13-loops x m e) (row13-shells x m e)
        (each-mapped Sound _ (edge m e).fins (λ i _. never 5 8 (leb (length (loop m (fin m i).owner).fins + gain m e (fin m i).owner) x.loop_fins) _ _ (omega arith)))
        (λ _. each-mapped Sound _ (run 0 m.shells.used) (λ s _. never 6 8 (leb (length (shell m s).wire_edges + count e (shell m s).wire_edges) x.shell_wire_edges) _ _ (omega arith))))))))
