-- What the walks list: each id once, and exactly what is reached by the rule. Statements about `meaning`, Walks.antt. Assumes nothing.
use Rattle.std.specs.Prelude.{ℕ, zero, suc, ◌≤◌, ◌≡◌, refl, Bool, true, false, ◌||◌, List, [], ◌∷◌, ◌++◌, map, eqb}
use Rattle.std.proofs.Math.Path.{sym, subst}
use Rattle.std.proofs.Common.{ap, ◌∙◌, eqb-true, eq-eqb}
use Rattle.std.proofs.lemmas.Bool.{false≢true}
use Rattle.std.proofs.Math.Option.{Option, none, some}
use Rattle.meaning.specs.Lists.{member, count, joined, firsts, listed}
use Rattle.meaning.specs.Model.{Model, Edge, body, region, shell, face, loop, fin, edge}
use Rattle.meaning.specs.Walks.{shells_of, face_walk, face_edges, edge_walk, edge_vertices, vertex_walk}
use Rattle.meaning_list_laws.specs.Lists.{member-append, member-firsts, count-firsts}

-- ---- the rule, as 01 says it

-- the body lists a region that lists the shell
pub data ShellOf (m : Model) (b : ℕ) : ℕ → Type 0 where
  by-region : (r s : ℕ) → member r (body m b).regions ≡ true → member s (region m r).shells ≡ true → ShellOf m b s

-- 01, "regions, shells, faces"
pub data FaceOf (m : Model) (b : ℕ) : ℕ → Type 0 where
  by-shell : (s f : ℕ) → ShellOf m b s → member f (shell m s).faces ≡ true → FaceOf m b f

-- 01, "over those faces their loops' fins, then wire edges of the shells"
pub data EdgeOf (m : Model) (b : ℕ) : ℕ → Type 0 where
  by-face : (f l i : ℕ) → FaceOf m b f → member l (face m f).loops ≡ true → member i (loop m l).fins ≡ true → EdgeOf m b (fin m i).edge
  by-wire : (s e : ℕ) → ShellOf m b s → member e (shell m s).wire_edges ≡ true → EdgeOf m b e

-- 01, "over those edges start then end, then acorn vertices"
pub data VertexOf (m : Model) (b : ℕ) : ℕ → Type 0 where
  by-start : (e v : ℕ) → EdgeOf m b e → (edge m e).start ≡ some v → VertexOf m b v
  by_end : (e v : ℕ) → EdgeOf m b e → (edge m e).end ≡ some v → VertexOf m b v
  by-acorn : (s v : ℕ) → ShellOf m b s → member v (shell m s).acorn_vertices ≡ true → VertexOf m b v

-- ---- each id once

pub faces-once : (m : Model) (b c : ℕ) → count c (face_walk m b) ≤ 1
unfolding face_walk
faces-once m b c = count-firsts (joined (λ s. (shell m s).faces) (shells_of m b)) c

pub edges-once : (m : Model) (b c : ℕ) → count c (edge_walk m b) ≤ 1
unfolding edge_walk
edges-once m b c = count-firsts (joined (face_edges m) (face_walk m b) ++ joined (λ s. (shell m s).wire_edges) (shells_of m b)) c

pub vertices-once : (m : Model) (b c : ℕ) → count c (vertex_walk m b) ≤ 1
unfolding vertex_walk
vertices-once m b c = count-firsts (joined (λ e. edge_vertices (edge m e)) (edge_walk m b) ++ joined (λ s. (shell m s).acorn_vertices) (shells_of m b)) c

-- ---- lists of lists, and optional ids

pub record From (f : ℕ → List ℕ) (l : List ℕ) (x : ℕ) : Type 0 where
  pub entry : ℕ
  pub there : member entry l ≡ true
  pub lists : member x (f entry) ≡ true

or_cases : (P : Type 0) (a b : Bool) → (a || b) ≡ true → (a ≡ true → P) → (b ≡ true → P) → P
or_cases P true b e f g = f refl
or_cases P false b e f g = g e

or-second : (a b : Bool) → b ≡ true → (a || b) ≡ true
or-second true b e = refl
or-second false b e = e

or_left : (a b : Bool) → a ≡ true → (a || b) ≡ true
or_left true b e = refl
or_left false b e = absurd (false≢true e)

member-front : (x : ℕ) (k l : List ℕ) → member x k ≡ true → member x (k ++ l) ≡ true
member-front x k l h = member-append x k l ∙ or_left (member x k) (member x l) h

member_back : (x : ℕ) (k l : List ℕ) → member x l ≡ true → member x (k ++ l) ≡ true
member_back x k l h = member-append x k l ∙ or-second (member x k) (member x l) h

joined-from : (f : ℕ → List ℕ) (l : List ℕ) (x : ℕ) → member x (joined f l) ≡ true → From f l x
unfolding joined member
joined-from f [] x h = absurd (false≢true h)
joined-from f (y ∷ l) x h =
    or_cases (From f (y ∷ l) x) (member x (f y)) (member x (joined f l)) (sym (member-append x (f y) (joined f l)) ∙ h)
    (λ e. record { entry = y; there = or_left (eqb y y) (member y l) (eq-eqb y y refl); lists = e })
    (λ e. let r = joined-from f l x e in record { entry = r.entry; there = or-second (eqb r.entry y) (member r.entry l) r.there; lists = r.lists })

joined_to : (f : ℕ → List ℕ) (l : List ℕ) (x y : ℕ) → member y l ≡ true → member x (f y) ≡ true → member x (joined f l) ≡ true
unfolding joined member
joined_to f [] x y h e = absurd (false≢true h)
joined_to f (z ∷ l) x y h e =
    or_cases (member x (f z ++ joined f l) ≡ true) (eqb y z) (member y l) h
    (λ q. member-front x (f z) (joined f l) (subst (λ i. member x (f i) ≡ true) (eqb-true y z q) e))
    (λ q. member_back x (f z) (joined f l) (joined_to f l x y q e))

-- an entry of a list and what stands for it
pub record Image (e : ℕ → ℕ) (l : List ℕ) (x : ℕ) : Type 0 where
  pub entry : ℕ
  pub there : member entry l ≡ true
  pub is : e entry ≡ x

map-from : (e : ℕ → ℕ) (l : List ℕ) (x : ℕ) → member x (map e l) ≡ true → Image e l x
unfolding member
map-from e [] x h = absurd (false≢true h)
map-from e (y ∷ l) x h =
    or_cases (Image e (y ∷ l) x) (eqb x (e y)) (member x (map e l)) h
    (λ q. record { entry = y; there = or_left (eqb y y) (member y l) (eq-eqb y y refl); is = sym (eqb-true x (e y) q) })
    (λ q. let r = map-from e l x q in record { entry = r.entry; there = or-second (eqb r.entry y) (member r.entry l) r.there; is = r.is })

map-to : (e : ℕ → ℕ) (l : List ℕ) (y : ℕ) → member y l ≡ true → member (e y) (map e l) ≡ true
unfolding member
map-to e [] y h = absurd (false≢true h)
map-to e (z ∷ l) y h =
    or_cases (member (e y) (e z ∷ map e l) ≡ true) (eqb y z) (member y l) h
    (λ q. or_left (eqb (e y) (e z)) (member (e y) (map e l)) (eq-eqb (e y) (e z) (ap e (eqb-true y z q))))
    (λ q. or-second (eqb (e y) (e z)) (member (e y) (map e l)) (map-to e l y q))

listed-from : (o : Option ℕ) (v : ℕ) → member v (listed o) ≡ true → o ≡ some v
unfolding member
listed-from none v h = absurd (false≢true h)
listed-from (some x) v h = or_cases (some x ≡ some v) (eqb v x) false h (λ q. ap some (sym (eqb-true v x q))) (λ q. absurd (false≢true q))

listed-to : (o : Option ℕ) (v : ℕ) → o ≡ some v → member v (listed o) ≡ true
unfolding member
listed-to o v e = subst (λ p. member v (listed p) ≡ true) (sym e) (or_left (eqb v v) false (eq-eqb v v refl))

-- ---- exactly what is reached

module _ (m : Model) (b : ℕ) where
  shells-reached : (s : ℕ) → member s (shells_of m b) ≡ true → ShellOf m b s
  shells-reached s h = let r = joined-from (λ i. (region m i).shells) (body m b).regions s h in by-region r.entry s r.there r.lists

  shells-listed : (s : ℕ) → ShellOf m b s → member s (shells_of m b) ≡ true
  shells-listed _ (by-region r s h k) = joined_to (λ i. (region m i).shells) (body m b).regions s r h k

  pub faces-reached : (f : ℕ) → member f (face_walk m b) ≡ true → FaceOf m b f
  unfolding face_walk
  faces-reached f h =
      let r = joined-from (λ s. (shell m s).faces) (shells_of m b) f (sym (member-firsts f (joined (λ s. (shell m s).faces) (shells_of m b))) ∙ h) in
      by-shell r.entry f (shells-reached r.entry r.there) r.lists

  pub faces-listed : (f : ℕ) → FaceOf m b f → member f (face_walk m b) ≡ true
  unfolding face_walk
  faces-listed _ (by-shell s f o h) =
      member-firsts f (joined (λ s. (shell m s).faces) (shells_of m b)) ∙ joined_to (λ s. (shell m s).faces) (shells_of m b) f s (shells-listed s o) h

  abbrev wires : List ℕ
  wires = joined (λ s. (shell m s).wire_edges) (shells_of m b)

  abbrev of_faces : List ℕ
  of_faces = joined (face_edges m) (face_walk m b)

  pub edges-reached : (e : ℕ) → member e (edge_walk m b) ≡ true → EdgeOf m b e
  unfolding edge_walk
  edges-reached e h =
      or_cases (EdgeOf m b e) (member e of_faces) (member e wires) (sym (member-append e of_faces wires) ∙ sym (member-firsts e (of_faces ++ wires)) ∙ h)
      (λ q. let f = joined-from (face_edges m) (face_walk m b) e q in
      let i = map-from (λ i. (fin m i).edge) (joined (λ l. (loop m l).fins) (face m f.entry).loops) e f.lists in
      let l = joined-from (λ l. (loop m l).fins) (face m f.entry).loops i.entry i.there in
      subst (EdgeOf m b) i.is (by-face f.entry l.entry i.entry (faces-reached f.entry f.there) l.there l.lists))
      (λ q. let s = joined-from (λ s. (shell m s).wire_edges) (shells_of m b) e q in by-wire s.entry e (shells-reached s.entry s.there) s.lists)

  pub edges-listed : (e : ℕ) → EdgeOf m b e → member e (edge_walk m b) ≡ true
  unfolding edge_walk
  edges-listed _ (by-face f l i o h k) =
      member-firsts (fin m i).edge (of_faces ++ wires)
      ∙ member-front (fin m i).edge of_faces wires
      (joined_to (face_edges m) (face_walk m b) (fin m i).edge f (faces-listed f o)
      (map-to (λ i. (fin m i).edge) (joined (λ l. (loop m l).fins) (face m f).loops) i (joined_to (λ l. (loop m l).fins) (face m f).loops i l h k)))
  edges-listed _ (by-wire s e o h) =
      member-firsts e (of_faces ++ wires) ∙ member_back e of_faces wires (joined_to (λ s. (shell m s).wire_edges) (shells_of m b) e s (shells-listed s o) h)

  abbrev acorns : List ℕ
  acorns = joined (λ s. (shell m s).acorn_vertices) (shells_of m b)

  abbrev ends : List ℕ
  ends = joined (λ e. edge_vertices (edge m e)) (edge_walk m b)

  pub vertices-reached : (v : ℕ) → member v (vertex_walk m b) ≡ true → VertexOf m b v
  unfolding vertex_walk
  vertices-reached v h =
      or_cases (VertexOf m b v) (member v ends) (member v acorns) (sym (member-append v ends acorns) ∙ sym (member-firsts v (ends ++ acorns)) ∙ h)
      (λ q. let e = joined-from (λ e. edge_vertices (edge m e)) (edge_walk m b) v q in
      let o = edges-reached e.entry e.there in
      or_cases (VertexOf m b v) (member v (listed (edge m e.entry).start)) (member v (listed (edge m e.entry).end))
      (sym (member-append v (listed (edge m e.entry).start) (listed (edge m e.entry).end)) ∙ e.lists)
      (λ t. by-start e.entry v o (listed-from (edge m e.entry).start v t))
      (λ t. by_end e.entry v o (listed-from (edge m e.entry).end v t)))
      (λ q. let s = joined-from (λ s. (shell m s).acorn_vertices) (shells_of m b) v q in by-acorn s.entry v (shells-reached s.entry s.there) s.lists)

  end-listed : (e v : ℕ) → EdgeOf m b e → member v (edge_vertices (edge m e)) ≡ true → member v (firsts (ends ++ acorns)) ≡ true
  end-listed e v o h =
      member-firsts v (ends ++ acorns) ∙ member-front v ends acorns (joined_to (λ e. edge_vertices (edge m e)) (edge_walk m b) v e (edges-listed e o) h)

  pub vertices-listed : (v : ℕ) → VertexOf m b v → member v (vertex_walk m b) ≡ true
  unfolding vertex_walk
  vertices-listed _ (by-start e v o h) = end-listed e v o (member-front v (listed (edge m e).start) (listed (edge m e).end) (listed-to (edge m e).start v h))
  vertices-listed _ (by_end e v o h) = end-listed e v o (member_back v (listed (edge m e).start) (listed (edge m e).end) (listed-to (edge m e).end v h))
  vertices-listed _ (by-acorn s v o h) =
      member-firsts v (ends ++ acorns) ∙ member_back v ends acorns (joined_to (λ s. (shell m s).acorn_vertices) (shells_of m b) v s (shells-listed s o) h)
