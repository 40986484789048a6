-- The walk of vertices of a body that was read: its vertices in the order met, too, since an edge runs from the lower to the higher. Assumes nothing.
use Rattle.std.specs.Prelude.{ℕ, suc, ◌+◌, ◌≤◌, ◌<◌, ◌≡◌, Bool, false, cond, ◌||◌, eqb, leb, length, get_or}
use Rattle.std.proofs.Common.{arith, sym, ◌∙◌, leb-false, eq-eqb}
use Rattle.std.proofs.Math.Path.{refl, ap, ap₂}
use Rattle.std.proofs.Math.Bool.{true, or-true}
use Rattle.std.proofs.lemmas.Bool.{false≢true}
use mathlib.Core.List.{List, [], ◌∷◌, ◌++◌, map, append-nil}
use Rattle.float_vectors.specs.declared.vector.Point3.{Point3}
use Rattle.meaning.specs.Lists.{run, member, meet, meets, firsts, joined}
use Rattle.meaning.specs.Model.{Model, Office, Edge, shell, edge}
use Rattle.meaning.specs.Walks.{shells_of, edge_vertices, vertex_walk}
use Rattle.meaning_list_laws.specs.Tests.{and_both}
use Rattle.meaning_list_laws.specs.Lists.{joined-none, joined-cons, meets-append, meet-old, member-tail, member-meets}
use Rattle.stl_format.specs.Stl.{Triangle}
use Rattle.stl_body.specs.Read.{known, which_of, met_behind, all_met, same_point, corners, Step, step, same_step, around, steps_of, edge_of, mesh_of, built, all_finite}
use Rattle.stl_body.specs.Laws.{holds}
use Rattle.stl_body.proofs.Laws.{met_one}
use Rattle.stl_body.proofs.Meshes.{one-step, finite-themselves}
use Rattle.stl_body.proofs.Records.{shell-new, edge-new}
use Rattle.stl_body_laws.specs.Met.{run-front, Next, before, next, meet-met, next_of}
use Rattle.stl_body_laws.specs.Walked.{Proper, new-shells, edges-walked}

-- the ends of steps
unfoldable ends_in : ℕ → List Step → List ℕ
ends_in v [] = []
ends_in v (s ∷ l) = (v + s.from) ∷ (v + s.to) ∷ ends_in v l

-- ---- an edge that is met again gives no vertex more

ends-append : (v : ℕ) (k l : List Step) → ends_in v (k ++ l) ≡ ends_in v k ++ ends_in v l
unfolding ends_in
ends-append v [] l = refl
ends-append v (s ∷ k) l = ap (λ r. (v + s.from) ∷ (v + s.to) ∷ r) (ends-append v k l)

module _ (v : ℕ) (p : Step) where
  ends-known : (seen : List Step) → known same_step p seen ≡ true → (member (v + p.from) (ends_in v seen) ≡ true) × (member (v + p.to) (ends_in v seen) ≡ true)
  unfolding known ends_in member
  ends-known [] h = absurd (false≢true h)
  ends-known (s ∷ seen) h = by (same_step p s) refl h (ends-known seen)
    where
      behind : (x : ℕ) → member x (ends_in v seen) ≡ true → member x (ends_in v (s ∷ seen)) ≡ true
      behind x k = member-tail x (v + s.from) ((v + s.to) ∷ ends_in v seen) (member-tail x (v + s.to) (ends_in v seen) k)

      by : (b : Bool) → same_step p s ≡ b → (b || known same_step p seen) ≡ true
          → (known same_step p seen ≡ true → (member (v + p.from) (ends_in v seen) ≡ true) × (member (v + p.to) (ends_in v seen) ≡ true))
          → (member (v + p.from) (ends_in v (s ∷ seen)) ≡ true) × (member (v + p.to) (ends_in v (s ∷ seen)) ≡ true)
      by true e f r =
          let q : p ≡ s = one-step p s e in
          (rw (eq-eqb (v + p.from) (v + s.from) (ap (λ (a : Step). v + a.from) q)), rw (eq-eqb (v + p.to) (v + s.to) (ap (λ (a : Step). v + a.to) q)) (or-true (eqb (v + p.to) (v + s.from))))
      by false e f r = (behind (v + p.from) (r f).0, behind (v + p.to) (r f).1)

met-ends : (v : ℕ) (s : List ℕ) (seen l : List Step) → meets s (ends_in v (met_behind same_step seen l)) ≡ meets (meets s (ends_in v seen)) (ends_in v l)
unfolding met_behind ends_in meets
met-ends v s seen [] = refl
met-ends v s seen (p ∷ l) = by (known same_step p seen) refl (met-ends v s seen l) (met-ends v s (seen ++ (p ∷ [])) l)
  where
    sofar : List ℕ
    sofar = meets s (ends_in v seen)

    there : (x : ℕ) → member x (ends_in v seen) ≡ true → meet sofar x ≡ sofar
    there x h = meet-old sofar x (member-meets x s (ends_in v seen) ∙ ap (λ b. member x s || b) h ∙ or-true (member x s))

    by : (b : Bool) → known same_step p seen ≡ b → meets s (ends_in v (met_behind same_step seen l)) ≡ meets sofar (ends_in v l)
        → meets s (ends_in v (met_behind same_step (seen ++ (p ∷ [])) l)) ≡ meets (meets s (ends_in v (seen ++ (p ∷ [])))) (ends_in v l)
        → meets s (ends_in v (met_behind same_step (cond b seen (seen ++ (p ∷ []))) l)) ≡ meets (meet (meet sofar (v + p.from)) (v + p.to)) (ends_in v l)
    by true e a b =
        let ends = ends-known v p seen e in
        a ∙ ap (λ k. meets k (ends_in v l)) (sym (ap (λ k. meet k (v + p.to)) (there (v + p.from) ends.0) ∙ there (v + p.to) ends.1))
    by false e a b = b ∙ ap (λ k. meets k (ends_in v l)) (ap (meets s) (ends-append v seen (p ∷ [])) ∙ meets-append s (ends_in v seen) (ends_in v (p ∷ [])))

-- ---- the two ends of a step, the lower first, where the corners are met in order

next-in : (k x n : ℕ) → Next k x n → x < n
next-in k x n (before h e) = omega arith
next-in k x n (next h e) = omega arith

next_more : (k x n : ℕ) → Next k x n → k ≤ n
next_more k x n (before h e) = omega arith
next_more k x n (next h e) = omega arith

again : (k x : ℕ) → x < k → Next k x k
again k x h = before h refl

turned-next : (k a j b n : ℕ) → Next k a j → Next j b n → b < a → Next k b k × Next k a n
turned-next k a j b n (before h e) (before f g) c = (before (omega arith) refl, before h (omega arith))
turned-next k a j b n (before h e) (next f g) c = absurd (omega arith)
turned-next k a j b n (next h e) (before f g) c = (before (omega arith) refl, next h (omega arith))
turned-next k a j b n (next h e) (next f g) c = absurd (omega arith)

edge-ends : (v k a j b n : ℕ) → Next k a j → Next j b n → meets (run v k) (ends_in v (edge_of (step a b) ∷ [])) ≡ run v n
unfolding edge_of ends_in meets
edge-ends v k a j b n p q = by (leb a b) refl
  where
    by : (c : Bool) → leb a b ≡ c → meets (run v k) (ends_in v (cond c (step a b) (step b a) ∷ [])) ≡ run v n
    by true e = ap (λ s. meet s (v + b)) (meet-met v k a j p) ∙ meet-met v j b n q
    by false e = let r = turned-next k a j b n p q (leb-false a b e) in ap (λ s. meet s (v + a)) (meet-met v k b k r.0) ∙ meet-met v k a n r.1

-- a triangle
around-ends : (v k a i b j c n : ℕ) → Next k a i → Next i b j → Next j c n → meets (run v k) (ends_in v (map edge_of (around a b c))) ≡ run v n
around-ends v k a i b j c n p q r =
    let b-in = next-in i b j q in
    let c-in = next-in j c n r in
    let a_in = next-in k a i p in
    let up = next_more i b j q in
    let on = next_more j c n r in
    apart
    ∙ ap (λ s. meets (meets s (ends_in v (edge_of (step b c) ∷ []))) (ends_in v (edge_of (step c a) ∷ []))) (edge-ends v k a i b j p q)
    ∙ ap (λ s. meets s (ends_in v (edge_of (step c a) ∷ []))) (edge-ends v j b j c n (again j b b-in) r)
    ∙ edge-ends v n c n a n (again n c c-in) (again n a (omega arith))
  where
    apart : meets (run v k) (ends_in v (map edge_of (around a b c))) ≡ meets (meets (meets (run v k) (ends_in v (edge_of (step a b) ∷ []))) (ends_in v (edge_of (step b c) ∷ []))) (ends_in v (edge_of (step c a) ∷ []))
    apart = unfold ends_in meets in refl

-- all triangles
steps-ends : (v : ℕ) (seen : List Point3) (l : List Triangle) → holds (λ p. same_point p p) (corners l) ≡ true
    → meets (run v (length seen)) (ends_in v (map edge_of (steps_of (met_behind same_point seen (corners l)) l))) ≡ run v (length (met_behind same_point seen (corners l)))
unfolding met_behind corners steps_of holds ends_in meets
steps-ends v seen [] h = refl
steps-ends v seen (t ∷ l) h =
    let first = and_both (same_point t.a t.a) _ h in
    let second = and_both (same_point t.b t.b) _ first.1 in
    let third = and_both (same_point t.c t.c) _ second.1 in
    let one = met_one same_point seen t.a in
    let two = met_one same_point one t.b in
    let three = met_one same_point two t.c in
    let final = met_behind same_point three (corners l) in
    ap (λ s. meets s (ends_in v (map edge_of (steps_of final l))))
    (around-ends v (length seen) (which_of same_point t.a final) (length one) (which_of same_point t.b final) (length two) (which_of same_point t.c final) (length three)
    (next_of same_point seen (t.b ∷ t.c ∷ corners l) t.a first.0)
    (next_of same_point one (t.c ∷ corners l) t.b second.0)
    (next_of same_point two (corners l) t.c third.0))
    ∙ steps-ends v three l third.1

edges-ends : (v : ℕ) (l : List Triangle) → all_finite (corners l) ≡ true → firsts (ends_in v (mesh_of l).edges) ≡ run v (length (mesh_of l).points)
unfolding mesh_of
edges-ends v l h =
    let points = all_met same_point (corners l) in
    met-ends v [] [] (map edge_of (steps_of points l)) ∙ ap (λ s. meets s (ends_in v (map edge_of (steps_of points l)))) none ∙ steps-ends v [] l (finite-themselves (corners l) h)
  where
    none : meets [] (ends_in v []) ≡ run v (length {A = Point3} [])
    none = unfold meets ends_in run in refl

-- ---- the walk

joined-ends : (f : ℕ → List ℕ) (v u : ℕ) (l : List Step) → ((j : ℕ) → j < length l → f (u + j) ≡ (v + (get_or l j (step 0 0)).from) ∷ (v + (get_or l j (step 0 0)).to) ∷ []) → joined f (run u (length l)) ≡ ends_in v l
unfolding ends_in
joined-ends f v u [] h = unfold run in joined-none f
joined-ends f v u (s ∷ l) h =
    ap (joined f) (run-front u (length l)) ∙ joined-cons f u (run (suc u) (length l))
    ∙ ap₂ ◌++◌ (ap f (let z : u ≡ u + 0 = omega arith in z) ∙ h 0 (omega arith)) (joined-ends f v (suc u) l (λ j b. ap f (let z : suc u + j ≡ u + suc j = omega arith in z) ∙ h (suc j) (omega arith)))

module _ (m : Model) (o : Office) (l : List Triangle) (h : all_finite (corners l) ≡ true) (p : Proper (mesh_of l)) where
  abbrev behind : Model
  behind = built m o (mesh_of l)

  pub vertices-walked : vertex_walk behind m.bodies.used ≡ run m.vertices.used (length (mesh_of l).points)
  unfolding vertex_walk
  vertices-walked =
      ap₂ (λ a b. firsts (a ++ b))
      (ap (joined (λ e. edge_vertices (edge behind e))) (edges-walked m o (mesh_of l) p)
      ∙ joined-ends (λ e. edge_vertices (edge behind e)) m.vertices.used m.edges.used (mesh_of l).edges (λ j b. ap (λ (e : Edge). edge_vertices e) (edge-new m o (mesh_of l) j)))
      no-acorns
      ∙ ap firsts (append-nil (ends_in m.vertices.used (mesh_of l).edges))
      ∙ edges-ends m.vertices.used l h
    where
      no-acorns : joined (λ s. (shell behind s).acorn_vertices) (shells_of behind m.bodies.used) ≡ []
      no-acorns = ap (joined (λ s. (shell behind s).acorn_vertices)) (new-shells m o (mesh_of l)) ∙ (unfold joined in rw (shell-new m o (mesh_of l) 0, shell-new m o (mesh_of l) 1))
