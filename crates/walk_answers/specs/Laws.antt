-- The paths of a body give the walks of the model that the memory holds. Assumes nothing.
use Prim.Native.Nat.{ℕ, zero, suc, ◌≤◌, ◌<◌}
use Rattle.std.proofs.Common.{arith, ◌∙◌, subst, take_at, le-leb}
use Rattle.std.specs.Prelude.{◌≡◌, Bool, cond, ◌&&◌, eqb, length, take, drop, replicate, Float}
use Rattle.std.proofs.Math.Path.{refl, sym, ap}
use Rattle.std.proofs.Math.Bool.{true, false}
use mathlib.Core.List.{List, [], ◌∷◌, ◌++◌, map}
use Rattle.std.proofs.Math.Option.{none, some}
use Rattle.std.proofs.Math.Dec.{leb, ltb}
use Rattle.std.proofs.lemmas.List.{length-replicate}
use Rattle.std.proofs.lemmas.Bool.{lt-leb}
use Rattle.geom_lines_planes.specs.Refuse.{◌unless◌, ◌then◌}
use Rattle.meaning.specs.Lists.{all, count, joined, firsts, listed}
use Rattle.meaning.specs.Model.{has, shell, edge}
use Rattle.meaning.specs.Walks.{shells_of, face_edges, edge_vertices, face_walk, faces_refusal, face_followed, edge_walk, edges_refusal, vertex_walk, vertices_refusal}
use Rattle.meaning_list_laws.specs.Tests.{and_both, both_ways}
use Rattle.meaning_list_laws.specs.Lists.{all-at, all_both, all-counted, all_firsts, member-firsts, member-counted, count-present, joined-append, joined_same}
use Rattle.memory_layout.specs.Layout.{word, words_of}
use Rattle.memory_layout.specs.Decode.{decode}
use Rattle.memory_layout.specs.Entries.{list_of}
use Rattle.memory_layout.specs.Readable.{readable}
use Rattle.memory_layout.specs.Fit.{Lists}
use Rattle.memory_layout.specs.Laws.{fit_of, lists_of}
use Rattle.walk_marks.specs.Marks.{Marked, puts}
use Rattle.walk_marks.specs.Laws.{marked-none, puts-front, puts-length}
use Rattle.walk_sources.specs.Sources.{fin_edge, part_in, part_of, sourced, followed}
use Rattle.walk_sources.specs.Laws.{source-list, source-record}
use Rattle.walk_visits.specs.Visits.{ids_of, Visited}
use Rattle.walk_paths.specs.Paths.{shell_list, face_path, face_list, loop_list, edge_path, edge_list, vertex_path, body_followed, faces_there, loops_followed, edges_there, Shelled, Looped, Edged}
use Rattle.walk_paths.specs.Laws.{shelled-of, faced-of, looped-of, edged_of}
use Rattle.walk_answers.specs.Calls.{numbered, handed, in_front}
use Rattle.walk_answers.specs.Decoded.{refused_by, Wrote}

-- ---- lists of lists

map-append : (e : ℕ → ℕ) (a b : List ℕ) → map e (a ++ b) ≡ map e a ++ map e b
map-append e [] b = refl
map-append e (y ∷ a) b = ap (λ l. e y ∷ l) (map-append e a b)

map-joined : (e : ℕ → ℕ) (g : ℕ → List ℕ) (l : List ℕ) → map e (joined g l) ≡ joined (λ i. map e (g i)) l
unfolding joined
map-joined e g [] = refl
map-joined e g (y ∷ l) = map-append e (g y) (joined g l) ∙ ap (λ t. map e (g y) ++ t) (map-joined e g l)

-- of each entry's list the edges, one after the other: of all the lists at once
joined-map : (e : ℕ → ℕ) (g h : ℕ → List ℕ) (l : List ℕ) → joined (λ f. map e (joined g (h f))) l ≡ joined (λ i. map e (g i)) (joined h l)
unfolding joined
joined-map e g h [] = refl
joined-map e g h (y ∷ l) =
    ap (λ t. t ++ joined (λ f. map e (joined g (h f))) l) (map-joined e g (h y))
    ∙ ap (λ t. joined (λ i. map e (g i)) (h y) ++ t) (joined-map e g h l)
    ∙ sym (joined-append (λ i. map e (g i)) (h y) (joined h l))

all-pair : (p q : ℕ → Bool) (h : ℕ → List ℕ) (l : List ℕ) → all (λ f. p f && all q (h f)) l ≡ (all p l && all q (joined h l))
unfolding all joined
all-pair p q h [] = refl
all-pair p q h (y ∷ l) = rw (all-pair p q h l, all_both q (h y) (joined h l)) (swap (p y) (all q (h y)) (all p l) (all q (joined h l)))
  where
    swap : (a b c d : Bool) → ((a && b) && (c && d)) ≡ ((a && c) && (b && d))
    swap true true true d = refl
    swap true true false d = refl
    swap true false true d = refl
    swap true false false d = refl
    swap false b c d = refl

pub all-firsts-same : (p : ℕ → Bool) (l : List ℕ) → all p (firsts l) ≡ all p l
all-firsts-same p l =
    both_ways (all p (firsts l)) (all p l)
    (λ e. all-counted p l (λ c h. all-at p (firsts l) c e (count-present c (firsts l) (member-firsts c l ∙ member-counted c l h))))
    (all_firsts p l)

always : (l : List ℕ) → all (λ _. true) l ≡ true
unfolding all
always [] = refl
always (y ∷ l) = always l

-- ---- the parts of sources

module _ (room w : List ℕ) where
  part-sourced : (k : ℕ) (l : List ℕ) → k < 8 → joined (part_of room w) (sourced k l) ≡ joined (part_in room w k) l
  unfolding joined sourced part_of
  part-sourced k [] h = refl
  part-sourced k (y ∷ l) h = rw (source-list y k h, source-record y k h) (ap (λ t. part_in room w k y ++ t) (part-sourced k l h))

  -- ---- the walks of the model

  module _ (x : List Float) (b : ℕ) where
    pub face-list : face_walk (decode room w x) b ≡ face_list room w b
    unfolding decode face_walk face_list face_path shell_list list_of
    face-list = ap firsts (sym (part-sourced 2 (shell_list room w b) (omega arith) ∙ plain))
      where
        plain : joined (part_in room w 2) (shell_list room w b) ≡ joined (list_of room w 2) (shell_list room w b)
        plain = unfold part_in in refl

    pub edge-list : edge_walk (decode room w x) b ≡ edge_list room w b
    unfolding edge_walk edge_list edge_path loop_list
    edge-list =
        ap firsts
        (ap (λ l. joined (face_edges (decode room w x)) l ++ wires) face-list
        ∙ ap (λ t. t ++ wires) loops
        ∙ sym (joined-append (part_of room w) (sourced 6 (loop_list room w b)) (sourced 3 (shell_list room w b)) ∙ ap (λ t. t ++ joined (part_of room w) (sourced 3 (shell_list room w b))) fins ∙ ap (λ t. joined (λ l. map (fin_edge room w) (list_of room w 6 l)) (loop_list room w b) ++ t) plain))
      where
        wires : List ℕ
        wires = joined (λ s. (shell (decode room w x) s).wire_edges) (shells_of (decode room w x) b)

        loops : joined (face_edges (decode room w x)) (face_list room w b) ≡ joined (λ l. map (fin_edge room w) (list_of room w 6 l)) (joined (list_of room w 5) (face_list room w b))
        loops = unfold decode list_of in joined-map (fin_edge room w) (list_of room w 6) (list_of room w 5) (face_list room w b)

        fins : joined (part_of room w) (sourced 6 (loop_list room w b)) ≡ joined (λ l. map (fin_edge room w) (list_of room w 6 l)) (loop_list room w b)
        fins = part-sourced 6 (loop_list room w b) (omega arith) ∙ (unfold part_in in refl)

        plain : joined (part_of room w) (sourced 3 (shell_list room w b)) ≡ wires
        plain = part-sourced 3 (shell_list room w b) (omega arith) ∙ (unfold part_in decode list_of shell_list in refl)

    pub vertex-list : vertex_walk (decode room w x) b ≡ firsts (ids_of room w (vertex_path room w b))
    unfolding vertex_walk vertex_path
    vertex-list =
        ap firsts
        (ap (λ l. joined (λ e. edge_vertices (edge (decode room w x) e)) l ++ acorns) edge-list
        ∙ sym (joined-append (part_of room w) (sourced 7 (edge_list room w b)) (sourced 4 (shell_list room w b)) ∙ ap (λ t. t ++ joined (part_of room w) (sourced 4 (shell_list room w b))) ends ∙ ap (λ t. joined (λ e. edge_vertices (edge (decode room w x) e)) (edge_list room w b) ++ t) plain))
      where
        acorns : List ℕ
        acorns = joined (λ s. (shell (decode room w x) s).acorn_vertices) (shells_of (decode room w x) b)

        one : (t u : Bool) (p q : ℕ) → cond t [] (p ∷ []) ++ cond u [] (q ∷ []) ≡ listed (cond t none (some p)) ++ listed (cond u none (some q))
        one true true p q = refl
        one true false p q = refl
        one false true p q = refl
        one false false p q = refl

        ends : joined (part_of room w) (sourced 7 (edge_list room w b)) ≡ joined (λ e. edge_vertices (edge (decode room w x) e)) (edge_list room w b)
        ends =
            part-sourced 7 (edge_list room w b) (omega arith)
            ∙ joined_same (part_in room w 7) (λ e. edge_vertices (edge (decode room w x) e)) (λ _. true) (edge_list room w b)
            (λ e _. unfold part_in decode in one (eqb (word (words_of room w 6 e) 0) 0) (eqb (word (words_of room w 6 e) 2) 0) (word (words_of room w 6 e) 1) (word (words_of room w 6 e) 3)) (always (edge_list room w b))

        plain : joined (part_of room w) (sourced 4 (shell_list room w b)) ≡ acorns
        plain = part-sourced 4 (shell_list room w b) (omega arith) ∙ (unfold part_in decode list_of shell_list in refl)

    -- ---- what is followed

    pub faces-refusal : faces_refusal (decode room w x) b ≡ (2 unless body_followed room w b)
    unfolding decode faces_refusal body_followed followed list_of
    faces-refusal = refl

    pub edges-refusal : edges_refusal (decode room w x) b ≡ (faces_refusal (decode room w x) b then (2 unless (faces_there room w b && loops_followed room w b)))
    unfolding edges_refusal faces_there loops_followed loop_list
    edges-refusal =
        ap (λ t. faces_refusal (decode room w x) b then (2 unless t))
        (ap (all (face_followed (decode room w x))) face-list ∙ both ∙ ap (λ t. t && all (followed room w 6) (joined (list_of room w 5) (face_list room w b))) once)
      where
        both : all (face_followed (decode room w x)) (face_list room w b) ≡ (all (λ f. ltb f (word w 3)) (face_list room w b) && all (followed room w 6) (joined (list_of room w 5) (face_list room w b)))
        both = unfold decode followed list_of in all-pair (λ f. ltb f (word w 3)) (followed room w 6) (list_of room w 5) (face_list room w b)

        once : all (λ f. ltb f (word w 3)) (face_list room w b) ≡ all (λ f. ltb f (word w 3)) (ids_of room w (face_path room w b))
        once = unfold face_list in all-firsts-same (λ f. ltb f (word w 3)) (ids_of room w (face_path room w b))

    pub vertices-refusal : vertices_refusal (decode room w x) b ≡ (edges_refusal (decode room w x) b then (2 unless edges_there room w b))
    unfolding vertices_refusal edges_there
    vertices-refusal = ap (λ t. edges_refusal (decode room w x) b then (2 unless t)) (there ∙ ap (all (λ e. ltb e (word w 6))) edge-list ∙ once)
      where
        there : all (has (decode room w x).edges) (edge_walk (decode room w x) b) ≡ all (λ e. ltb e (word w 6)) (edge_walk (decode room w x) b)
        there = unfold decode in refl

        once : all (λ e. ltb e (word w 6)) (edge_list room w b) ≡ all (λ e. ltb e (word w 6)) (ids_of room w (edge_path room w b))
        once = unfold edge_list in all-firsts-same (λ e. ltb e (word w 6)) (ids_of room w (edge_path room w b))

-- ---- refusals, one test after the other

module _ (tables marks : Bool) (followed : ℕ) where
  pub refused-9 : tables ≡ false → 9 ≡ refused_by tables marks followed
  unfolding refused_by
  refused-9 e = rw e

  pub refused-8 : tables ≡ true → marks ≡ false → 8 ≡ refused_by tables marks followed
  unfolding refused_by
  refused-8 e f = rw (e, f)

  pub refused-not : tables ≡ true → marks ≡ true → (r : ℕ) → r ≡ followed → r ≡ refused_by tables marks followed
  unfolding refused_by
  refused-not e f r h = rw (e, f) h

  -- a further test
  pub refused-then : refused_by tables marks followed ≡ 0 → (t : Bool) (r : ℕ) → r ≡ (2 unless t) → r ≡ refused_by tables marks (followed then (2 unless t))
  unfolding refused_by
  refused-then e t r h = by tables marks followed e
    where
      by : (a b : Bool) (f : ℕ) → (9 unless a then 8 unless b then f) ≡ 0 → r ≡ (9 unless a then 8 unless b then (f then (2 unless t)))
      by false b f q = absurd (omega arith)
      by true false f q = absurd (omega arith)
      by true true zero q = h
      by true true (suc f) q = absurd (omega arith)

  pub refused-before : (refused : ℕ) → refused ≡ refused_by tables marks followed → (refused ≡ 0 → ⊥) → (more : ℕ) → refused ≡ refused_by tables marks (followed then more)
  unfolding refused_by
  refused-before refused e n more = by tables marks followed e
    where
      by : (a b : Bool) (f : ℕ) → refused ≡ (9 unless a then 8 unless b then f) → refused ≡ (9 unless a then 8 unless b then (f then more))
      by false b f q = q
      by true false f q = q
      by true true zero q = absurd (n q)
      by true true (suc f) q = q

  pub accepted : refused_by tables marks followed ≡ 0 → (tables ≡ true) × (followed ≡ 0)
  unfolding refused_by
  accepted e = by tables marks followed e
    where
      by : (a b : Bool) (f : ℕ) → (9 unless a then 8 unless b then f) ≡ 0 → (a ≡ true) × (f ≡ 0)
      by false b f q = absurd (omega arith)
      by true false f q = absurd (omega arith)
      by true true f q = (refl, q)

  -- ---- the call

  pub numbered-then : (walk : List ℕ) (space : ℕ) → numbered tables marks followed walk space ≡ (refused_by tables marks followed then (8 unless leb (length walk) space))
  unfolding refused_by
  numbered-then walk space = by tables marks followed (8 unless leb (length walk) space)
    where
      by : (a b : Bool) (f more : ℕ) → (9 unless a then 8 unless b then f then more) ≡ ((9 unless a then 8 unless b then f) then more)
      by false b f more = refl
      by true false f more = refl
      by true true f more = refl

-- ---- what an accepted walk may rely on

two_none : (b : Bool) → (2 unless b) ≡ 0 → b ≡ true
two_none true e = refl
two_none false e = absurd (omega arith)

module _ (room w : List ℕ) (x : List Float) (b : ℕ) (enough : Bool) where
  pub accepted-faces : refused_by (readable room w x) enough (faces_refusal (decode room w x) b) ≡ 0 → (Lists room w) × (Shelled room w b)
  accepted-faces e =
      let a = accepted (readable room w x) enough (faces_refusal (decode room w x) b) e in
      (lists_of room w x (fit_of room w x a.0), shelled-of room w b (two_none (body_followed room w b) (sym (faces-refusal room w x b) ∙ a.1)))

  earlier : (f : ℕ) (t : Bool) → refused_by (readable room w x) enough (f then (2 unless t)) ≡ 0 → (refused_by (readable room w x) enough f ≡ 0) × (t ≡ true)
  unfolding refused_by
  earlier f t e = by (readable room w x) enough f e
    where
      by : (a c : Bool) (f : ℕ) → (9 unless a then 8 unless c then (f then (2 unless t))) ≡ 0 → ((9 unless a then 8 unless c then f) ≡ 0) × (t ≡ true)
      by false c f q = absurd (omega arith)
      by true false f q = absurd (omega arith)
      by true true zero q = (refl, two_none t q)
      by true true (suc f) q = absurd (omega arith)

  pub accepted-edges : refused_by (readable room w x) enough (edges_refusal (decode room w x) b) ≡ 0 → (Lists room w) × (Looped room w b)
  accepted-edges e =
      let t = earlier (faces_refusal (decode room w x) b) (faces_there room w b && loops_followed room w b) (ap (refused_by (readable room w x) enough) (sym (edges-refusal room w x b)) ∙ e) in
      let a = accepted-faces t.0 in
      let both = and_both (faces_there room w b) (loops_followed room w b) t.1 in
      (a.0, looped-of room w b (faced-of room w b a.1 both.0) both.1)

  pub accepted-vertices : refused_by (readable room w x) enough (vertices_refusal (decode room w x) b) ≡ 0 → (Lists room w) × (Edged room w b)
  accepted-vertices e =
      let t = earlier (edges_refusal (decode room w x) b) (edges_there room w b) (ap (refused_by (readable room w x) enough) (sym (vertices-refusal room w x b)) ∙ e) in
      let a = accepted-edges t.0 in
      (a.0, edged_of room w b a.1 t.1)

-- ---- marks, all zero

pub zeros-on : (m₀ m₁ m₂ : List ℕ) → m₁ ≡ replicate (length m₀) 0 → m₂ ≡ replicate (length m₁) 0 → m₂ ≡ replicate (length m₀) 0
zeros-on m₀ m₁ m₂ e f = f ∙ ap (λ n. replicate n 0) (ap length e ∙ length-replicate (length m₀) 0)

pub zeros-same : (m₀ m : List ℕ) → m ≡ replicate (length m₀) 0 → m ≡ replicate (length m) 0
zeros-same m₀ m e = e ∙ ap (λ n. replicate n 0) (sym (ap length e ∙ length-replicate (length m₀) 0))

pub marked-zeros : (n : ℕ) (m : List ℕ) → m ≡ replicate n 0 → Marked m []
marked-zeros n m e = subst (λ l. Marked l []) (sym e) (marked-none n)

-- ---- the walk of a path

empty : (l : List ℕ) → length l ≡ 0 → l ≡ []
empty [] e = refl
empty (y ∷ l) e = absurd (omega arith)

-- a part of the memory that is the path: it is as short, and its walk is the path's
pub path-fits : {front path : List ℕ} {m : ℕ} → front ≡ path → length path ≤ m → length front ≤ m
path-fits {front} {path} {m} e h = subst (λ (l : List ℕ). length l ≤ m) (sym e) h

pub wrote-along : (room w : List ℕ) {front path out₀ out : List ℕ} {code n : ℕ} → front ≡ path → Wrote (firsts (ids_of room w front)) out₀ out code n
    → Wrote (firsts (ids_of room w path)) out₀ out code n
wrote-along room w {front} {path} {out₀} {out} {code} {n} e s = subst (λ (l : List ℕ). Wrote (firsts (ids_of room w l)) out₀ out code n) e s

-- counted on no list at all
nothing_put : (ids dry : List ℕ) (n : ℕ) → Visited ids [] dry n → dry ≡ []
nothing_put ids dry n v = empty dry (ap length v.list ∙ puts-length [] 0 (firsts ids))

-- and the caller's list is too short, or long enough
pub wrote_none : (ids out dry : List ℕ) (n : ℕ) → Visited ids [] dry n → length out < n → Wrote (firsts ids) out (dry ++ out) 8 0
wrote_none ids out dry n v h =
    let short : leb (length (firsts ids)) (length out) ≡ false = lt-leb (length (firsts ids)) (length out) (subst (λ k. length out < k) v.count h) in
    record {
      number = rw short;
      count = unfold handed in refl;
      list = ap (λ l. l ++ out) (nothing_put ids dry n v) ∙ (unfold handed in_front in refl);
    }

pub wrote-all : (ids out₀ out dry : List ℕ) (n m : ℕ) → Visited ids [] dry n → n ≤ length out₀ → Visited ids (dry ++ out₀) out m → Wrote (firsts ids) out₀ out 0 m
wrote-all ids out₀ out dry n m v h s =
    let fits : length (firsts ids) ≤ length out₀ = subst (λ k. k ≤ length out₀) v.count h in
    record {
      number = rw (le-leb (length (firsts ids)) (length out₀) fits);
      count = s.count ∙ (unfold handed in refl);
      list = s.list ∙ ap (λ l. puts (l ++ out₀) 0 (firsts ids)) (nothing_put ids dry n v) ∙ puts-front out₀ (firsts ids) fits ∙ (unfold handed in_front in refl);
    }

-- the front part that a view hands back
pub view : (l out₀ out : List ℕ) (n : ℕ) → n ≡ length l → out ≡ in_front l out₀ → take n out ≡ l
unfolding in_front
view l out₀ out n e f = ap (take n) f ∙ take_at l (drop (length l) out₀) n (sym e)
