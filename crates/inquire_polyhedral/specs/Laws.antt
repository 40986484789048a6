-- What is tested where it is listed is what the definitions test of the walks, and what the tests leave known. Assumes nothing.
use Rattle.std.specs.Prelude.{ℕ, zero, suc, ◌≡◌, Bool, cond, not, ◌&&◌, ◌||◌, List, [], ◌∷◌, ◌++◌, map, eqb, Float}
use Rattle.std.proofs.Math.Path.{refl, sym, ap}
use Rattle.std.proofs.Common.{◌∙◌, eqb-true}
use Rattle.std.proofs.Math.Bool.{true, false}
use Rattle.std.proofs.lemmas.Bool.{false≢true}
use Rattle.std.proofs.Math.Option.{none, some}
use Rattle.std.proofs.Math.Dec.{ltb}
use Rattle.geom_lines_planes.specs.Refuse.{◌unless◌, ◌then◌}
use Rattle.geom_carriers.specs.Queries.{line_refusal, plane_refusal}
use Rattle.meaning.specs.Lists.{all, member, joined, meet, meets, firsts, the, is_some}
use Rattle.meaning.specs.Model.{Model, has, shell, curve, surface}
use Rattle.meaning.specs.Walks.{shells_of, face_walk, face_followed, face_edges, edge_walk, faces_refusal, edges_refusal, vertices_refusal}
use Rattle.meaning.specs.Refuse.{first_of}
use Rattle.meaning.specs.Inquire.{flat_face, straight_edge, require_polyhedral}
use Rattle.meaning_list_laws.specs.Tests.{and_both, then-zero, then-none, then-assoc, unless-zero, first_of-none, first_of-append, first_of-snoc}
use Rattle.meaning_list_laws.specs.Lists.{meet-old, meet-new}
use Rattle.memory_layout.specs.Layout.{word, words_of}
use Rattle.memory_layout.specs.Decode.{decode, flag_at}
use Rattle.memory_layout.specs.Readable.{readable}
use Rattle.memory_layout.specs.Entries.{list_of}
use Rattle.memory_layout.specs.Fit.{Fit}
use Rattle.memory_layout.specs.Laws.{fit_of}
use Rattle.walk_sources.specs.Sources.{fin_edge, followed}
use Rattle.walk_paths.specs.Paths.{body_followed, faces_there, loops_followed, edges_there, Edged}
use Rattle.walk_paths.specs.Laws.{shelled-of, faced-of, looped-of, edged_of}
use Rattle.walk_answers.specs.Decoded.{refused_by}
use Rattle.walk_answers.specs.Laws.{faces-refusal, edges-refusal, vertices-refusal, all-firsts-same, accepted}
use Rattle.inquire_polyhedral.specs.Tested.{FLAT, THERE, STRAIGHT, WIRES, list_by, face_there, fin_straight, loop_straight, face_straight, tested, shell_tested, region_tested}

-- ---- the first refusal among ids

-- where none is refused, a test that passes for what is not refused passes for all
first-all : (f : ℕ → ℕ) (p : ℕ → Bool) (l : List ℕ) → ((y : ℕ) → f y ≡ 0 → p y ≡ true) → first_of f l ≡ 0 → all p l ≡ true
unfolding first_of all
first-all f p [] h e = refl
first-all f p (y ∷ l) h e = let both = then-zero (f y) (first_of f l) e in rw (h y both.0) (first-all f p l h both.1)

first_member : (f : ℕ → ℕ) (y : ℕ) (l : List ℕ) → member y l ≡ true → first_of f l ≡ 0 → f y ≡ 0
unfolding first_of member
first_member f y [] m e = absurd (false≢true m)
first_member f y (z ∷ l) m e = by (eqb y z) refl m (first_member f y l)
  where
    both : (f z ≡ 0) × (first_of f l ≡ 0)
    both = then-zero (f z) (first_of f l) e

    by : (b : Bool) → eqb y z ≡ b → (b || member y l) ≡ true → (member y l ≡ true → first_of f l ≡ 0 → f y ≡ 0) → f y ≡ 0
    by true q r rest = ap f (eqb-true y z q) ∙ both.0
    by false q r rest = rest r both.1

-- one that was met before changes nothing
first-meet : (f : ℕ → ℕ) (s : List ℕ) (y : ℕ) → first_of f (meet s y) ≡ (first_of f s then f y)
first-meet f s y = by (member y s) refl
  where
    old : (n : ℕ) → (n ≡ 0 → f y ≡ 0) → n ≡ (n then f y)
    old zero h = sym (h refl)
    old (suc n) h = refl

    by : (b : Bool) → member y s ≡ b → first_of f (meet s y) ≡ (first_of f s then f y)
    by true q = ap (first_of f) (meet-old s y q) ∙ old (first_of f s) (first_member f y s q)
    by false q = ap (first_of f) (meet-new s y q) ∙ first_of-snoc f s y

first-meets : (f : ℕ → ℕ) (s l : List ℕ) → first_of f (meets s l) ≡ (first_of f s then first_of f l)
unfolding meets first_of
first-meets f s [] = sym (then-none (first_of f s))
first-meets f s (y ∷ l) = first-meets f (meet s y) l ∙ ap (λ n. n then first_of f l) (first-meet f s y) ∙ then-assoc (first_of f s) (f y) (first_of f l)

pub first-firsts : (f : ℕ → ℕ) (l : List ℕ) → first_of f (firsts l) ≡ first_of f l
first-firsts f l = first-meets f [] l ∙ ap (λ n. n then first_of f l) (first_of-none f)

-- of lists of lists, of what the ids name, and of a test that has one number
first-joined : (f : ℕ → ℕ) (g : ℕ → List ℕ) (l : List ℕ) → first_of f (joined g l) ≡ first_of (λ y. first_of f (g y)) l
unfolding first_of joined
first-joined f g [] = refl
first-joined f g (y ∷ l) = first_of-append f (g y) (joined g l) ∙ ap (λ n. first_of f (g y) then n) (first-joined f g l)

first-map : (f e : ℕ → ℕ) (l : List ℕ) → first_of f (map e l) ≡ first_of (λ y. f (e y)) l
unfolding first_of
first-map f e [] = refl
first-map f e (y ∷ l) = ap (λ n. f (e y) then n) (first-map f e l)

first-unless : (p : ℕ → Bool) (l : List ℕ) → first_of (λ y. 2 unless p y) l ≡ (2 unless all p l)
unfolding first_of all
first-unless p [] = refl
first-unless p (y ∷ l) = ap (λ n. 2 unless p y then n) (first-unless p l) ∙ by (p y)
  where
    by : (b : Bool) → (2 unless b then 2 unless all p l) ≡ (2 unless (b && all p l))
    by true = refl
    by false = refl

-- two tests that agree where a third passes
pub first-where : (f g : ℕ → ℕ) (p : ℕ → Bool) (l : List ℕ) → ((y : ℕ) → p y ≡ true → f y ≡ g y) → all p l ≡ true → first_of f l ≡ first_of g l
unfolding first_of all
first-where f g p [] h e = refl
first-where f g p (y ∷ l) h e = let both = and_both (p y) (all p l) e in rw (h y both.0, first-where f g p l h both.1)

-- ---- a face and an edge, off their words: an optional carrier is its tag's test and its id

pub optional : (f : ℕ → ℕ) (b : Bool) (i : ℕ) → (1 unless is_some (cond b none (some i)) then f (the (cond b none (some i)))) ≡ (1 unless not b then f i)
optional f true i = refl
optional f false i = refl

pub face-words : (room w : List ℕ) (x : List Float) (i : ℕ)
    → (2 unless ltb i (word w 3) then 1 unless flag_at (words_of room w 3 i) 4 then plane_refusal (surface (decode room w x) (word (words_of room w 3 i) 5))) ≡ flat_face (decode room w x) i
unfolding flat_face decode
face-words room w x i =
    ap (λ (n : ℕ). 2 unless ltb i (word w 3) then n)
    (sym (optional (λ s. plane_refusal (surface (decode room w x) s)) (eqb (word (words_of room w 3 i) 4) 0) (word (words_of room w 3 i) 5)))

pub edge-words : (room w : List ℕ) (x : List Float) (i : ℕ)
    → (2 unless ltb i (word w 6) then 1 unless flag_at (words_of room w 6 i) 4 then line_refusal (curve (decode room w x) (word (words_of room w 6 i) 5))) ≡ straight_edge (decode room w x) i
unfolding straight_edge decode
edge-words room w x i =
    ap (λ (n : ℕ). 2 unless ltb i (word w 6) then n)
    (sym (optional (λ s. line_refusal (curve (decode room w x) s)) (eqb (word (words_of room w 6 i) 4) 0) (word (words_of room w 6 i) 5)))

-- ---- a face whose loops and fins are there

module _ (room w : List ℕ) (x : List Float) where
  abbrev m : Model
  m = decode room w x

  abbrev fin_number : ℕ → ℕ
  fin_number i = straight_edge m (fin_edge room w i)

  fin-straight : (i : ℕ) → ltb i (word w 5) ≡ true → fin_straight room w x i ≡ fin_number i
  unfolding fin_straight
  fin-straight i e = rw e

  loop-straight : (l : ℕ) → followed room w 6 l ≡ true → loop_straight room w x l ≡ first_of fin_number (list_of room w 6 l)
  unfolding followed loop_straight
  loop-straight l e =
      let both = and_both (ltb l (word w 4)) (all (λ i. ltb i (word w 5)) (list_of room w 6 l)) e in
      rw both.0 (first-where (fin_straight room w x) fin_number (λ i. ltb i (word w 5)) (list_of room w 6 l) fin-straight both.1)

  face-straight : (f : ℕ) → face_followed m f ≡ true → face_straight room w x f ≡ first_of (straight_edge m) (face_edges m f)
  unfolding face_straight
  face-straight f e = rw there.0 (first-where (loop_straight room w x) (λ l. first_of fin_number (list_of room w 6 l)) (followed room w 6) (list_of room w 5 f) loop-straight there.1 ∙ sym named)
    where
      there : (ltb f (word w 3) ≡ true) × (all (followed room w 6) (list_of room w 5 f) ≡ true)
      there = unfold decode followed list_of in and_both (has m.faces f) _ e

      edges_are : face_edges m f ≡ map (fin_edge room w) (joined (list_of room w 6) (list_of room w 5 f))
      edges_are = unfold decode list_of in refl

      named : first_of (straight_edge m) (face_edges m f) ≡ first_of (λ l. first_of fin_number (list_of room w 6 l)) (list_of room w 5 f)
      named =
          ap (first_of (straight_edge m)) edges_are
          ∙ first-map (straight_edge m) (fin_edge room w) (joined (list_of room w 6) (list_of room w 5 f))
          ∙ first-joined fin_number (list_of room w 6) (list_of room w 5 f)

  -- ---- what the shells of a body list

  module _ (b : ℕ) where
    abbrev shells : List ℕ
    shells = joined (list_of room w 1) (list_of room w 0 b)

    abbrev faces : List ℕ
    faces = joined (list_of room w 2) shells

    abbrev over : ℕ → ℕ
    over test = first_of (region_tested room w x test) (list_of room w 0 b)

    over-listed : (test : ℕ) → over test ≡ first_of (tested room w x test) (joined (list_of room w (list_by test)) shells)
    unfolding region_tested shell_tested
    over-listed test =
        sym
        (first-joined (tested room w x test) (list_of room w (list_by test)) shells
        ∙ first-joined (λ s. first_of (tested room w x test) (list_of room w (list_by test) s)) (list_of room w 1) (list_of room w 0 b))

    walk : face_walk m b ≡ firsts faces
    walk = unfold face_walk decode list_of in refl

    flat : over FLAT ≡ first_of (flat_face m) (face_walk m b)
    flat = over-listed FLAT ∙ by ∙ sym (first-firsts (flat_face m) faces) ∙ ap (first_of (flat_face m)) (sym walk)
      where
        by : first_of (tested room w x FLAT) (joined (list_of room w (list_by FLAT)) shells) ≡ first_of (flat_face m) faces
        by = unfold tested list_by in refl

    there : over THERE ≡ (2 unless all (face_followed m) (face_walk m b))
    there =
        over-listed THERE
        ∙ by
        ∙ first-unless (face_followed m) faces
        ∙ ap (λ t. 2 unless t) (sym (all-firsts-same (face_followed m) faces) ∙ ap (all (face_followed m)) (sym walk))
      where
        by : first_of (tested room w x THERE) (joined (list_of room w (list_by THERE)) shells) ≡ first_of (λ f. 2 unless face_followed m f) faces
        by = unfold tested list_by face_there decode followed list_of in refl

    straight : all (face_followed m) (face_walk m b) ≡ true → over STRAIGHT ≡ first_of (straight_edge m) (joined (face_edges m) (face_walk m b))
    straight e =
        over-listed STRAIGHT
        ∙ by
        ∙ sym (first-firsts (face_straight room w x) faces)
        ∙ ap (first_of (face_straight room w x)) (sym walk)
        ∙ first-where (face_straight room w x) (λ f. first_of (straight_edge m) (face_edges m f)) (face_followed m) (face_walk m b) face-straight e
        ∙ sym (first-joined (straight_edge m) (face_edges m) (face_walk m b))
      where
        by : first_of (tested room w x STRAIGHT) (joined (list_of room w (list_by STRAIGHT)) shells) ≡ first_of (face_straight room w x) faces
        by = unfold tested list_by in refl

    abbrev wire_edges : List ℕ
    wire_edges = joined (λ s. (shell m s).wire_edges) (shells_of m b)

    wires : over WIRES ≡ first_of (straight_edge m) wire_edges
    wires = over-listed WIRES ∙ by
      where
        by : first_of (tested room w x WIRES) (joined (list_of room w (list_by WIRES)) shells) ≡ first_of (straight_edge m) wire_edges
        by = unfold tested list_by decode list_of in refl

    edges : first_of (straight_edge m) (edge_walk m b) ≡ (first_of (straight_edge m) (joined (face_edges m) (face_walk m b)) then first_of (straight_edge m) wire_edges)
    unfolding edge_walk
    edges =
        first-firsts (straight_edge m) (joined (face_edges m) (face_walk m b) ++ wire_edges)
        ∙ first_of-append (straight_edge m) (joined (face_edges m) (face_walk m b)) wire_edges

    -- the tests one after the other
    pub body-missing : body_followed room w b ≡ false → 2 ≡ require_polyhedral m b
    unfolding require_polyhedral
    body-missing e = rw (faces-refusal room w x b, e)

    pub body-tested : body_followed room w b ≡ true → (over FLAT then (over THERE then (over STRAIGHT then over WIRES))) ≡ require_polyhedral m b
    unfolding require_polyhedral edges_refusal
    body-tested e = rw (faces-refusal room w x b, e, flat, there, wires, edges) (ap (λ n. first_of (flat_face m) (face_walk m b) then n) (by (all (face_followed m) (face_walk m b)) refl))
      where
        by : (t : Bool) → all (face_followed m) (face_walk m b) ≡ t → (2 unless t then (over STRAIGHT then first_of (straight_edge m) wire_edges)) ≡ (2 unless t then (first_of (straight_edge m) (joined (face_edges m) (face_walk m b)) then first_of (straight_edge m) wire_edges))
        by true q = ap (λ n. n then first_of (straight_edge m) wire_edges) (straight q)
        by false q = refl

    -- where none refuses, all that the walks follow is there
    pub polyhedral-vertices : require_polyhedral m b ≡ 0 → vertices_refusal m b ≡ 0
    unfolding require_polyhedral vertices_refusal
    polyhedral-vertices e =
        let f = then-zero (faces_refusal m b) _ e in
        let a = then-zero (first_of (flat_face m) (face_walk m b)) _ f.1 in
        let d = then-zero (edges_refusal m b) _ a.1 in
        let edges-there : all (has m.edges) (edge_walk m b) ≡ true =
        first-all (straight_edge m) (has m.edges) (edge_walk m b) (λ y q. unfold straight_edge in unless-zero 1 (has m.edges y) (then-zero (2 unless has m.edges y) _ q).0) d.1 in
        rw (d.0, edges-there)

    pub polyhedral-edged : require_polyhedral m b ≡ 0 → Edged room w b
    polyhedral-edged e =
        let v = then-zero (edges_refusal m b) _ (sym (vertices-refusal room w x b) ∙ polyhedral-vertices e) in
        let d = then-zero (faces_refusal m b) _ (sym (edges-refusal room w x b) ∙ v.0) in
        let followed : body_followed room w b ≡ true = unless-zero 1 (body_followed room w b) (sym (faces-refusal room w x b) ∙ d.0) in
        let both = and_both (faces_there room w b) (loops_followed room w b) (unless-zero 1 (faces_there room w b && loops_followed room w b) d.1) in
        edged_of room w b (looped-of room w b (faced-of room w b (shelled-of room w b followed) both.0) both.1) (unless-zero 1 (edges_there room w b) v.1)

-- ---- 9 and 8 before

pub accepted-polyhedral : (room w : List ℕ) (x : List Float) (b : ℕ) (enough : Bool) → refused_by (readable room w x) enough (require_polyhedral (decode room w x) b) ≡ 0
    → (Fit room w x) × (require_polyhedral (decode room w x) b ≡ 0)
accepted-polyhedral room w x b enough e = let a = accepted (readable room w x) enough (require_polyhedral (decode room w x) b) e in (fit_of room w x a.0, a.1)
