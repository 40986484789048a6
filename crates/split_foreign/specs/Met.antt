-- A body has an edge exactly where its status is 1: `has-edge`; and what an office sees of the edge follows: `foreign-is`, `foreign-none`. Assumes nothing.
use Rattle.std.specs.Prelude.{ℕ, ◌<◌, ◌≡◌, Bool, List, [], ◌∷◌, ◌++◌, map, ltb, Float}
use Rattle.std.proofs.Common.{arith, ◌∙◌, lt-ltb, eq-eqb, ne_eqb}
use Rattle.std.proofs.Math.Path.{refl, sym, ap, ap₂, fun_ext}
use Rattle.std.proofs.Math.Bool.{true, false, not, cond, ◌&&◌, ◌||◌}
use Rattle.std.proofs.Math.Dec.{eqb}
use Rattle.geom_lines_planes.specs.Refuse.{◌unless◌, ◌then◌}
use Rattle.meaning.specs.Lists.{all, any, run, member, joined, firsts}
use Rattle.meaning.specs.Model.{Model, has, body, region, shell, face, loop, fin}
use Rattle.meaning.specs.Walks.{shells_of, face_walk, face_edges, edge_walk, region_followed, faces_refusal, loop_followed, face_followed, edges_refusal}
use Rattle.meaning.specs.Formed.{bit, has_edge}
use Rattle.meaning.specs.Offices.{foreign, body_for, foreign_edge}
use Rattle.meaning_list_laws.specs.Tests.{and_both, and-true, and_assoc, both_ways}
use Rattle.meaning_list_laws.specs.Lists.{all_both, all-counted, all-at, all_firsts, count-present, member-firsts, member-counted, member-append, fold-in}
use Rattle.memory_layout.specs.Layout.{word, words_of}
use Rattle.memory_layout.specs.Decode.{decode}
use Rattle.memory_layout.specs.Entries.{list_of}
use Rattle.split_foreign.specs.Status.{greater, greatest, entry, standing, fin_status, record_status, body_status, others, others_with}
use Rattle.split_foreign.specs.Facts.{Rows}
use Rattle.split_foreign.specs.Laws.{any-less, run-below}

-- ---- a status is made of two tests: all is there that the walk follows; the edge is met

abbrev code : Bool → Bool → ℕ
code p q = cond p (bit q) 2

greater-code : (a b c d : Bool) → greater (code a b) (code c d) ≡ code (a && c) (b || d)
unfolding greater
greater-code true true true true = refl
greater-code true true true false = refl
greater-code true false true true = refl
greater-code true false true false = refl
greater-code true true false d = refl
greater-code true false false d = refl
greater-code false b true true = refl
greater-code false b true false = refl
greater-code false b false d = refl

greatest-code : (p q : ℕ → Bool) (l : List ℕ) → greatest (λ i. code (p i) (q i)) l ≡ code (all p l) (any q l)
unfolding greatest all any
greatest-code p q [] = refl
greatest-code p q (y ∷ l) = rw (greatest-code p q l) (greater-code (p y) (q y) (all p l) (any q l))

entry-code : (n : ℕ) (p q : ℕ → Bool) (f : ℕ → ℕ) → ((i : ℕ) → f i ≡ code (p i) (q i)) → (i : ℕ) → entry n f i ≡ code (ltb i n && p i) (q i)
entry-code n p q f h i = rw (h i) (go (ltb i n))
  where
    go : (b : Bool) → cond b (code (p i) (q i)) 2 ≡ code (b && p i) (q i)
    go true = refl
    go false = refl

-- a level above another
level : (n : ℕ) (p q : ℕ → Bool) (f : ℕ → ℕ) → ((i : ℕ) → f i ≡ code (p i) (q i)) → (l : List ℕ) → greatest (entry n f) l ≡ code (all (λ i. ltb i n && p i) l) (any q l)
level n p q f h l = ap (λ g. greatest g l) (fun_ext (entry-code n p q f h)) ∙ greatest-code (λ i. ltb i n && p i) q l

code_one : (a b : Bool) → eqb (code a b) 1 ≡ (a && b)
code_one true true = refl
code_one true false = refl
code_one false b = refl

-- ---- lists of lists

all_of : (p : ℕ → Bool) (g : ℕ → List ℕ) (l : List ℕ) → all p (joined g l) ≡ all (λ y. all p (g y)) l
unfolding all joined
all_of p g [] = refl
all_of p g (y ∷ l) = all_both p (g y) (joined g l) ∙ ap (λ b. all p (g y) && b) (all_of p g l)

all_two : (p q : ℕ → Bool) (l : List ℕ) → all (λ y. p y && q y) l ≡ (all p l && all q l)
unfolding all
all_two p q [] = refl
all_two p q (y ∷ l) = rw (all_two p q l) (swap (p y) (q y) (all p l) (all q l))
  where
    swap : (a b c d : Bool) → ((a && b) && (c && d)) ≡ ((a && c) && (b && d))
    swap true true true d = refl
    swap true true false d = refl
    swap true false true d = refl
    swap true false false d = refl
    swap false b c d = refl

any-both : (p : ℕ → Bool) (k l : List ℕ) → any p (k ++ l) ≡ (any p k || any p l)
unfolding any
any-both p [] l = refl
any-both p (y ∷ k) l = ap (λ b. p y || b) (any-both p k l) ∙ go (p y) (any p k) (any p l)
  where
    go : (a b c : Bool) → (a || (b || c)) ≡ ((a || b) || c)
    go true b c = refl
    go false b c = refl

any_of : (p : ℕ → Bool) (g : ℕ → List ℕ) (l : List ℕ) → any p (joined g l) ≡ any (λ y. any p (g y)) l
unfolding any joined
any_of p g [] = refl
any_of p g (y ∷ l) = any-both p (g y) (joined g l) ∙ ap (λ b. any p (g y) || b) (any_of p g l)

any-two : (p q : ℕ → Bool) (l : List ℕ) → any (λ y. p y || q y) l ≡ (any p l || any q l)
unfolding any
any-two p q [] = refl
any-two p q (y ∷ l) = rw (any-two p q l) (swap (p y) (q y) (any p l) (any q l))
  where
    swap : (a b c d : Bool) → ((a || b) || (c || d)) ≡ ((a || c) || (b || d))
    swap true b c d = refl
    swap false true true d = refl
    swap false true false d = refl
    swap false false true d = refl
    swap false false false d = refl

member_of : (e : ℕ) (g : ℕ → List ℕ) (l : List ℕ) → member e (joined g l) ≡ any (λ y. member e (g y)) l
unfolding any joined member
member_of e g [] = refl
member_of e g (y ∷ l) = member-append e (g y) (joined g l) ∙ ap (λ b. member e (g y) || b) (member_of e g l)

member-map : (e : ℕ) (h : ℕ → ℕ) (l : List ℕ) → member e (map h l) ≡ any (λ i. eqb e (h i)) l
unfolding any member
member-map e h [] = refl
member-map e h (y ∷ l) = ap (λ b. eqb e (h y) || b) (member-map e h l)

-- at first meetings
all-met : (p : ℕ → Bool) (l : List ℕ) → all p (firsts l) ≡ all p l
all-met p l =
    both_ways (all p (firsts l)) (all p l)
    (λ e. all-counted p l (λ c h. all-at p (firsts l) c e (count-present c (firsts l) (member-firsts c l ∙ member-counted c l h))))
    (all_firsts p l)

any-not : (p : ℕ → Bool) (l : List ℕ) → any p l ≡ not (all (λ y. not (p y)) l)
unfolding any all
any-not p [] = refl
any-not p (y ∷ l) = rw (any-not p l) (go (p y) (all (λ y. not (p y)) l))
  where
    go : (a b : Bool) → (a || not b) ≡ not (not a && b)
    go true b = refl
    go false b = refl

any_met : (p : ℕ → Bool) (l : List ℕ) → any p (firsts l) ≡ any p l
any_met p l = any-not p (firsts l) ∙ ap not (all-met (λ y. not (p y)) l) ∙ sym (any-not p l)

-- ---- the levels, over the model

module _ (m : Model) (e : ℕ) where
  abbrev meets-fin : ℕ → Bool
  meets-fin i = eqb e (fin m i).edge

  abbrev below-loop : ℕ → Bool
  below-loop l = all (has m.fins) (loop m l).fins

  abbrev meets-loop : ℕ → Bool
  meets-loop l = any meets-fin (loop m l).fins

  abbrev below-face : ℕ → Bool
  below-face f = all (loop_followed m) (face m f).loops

  abbrev meets-face : ℕ → Bool
  meets-face f = any meets-loop (face m f).loops

  abbrev below-shell : ℕ → Bool
  below-shell s = all (face_followed m) (shell m s).faces

  abbrev meets-shell : ℕ → Bool
  meets-shell s = any meets-face (shell m s).faces || member e (shell m s).wire_edges

  abbrev below-region : ℕ → Bool
  below-region r = all (λ s. has m.shells s && below-shell s) (region m r).shells

  abbrev meets-region : ℕ → Bool
  meets-region r = any meets-shell (region m r).shells

  abbrev below-body : ℕ → Bool
  below-body b = all (λ r. has m.regions r && below-region r) (body m b).regions

  abbrev meets-body : ℕ → Bool
  meets-body b = any meets-region (body m b).regions

  -- all is there that the edge walk follows
  followed-is : (b : ℕ) → below-body b ≡ (all (region_followed m) (body m b).regions && all (face_followed m) (face_walk m b))
  unfolding face_walk
  followed-is b =
      let rs = (body m b).regions in
      ap (λ p. all p rs) (fun_ext parts)
      ∙ all_two (region_followed m) (λ r. all below-shell (region m r).shells) rs
      ∙ ap (λ c. all (region_followed m) rs && c)
      (sym (all-met (face_followed m) (joined (λ s. (shell m s).faces) (shells_of m b)) ∙ all_of (face_followed m) (λ s. (shell m s).faces) (shells_of m b)
      ∙ all_of below-shell (λ r. (region m r).shells) rs))
    where
      parts : (r : ℕ) → (has m.regions r && below-region r) ≡ (region_followed m r && all below-shell (region m r).shells)
      parts r =
          ap (λ c. has m.regions r && c) (all_two (has m.shells) below-shell (region m r).shells)
          ∙ sym (and_assoc (has m.regions r) (all (has m.shells) (region m r).shells) (all below-shell (region m r).shells))

  -- the edge is in the walk
  met-is : (b : ℕ) → meets-body b ≡ member e (edge_walk m b)
  unfolding edge_walk face_walk
  met-is b =
      let ss = shells_of m b in
      let fs = joined (λ s. (shell m s).faces) ss in
      sym (
      member-firsts e (joined (face_edges m) (firsts fs) ++ joined (λ s. (shell m s).wire_edges) ss)
      ∙ member-append e (joined (face_edges m) (firsts fs)) (joined (λ s. (shell m s).wire_edges) ss)
      ∙ ap₂ ◌||◌
      (member_of e (face_edges m) (firsts fs) ∙ ap (λ p. any p (firsts fs)) (fun_ext edges) ∙ any_met meets-face fs ∙ any_of meets-face (λ s. (shell m s).faces) ss)
      (member_of e (λ s. (shell m s).wire_edges) ss)
      ∙ sym (any-two (λ s. any meets-face (shell m s).faces) (λ s. member e (shell m s).wire_edges) ss)
      ∙ any_of meets-shell (λ r. (region m r).shells) (body m b).regions
      )
    where
      edges : (f : ℕ) → member e (face_edges m f) ≡ meets-face f
      edges f = member-map e (λ i. (fin m i).edge) (joined (λ l. (loop m l).fins) (face m f).loops) ∙ any_of meets-fin (λ l. (loop m l).fins) (face m f).loops

  -- so a body has the edge
  had : (b : ℕ) → has m.bodies b ≡ true → (below-body b && meets-body b) ≡ has_edge m b e
  unfolding edges_refusal faces_refusal
  had b h = rw (followed-is b, met-is b, h) (ap (λ c. c && member e (edge_walk m b)) (go (all (region_followed m) (body m b).regions) (all (face_followed m) (face_walk m b))))
    where
      go : (p q : Bool) → (p && q) ≡ eqb (2 unless p then 2 unless q) 0
      go true true = refl
      go true false = refl
      go false q = refl

-- ---- the statuses of the lent memory

module _ (room w : List ℕ) (x : List Float) (e : ℕ) where
  abbrev m : Model
  m = decode room w x

  fin-status : (i : ℕ) → entry (word w 5) (fin_status room w e) i ≡ code (has m.fins i) (meets-fin m e i)
  unfolding fin_status decode
  fin-status i = go (ltb i (word w 5))
    where
      go : (b : Bool) → cond b (bit (eqb e (word (words_of room w 5 i) 1))) 2 ≡ code b (eqb e (word (words_of room w 5 i) 1))
      go true = refl
      go false = refl

  loop-status : (l : ℕ) → record_status room w e 6 (entry (word w 5) (fin_status room w e)) l ≡ code (below-loop m e l) (meets-loop m e l)
  unfolding record_status list_of decode
  loop-status l = ap (λ g. greatest g (loop m l).fins) (fun_ext fin-status) ∙ greatest-code (has m.fins) (meets-fin m e) (loop m l).fins

  abbrev loops : ℕ → ℕ
  loops = record_status room w e 6 (entry (word w 5) (fin_status room w e))

  face-status : (f : ℕ) → record_status room w e 5 (entry (word w 4) loops) f ≡ code (below-face m e f) (meets-face m e f)
  unfolding record_status list_of decode
  face-status f = level (word w 4) (below-loop m e) (meets-loop m e) loops loop-status (face m f).loops

  abbrev faces : ℕ → ℕ
  faces = record_status room w e 5 (entry (word w 4) loops)

  shell-status : (s : ℕ) → record_status room w e 2 (entry (word w 3) faces) s ≡ code (below-shell m e s) (meets-shell m e s)
  unfolding record_status list_of decode
  shell-status s =
      ap (λ n. greater n (bit (member e (shell m s).wire_edges))) (level (word w 3) (below-face m e) (meets-face m e) faces face-status (shell m s).faces)
      ∙ greater-code (below-shell m e s) (any (meets-face m e) (shell m s).faces) true (member e (shell m s).wire_edges)
      ∙ ap (λ b. code b (meets-shell m e s)) (and-true (below-shell m e s))

  abbrev shells : ℕ → ℕ
  shells = record_status room w e 2 (entry (word w 3) faces)

  region-status : (r : ℕ) → record_status room w e 1 (entry (word w 2) shells) r ≡ code (below-region m e r) (meets-region m e r)
  unfolding record_status list_of decode
  region-status r = level (word w 2) (below-shell m e) (meets-shell m e) shells shell-status (region m r).shells

  abbrev regions : ℕ → ℕ
  regions = record_status room w e 1 (entry (word w 2) shells)

  body-status : (b : ℕ) → body_status room w e b ≡ code (below-body m e b) (meets-body m e b)
  unfolding body_status record_status list_of decode
  body-status b = level (word w 1) (below-region m e) (meets-region m e) regions region-status (body m b).regions

  pub has-edge : (b : ℕ) → b < word w 0 → eqb (body_status room w e b) 1 ≡ has_edge (decode room w x) b e
  unfolding decode
  has-edge b h = ap (λ n. eqb n 1) (body-status b) ∙ code_one (below-body m e b) (meets-body m e b) ∙ had m e b (lt-ltb b (word w 0) h)

  -- ---- the other office's bodies

  module _ (o : ℕ) where
    other-is : (b : ℕ) → b < word w 0 → others room w o b ≡ foreign (decode room w x) o b
    unfolding body_for decode
    other-is b h = go (foreign m o b)
      where
        go : (t : Bool) → not (eqb (cond t (word w 0) b) b) ≡ t
        go true = rw (ne_eqb (word w 0) b (λ q. omega arith))
        go false = rw (eq-eqb b b refl)

    pub foreign-is : (s : List ℕ) → Rows (word w 0) (body_status room w e) s → others_with room w o (standing s) ≡ foreign_edge (decode room w x) o e
    unfolding others_with foreign_edge any decode
    foreign-is s r =
        fold-in any ◌||◌ false (λ f. refl) (λ f y k. refl) _ _ (run 0 (word w 0))
        (λ b h.
        let less = run-below (word w 0) b h in
        let stands : standing s b ≡ body_status room w e b = r.each b ∙ ap (λ t. cond t (body_status room w e b) 2) (lt-ltb b (word w 0) less) in
        ap₂ ◌&&◌ (other-is b less) (ap (λ n. eqb n 1) stands ∙ has-edge b less))

    -- where the other office has no body it has no edge
    pub foreign-none : (s : List ℕ) → ((b : ℕ) → b < word w 0 → standing s b ≡ 1) → others_with room w o (standing s) ≡ false → foreign_edge (decode room w x) o e ≡ false
    unfolding others_with foreign_edge decode
    foreign-none s ones f =
        any-less (λ b. others room w o b && eqb (standing s b) 1) (λ b. foreign m o b && has_edge m b e) (run 0 (word w 0))
        (λ b h t.
        let less = run-below (word w 0) b h in
        rw (other-is b less, ones b less) (and-true (foreign m o b) ∙ (and_both (foreign m o b) (has_edge m b e) t).0))
        f
