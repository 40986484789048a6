-- The greatest status over a body's regions is what its lists are refused with: `refused_as`. Assumes nothing.
use Rattle.std.specs.Prelude.{ℕ, ◌≤◌, ◌<◌, ◌≡◌, refl, Bool, false, cond, ◌&&◌, List, [], ◌∷◌, ◌++◌, map, leb, ltb, Float}
use Rattle.std.proofs.Math.Path.{sym, ap, fun_ext}
use Rattle.std.proofs.Common.{◌∙◌, lt-ltb, le-ltb}
use Rattle.std.proofs.Math.Bool.{true}
use Rattle.geom_lines_planes.specs.Refuse.{◌unless◌, ◌then◌}
use Rattle.meaning.specs.Lists.{all, every, joined}
use Rattle.meaning.specs.Model.{Model, has, body, region, shell, face, loop, fin}
use Rattle.meaning.specs.Walks.{readable_fin}
use Rattle.meaning_list_laws.specs.Tests.{and_assoc, and-true}
use Rattle.meaning_mends.specs.Mends.{Child, a_region, a_shell, a_loop, a_fin, Meeting, met, loop_meetings, face_meetings, shell_meetings, region_meetings, meetings, loop_there, face_there, shell_there, region_there, body_there, listings, once, lists_refusal}
use Rattle.memory_layout.specs.Layout.{word}
use Rattle.memory_layout.specs.Decode.{decode}
use Rattle.memory_layout.specs.Entries.{list_of}
use Rattle.split_foreign.specs.Status.{greater, greatest, entry}
use Rattle.mend_tests.specs.Status.{listed, twice, follows, status, region_status}

-- ---- a status is made of two tests: all is there; all is listed once

abbrev grade : Bool → Bool → ℕ
grade p q = 2 unless p then 1 unless q

greater-grade : (a b c d : Bool) → greater (grade a b) (grade c d) ≡ grade (a && c) (b && d)
unfolding greater
greater-grade true true true true = refl
greater-grade true true true false = refl
greater-grade true false true true = refl
greater-grade true false true false = refl
greater-grade true true false d = refl
greater-grade true false false d = refl
greater-grade false b true true = refl
greater-grade false b true false = refl
greater-grade false b false d = refl

greatest-grade : (p q : ℕ → Bool) (l : List ℕ) → greatest (λ i. grade (p i) (q i)) l ≡ grade (all p l) (all q l)
unfolding greatest all
greatest-grade p q [] = refl
greatest-grade p q (y ∷ l) = rw (greatest-grade p q l) (greater-grade (p y) (q y) (all p l) (all q l))

entry-grade : (n : ℕ) (p q : ℕ → Bool) (f : ℕ → ℕ) → ((i : ℕ) → f i ≡ grade (p i) (q i)) → (i : ℕ) → entry n f i ≡ grade (ltb i n && p i) (q i)
entry-grade n p q f h i = rw (h i) (go (ltb i n))
  where
    go : (b : Bool) → cond b (grade (p i) (q i)) 2 ≡ grade (b && p i) (q i)
    go true = refl
    go false = refl

-- a level above another
level : (n : ℕ) (p q : ℕ → Bool) (f : ℕ → ℕ) → ((i : ℕ) → f i ≡ grade (p i) (q i)) → (l : List ℕ) → greatest (entry n f) l ≡ grade (all (λ i. ltb i n && p i) l) (all q l)
level n p q f h l = ap (λ g. greatest g l) (fun_ext (entry-grade n p q f h)) ∙ greatest-grade (λ i. ltb i n && p i) q l

-- with the record's own listings
raised : (n : ℕ) (p q : ℕ → Bool) (f : ℕ → ℕ) → ((i : ℕ) → f i ≡ grade (p i) (q i)) → (o : Bool) (l : List ℕ)
    → greater (1 unless o) (greatest (entry n f) l) ≡ grade (all (λ i. ltb i n && p i) l) (o && all q l)
raised n p q f h o l = rw (level n p q f h l) (greater-grade true o (all (λ i. ltb i n && p i) l) (all q l))

-- an edge is listed by no parent
edge-grade : (a : Bool) → (2 unless a) ≡ grade a true
edge-grade true = refl
edge-grade false = refl

-- ---- lists of meetings

every-both : (k l : List Bool) → every (k ++ l) ≡ (every k && every l)
unfolding every
every-both [] l = refl
every-both (b ∷ k) l = rw (every-both k l) (sym (and_assoc b (every k) (every l)))

map_both : (p : Meeting → Bool) (k l : List Meeting) → map p (k ++ l) ≡ map p k ++ map p l
map_both p [] l = refl
map_both p (t ∷ k) l = ap (λ r. p t ∷ r) (map_both p k l)

every_of : (p : Meeting → Bool) (g : ℕ → List Meeting) (l : List ℕ) → every (map p (joined g l)) ≡ all (λ y. every (map p (g y))) l
unfolding every joined all
every_of p g [] = refl
every_of p g (y ∷ l) = ap every (map_both p (g y) (joined g l)) ∙ every-both (map p (g y)) (map p (joined g l)) ∙ ap (λ b. every (map p (g y)) && b) (every_of p g l)

every-each : (p : Meeting → Bool) (g : ℕ → Meeting) (l : List ℕ) → every (map p (map g l)) ≡ all (λ y. p (g y)) l
unfolding every all
every-each p g [] = refl
every-each p g (y ∷ l) = ap (λ b. p (g y) && b) (every-each p g l)

-- ---- the levels, over the model: a record and all that it leads to is listed once, whatever parent it is met by

module _ (m : Model) where
  abbrev single : Child → ℕ → Bool
  single k i = leb (listings m k i) 1

  abbrev once-loop : ℕ → Bool
  once-loop l = single a_loop l && all (single a_fin) (loop m l).fins

  abbrev once-face : ℕ → Bool
  once-face f = all once-loop (face m f).loops

  abbrev once-shell : ℕ → Bool
  once-shell s = single a_shell s && all once-face (shell m s).faces

  abbrev once-region : ℕ → Bool
  once-region r = single a_region r && all once-shell (region m r).shells

  loop-once : (f l : ℕ) → every (map (once m) (loop_meetings m f l)) ≡ once-loop l
  unfolding loop_meetings every
  loop-once f l = ap (λ b. single a_loop l && b) (every-each (once m) (met a_fin l) (loop m l).fins)

  face-once : (f : ℕ) → every (map (once m) (face_meetings m f)) ≡ once-face f
  unfolding face_meetings
  face-once f = every_of (once m) (loop_meetings m f) (face m f).loops ∙ ap (λ p. all p (face m f).loops) (fun_ext (loop-once f))

  shell-once : (r s : ℕ) → every (map (once m) (shell_meetings m r s)) ≡ once-shell s
  unfolding shell_meetings every
  shell-once r s = ap (λ b. single a_shell s && b) (every_of (once m) (face_meetings m) (shell m s).faces ∙ ap (λ p. all p (shell m s).faces) (fun_ext face-once))

  region-once : (b r : ℕ) → every (map (once m) (region_meetings m b r)) ≡ once-region r
  unfolding region_meetings every
  region-once b r = ap (λ t. single a_region r && t) (every_of (once m) (shell_meetings m r) (region m r).shells ∙ ap (λ p. all p (region m r).shells) (fun_ext (shell-once r)))

  body-once : (b : ℕ) → every (map (once m) (meetings m b)) ≡ all once-region (body m b).regions
  unfolding meetings
  body-once b = every_of (once m) (region_meetings m b) (body m b).regions ∙ ap (λ p. all p (body m b).regions) (fun_ext (region-once b))

-- ---- the statuses of the lent memory

module _ (room w : List ℕ) (x : List Float) where
  abbrev m : Model
  m = decode room w x

  abbrev fins : ℕ → ℕ
  fins = status room w 5 (twice room w 4) (λ _. 2)

  abbrev loops : ℕ → ℕ
  loops = status room w 4 (twice room w 3) (entry (word w 5) fins)

  abbrev faces : ℕ → ℕ
  faces = status room w 3 (λ _. 0) (entry (word w 4) loops)

  abbrev shells : ℕ → ℕ
  shells = status room w 2 (twice room w 1) (entry (word w 3) faces)

  fin-status : (i : ℕ) → fins i ≡ grade (has m.edges (fin m i).edge) (single m a_fin i)
  unfolding status follows twice listed listings list_of decode
  fin-status i =
      let e = has m.edges (fin m i).edge in
      ap (greater (1 unless single m a_fin i)) (edge-grade e) ∙ greater-grade true (single m a_fin i) e true ∙ ap (grade e) (and-true (single m a_fin i))

  loop-status : (l : ℕ) → loops l ≡ grade (all (readable_fin m) (loop m l).fins) (once-loop m l)
  unfolding status follows twice listed listings list_of decode
  loop-status l = raised (word w 5) (λ i. has m.edges (fin m i).edge) (single m a_fin) fins fin-status (single m a_loop l) (loop m l).fins

  face-status : (f : ℕ) → faces f ≡ grade (all (loop_there m) (face m f).loops) (once-face m f)
  unfolding status follows list_of decode
  face-status f = raised (word w 4) (λ l. all (readable_fin m) (loop m l).fins) (once-loop m) loops loop-status true (face m f).loops

  shell-status : (s : ℕ) → shells s ≡ grade (all (face_there m) (shell m s).faces) (once-shell m s)
  unfolding status follows twice listed listings list_of decode
  shell-status s = raised (word w 3) (λ f. all (loop_there m) (face m f).loops) (once-face m) faces face-status (single m a_shell s) (shell m s).faces

  region-status : (r : ℕ) → region_status room w r ≡ grade (all (shell_there m) (region m r).shells) (once-region m r)
  unfolding region_status status follows twice listed listings list_of decode
  region-status r = raised (word w 2) (λ s. all (face_there m) (shell m s).faces) (once-shell m) shells shell-status (single m a_region r) (region m r).shells

  pub refused_as : (b : ℕ) → b < word w 0 → greatest (entry (word w 1) (region_status room w)) (list_of room w 0 b) ≡ lists_refusal (decode room w x) b
  unfolding lists_refusal body_there list_of decode
  refused_as b h =
      level (word w 1) (λ r. all (shell_there m) (region m r).shells) (once-region m) (region_status room w) region-status (body m b).regions
      ∙ sym (rw (lt-ltb b (word w 0) h) (ap (grade (all (region_there m) (body m b).regions)) (body-once m b)))

  pub body-missing : (b : ℕ) → word w 0 ≤ b → lists_refusal (decode room w x) b ≡ 2
  unfolding lists_refusal body_there decode
  body-missing b h = rw (le-ltb b (word w 0) h)
