-- The fins of a movable body: each stands once in the loops of its solid sides, and the other fin of its edge stands there too, turned. Assumes nothing.
use Rattle.std.specs.Prelude.{ℕ, ◌≤◌, ◌<◌, ◌≡◌, refl, Bool, true, false, not, cond, ◌&&◌, ◌||◌, List, [], ◌∷◌, eqb, leb, ltb, length, get_or}
use Rattle.std.proofs.Common.{arith, sym, ap, ◌∙◌, ltb-true, eqb-true, eq-eqb}
use Rattle.std.proofs.lemmas.Bool.{false≢true}
use Rattle.std.proofs.Math.Bool.{or-true}
use Rattle.std.proofs.Math.Option.{Option, none, some}
use Rattle.meaning.specs.Lists.{member, count, joined, is}
use Rattle.meaning.specs.Model.{Model, Limits, has, body, region, shell, face, loop, fin, edge}
use Rattle.meaning.specs.Walks.{shells_of, face_walk, edge_walk}
use Rattle.meaning.specs.Inquire.{rim}
use Rattle.meaning.specs.Formed.{bit}
use Rattle.meaning_list_laws.specs.Tests.{and_both, bit-true}
use Rattle.meaning_list_laws.specs.Lists.{count-present, count-absent, member-counted, member-none, member-one, member-nth, member-firsts, all-member}
use Rattle.meaning_split_laws.specs.Walked.{faces-there}
use Rattle.meaning_isolation.specs.Laws.{joined-from, joined_in}
use Rattle.meaning_shift.specs.Moving.{Movable, one_of, outside}
use Rattle.meaning_shift.specs.Met.{fin-edge-walked}

-- the fins in the loops of the solid sides, side by side
abbrev pub shell_fins : Model → ℕ → List ℕ
shell_fins m s = joined (rim m) (shell m s).faces

abbrev pub region_fins : Model → ℕ → List ℕ
region_fins m q = cond (region m q).solid (joined (shell_fins m) (region m q).shells) []

abbrev pub body_fins : Model → ℕ → List ℕ
body_fins m b = joined (region_fins m) (body m b).regions

-- ---- small facts

pub bit-small : (t : Bool) → bit t ≤ 1
bit-small true = omega arith
bit-small false = omega arith

pub bit-cond : (t : Bool) → bit t ≡ cond t 1 0
bit-cond true = refl
bit-cond false = refl

if-open : (i : ℕ) (t : Bool) (l : List ℕ) → member i (cond t l []) ≡ true → member i l ≡ true
if-open i true l h = h
if-open i false l h = absurd (false≢true (sym (member-none i) ∙ h))

only-entry : (y : ℕ) (l : List ℕ) → length l ≡ 1 → member y l ≡ true → get_or l 0 0 ≡ y
only-entry y [] n h = absurd (omega arith)
only-entry y (z ∷ []) n h = sym (eqb-true y z (sym (member-one y z) ∙ h))
only-entry y (z ∷ u ∷ l) n h = absurd (omega arith)

pub one-of : (o : Option ℕ) (l : List ℕ) → one_of o l ≡ true → (s : ℕ) × (o ≡ some s) × (member s l ≡ true)
one-of none l h = absurd (false≢true h)
one-of (some s) l h = (s, refl, h)

-- a shell of a solid region is not the front
pub not-front : (m : Model) (o : Option ℕ) (s : ℕ) → outside m o ≡ true → (region m (shell m s).region).solid ≡ true → is o s ≡ false
not-front m none s h g = refl
not-front m (some u) s h g = by (eqb u s) refl
  where
    by : (t : Bool) → eqb u s ≡ t → t ≡ false
    by false e = refl
    by true e = absurd (false≢true (sym (ap not (ap (λ (z : ℕ). (region m (shell m z).region).solid) (eqb-true u s e) ∙ g)) ∙ h))

module _ (x : Limits) (m : Model) (b r : ℕ) (k : Movable x m b r) where
  -- the face that a fin belongs to
  abbrev pub parent : ℕ → ℕ
  parent i = (loop m (fin m i).owner).face

  abbrev pub Walked : ℕ → Type 0
  Walked f = member f (face_walk m b) ≡ true

  pub face-walked : (q s f : ℕ) → member q (body m b).regions ≡ true → member s (region m q).shells ≡ true → member f (shell m s).faces ≡ true → Walked f
  unfolding face_walk
  face-walked q s f a c d =
      member-firsts f (joined (λ s. (shell m s).faces) (shells_of m b))
      ∙ joined_in (λ s. (shell m s).faces) (shells_of m b) s f (joined_in (λ r. (region m r).shells) (body m b).regions q s a c) d

  pub face-below : (f : ℕ) → Walked f → f < m.faces.used
  face-below f h = ltb-true f m.faces.used (all-member (λ f. ltb f m.faces.used) (face_walk m b) f (faces-there x m k.formed b k.there) h)

  pub region-below : (q : ℕ) → member q (body m b).regions ≡ true → q < m.regions.used
  region-below q h = ltb-true q m.regions.used (all-member (has m.regions) (body m b).regions q (k.formed.ids.body-regions b k.there) h)

  pub shell-below : (q s : ℕ) → q < m.regions.used → member s (region m q).shells ≡ true → s < m.shells.used
  shell-below q s hq h = ltb-true s m.shells.used (all-member (has m.shells) (region m q).shells s (k.formed.ids.region-shells q hq) h)

  pub shell-names : (q s : ℕ) → q < m.regions.used → member s (region m q).shells ≡ true → (shell m s).region ≡ q
  shell-names q s hq h =
      eqb-true (shell m s).region q
      (bit-true (eqb (shell m s).region q)
      (omega (arith, count-present s (region m q).shells h, k.formed.shells.once q s hq (shell-below q s hq h))))

  -- ---- a face's only loop

  module _ (f : ℕ) (h : Walked f) where
    one-loop : length (face m f).loops ≡ 1
    one-loop =
        eqb-true (length (face m f).loops) 1
        (and_both (eqb (length (face m f).loops) 1) (leb 3 (length (rim m f)))
        (all-member (λ f. eqb (length (face m f).loops) 1 && leb 3 (length (rim m f))) (face_walk m b) f k.loops h)).0

    loop-listed : member (get_or (face m f).loops 0 0) (face m f).loops ≡ true
    loop-listed = member-nth (face m f).loops 0 (omega (arith, one-loop))

    pub loop-below : get_or (face m f).loops 0 0 < m.loops.used
    loop-below =
        ltb-true (get_or (face m f).loops 0 0) m.loops.used
        (all-member (has m.loops) (face m f).loops (get_or (face m f).loops 0 0) (k.formed.ids.face-loops f (face-below f h)) loop-listed)

    loop-names : (loop m (get_or (face m f).loops 0 0)).face ≡ f
    loop-names =
        eqb-true (loop m (get_or (face m f).loops 0 0)).face f
        (bit-true (eqb (loop m (get_or (face m f).loops 0 0)).face f)
        (omega (arith, count-present (get_or (face m f).loops 0 0) (face m f).loops loop-listed, k.formed.loops.once f (get_or (face m f).loops 0 0) (face-below f h) loop-below)))

    pub fin-below : (i : ℕ) → member i (rim m f) ≡ true → i < m.fins.used
    fin-below i g = ltb-true i m.fins.used (all-member (has m.fins) (rim m f) i (k.formed.ids.loop-fins (get_or (face m f).loops 0 0) loop-below) g)

    rim-count : (i : ℕ) → i < m.fins.used → count i (rim m f) ≡ bit (eqb (fin m i).owner (get_or (face m f).loops 0 0))
    rim-count i hi = k.formed.fins.once (get_or (face m f).loops 0 0) i loop-below hi

    pub parent_is : (i : ℕ) → member i (rim m f) ≡ true → parent i ≡ f
    parent_is i g =
        ap (λ (l : ℕ). (loop m l).face)
        (eqb-true (fin m i).owner (get_or (face m f).loops 0 0)
        (bit-true (eqb (fin m i).owner (get_or (face m f).loops 0 0)) (omega (arith, count-present i (rim m f) g, rim-count i (fin-below i g)))))
        ∙ loop-names

    pub count-rim : (i : ℕ) → count i (rim m f) ≤ cond (eqb (parent i) f) 1 0
    count-rim i = by (member i (rim m f)) refl
      where
        by : (t : Bool) → member i (rim m f) ≡ t → count i (rim m f) ≤ cond (eqb (parent i) f) 1 0
        by true g =
            rw (eq-eqb (parent i) f (parent_is i g))
            (omega (arith, rim-count i (fin-below i g), bit-small (eqb (fin m i).owner (get_or (face m f).loops 0 0))))
        by false g = omega (arith, count-absent i (rim m f) g)

    pub rim-in : (i : ℕ) → i < m.fins.used → parent i ≡ f → member i (rim m f) ≡ true
    rim-in i hi e =
        let here : eqb (parent i) f ≡ true = eq-eqb (parent i) f e in
        let counted : count (fin m i).owner (face m f).loops ≡ 1 = k.formed.loops.once f (fin m i).owner (face-below f h) (k.formed.ids.fin-owner i hi) ∙ ap bit here in
        let is : get_or (face m f).loops 0 0 ≡ (fin m i).owner = only-entry (fin m i).owner (face m f).loops one-loop (member-counted (fin m i).owner (face m f).loops (omega arith)) in
        let mine : count i (rim m f) ≡ 1 = rim-count i hi ∙ ap bit (eq-eqb (fin m i).owner (get_or (face m f).loops 0 0) (sym is)) in
        member-counted i (rim m f) (omega arith)

    pub edge-walked : (i : ℕ) → member i (rim m f) ≡ true → member (fin m i).edge (edge_walk m b) ≡ true
    edge-walked i g = fin-edge-walked m b f (get_or (face m f).loops 0 0) i h loop-listed g

    -- a fin of a face of the body is one of the solid sides'
    pub body-fin : (i : ℕ) → member i (rim m f) ≡ true → member i (body_fins m b) ≡ true
    body-fin i g =
        let back = one-of (face m f).back (region m r).shells (all-member (λ f. one_of (face m f).back (region m r).shells) (face_walk m b) f k.backs h) in
        go back.0 back.1 back.2
      where
        second : (a c : Bool) → c ≡ true → (a || c) ≡ true
        second a c e = rw e (or-true a)

        go : (s : ℕ) → (face m f).back ≡ some s → member s (region m r).shells ≡ true → member i (body_fins m b) ≡ true
        go s e g' =
            let named : is (face m f).back s ≡ true = ap (λ (o : Option ℕ). is o s) e ∙ eq-eqb s s refl in
            let counted : count f (shell m s).faces ≡ 1 = k.formed.faces.once s f (shell-below r s (region-below r k.own) g') (face-below f h) ∙ ap bit (second (is (face m f).front s) (is (face m f).back s) named) in
            let inner : member i (joined (shell_fins m) (region m r).shells) ≡ true = joined_in (shell_fins m) (region m r).shells s i g' (joined_in (rim m) (shell m s).faces f i (member-counted f (shell m s).faces (omega arith)) g) in
            joined_in (region_fins m) (body m b).regions r i k.own (ap (λ (t : Bool). member i (cond t (joined (shell_fins m) (region m r).shells) [])) k.filled ∙ inner)

  -- and each of those is a fin of a face of the body
  pub fin-from : (i : ℕ) → member i (body_fins m b) ≡ true → (f : ℕ) × (Walked f) × (member i (rim m f) ≡ true)
  fin-from i h =
      let q = joined-from (region_fins m) (body m b).regions i h in
      let s = joined-from (shell_fins m) (region m q.0).shells i (if-open i (region m q.0).solid (joined (shell_fins m) (region m q.0).shells) q.2) in
      let f = joined-from (rim m) (shell m s.0).faces i s.2 in
      (f.0, face-walked q.0 s.0 f.0 q.1 s.1 f.1, f.2)
