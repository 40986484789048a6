-- The changes of an accepted mending, each asked of the model that those before it left: its record is there, and a fin is put behind the last of its edge's. Assumes nothing.
use Rattle.std.specs.Prelude.{ℕ, ◌<◌, ◌≡◌, refl, Bool, false, not, eqb, length}
use Rattle.std.proofs.Math.Bool.{true}
use mathlib.Core.List.{List, [], ◌∷◌, ◌++◌, map}
use borrow.Author.Tests.{ltb-true}
use Rattle.meaning.specs.Lists.{all, member, joined}
use Rattle.meaning.specs.Model.{Model, changed, has, body, region, shell, face, loop, fin, edge}
use Rattle.meaning.specs.Walks.{readable_fin}
use Rattle.meaning_list_laws.specs.Tests.{and_both}
use Rattle.meaning_mends.specs.Mends.{Child, a_region, a_shell, a_loop, a_fin, named, Meeting, met, loop_meetings, face_meetings, shell_meetings, region_meetings, meetings, Change, renamed, enlisted, made, made_all, change_if, parent_change, fin_change, loop_there, face_there, shell_there, region_there, body_there}
use Rattle.meaning_mends.specs.Laws.{Want, parent, listing, change_for, list_wants, wants_all, Each, each_append, Met}

-- how many regions, shells, loops and fins there are
abbrev pub records : Model → Child → ℕ
records m a_region = m.regions.used
records m a_shell = m.shells.used
records m a_loop = m.loops.used
records m a_fin = m.fins.used

-- a change that the model takes, and changes that it takes one after the other
abbrev pub Due : Model → Change → Type 0
Due m (renamed k i old new) = i < records m k
Due m (enlisted e place i) = (e < m.edges.used) × (place ≡ length (edge m e).fins)

abbrev pub AllDue : Model → List Change → Type 0
AllDue m [] = Unit {0}
AllDue m (c ∷ l) = Due m c × AllDue (made m c) l

pub due-append : (m : Model) (k l : List Change) → AllDue m k → AllDue (made_all m k) l → AllDue m (k ++ l)
unfolding made_all
due-append m [] l a b = b
due-append m (c ∷ k) l a b = (a.0, due-append (made m c) k l a.1 b)

-- ---- what a meeting asks for is of records that are there

abbrev pub Present : Model → Want → Type 0
Present m (parent t) = t.id < records m t.child
Present m (listing i) = (i < m.fins.used) × ((fin m i).edge < m.edges.used)

pub want-due : (m : Model) (v : Want) → Present m v → AllDue m (change_for m v)
unfolding parent_change fin_change
want-due m (parent t) h = by (not (eqb (named m t.child t.id) t.parent))
  where
    by : (b : Bool) → AllDue m (change_if b (renamed t.child t.id (named m t.child t.id) t.parent))
    by true = (h, tt)
    by false = tt
want-due m (listing i) h = by (not (member i (edge m (fin m i).edge).fins))
  where
    by : (b : Bool) → AllDue m (change_if b (enlisted (fin m i).edge (length (edge m (fin m i).edge).fins) i))
    by true = ((h.1, refl), tt)
    by false = tt

-- a change makes no record, and leaves a fin's edge
pub records-made : (m : Model) (c : Change) (k : Child) → records (made m c) k ≡ records m k
unfolding made changed
records-made m c a_region = refl
records-made m c a_shell = refl
records-made m c a_loop = refl
records-made m c a_fin = refl

present-made : (m : Model) (c : Change) (v : Want) → Present m v → Present (made m c) v
unfolding made changed
present-made m c (parent t) h = rw (records-made m c t.child) h
present-made m c (listing i) h = h

pub present-all : (m : Model) (c : List Change) (l : List Want) → Each (Present m) l → Each (Present (made_all m c)) l
unfolding made_all
present-all m [] l h = h
present-all m (c ∷ k) l h = present-all (made m c) k l (each l h)
  where
    each : (l : List Want) → Each (Present m) l → Each (Present (made m c)) l
    each [] h = tt
    each (v ∷ l) h = (present-made m c v h.0, each l h.1)

-- ---- what the body's lists name is there

module _ (P : Meeting → Type 0) where
  met-append : (k l : List Meeting) → Met P k → Met P l → Met P (k ++ l)
  met-append [] l a b = b
  met-append (t ∷ k) l a b = (a.0, met-append k l a.1 b)

  -- of all that pass a test
  met-joined : (p : ℕ → Bool) (f : ℕ → List Meeting) (l : List ℕ) → ((y : ℕ) → p y ≡ true → Met P (f y)) → all p l ≡ true → Met P (joined f l)
  unfolding all joined
  met-joined p f [] h a = tt
  met-joined p f (y ∷ l) h a = let both = and_both (p y) (all p l) a in met-append (f y) (joined f l) (h y both.0) (met-joined p f l h both.1)

  met-map : (p : ℕ → Bool) (f : ℕ → Meeting) (l : List ℕ) → ((y : ℕ) → p y ≡ true → P (f y)) → all p l ≡ true → Met P (map f l)
  unfolding all
  met-map p f [] h a = tt
  met-map p f (y ∷ l) h a = let both = and_both (p y) (all p l) a in (h y both.0, met-map p f l h both.1)

module _ (m : Model) where
  abbrev There : Meeting → Type 0
  There t = Present m (parent t) × Each (Present m) (list_wants t.child t.id)

  loop-present : (f l : ℕ) → loop_there m l ≡ true → Met There (loop_meetings m f l)
  unfolding loop_meetings
  loop-present f l t =
      let both = and_both (has m.loops l) _ t in
      ((ltb-true l m.loops.used both.0, tt), met-map There (readable_fin m) (met a_fin l) (loop m l).fins one both.1)
    where
      one : (i : ℕ) → readable_fin m i ≡ true → There (met a_fin l i)
      one i r =
          let both = and_both (has m.fins i) (has m.edges (fin m i).edge) r in
          let here : i < m.fins.used = ltb-true i m.fins.used both.0 in
          (here, ((here, ltb-true (fin m i).edge m.edges.used both.1), tt))

  face-present : (f : ℕ) → face_there m f ≡ true → Met There (face_meetings m f)
  unfolding face_meetings
  face-present f t = met-joined There (loop_there m) (loop_meetings m f) (face m f).loops (loop-present f) (and_both (has m.faces f) _ t).1

  shell-present : (r s : ℕ) → shell_there m s ≡ true → Met There (shell_meetings m r s)
  unfolding shell_meetings
  shell-present r s t =
      let both = and_both (has m.shells s) _ t in
      ((ltb-true s m.shells.used both.0, tt), met-joined There (face_there m) (face_meetings m) (shell m s).faces face-present both.1)

  region-present : (b r : ℕ) → region_there m r ≡ true → Met There (region_meetings m b r)
  unfolding region_meetings
  region-present b r t =
      let both = and_both (has m.regions r) _ t in
      ((ltb-true r m.regions.used both.0, tt), met-joined There (shell_there m) (shell_meetings m r) (region m r).shells (shell-present r) both.1)

  body-present : (b : ℕ) → body_there m b ≡ true → Met There (meetings m b)
  unfolding meetings body_there
  body-present b t = met-joined There (region_there m) (region_meetings m b) (body m b).regions (region-present b) (and_both (has m.bodies b) _ t).1

  wants-present : (l : List Meeting) → Met There l → Each (Present m) (wants_all l)
  unfolding wants_all
  wants-present [] h = tt
  wants-present (t ∷ l) h = (h.0.0, each_append (Present m) (list_wants t.child t.id) (wants_all l) h.0.1 (wants-present l h.1))

  pub body-wants : (b : ℕ) → body_there m b ≡ true → Each (Present m) (wants_all (meetings m b))
  body-wants b t = wants-present (meetings m b) (body-present b t)
