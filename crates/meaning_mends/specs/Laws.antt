-- What a mending keeps, and that a second one finds nothing to change. Assumes nothing.
use Rattle.std.specs.Prelude.{ℕ, zero, suc, ◌+◌, ◌≤◌, ◌<◌, ◌≡◌, refl, Bool, false, not, cond, ◌&&◌, eqb, leb, length}
use Rattle.std.proofs.Common.{arith, sym, ap, ◌∙◌, ltb-true, leb-true, eqb-true, eq-eqb}
use Rattle.std.proofs.Math.Path.{subst}
use Rattle.std.proofs.Math.Bool.{true, or-true}
use mathlib.Core.List.{List, [], ◌∷◌, ◌++◌, map, append_assoc, append-nil}
use Rattle.std.proofs.lemmas.Bool.{eqb-false}
use Rattle.meaning.specs.Lists.{run, all, every, member, count, joined}
use Rattle.meaning.specs.Model.{Model, changed, has, body, region, shell, face, loop, fin, edge}
use Rattle.meaning.specs.Edits.{appended}
use Rattle.meaning_list_laws.specs.Tests.{and_both}
use Rattle.meaning_list_laws.specs.Lists.{member-append, member-head, all-member, count-append, count-present, joined-append, joined-cons, joined-none}
use Rattle.meaning_mends.specs.Mends.{Child, a_region, a_shell, a_loop, a_fin, named, children, parents, Meeting, met, loop_meetings, face_meetings, shell_meetings, region_meetings, meetings, child_table, same_child, Change, renamed, enlisted, names_now, lists_now, made, made_all, change_if, parent_change, fin_change, list_change, changes_at, changes_for, changes, mended, loop_there, face_there, shell_there, region_there, body_there, listings, once}

-- ---- a change leaves all lists but an edge's as they were, and whose edge a fin is of

pub meetings-made : (m : Model) (c : Change) (b : ℕ) → meetings (made m c) b ≡ meetings m b
unfolding made changed meetings region_meetings shell_meetings face_meetings loop_meetings
meetings-made m c b = refl

pub meetings-stay : (m : Model) (l : List Change) (b : ℕ) → meetings (made_all m l) b ≡ meetings m b
unfolding made_all
meetings-stay m [] b = refl
meetings-stay m (c ∷ l) b = meetings-stay (made m c) l b ∙ meetings-made m c b

pub named-made : (m : Model) (c : Change) (k : Child) (i : ℕ) → named (made m c) k i ≡ names_now c k i (named m k i)
unfolding made changed
named-made m c a_region i = refl
named-made m c a_shell i = refl
named-made m c a_loop i = refl
named-made m c a_fin i = refl

-- the fins that the edge of fin i lists
abbrev pub besides : Model → ℕ → List ℕ
besides m i = (edge m (fin m i).edge).fins

pub besides-made : (m : Model) (c : Change) (i : ℕ) → besides (made m c) i ≡ lists_now c (fin m i).edge (besides m i)
unfolding made changed
besides-made m c i = refl

pub made-append : (m : Model) (k l : List Change) → made_all m (k ++ l) ≡ made_all (made_all m k) l
unfolding made_all
made-append m [] l = refl
made-append m (c ∷ k) l = made-append (made m c) k l

-- ---- what a meeting asks for: that a record name the parent that lists it; that a fin's edge list it

pub data Want : Type 0 where
  parent : Meeting → Want
  listing : ℕ → Want

abbrev pub change_for : Model → Want → List Change
change_for m (parent t) = parent_change m t
change_for m (listing i) = fin_change m i

unfoldable pub wants_for : Model → List Want → List Change
wants_for m [] = []
wants_for m (w ∷ l) = let c = change_for m w in c ++ wants_for (made_all m c) l

abbrev pub list_wants : Child → ℕ → List Want
list_wants a_region i = []
list_wants a_shell i = []
list_wants a_loop i = []
list_wants a_fin i = listing i ∷ []

unfoldable pub wants_all : List Meeting → List Want
wants_all [] = []
wants_all (t ∷ l) = parent t ∷ (list_wants t.child t.id ++ wants_all l)

-- a record's other parent makes no difference to its edge's list
fin-after : (m : Model) (t : Meeting) (i : ℕ) → fin_change (made_all m (parent_change m t)) i ≡ fin_change m i
unfolding fin_change parent_change made_all made changed
fin-after m t i = by (not (eqb (named m t.child t.id) t.parent))
  where
    by : (b : Bool) → fin_change (made_all m (change_if b (renamed t.child t.id (named m t.child t.id) t.parent))) i ≡ fin_change m i
    by true = refl
    by false = refl

pub asked-by-one : (m : Model) (l : List Meeting) → changes_for m l ≡ wants_for m (wants_all l)
unfolding changes_for wants_for wants_all changes_at
asked-by-one m [] = refl
asked-by-one m (t ∷ l) = by (λ n. asked-by-one n l) t.child
  where
    c : List Change
    c = parent_change m t

    Same : Child → Type 0
    Same k = (c ++ list_change m k t.id) ++ changes_for (made_all m (c ++ list_change m k t.id)) l ≡ c ++ wants_for (made_all m c) (list_wants k t.id ++ wants_all l)

    plain : ((n : Model) → changes_for n l ≡ wants_for n (wants_all l)) → (c ++ []) ++ changes_for (made_all m (c ++ [])) l ≡ c ++ wants_for (made_all m c) (wants_all l)
    plain rest = rw (append-nil c) (ap (λ r. c ++ r) (rest (made_all m c)))

    by : ((n : Model) → changes_for n l ≡ wants_for n (wants_all l)) → (k : Child) → Same k
    by rest a_region = plain rest
    by rest a_shell = plain rest
    by rest a_loop = plain rest
    by rest a_fin =
        append_assoc c (fin_change m t.id) _
        ∙ ap (λ r. c ++ (fin_change m t.id ++ r)) (ap (λ n. changes_for n l) (made-append m c (fin_change m t.id)) ∙ rest (made_all (made_all m c) (fin_change m t.id)))
        ∙ ap (λ f. c ++ (f ++ wants_for (made_all (made_all m c) f) (wants_all l))) (sym (fin-after m t t.id))

-- ---- a want that the model has

abbrev pub Has : Model → Want → Type 0
Has m (parent t) = named m t.child t.id ≡ t.parent
Has m (listing i) = member i (besides m i) ≡ true

pub no_change : (m : Model) (w : Want) → Has m w → change_for m w ≡ []
unfolding parent_change fin_change
no_change m (parent t) h = rw (eq-eqb (named m t.child t.id) t.parent h)
no_change m (listing i) h = rw h

same-child : (k : Child) → same_child k k ≡ true
same-child k = eq-eqb (child_table k) (child_table k) refl

pub had : (m : Model) (w : Want) → Has (made_all m (change_for m w)) w
unfolding parent_change fin_change made_all
had m (parent t) = by (eqb (named m t.child t.id) t.parent) refl
  where
    old : ℕ
    old = named m t.child t.id

    by : (b : Bool) → eqb old t.parent ≡ b → named (made_all m (change_if (not b) (renamed t.child t.id old t.parent))) t.child t.id ≡ t.parent
    by true e = eqb-true old t.parent e
    by false e = named-made m (renamed t.child t.id old t.parent) t.child t.id ∙ rw (same-child t.child, eq-eqb t.id t.id refl)
had m (listing i) = by (member i (besides m i)) refl
  where
    by : (b : Bool) → member i (besides m i) ≡ b → member i (besides (made_all m (change_if (not b) (enlisted (fin m i).edge (length (besides m i)) i))) i) ≡ true
    by true e = e
    by false e = ap (member i) (besides-made m (enlisted (fin m i).edge (length (besides m i)) i) i) ∙ rw (eq-eqb (fin m i).edge (fin m i).edge refl, member-append i (besides m i) (i ∷ []), member-head i [], or-true (member i (besides m i)))

-- ---- two wants that do not contradict each other: a change for the one leaves the other

abbrev pub Agree : Want → Want → Type 0
Agree (parent t) (parent u) = (same_child t.child u.child && eqb t.id u.id) ≡ true → u.parent ≡ t.parent
Agree (parent t) (listing j) = Unit {0}
Agree (listing i) (parent u) = Unit {0}
Agree (listing i) (listing j) = Unit {0}

pub still-has : (m : Model) (w v : Want) → Agree w v → Has m w → Has (made_all m (change_for m v)) w
unfolding parent_change fin_change made_all
still-has m (parent t) (parent u) a h = by (not (eqb (named m u.child u.id) u.parent))
  where
    here : (b : Bool) → (same_child t.child u.child && eqb t.id u.id) ≡ b → cond b u.parent (named m t.child t.id) ≡ t.parent
    here true e = a e
    here false e = h

    c : Change
    c = renamed u.child u.id (named m u.child u.id) u.parent

    by : (b : Bool) → named (made_all m (change_if b c)) t.child t.id ≡ t.parent
    by true = named-made m c t.child t.id ∙ here (same_child t.child u.child && eqb t.id u.id) refl
    by false = h
still-has m (parent t) (listing j) a h = by (not (member j (besides m j)))
  where
    c : Change
    c = enlisted (fin m j).edge (length (besides m j)) j

    by : (b : Bool) → named (made_all m (change_if b c)) t.child t.id ≡ t.parent
    by true = named-made m c t.child t.id ∙ h
    by false = h
still-has m (listing i) (parent u) a h = by (not (eqb (named m u.child u.id) u.parent))
  where
    c : Change
    c = renamed u.child u.id (named m u.child u.id) u.parent

    by : (b : Bool) → member i (besides (made_all m (change_if b c)) i) ≡ true
    by true = ap (member i) (besides-made m c i) ∙ h
    by false = h
still-has m (listing i) (listing j) a h = by (not (member j (besides m j)))
  where
    here : (b : Bool) → member i (cond b (appended (besides m i) j) (besides m i)) ≡ true
    here true = member-append i (besides m i) (j ∷ []) ∙ rw h
    here false = h

    by : (b : Bool) → member i (besides (made_all m (change_if b (enlisted (fin m j).edge (length (besides m j)) j))) i) ≡ true
    by true = ap (member i) (besides-made m (enlisted (fin m j).edge (length (besides m j)) j) i) ∙ here (eqb (fin m i).edge (fin m j).edge)
    by false = h

-- ---- of all wants of a list

abbrev pub Each : (Want → Type 0) → List Want → Type 0
Each P [] = Unit {0}
Each P (w ∷ l) = P w × Each P l

pub each_append : (P : Want → Type 0) (k l : List Want) → Each P k → Each P l → Each P (k ++ l)
each_append P [] l a b = b
each_append P (w ∷ k) l a b = (a.0, each_append P k l a.1 b)

module _ (G : Want → Type 0) (agreeing : (w v : Want) → G w → G v → Agree w v) where
  -- what the model has it keeps while all are mended
  keeps : (l : List Want) (m : Model) (w : Want) → G w → Each G l → Has m w → Has (made_all m (wants_for m l)) w
  unfolding wants_for made_all
  keeps [] m w g e h = h
  keeps (v ∷ l) m w g e h = subst (λ n. Has n w) (sym (made-append m (change_for m v) _)) (keeps l (made_all m (change_for m v)) w g e.1 (still-has m w v (agreeing w v g e.0) h))

  pub all-had : (l : List Want) (m : Model) → Each G l → Each (Has (made_all m (wants_for m l))) l
  unfolding wants_for
  all-had [] m e = tt
  all-had (v ∷ l) m e = subst (λ n. Has n v × Each (Has n) l) (sym (made-append m (change_for m v) _)) (keeps l (made_all m (change_for m v)) v e.0 e.1 (had m v), all-had l (made_all m (change_for m v)) e.1)

pub none_more : (m : Model) (l : List Want) → Each (Has m) l → wants_for m l ≡ []
unfolding wants_for made_all
none_more m [] e = refl
none_more m (w ∷ l) e = rw (no_change m w e.0) (none_more m l e.1)

-- ---- what the lists of a body ask for: a parent that there is, and that lists the record

-- of all meetings of a list
abbrev pub Met : (Meeting → Type 0) → List Meeting → Type 0
Met P [] = Unit {0}
Met P (t ∷ l) = P t × Met P l

met-append : (P : Meeting → Type 0) (k l : List Meeting) → Met P k → Met P l → Met P (k ++ l)
met-append P [] l a b = b
met-append P (t ∷ k) l a b = (a.0, met-append P k l a.1 b)

pub met-joined : (P : Meeting → Type 0) (f : ℕ → List Meeting) (l : List ℕ) → ((y : ℕ) → member y l ≡ true → Met P (f y)) → Met P (joined f l)
unfolding joined member
met-joined P f [] h = tt
met-joined P f (y ∷ l) h = met-append P (f y) (joined f l) (h y (rw (eq-eqb y y refl))) (met-joined P f l (λ z q. h z (rw q (or-true (eqb z y)))))

pub met-map : (P : Meeting → Type 0) (f : ℕ → Meeting) (l : List ℕ) → ((y : ℕ) → member y l ≡ true → P (f y)) → Met P (map f l)
unfolding member
met-map P f [] h = tt
met-map P f (y ∷ l) h = (h y (rw (eq-eqb y y refl)), met-map P f l (λ z q. h z (rw q (or-true (eqb z y)))))

pub met-tested : (p : Meeting → Bool) (l : List Meeting) → every (map p l) ≡ true → Met (λ t. p t ≡ true) l
unfolding every
met-tested p [] e = tt
met-tested p (t ∷ l) e = let both = and_both (p t) (every (map p l)) e in (both.0, met-tested p l both.1)

pub met-both : (P Q : Meeting → Type 0) (l : List Meeting) → Met P l → Met Q l → Met (λ t. P t × Q t) l
met-both P Q [] a b = tt
met-both P Q (t ∷ l) a b = ((a.0, b.0), met-both P Q l a.1 b.1)

module _ (m : Model) where
  abbrev pub Listed : Meeting → Type 0
  Listed t = (t.parent < parents m t.child) × (member t.id (children m t.child t.parent) ≡ true)

  -- the parent is there, and what follows holds of all that it lists
  under : (f : ℕ → List Meeting) (p : ℕ → Bool) (l : List ℕ) → all p l ≡ true → ((y : ℕ) → member y l ≡ true → p y ≡ true → Met Listed (f y)) → Met Listed (joined f l)
  under f p l a h = met-joined Listed f l (λ y q. h y q (all-member p l y a q))

  loop-listed : (f l : ℕ) → f < m.faces.used → member l (face m f).loops ≡ true → loop_there m l ≡ true → Met Listed (loop_meetings m f l)
  unfolding loop_meetings
  loop-listed f l b q t =
      let both = and_both (has m.loops l) _ t in
      ((b, q), met-map Listed (met a_fin l) (loop m l).fins (λ i r. (ltb-true l m.loops.used both.0, r)))

  face-listed : (f : ℕ) → face_there m f ≡ true → Met Listed (face_meetings m f)
  unfolding face_meetings
  face-listed f t =
      let both = and_both (has m.faces f) _ t in
      under (loop_meetings m f) (loop_there m) (face m f).loops both.1 (λ l q u. loop-listed f l (ltb-true f m.faces.used both.0) q u)

  shell-listed : (r s : ℕ) → r < m.regions.used → member s (region m r).shells ≡ true → shell_there m s ≡ true → Met Listed (shell_meetings m r s)
  unfolding shell_meetings
  shell-listed r s b q t =
      let both = and_both (has m.shells s) _ t in
      ((b, q), under (face_meetings m) (face_there m) (shell m s).faces both.1 (λ f _ u. face-listed f u))

  region-listed : (b r : ℕ) → b < m.bodies.used → member r (body m b).regions ≡ true → region_there m r ≡ true → Met Listed (region_meetings m b r)
  unfolding region_meetings
  region-listed b r h q t =
      let both = and_both (has m.regions r) _ t in
      ((h, q), under (shell_meetings m r) (shell_there m) (region m r).shells both.1 (λ s k u. shell-listed r s (ltb-true r m.regions.used both.0) k u))

  pub all_listed : (b : ℕ) → body_there m b ≡ true → Met Listed (meetings m b)
  unfolding meetings body_there
  all_listed b t =
      let both = and_both (has m.bodies b) _ t in
      under (region_meetings m b) (region_there m) (body m b).regions both.1 (λ r k u. region-listed b r (ltb-true b m.bodies.used both.0) k u)

-- ---- no record with two parents

-- one parent more
counted_next : (g : ℕ → List ℕ) (i n : ℕ) → count i (joined g (run 0 (suc n))) ≡ count i (joined g (run 0 n)) + count i (g n)
unfolding run
counted_next g i n =
    ap (λ k. count i (joined g (run 0 n ++ (k ∷ [])))) (let z : 0 + n ≡ n = omega arith in z)
    ∙ ap (count i) (joined-append g (run 0 n) (n ∷ []) ∙ ap (λ r. joined g (run 0 n) ++ r) (joined-cons g n [] ∙ ap (λ r. g n ++ r) (joined-none g) ∙ append-nil (g n)))
    ∙ count-append i (joined g (run 0 n)) (g n)

-- a parent that lists i is counted
lister : (g : ℕ → List ℕ) (i n p : ℕ) → p < n → member i (g p) ≡ true → 1 ≤ count i (joined g (run 0 n))
lister g i zero p h q = absurd (omega arith)
lister g i (suc n) p h q = by (λ a. lister g i n p a q) (eqb p n) refl
  where
    by : (p < n → 1 ≤ count i (joined g (run 0 n))) → (b : Bool) → eqb p n ≡ b → 1 ≤ count i (joined g (run 0 (suc n)))
    by before true e = let here : member i (g n) ≡ true = subst (λ k. member i (g k) ≡ true) (eqb-true p n e) q in omega (arith, counted_next g i n, count-present i (g n) here)
    by before false e = let less : p < n = omega (arith, eqb-false p n e) in omega (arith, counted_next g i n, before less)

pub one-lister : (g : ℕ → List ℕ) (i n p q : ℕ) → count i (joined g (run 0 n)) ≤ 1 → p < n → q < n → member i (g p) ≡ true → member i (g q) ≡ true → p ≡ q
one-lister g i zero p q h a b s t = absurd (omega arith)
one-lister g i (suc n) p q h a b s t = by (λ c d e. one-lister g i n p q c d e s t) (eqb p n) (eqb q n) refl refl
  where
    here : (k : ℕ) → eqb k n ≡ true → member i (g k) ≡ true → 1 ≤ count i (g n)
    here k e u = count-present i (g n) (subst (λ j. member i (g j) ≡ true) (eqb-true k n e) u)

    less : (k : ℕ) → k < suc n → eqb k n ≡ false → k < n
    less k u e = omega (arith, eqb-false k n e)

    by : (count i (joined g (run 0 n)) ≤ 1 → p < n → q < n → p ≡ q) → (x y : Bool) → eqb p n ≡ x → eqb q n ≡ y → p ≡ q
    by before true true e f = eqb-true p n e ∙ sym (eqb-true q n f)
    by before true false e f = absurd (omega (arith, counted_next g i n, here p e s, lister g i n q (less q b f) t))
    by before false true e f = absurd (omega (arith, counted_next g i n, here q f t, lister g i n p (less p a e) s))
    by before false false e f = before (omega (arith, counted_next g i n)) (less p a e) (less q b f)

-- two classes that are the same
pub child-of : (k c : Child) → same_child k c ≡ true → k ≡ c
child-of k c e = sym (back k) ∙ ap at (eqb-true (child_table k) (child_table c) e) ∙ back c
  where
    at : ℕ → Child
    at n = cond (eqb n 1) a_region (cond (eqb n 2) a_shell (cond (eqb n 4) a_loop a_fin))

    back : (k : Child) → at (child_table k) ≡ k
    back a_region = refl
    back a_shell = refl
    back a_loop = refl
    back a_fin = refl

module _ (m : Model) where
  -- where each is listed once, any two wants agree
  abbrev pub Sure : Want → Type 0
  Sure (parent t) = Listed m t × (once m t ≡ true)
  Sure (listing i) = Unit {0}

  pub sure-agree : (w v : Want) → Sure w → Sure v → Agree w v
  unfolding listings
  sure-agree (parent t) (parent u) a b =
      λ e. let both = and_both (same_child t.child u.child) (eqb t.id u.id) e in one (child-of t.child u.child both.0) (eqb-true t.id u.id both.1)
    where
      one : t.child ≡ u.child → t.id ≡ u.id → u.parent ≡ t.parent
      one k i =
          let there : u.parent < parents m t.child = subst (λ c. u.parent < parents m c) (sym k) b.0.0 in
          let lists : member t.id (children m t.child u.parent) ≡ true = subst (λ c. member t.id (children m c u.parent) ≡ true) (sym k) (subst (λ n. member n (children m u.child u.parent) ≡ true) (sym i) b.0.1) in
          one-lister (children m t.child) t.id (parents m t.child) u.parent t.parent (leb-true _ 1 a.1) there a.0.0 lists a.0.1
  sure-agree (parent t) (listing j) a b = tt
  sure-agree (listing i) (parent u) a b = tt
  sure-agree (listing i) (listing j) a b = tt

  sure-all : (l : List Meeting) → Met (λ t. Listed m t × (once m t ≡ true)) l → Each Sure (wants_all l)
  unfolding wants_all
  sure-all [] h = tt
  sure-all (t ∷ l) h = (h.0, each_append Sure (list_wants t.child t.id) (wants_all l) (by t.child) (sure-all l h.1))
    where
      by : (k : Child) → Each Sure (list_wants k t.id)
      by a_region = tt
      by a_shell = tt
      by a_loop = tt
      by a_fin = (tt, tt)

  module _ (b : ℕ) (there : body_there m b ≡ true) (single : every (map (once m) (meetings m b)) ≡ true) where
    pub sure : Each Sure (wants_all (meetings m b))
    sure = sure-all (meetings m b) (met-both (Listed m) (λ t. once m t ≡ true) (meetings m b) (all_listed m b there) (met-tested (once m) (meetings m b) single))

    -- behind a mending the model has all that the body's lists ask for
    pub all-mended : Each (Has (mended m b)) (wants_all (meetings m b))
    unfolding mended
    all-mended = subst (λ l. Each (Has (made_all m l)) (wants_all (meetings m b))) (sym (asked-by-one m (meetings m b))) (all-had Sure sure-agree (wants_all (meetings m b)) m sure)

    -- "a second run reports none"
    pub none-again : changes (mended m b) b ≡ []
    none-again = asked-by-one (mended m b) (meetings (mended m b) b) ∙ none_more (mended m b) (wants_all (meetings (mended m b) b)) (subst (λ l. Each (Has (mended m b)) (wants_all l)) (sym stay) all-mended)
      where
        stay : meetings (mended m b) b ≡ meetings m b
        stay = unfold mended in meetings-stay m (changes m b) b
