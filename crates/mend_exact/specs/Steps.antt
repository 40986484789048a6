-- A step of the walk is what the meeting changes, told. Assumes nothing.
use Rattle.std.specs.Prelude.{ℕ, ◌+◌, ◌≤◌, ◌≡◌, Bool, true, false, not, cond, ◌&&◌, List, [], ◌∷◌, ◌++◌, map, eqb, leb, ltb, length, set}
use Rattle.std.proofs.Common.{arith, sym, ap, ◌∙◌, subst, append-nil, length-set, eq-eqb, ne_eqb, ltb-true, leb-true, leb-false, le-ltb, lt-ltb, eqb-true}
use Rattle.std.proofs.Math.Path.{refl}
use Rattle.std.proofs.lemmas.Bool.{eqb-false}
use Rattle.meaning.specs.Lists.{member, every}
use Rattle.meaning.specs.Model.{Model, changed, fin, edge}
use Rattle.meaning.specs.Edits.{appended}
use Rattle.meaning_list_laws.specs.Tests.{and_both}
use Rattle.meaning_mends.specs.Mends.{Child, a_region, a_shell, a_loop, a_fin, named, Meeting, met, child_table, Change, renamed, enlisted, made, made_all, change_if, parent_change, fin_change, list_change, changes_at, changes_for, fits}
use Rattle.meaning_mends.specs.Words.{change_words}
use Rattle.meaning_mends.specs.Laws.{named-made, besides, made-append, parent, listing, no_change, Met}
use Rattle.mend_meetings.specs.Machine.{FULL, mark_at, MARKS, State, held, logged, marked, rename_step, enlist_step, list_step, stepped, walked}
use Rattle.mend_exact.specs.Marks.{mark, Low, mark_set}
use Rattle.mend_exact.specs.Telling.{tell, tell_all, told, tell-append, logged-told, logged-marks, logged-full, told-full, told-unfit}
use Rattle.mend_exact.specs.Kept.{Known, Names, Fins, Kept, no_edge, no-child, names-stay, names-next, fins-stay, fins-next}

-- ---- a parent

rename-told : (m n : Model) (c : Child) (p i : ℕ) (s : State) → named n c i ≡ named m c i → told (rename_step m c p i s) ≡ tell_all (parent_change n (met c p i)) (told s)
unfolding rename_step parent_change tell_all tell
rename-told m n c p i s e = rw e (by (eqb (named m c i) p))
  where
    by : (b : Bool) → told (cond b s (logged (change_words (renamed c i (named m c i) p)) s)) ≡ tell_all (change_if (not b) (renamed c i (named m c i) p)) (told s)
    by true = refl
    by false = logged-told (change_words (renamed c i (named m c i) p)) s

rename-marks : (m : Model) (c : Child) (p i : ℕ) (s : State) → (rename_step m c p i s).marks ≡ s.marks
unfolding rename_step
rename-marks m c p i s = by (eqb (named m c i) p)
  where
    by : (b : Bool) → (cond b s (logged (change_words (renamed c i (named m c i) p)) s)).marks ≡ s.marks
    by true = refl
    by false = logged-marks (change_words (renamed c i (named m c i) p)) s

-- another parent leaves the edges, and whose edge a fin is of
rename-whose : (n : Model) (t : Meeting) (j : ℕ) → (fin (made_all n (parent_change n t)) j).edge ≡ (fin n j).edge
unfolding parent_change made_all made changed
rename-whose n t j = by (not (eqb (named n t.child t.id) t.parent))
  where
    by : (b : Bool) → (fin (made_all n (change_if b (renamed t.child t.id (named n t.child t.id) t.parent))) j).edge ≡ (fin n j).edge
    by true = refl
    by false = refl

rename-lists : (n : Model) (t : Meeting) (f : ℕ) → (edge (made_all n (parent_change n t)) f).fins ≡ (edge n f).fins
unfolding parent_change made_all made changed
rename-lists n t f = by (not (eqb (named n t.child t.id) t.parent))
  where
    by : (b : Bool) → (edge (made_all n (change_if b (renamed t.child t.id (named n t.child t.id) t.parent))) f).fins ≡ (edge n f).fins
    by true = refl
    by false = refl

-- ---- a fin that its edge does not list

-- the change, by the model before all changes and the edge's mark
abbrev added : Model → ℕ → ℕ → List Change
added m i x = change_if (not (member i (besides m i))) (enlisted (fin m i).edge (length (besides m i) + x) i)

added_is : (m n : Model) (s : List ℕ) (i : ℕ) → Fins m n s → Low 5 i → Low 6 (fin m i).edge → mark s 5 i ≡ 0 → fin_change n i ≡ added m i (mark s 6 (fin m i).edge)
unfolding fin_change
added_is m n s i a low at z = rw (a.fresh i low z, a.whose i, a.got (fin m i).edge at)

enlist-told : (m : Model) (i : ℕ) (s : State) → told (enlist_step m i s) ≡ tell_all (added m i (mark s.marks 6 (fin m i).edge)) (told s)
unfolding enlist_step tell_all tell
enlist-told m i s = by (member i (besides m i)) (leb 8 place) refl
  where
    e : ℕ
    e = (fin m i).edge

    place : ℕ
    place = length (besides m i) + mark s.marks 6 (fin m i).edge

    next : State
    next = marked 6 (fin m i).edge (mark s.marks 6 (fin m i).edge + 1) s

    by : (b x : Bool) → leb 8 place ≡ x → told (cond b s (cond x (held s.list s.marks FULL) (logged (change_words (enlisted e place i)) next))) ≡ tell_all (change_if (not b) (enlisted e place i)) (told s)
    by true x q = refl
    by false true q = rw (le-ltb place 8 (leb-true 8 place q))
    by false false q = rw (lt-ltb place 8 (leb-false 8 place q)) (logged-told (change_words (enlisted e place i)) next)

-- where there is a slot, the edge's mark is one more
enlist-marks : (m : Model) (i : ℕ) (s : State) → every (map fits (added m i (mark s.marks 6 (fin m i).edge))) ≡ true
    → (enlist_step m i s).marks ≡ cond (member i (besides m i)) s.marks (set s.marks (mark_at 6 (fin m i).edge) (mark s.marks 6 (fin m i).edge + 1))
unfolding enlist_step every
enlist-marks m i s = by (member i (besides m i)) (leb 8 place) refl
  where
    e : ℕ
    e = (fin m i).edge

    place : ℕ
    place = length (besides m i) + mark s.marks 6 (fin m i).edge

    next : State
    next = marked 6 (fin m i).edge (mark s.marks 6 (fin m i).edge + 1) s

    by : (b x : Bool) → leb 8 place ≡ x → every (map fits (change_if (not b) (enlisted e place i))) ≡ true
        → (cond b s (cond x (held s.list s.marks FULL) (logged (change_words (enlisted e place i)) next))).marks ≡ cond b s.marks next.marks
    by true x q h = refl
    by false true q h = absurd (omega (arith, leb-true 8 place q, ltb-true place 8 (and_both (ltb place 8) true h).0))
    by false false q h = logged-marks (change_words (enlisted e place i)) next

-- the model behind it
added-names : (m n : Model) (i x : ℕ) (k : Child) (j : ℕ) → named (made_all n (added m i x)) k j ≡ named n k j
unfolding made_all
added-names m n i x k j = by (not (member i (besides m i)))
  where
    by : (b : Bool) → named (made_all n (change_if b (enlisted (fin m i).edge (length (besides m i) + x) i))) k j ≡ named n k j
    by true = named-made n (enlisted (fin m i).edge (length (besides m i) + x) i) k j
    by false = refl

added-whose : (m n : Model) (i x j : ℕ) → (fin (made_all n (added m i x)) j).edge ≡ (fin n j).edge
unfolding made_all made changed
added-whose m n i x j = by (not (member i (besides m i)))
  where
    by : (b : Bool) → (fin (made_all n (change_if b (enlisted (fin m i).edge (length (besides m i) + x) i))) j).edge ≡ (fin n j).edge
    by true = refl
    by false = refl

added-lists : (m n : Model) (i x f : ℕ) → (edge (made_all n (added m i x)) f).fins ≡ cond (not (member i (besides m i)) && eqb f (fin m i).edge) (appended (edge n f).fins i) (edge n f).fins
unfolding made_all made changed
added-lists m n i x f = by (not (member i (besides m i)))
  where
    by : (b : Bool) → (edge (made_all n (change_if b (enlisted (fin m i).edge (length (besides m i) + x) i))) f).fins ≡ cond (b && eqb f (fin m i).edge) (appended (edge n f).fins i) (edge n f).fins
    by true = refl
    by false = refl

-- ---- a record that is met first

-- from the state s to r by the changes l; behind one that has no slot the marks are of no use
record Steps (m n : Model) (s : State) (l : List Change) (r : State) : Type 0 where
  says : told r ≡ tell_all l (told s)
  kept : every (map fits l) ≡ true → Kept m (made_all n l) r.marks

module _ (m n : Model) (c : Child) (p i : ℕ) (s : State) (a : Kept m n s.marks) (known : Known m c p i) (first : mark s.marks (child_table c) i ≡ 0) where
  abbrev now : State
  now = marked (child_table c) i 1 s

  renames : told (rename_step m c p i now) ≡ tell_all (parent_change n (met c p i)) (told s)
  renames = rename-told m n c p i now (a.names.fresh c i known.low first)

  named-now : Names m (made_all n (parent_change n (met c p i))) now.marks
  named-now = names-next m n s.marks c p i a.long known a.names

  long-now : MARKS ≤ length now.marks
  long-now = subst (λ x. MARKS ≤ x) (sym (length-set s.marks (mark_at (child_table c) i) 1)) a.long

  mark-now : (k j : ℕ) → Low k j → mark now.marks k j ≡ cond (eqb k (child_table c) && eqb j i) 1 (mark s.marks k j)
  mark-now k j low = mark_set s.marks (child_table c) i k j 1 a.long known.low low

  edge-now : (f : ℕ) → Low 6 f → mark now.marks 6 f ≡ mark s.marks 6 f
  edge-now f low = mark-now 6 f low ∙ rw (no-child c)

  -- a region, shell or loop
  plain : eqb 5 (child_table c) ≡ false → Steps m n s (parent_change n (met c p i) ++ []) (rename_step m c p i now)
  plain h =
      record {
        says = renames ∙ ap (λ l. tell_all l (told s)) (sym (append-nil (parent_change n (met c p i))));
        kept = λ _. rw (append-nil (parent_change n (met c p i)), rename-marks m c p i now) (
            record {
              long = long-now;
              names = named-now;
              fins = fins-stay (made_all n (parent_change n (met c p i))) now.marks (rename-whose n (met c p i)) (rename-lists n (met c p i)) (λ j low. mark-now 5 j low ∙ rw h) edge-now a.fins;
            });
      }

fit-back : (k l : List Change) → every (map fits (k ++ l)) ≡ true → every (map fits l) ≡ true
unfolding every
fit-back [] l h = h
fit-back (c ∷ k) l h = fit-back k l (and_both (fits c) (every (map fits (k ++ l))) h).1

-- a fin
module _ (m n : Model) (p i : ℕ) (s : State) (a : Kept m n s.marks) (known : Known m a_fin p i) (first : mark s.marks 5 i ≡ 0) where
  abbrev e : ℕ
  e = (fin m i).edge

  abbrev x : ℕ
  x = mark s.marks 6 e

  -- the marks with the fin's, the state with the fin's parent, and the model
  abbrev marks : List ℕ
  marks = set s.marks (mark_at 5 i) 1

  abbrev q : State
  q = rename_step m a_fin p i (marked 5 i 1 s)

  abbrev n₁ : Model
  n₁ = made_all n (parent_change n (met a_fin p i))

  q-marks : q.marks ≡ marks
  q-marks = rename-marks m a_fin p i (marked 5 i 1 s)

  q-edge : mark q.marks 6 e ≡ x
  q-edge = ap (λ r. mark r 6 e) q-marks ∙ edge-now m n a_fin p i s a known first e known.edge

  fin-added : fin_change n i ≡ added m i x
  fin-added = added_is m n s.marks i a.fins known.low known.edge first

  -- the marks with the edge's
  abbrev next : Bool → List ℕ
  next b = cond b marks (set marks (mark_at 6 e) (x + 1))

  next-is : every (map fits (added m i x)) ≡ true → (enlist_step m i q).marks ≡ next (member i (besides m i))
  next-is h =
      enlist-marks m i q (subst (λ y. every (map fits (added m i y)) ≡ true) (sym q-edge) h)
      ∙ ap (λ y. cond (member i (besides m i)) q.marks (set q.marks (mark_at 6 e) (y + 1))) q-edge
      ∙ ap (λ r. cond (member i (besides m i)) r (set r (mark_at 6 e) (x + 1))) q-marks

  child-next : (b : Bool) (k : Child) (j : ℕ) → Low (child_table k) j → mark (next b) (child_table k) j ≡ mark marks (child_table k) j
  child-next true k j low = refl
  child-next false k j low = mark_set marks 6 e (child_table k) j (x + 1) (long-now m n a_fin p i s a known first) known.edge low ∙ rw (no_edge k)

  edge-next : (b : Bool) (f : ℕ) → Low 6 f → mark (next b) 6 f ≡ cond (not b && eqb f e) (mark s.marks 6 f + 1) (mark s.marks 6 f)
  edge-next true f low = edge-now m n a_fin p i s a known first f low
  edge-next false f low = mark_set marks 6 e 6 f (x + 1) (long-now m n a_fin p i s a known first) known.edge low ∙ by (eqb f e) refl
    where
      by : (b : Bool) → eqb f e ≡ b → cond b (x + 1) (mark marks 6 f) ≡ cond b (mark s.marks 6 f + 1) (mark s.marks 6 f)
      by true h = ap (λ y. mark s.marks 6 y + 1) (sym (eqb-true f e h))
      by false h = edge-now m n a_fin p i s a known first f low

  long-next : (b : Bool) → MARKS ≤ length (next b)
  long-next true = long-now m n a_fin p i s a known first
  long-next false = subst (λ y. MARKS ≤ y) (sym (length-set marks (mark_at 6 e) (x + 1))) (long-now m n a_fin p i s a known first)

  kept_next : Kept m (made_all n₁ (added m i x)) (next (member i (besides m i)))
  kept_next =
      record {
        long = long-next (member i (besides m i));
        names = names-stay (made_all n₁ (added m i x)) (next (member i (besides m i))) (added-names m n₁ i x) (child-next (member i (besides m i))) (named-now m n a_fin p i s a known first);
        fins =
            fins-next m n (made_all n₁ (added m i x)) s.marks (next (member i (besides m i))) i a.fins known.low first
            (λ j. added-whose m n₁ i x j ∙ rename-whose n (met a_fin p i) j)
            (λ f. added-lists m n₁ i x f ∙ ap (λ l. cond (not (member i (besides m i)) && eqb f e) (appended l i) l) (rename-lists n (met a_fin p i) f))
            (λ j low. child-next (member i (besides m i)) a_fin j low ∙ mark-now m n a_fin p i s a known first 5 j low)
            (edge-next (member i (besides m i)));
      }

  a-fin : Steps m n s (parent_change n (met a_fin p i) ++ fin_change n i) (enlist_step m i q)
  a-fin = rw fin-added (record { says = says; kept = kept })
    where
      says : told (enlist_step m i q) ≡ tell_all (parent_change n (met a_fin p i) ++ added m i x) (told s)
      says =
          enlist-told m i q
          ∙ ap (λ y. tell_all (added m i y) (told q)) q-edge
          ∙ ap (tell_all (added m i x)) (renames m n a_fin p i s a known first)
          ∙ sym (tell-append (parent_change n (met a_fin p i)) (added m i x) (told s))

      kept : every (map fits (parent_change n (met a_fin p i) ++ added m i x)) ≡ true → Kept m (made_all n (parent_change n (met a_fin p i) ++ added m i x)) (enlist_step m i q).marks
      kept h = rw (made-append n (parent_change n (met a_fin p i)) (added m i x), next-is (fit-back (parent_change n (met a_fin p i)) (added m i x) h)) kept_next

met-first : (m n : Model) (c : Child) (p i : ℕ) (s : State) → Kept m n s.marks → Known m c p i → mark s.marks (child_table c) i ≡ 0 → Steps m n s (changes_at n (met c p i)) (stepped m (met c p i) s)
unfolding changes_at stepped
met-first m n c p i s a known first = rw (eq-eqb (mark s.marks (child_table c) i) 0 first) (by c known first)
  where
    by : (k : Child) → Known m k p i → mark s.marks (child_table k) i ≡ 0 → Steps m n s (parent_change n (met k p i) ++ list_change n k i) (list_step m k i (rename_step m k p i (marked (child_table k) i 1 s)))
    by a_region g z = plain m n a_region p i s a g z refl
    by a_shell g z = plain m n a_shell p i s a g z refl
    by a_loop g z = plain m n a_loop p i s a g z refl
    by a_fin g z = a-fin m n p i s a g z

-- ---- a record that was met before

met-before : (m : Model) (c : Child) (p i : ℕ) (s : State) → (mark s.marks (child_table c) i ≡ 0 → ⊥) → stepped m (met c p i) s ≡ s
unfolding stepped
met-before m c p i s h = rw (ne_eqb (mark s.marks (child_table c) i) 0 h)

none_before : (m n : Model) (c : Child) (p i : ℕ) (s : List ℕ) → Kept m n s → Known m c p i → (mark s (child_table c) i ≡ 0 → ⊥) → changes_at n (met c p i) ≡ []
unfolding changes_at
none_before m n c p i s a known h = rw (no_change n (parent (met c p i)) (a.names.done c p i known h)) (by c known h)
  where
    by : (k : Child) → Known m k p i → (mark s (child_table k) i ≡ 0 → ⊥) → list_change n k i ≡ []
    by a_region g z = refl
    by a_shell g z = refl
    by a_loop g z = refl
    by a_fin g z = no_change n (listing i) (a.fins.done i g.low z)

-- ---- behind FULL nothing changes

full-renamed : (m : Model) (c : Child) (p i : ℕ) (s : State) → s.count ≡ FULL → rename_step m c p i s ≡ s
unfolding rename_step
full-renamed m c p i s h = rw (logged-full (change_words (renamed c i (named m c i) p)) s h) (by (eqb (named m c i) p))
  where
    by : (b : Bool) → cond b s s ≡ s
    by true = refl
    by false = refl

full-listed : (m : Model) (c : Child) (i : ℕ) (s : State) → s.count ≡ FULL → told (list_step m c i s) ≡ told s
unfolding enlist_step
full-listed m a_region i s h = refl
full-listed m a_shell i s h = refl
full-listed m a_loop i s h = refl
full-listed m a_fin i s h = by (member i (besides m i)) (leb 8 place)
  where
    place : ℕ
    place = length (besides m i) + mark s.marks 6 (fin m i).edge

    next : State
    next = marked 6 (fin m i).edge (mark s.marks 6 (fin m i).edge + 1) s

    by : (b y : Bool) → told (cond b s (cond y (held s.list s.marks FULL) (logged (change_words (enlisted (fin m i).edge place i)) next))) ≡ told s
    by true y = refl
    by false true = ap (held s.list []) (sym h)
    by false false = ap told (logged-full (change_words (enlisted (fin m i).edge place i)) next h)

full-stepped : (m : Model) (t : Meeting) (s : State) → s.count ≡ FULL → told (stepped m t s) ≡ told s
unfolding stepped
full-stepped m t s h = by (eqb (mark s.marks (child_table t.child) t.id) 0)
  where
    next : State
    next = marked (child_table t.child) t.id 1 s

    by : (b : Bool) → told (cond b (list_step m t.child t.id (rename_step m t.child t.parent t.id next)) s) ≡ told s
    by true = ap (λ r. told (list_step m t.child t.id r)) (full-renamed m t.child t.parent t.id next h) ∙ full-listed m t.child t.id next h
    by false = refl

full-walked : (m : Model) (l : List Meeting) (s : State) → s.count ≡ FULL → told (walked m l s) ≡ told s
unfolding walked
full-walked m [] s h = refl
full-walked m (t ∷ l) s h = full-walked m l (stepped m t s) (ap (λ r. r.count) (full-stepped m t s h) ∙ h) ∙ full-stepped m t s h

-- ---- the walk

-- it tells the changes, each meeting asked of the model that those before it left
pub walk-tells : (m : Model) (l : List Meeting) (n : Model) (s : State) → Kept m n s.marks → Met (λ t. Known m t.child t.parent t.id) l → told (walked m l s) ≡ tell_all (changes_for n l) (told s)
unfolding walked changes_for tell_all
walk-tells m [] n s a known = refl
walk-tells m (t ∷ l) n s a known = by (eqb (mark s.marks (child_table t.child) t.id) 0) refl (λ o r k. walk-tells m l o r k known.1)
  where
    c : List Change
    c = changes_at n t

    Rest : Type 0
    Rest = (o : Model) (r : State) → Kept m o r.marks → told (walked m l r) ≡ tell_all (changes_for o l) (told r)

    goes_on : Steps m n s c (stepped m t s) → Rest → (b : Bool) → every (map fits c) ≡ b → told (walked m l (stepped m t s)) ≡ tell_all (changes_for (made_all n c) l) (tell_all c (told s))
    goes_on step rest true h = rest (made_all n c) (stepped m t s) (step.kept h) ∙ ap (tell_all (changes_for (made_all n c) l)) step.says
    goes_on step rest false h =
        let full : (tell_all c (told s)).count ≡ FULL = told-unfit c (told s) h in
        full-walked m l (stepped m t s) (ap (λ r. r.count) step.says ∙ full) ∙ step.says ∙ sym (told-full (changes_for (made_all n c) l) (tell_all c (told s)) full)

    by : (b : Bool) → eqb (mark s.marks (child_table t.child) t.id) 0 ≡ b → Rest → told (walked m l (stepped m t s)) ≡ tell_all (c ++ changes_for (made_all n c) l) (told s)
    by true h rest =
        goes_on (met-first m n t.child t.parent t.id s a known.0 (eqb-true _ 0 h)) rest (every (map fits c)) refl ∙ sym (tell-append c (changes_for (made_all n c) l) (told s))
    by false h rest =
        let again : mark s.marks (child_table t.child) t.id ≡ 0 → ⊥ = eqb-false _ 0 h in
        let none : c ≡ [] = none_before m n t.child t.parent t.id s.marks a known.0 again in
        ap (λ r. told (walked m l r)) (met-before m t.child t.parent t.id s again) ∙ rest n s a ∙ sym (stay none)
      where
        stay : c ≡ [] → tell_all (c ++ changes_for (made_all n c) l) (told s) ≡ tell_all (changes_for n l) (told s)
        stay g = ap (λ k. tell_all (k ++ changes_for (made_all n k) l) (told s)) g ∙ unfold made_all in refl
