-- "a second run reports none": a model that is the same as a mended one has nothing to mend, and its mending is not refused. Assumes nothing.
use Rattle.std.specs.Prelude.{ℕ, ◌+◌, ◌<◌, ◌≡◌, refl, Bool, true, ◌&&◌, List, [], ◌∷◌, map, ltb}
use Rattle.std.proofs.Common.{zero-add, arith, sym, ◌∙◌}
use Rattle.std.proofs.Math.Path.{ap, subst}
use borrow.Author.Tests.{ltb-true, le-leb}
use Rattle.meaning.specs.Lists.{run, all, every, member, count, joined}
use Rattle.meaning.specs.Model.{Model, Table, Edge, Fin, changed, has, body, region, shell, face, fin, edge}
use Rattle.meaning.specs.Walks.{readable_fin}
use Rattle.meaning_list_laws.specs.Tests.{and_both}
use Rattle.meaning_list_laws.specs.Lists.{all-imply, all-run, joined_same}
use Rattle.meaning_mends.specs.Mends.{Child, a_region, a_shell, a_loop, a_fin, named, Meeting, met, loop_meetings, face_meetings, shell_meetings, region_meetings, meetings, Change, made, made_all, changes, mended, loop_there, face_there, shell_there, region_there, body_there, listings, once, lists_refusal, mend_refusal}
use Rattle.meaning_mends.specs.Laws.{Want, parent, listing, wants_all, asked-by-one, Has, Each, none_more, all-mended, meetings-stay}
use Rattle.memory_writes.specs.Change.{SameTable, SameModel}
use Rattle.mend_effects.specs.Due.{records, Present, body-wants}
use Rattle.mend_effects.specs.All.{Open}

-- ---- a change leaves who lists whom, and which records there are

there-made : (m : Model) (c : Change) (b : ℕ) → body_there (made m c) b ≡ body_there m b
unfolding made changed body_there
there-made m c b = refl

there-stays : (m : Model) (l : List Change) (b : ℕ) → body_there (made_all m l) b ≡ body_there m b
unfolding made_all
there-stays m [] b = refl
there-stays m (c ∷ l) b = there-stays (made m c) l b ∙ there-made m c b

listings-made : (m : Model) (c : Change) (k : Child) (i : ℕ) → listings (made m c) k i ≡ listings m k i
unfolding made changed listings
listings-made m c a_region i = refl
listings-made m c a_shell i = refl
listings-made m c a_loop i = refl
listings-made m c a_fin i = refl

listings-stay : (m : Model) (l : List Change) (k : Child) (i : ℕ) → listings (made_all m l) k i ≡ listings m k i
unfolding made_all
listings-stay m [] k i = refl
listings-stay m (c ∷ l) k i = listings-stay (made m c) l k i ∙ listings-made m c k i

once-same : (m n : Model) (l : List Meeting) → ((k : Child) (i : ℕ) → listings m k i ≡ listings n k i) → every (map (once m) l) ≡ every (map (once n) l)
unfolding every
once-same m n [] h = refl
once-same m n (t ∷ l) h = rw (h t.child t.id, once-same m n l h)

-- ---- the same models

module _ {A : Type 0} {t u : Table A} (s : SameTable t u) where
  has_same : (i : ℕ) → has u i ≡ has t i
  has_same i = ap (ltb i) (sym s.used)

  slot_same : (i : ℕ) → has u i ≡ true → t.slot i ≡ u.slot i
  slot_same i h = s.slots i (ltb-true i t.used (sym (has_same i) ∙ h))

  slot-below : (i : ℕ) → i < u.used → t.slot i ≡ u.slot i
  slot-below i h = s.slots i (subst (λ k. i < k) (sym s.used) h)

both : (a b : Bool) → a ≡ true → b ≡ true → (a && b) ≡ true
both a b e f = rw (e, f)

module _ (m n : Model) (s : SameModel m n) where
  -- a record that is there, with all that it lists
  under : {A : Type 0} {t u : Table A} (lists : A → List ℕ) (p q : ℕ → Bool) → SameTable t u → ((y : ℕ) → q y ≡ true → p y ≡ true)
      → (i : ℕ) → (has u i && all q (lists (u.slot i))) ≡ true → (has t i && all p (lists (t.slot i))) ≡ true
  under {t = t} {u} lists p q same h i e =
      let two = and_both (has u i) (all q (lists (u.slot i))) e in
      both (has t i) (all p (lists (t.slot i))) (sym (has_same same i) ∙ two.0) (rw (slot_same same i two.0) (all-imply p q (lists (u.slot i)) h two.1))

  fin-there : (i : ℕ) → readable_fin n i ≡ true → readable_fin m i ≡ true
  fin-there i e =
      let two = and_both (has n.fins i) (has n.edges (fin n i).edge) e in
      both _ _ (sym (has_same s.fins i) ∙ two.0) (rw (slot_same s.fins i two.0) (sym (has_same s.edges (fin n i).edge) ∙ two.1))

  loop-there : (i : ℕ) → loop_there n i ≡ true → loop_there m i ≡ true
  loop-there = under (λ r. r.fins) (readable_fin m) (readable_fin n) s.loops fin-there

  face-there : (i : ℕ) → face_there n i ≡ true → face_there m i ≡ true
  face-there = under (λ r. r.loops) (loop_there m) (loop_there n) s.faces loop-there

  shell-there : (i : ℕ) → shell_there n i ≡ true → shell_there m i ≡ true
  shell-there = under (λ r. r.faces) (face_there m) (face_there n) s.shells face-there

  region-there : (i : ℕ) → region_there n i ≡ true → region_there m i ≡ true
  region-there = under (λ r. r.shells) (shell_there m) (shell_there n) s.regions shell-there

  body-there : (b : ℕ) → body_there n b ≡ true → body_there m b ≡ true
  unfolding body_there
  body-there = under (λ r. r.regions) (region_there m) (region_there n) s.bodies region-there

  -- the same meetings
  loop-met : (f l : ℕ) → loop_there n l ≡ true → loop_meetings m f l ≡ loop_meetings n f l
  unfolding loop_meetings
  loop-met f l e = rw (slot_same s.loops l (and_both (has n.loops l) _ e).0)

  face-met : (f : ℕ) → face_there n f ≡ true → face_meetings m f ≡ face_meetings n f
  unfolding face_meetings
  face-met f e =
      let two = and_both (has n.faces f) _ e in
      rw (slot_same s.faces f two.0) (joined_same (loop_meetings m f) (loop_meetings n f) (loop_there n) (face n f).loops (loop-met f) two.1)

  shell-met : (r i : ℕ) → shell_there n i ≡ true → shell_meetings m r i ≡ shell_meetings n r i
  unfolding shell_meetings
  shell-met r i e =
      let two = and_both (has n.shells i) _ e in
      rw (slot_same s.shells i two.0) (ap (λ l. met a_shell r i ∷ l) (joined_same (face_meetings m) (face_meetings n) (face_there n) (shell n i).faces face-met two.1))

  region-met : (b r : ℕ) → region_there n r ≡ true → region_meetings m b r ≡ region_meetings n b r
  unfolding region_meetings
  region-met b r e =
      let two = and_both (has n.regions r) _ e in
      rw (slot_same s.regions r two.0) (ap (λ l. met a_region b r ∷ l) (joined_same (shell_meetings m r) (shell_meetings n r) (shell_there n) (region n r).shells (shell-met r) two.1))

  body-met : (b : ℕ) → body_there n b ≡ true → meetings m b ≡ meetings n b
  unfolding meetings body_there
  body-met b e =
      let two = and_both (has n.bodies b) _ e in
      rw (slot_same s.bodies b two.0) (joined_same (region_meetings m b) (region_meetings n b) (region_there n) (body n b).regions (region-met b) two.1)

  -- the same parents
  lists-same : {A : Type 0} {t u : Table A} (lists : A → List ℕ) (i : ℕ) → SameTable t u
      → count i (joined (λ p. lists (t.slot p)) (run 0 t.used)) ≡ count i (joined (λ p. lists (u.slot p)) (run 0 u.used))
  lists-same {t = t} {u} lists i same =
      ap (count i)
      (joined_same (λ p. lists (t.slot p)) (λ p. lists (u.slot p)) (λ p. ltb p (0 + t.used)) (run 0 t.used)
      (λ p h. ap lists (same.slots p (subst (λ k. p < k) (zero-add t.used) (ltb-true p (0 + t.used) h)))) (all-run 0 t.used)
      ∙ ap (λ k. joined (λ p. lists (u.slot p)) (run 0 k)) same.used)

  listings-same : (k : Child) (i : ℕ) → listings m k i ≡ listings n k i
  unfolding listings
  listings-same a_region i = lists-same (λ r. r.regions) i s.bodies
  listings-same a_shell i = lists-same (λ r. r.shells) i s.regions
  listings-same a_loop i = lists-same (λ r. r.loops) i s.faces
  listings-same a_fin i = lists-same (λ r. r.fins) i s.loops

  -- what the one has the other has
  want-had : (w : Want) → Present n w → Has n w → Has m w
  want-had (parent t) p h = by t.child p ∙ h
    where
      by : (k : Child) → t.id < records n k → named m k t.id ≡ named n k t.id
      by a_region g = ap (λ r. r.body) (slot-below s.regions t.id g)
      by a_shell g = ap (λ r. r.region) (slot-below s.shells t.id g)
      by a_loop g = ap (λ r. r.face) (slot-below s.loops t.id g)
      by a_fin g = ap (λ r. r.owner) (slot-below s.fins t.id g)
  want-had (listing i) p h =
      ap (λ (f : Fin). member i (edge m f.edge).fins) (slot-below s.fins i p.0)
      ∙ ap (λ (e : Edge). member i e.fins) (slot-below s.edges (fin n i).edge p.1)
      ∙ h

  wants-had : (l : List Want) → Each (Present n) l → Each (Has n) l → Each (Has m) l
  wants-had [] p h = tt
  wants-had (w ∷ l) p h = (want-had w p.0 h.0, wants-had l p.1 h.1)

-- ---- behind a mending

module _ (m : Model) (b : ℕ) (o : Open m b) (again : Model) (s : SameModel again (mended m b)) where
  there : body_there (mended m b) b ≡ true
  unfolding mended
  there = there-stays m (changes m b) b ∙ o.there

  met-again : meetings again b ≡ meetings m b
  unfolding mended
  met-again = body-met again (mended m b) s b there ∙ meetings-stay m (changes m b) b

  present : Each (Present (mended m b)) (wants_all (meetings m b))
  unfolding mended
  present = subst (λ l. Each (Present (mended m b)) (wants_all l)) (meetings-stay m (changes m b) b) (body-wants (mended m b) b there)

  pub none-to-change : changes again b ≡ []
  none-to-change =
      asked-by-one again (meetings again b)
      ∙ none_more again (wants_all (meetings again b))
      (subst (λ l. Each (Has again) (wants_all l)) (sym met-again)
      (wants-had again (mended m b) s (wants_all (meetings m b)) present (all-mended m b o.there o.single)))

  single : every (map (once again) (meetings again b)) ≡ true
  unfolding mended
  single =
      ap (λ l. every (map (once again) l)) met-again
      ∙ once-same again (mended m b) (meetings m b) (listings-same again (mended m b) s)
      ∙ once-same (mended m b) m (meetings m b) (listings-stay m (changes m b))
      ∙ o.single

  pub not-refused : (n : ℕ) → mend_refusal again b n ≡ 0
  unfolding mend_refusal lists_refusal every
  not-refused n = rw (body-there again (mended m b) s b there, single, none-to-change, le-leb 0 n (omega arith))
