-- What holds between the marks of a walk and the model that the changes so far left: of a record that was not met all is as it was, and a record that was met has what its lists ask for. Assumes nothing.
use Rattle.std.specs.Prelude.{ℕ, ◌+◌, ◌≤◌, ◌≡◌, refl, Bool, true, false, not, cond, ◌&&◌, List, [], ◌∷◌, eqb, length, set}
use Rattle.std.proofs.Common.{arith, sym, ap, ◌∙◌, subst, length-append, eqb-true, eq-eqb}
use Rattle.std.proofs.Math.Bool.{or-true}
use Rattle.meaning.specs.Lists.{member}
use Rattle.meaning.specs.Model.{Model, fin, edge}
use Rattle.meaning.specs.Edits.{appended}
use Rattle.meaning_list_laws.specs.Tests.{and_both, or-false}
use Rattle.meaning_list_laws.specs.Lists.{member-snoc}
use Rattle.meaning_mends.specs.Mends.{Child, a_region, a_shell, a_loop, a_fin, named, met, child_table, same_child, renamed, made_all, change_if, parent_change, once}
use Rattle.meaning_mends.specs.Laws.{named-made, besides, parent, Listed, child-of, sure-agree}
use Rattle.mend_meetings.specs.Machine.{mark_at, MARKS}
use Rattle.mend_exact.specs.Marks.{mark, Low, mark_set}

abbrev pub EdgeLow : Model → Child → ℕ → Type 0
EdgeLow m a_region i = Unit {0}
EdgeLow m a_shell i = Unit {0}
EdgeLow m a_loop i = Unit {0}
EdgeLow m a_fin i = Low 6 (fin m i).edge

-- a meeting of a record that has a mark, as has the edge of a fin, and that no other parent lists
pub record Known (m : Model) (c : Child) (p i : ℕ) : Type 0 where
  pub sure : Listed m (met c p i) × (once m (met c p i) ≡ true)
  pub low : Low (child_table c) i
  pub edge : EdgeLow m c i

-- the parents that the records name
pub record Names (m n : Model) (s : List ℕ) : Type 0 where
  pub fresh : (k : Child) (j : ℕ) → Low (child_table k) j → mark s (child_table k) j ≡ 0 → named n k j ≡ named m k j
  pub done : (k : Child) (q j : ℕ) → Known m k q j → (mark s (child_table k) j ≡ 0 → ⊥) → named n k j ≡ q

-- the fins that the edges list; the mark of an edge is how many it got
pub record Fins (m n : Model) (s : List ℕ) : Type 0 where
  pub whose : (j : ℕ) → (fin n j).edge ≡ (fin m j).edge
  pub got : (f : ℕ) → Low 6 f → length (edge n f).fins ≡ length (edge m f).fins + mark s 6 f
  pub fresh : (j : ℕ) → Low 5 j → mark s 5 j ≡ 0 → member j (besides n j) ≡ member j (besides m j)
  pub done : (j : ℕ) → Low 5 j → (mark s 5 j ≡ 0 → ⊥) → member j (besides n j) ≡ true

pub record Kept (m n : Model) (s : List ℕ) : Type 0 where
  pub long : MARKS ≤ length s
  pub names : Names m n s
  pub fins : Fins m n s

-- an edge's mark is no child's
pub no_edge : (k : Child) → eqb (child_table k) 6 ≡ false
no_edge a_region = refl
no_edge a_shell = refl
no_edge a_loop = refl
no_edge a_fin = refl

pub no-child : (k : Child) → eqb 6 (child_table k) ≡ false
no-child a_region = refl
no-child a_shell = refl
no-child a_loop = refl
no-child a_fin = refl

-- ---- the names

pub names-stay : {m n : Model} {s : List ℕ} (o : Model) (r : List ℕ) → ((k : Child) (j : ℕ) → named o k j ≡ named n k j) → ((k : Child) (j : ℕ) → Low (child_table k) j → mark r (child_table k) j ≡ mark s (child_table k) j)
    → Names m n s → Names m o r
names-stay o r e f a =
    record {
      fresh = λ k j low z. e k j ∙ a.fresh k j low (sym (f k j low) ∙ z);
      done = λ k q j known h. e k j ∙ a.done k q j known (λ z. h (f k j known.low ∙ z));
    }

named-after : (n : Model) (c : Child) (p i : ℕ) (k : Child) (j : ℕ) → named (made_all n (parent_change n (met c p i))) k j ≡ cond (same_child k c && eqb j i) p (named n k j)
unfolding made_all parent_change
named-after n c p i k j = by (eqb (named n c i) p) refl
  where
    here : eqb (named n c i) p ≡ true → (b : Bool) → (same_child k c && eqb j i) ≡ b → named n k j ≡ cond b p (named n k j)
    here e true f =
        let both = and_both (same_child k c) (eqb j i) f in
        ap (λ x. named n x j) (child-of k c both.0) ∙ ap (named n c) (eqb-true j i both.1) ∙ eqb-true (named n c i) p e
    here e false f = refl

    by : (b : Bool) → eqb (named n c i) p ≡ b → named (made_all n (change_if (not b) (renamed c i (named n c i) p))) k j ≡ cond (same_child k c && eqb j i) p (named n k j)
    by true e = here e (same_child k c && eqb j i) refl
    by false e = named-made n (renamed c i (named n c i) p) k j

-- a record that is met names the parent that lists it
pub names-next : (m n : Model) (s : List ℕ) (c : Child) (p i : ℕ) → MARKS ≤ length s → Known m c p i → Names m n s → Names m (made_all n (parent_change n (met c p i))) (set s (mark_at (child_table c) i) 1)
names-next m n s c p i long known a = record { fresh = fresh; done = done }
  where
    fresh : (k : Child) (j : ℕ) → Low (child_table k) j → mark (set s (mark_at (child_table c) i) 1) (child_table k) j ≡ 0 → named (made_all n (parent_change n (met c p i))) k j ≡ named m k j
    fresh k j low z = named-after n c p i k j ∙ by (same_child k c && eqb j i) (sym (mark_set s (child_table c) i (child_table k) j 1 long known.low low) ∙ z)
      where
        by : (b : Bool) → cond b 1 (mark s (child_table k) j) ≡ 0 → cond b p (named n k j) ≡ named m k j
        by true e = absurd (omega arith)
        by false e = a.fresh k j low e

    done : (k : Child) (q j : ℕ) → Known m k q j → (mark (set s (mark_at (child_table c) i) 1) (child_table k) j ≡ 0 → ⊥) → named (made_all n (parent_change n (met c p i))) k j ≡ q
    done k q j other h = named-after n c p i k j ∙ by (same_child k c && eqb j i) refl (λ z. h (mark_set s (child_table c) i (child_table k) j 1 long known.low other.low ∙ z))
      where
        by : (b : Bool) → (same_child k c && eqb j i) ≡ b → (cond b 1 (mark s (child_table k) j) ≡ 0 → ⊥) → cond b p (named n k j) ≡ q
        by true e f = sure-agree m (parent (met k q j)) (parent (met c p i)) other.sure known.sure e
        by false e f = a.done k q j other f

-- ---- the fins

pub fins-stay : {m n : Model} {s : List ℕ} (o : Model) (r : List ℕ) → ((j : ℕ) → (fin o j).edge ≡ (fin n j).edge) → ((f : ℕ) → (edge o f).fins ≡ (edge n f).fins)
    → ((j : ℕ) → Low 5 j → mark r 5 j ≡ mark s 5 j) → ((f : ℕ) → Low 6 f → mark r 6 f ≡ mark s 6 f) → Fins m n s → Fins m o r
fins-stay {m} {n} {s} o r e l u v a =
    record {
      whose = λ j. e j ∙ a.whose j;
      got = λ f low. ap length (l f) ∙ a.got f low ∙ ap (λ x. length (edge m f).fins + x) (sym (v f low));
      fresh = λ j low z. ap (member j) (here j) ∙ a.fresh j low (sym (u j low) ∙ z);
      done = λ j low h. ap (member j) (here j) ∙ a.done j low (λ z. h (u j low ∙ z));
    }
  where
    here : (j : ℕ) → besides o j ≡ besides n j
    here j = ap (λ f. (edge o f).fins) (e j) ∙ l (fin n j).edge

-- a fin that is met is listed by its edge, behind the others if it was not before
module _ (m n o : Model) (s r : List ℕ) (i : ℕ) (a : Fins m n s) (low : Low 5 i) (first : mark s 5 i ≡ 0)
    (e : (j : ℕ) → (fin o j).edge ≡ (fin n j).edge)
    (l : (f : ℕ) → (edge o f).fins ≡ cond (not (member i (besides m i)) && eqb f (fin m i).edge) (appended (edge n f).fins i) (edge n f).fins)
    (u : (j : ℕ) → Low 5 j → mark r 5 j ≡ cond (eqb j i) 1 (mark s 5 j))
    (v : (f : ℕ) → Low 6 f → mark r 6 f ≡ cond (not (member i (besides m i)) && eqb f (fin m i).edge) (mark s 6 f + 1) (mark s 6 f))
  where
    longer : (b : Bool) (f : ℕ) → Low 6 f → length (cond b (appended (edge n f).fins i) (edge n f).fins) ≡ length (edge m f).fins + cond b (mark s 6 f + 1) (mark s 6 f)
    longer true f w = omega (arith, length-append (edge n f).fins (i ∷ []), a.got f w)
    longer false f w = a.got f w

    -- the fins beside j
    here : (j : ℕ) → besides o j ≡ cond (not (member i (besides m i)) && eqb (fin m j).edge (fin m i).edge) (appended (besides n j) i) (besides n j)
    here j = ap (λ f. (edge o f).fins) (e j) ∙ l (fin n j).edge ∙ ap (λ f. cond (not (member i (besides m i)) && eqb f (fin m i).edge) (appended (besides n j) i) (besides n j)) (a.whose j)

    others : (b : Bool) (j : ℕ) → eqb j i ≡ false → member j (cond b (appended (besides n j) i) (besides n j)) ≡ member j (besides n j)
    others true j h = member-snoc j (besides n j) i ∙ rw h (or-false (member j (besides n j)))
    others false j h = refl

    itself : (b : Bool) → member i (besides m i) ≡ b → member i (cond (not b && eqb (fin m i).edge (fin m i).edge) (appended (besides n i) i) (besides n i)) ≡ true
    itself true h = a.fresh i low first ∙ h
    itself false h = rw (eq-eqb (fin m i).edge (fin m i).edge refl) (member-snoc i (besides n i) i ∙ rw (eq-eqb i i refl) (or-true (member i (besides n i))))

    pub fins-next : Fins m o r
    fins-next = record { whose = λ j. e j ∙ a.whose j; got = got; fresh = fresh; done = done }
      where
        got : (f : ℕ) → Low 6 f → length (edge o f).fins ≡ length (edge m f).fins + mark r 6 f
        got f w = ap length (l f) ∙ longer (not (member i (besides m i)) && eqb f (fin m i).edge) f w ∙ ap (λ x. length (edge m f).fins + x) (sym (v f w))

        fresh : (j : ℕ) → Low 5 j → mark r 5 j ≡ 0 → member j (besides o j) ≡ member j (besides m j)
        fresh j w z = by (eqb j i) refl (sym (u j w) ∙ z)
          where
            by : (b : Bool) → eqb j i ≡ b → cond b 1 (mark s 5 j) ≡ 0 → member j (besides o j) ≡ member j (besides m j)
            by true h q = absurd (omega arith)
            by false h q = ap (member j) (here j) ∙ others (not (member i (besides m i)) && eqb (fin m j).edge (fin m i).edge) j h ∙ a.fresh j w q

        done : (j : ℕ) → Low 5 j → (mark r 5 j ≡ 0 → ⊥) → member j (besides o j) ≡ true
        done j w h = by (eqb j i) refl (λ z. h (u j w ∙ z))
          where
            by : (b : Bool) → eqb j i ≡ b → (cond b 1 (mark s 5 j) ≡ 0 → ⊥) → member j (besides o j) ≡ true
            by true q g = subst (λ x. member x (besides o x) ≡ true) (sym (eqb-true j i q)) (ap (member i) (here i) ∙ itself (member i (besides m i)) refl)
            by false q g = ap (member j) (here j) ∙ others (not (member i (besides m i)) && eqb (fin m j).edge (fin m i).edge) j q ∙ a.done j w g
