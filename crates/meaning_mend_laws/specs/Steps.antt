-- A mending, meeting by meeting: what it makes of the model is the model with other pointers. Assumes nothing.
use Rattle.std.specs.Prelude.{ℕ, ◌≡◌, refl, Bool, true, false, not, cond, ◌&&◌, List, [], ◌∷◌, ◌++◌, eqb, length}
use Rattle.std.proofs.Common.{sym, ap, ◌∙◌, append-nil, eqb-true, eq-eqb}
use Rattle.std.proofs.Math.Path.{fun_ext}
use Rattle.meaning.specs.Lists.{member, joined, meet, meets}
use Rattle.meaning.specs.Model.{Model, changed, fin, edge}
use Rattle.meaning.specs.Edits.{appended}
use Rattle.meaning_list_laws.specs.Tests.{and_both}
use Rattle.meaning_list_laws.specs.Lists.{joined-append, meets-append, meet-old, meet-new}
use Rattle.meaning_mends.specs.Mends.{Child, a_region, a_shell, a_loop, a_fin, named, Meeting, met, meetings, child_table, same_child, Change, renamed, enlisted, made, made_all, change_if, parent_change, fin_change, list_change, changes_at, changes_for, mended}
use Rattle.meaning_mends.specs.Laws.{child-of, made-append}
use Rattle.meaning_mend_laws.specs.Terms.{linked, listing, ids_of, parent_by, new_parent, naming, new_listing}

-- ---- the model with its own pointers, and with others twice

pub linked-own : (m : Model) → linked m (named m) (listing m) ≡ m
unfolding linked changed
linked-own m = refl

pub linked_up : (m : Model) (u v : Child → ℕ → ℕ) (a : ℕ → List ℕ) → ((k : Child) (i : ℕ) → u k i ≡ v k i) → linked m u a ≡ linked m v a
linked_up m u v a h = ap (λ (w : Child → ℕ → ℕ). linked m w a) (fun_ext (λ k. fun_ext (λ i. h k i)))

pub linked-along : (m : Model) (u : Child → ℕ → ℕ) (a c : ℕ → List ℕ) → ((e : ℕ) → a e ≡ c e) → linked m u a ≡ linked m u c
linked-along m u a c h = ap (λ (w : ℕ → List ℕ). linked m u w) (fun_ext h)

-- ---- one meeting

-- the parents behind a meeting, and the edges' lists behind a fin
abbrev parent_at : Model → Child → ℕ → ℕ → Child → ℕ → ℕ
parent_at m k i p c j = cond (same_child c k && eqb j i) p (named m c j)

abbrev listing_at : Model → ℕ → ℕ → List ℕ
listing_at m i e = meets (listing m e) (naming m e (i ∷ []))

parent-step : (m : Model) (k : Child) (i p : ℕ) → made_all m (parent_change m (met k p i)) ≡ linked m (parent_at m k i p) (listing m)
unfolding made_all parent_change made linked changed
parent-step m k i p = by (eqb (named m k i) p) refl
  where
    old : ℕ
    old = named m k i

    by : (b : Bool) → eqb old p ≡ b → made_all m (change_if (not b) (renamed k i old p)) ≡ linked m (parent_at m k i p) (listing m)
    by true e = sym (linked-own m) ∙ linked_up m (named m) (parent_at m k i p) (listing m) (λ c j. at c j (same_child c k && eqb j i) refl)
      where
        at : (c : Child) (j : ℕ) (b : Bool) → (same_child c k && eqb j i) ≡ b → named m c j ≡ cond b p (named m c j)
        at c j true q =
            let both = and_both (same_child c k) (eqb j i) q in
            ap (λ d. named m d j) (child-of c k both.0) ∙ ap (named m k) (eqb-true j i both.1) ∙ eqb-true old p e
        at c j false q = refl
    by false e = refl

fin-step : (m : Model) (i : ℕ) → made_all m (fin_change m i) ≡ linked m (named m) (listing_at m i)
unfolding made_all fin_change made linked changed naming joined meets
fin-step m i = by (member i (listing m (fin m i).edge)) refl
  where
    own : ℕ
    own = (fin m i).edge

    -- the list of the fin's edge, and of any other
    at : (t : ℕ → List ℕ) → t own ≡ meet (listing m own) i → ((e : ℕ) → eqb e own ≡ false → t e ≡ listing m e) → (e : ℕ) → t e ≡ listing_at m i e
    at t here there e = go (eqb e own) refl
      where
        go : (b : Bool) → eqb e own ≡ b → t e ≡ meets (listing m e) (cond b (i ∷ []) [] ++ [])
        go true q = ap t (eqb-true e own q) ∙ here ∙ ap (λ d. meet (listing m d) i) (sym (eqb-true e own q))
        go false q = there e q

    by : (b : Bool) → member i (listing m own) ≡ b → made_all m (change_if (not b) (enlisted own (length (listing m own)) i)) ≡ linked m (named m) (listing_at m i)
    by true q = sym (linked-own m) ∙ linked-along m (named m) (listing m) (listing_at m i) (at (listing m) (sym (meet-old (listing m own) i q)) (λ e _. refl))
    by false q = linked-along m (named m) (λ e. cond (eqb e own) (appended (listing m e) i) (listing m e)) (listing_at m i) (at _ (rw (eq-eqb own own refl) (sym (meet-new (listing m own) i q))) (λ e r. rw r))

-- ---- one meeting after the other

step : (m : Model) (k : Child) (i p : ℕ) → made_all m (changes_at m (met k p i)) ≡ linked m (parent_at m k i p) (λ e. meets (listing m e) (naming m e (ids_of a_fin (met k p i ∷ []))))
unfolding changes_at ids_of fin_change linked changed meets naming joined
step m k i p = by k
  where
    u : Child → Child → ℕ → ℕ
    u k = parent_at m k i p

    Made : Child → Type 0
    Made k = made_all m (parent_change m (met k p i) ++ list_change m k i) ≡ linked m (u k) (λ e. meets (listing m e) (naming m e (ids_of a_fin (met k p i ∷ []))))

    none : (k : Child) → made_all m (parent_change m (met k p i) ++ []) ≡ linked m (u k) (listing m)
    none k = ap (made_all m) (append-nil (parent_change m (met k p i))) ∙ parent-step m k i p

    by : (k : Child) → Made k
    by a_region = none a_region
    by a_shell = none a_shell
    by a_loop = none a_loop
    by a_fin =
        made-append m (parent_change m (met a_fin p i)) (fin_change m i)
        ∙ ap (λ (n : Model). made_all n (fin_change m i)) (parent-step m a_fin i p)
        ∙ fin-step (linked m (u a_fin) (listing m)) i

pub all-steps : (m : Model) (l : List Meeting) → made_all m (changes_for m l) ≡ linked m (λ k i. parent_by l k i (named m k i)) (λ e. meets (listing m e) (naming m e (ids_of a_fin l)))
unfolding changes_for made_all parent_by ids_of naming joined meets linked changed
all-steps m [] = refl
all-steps m (t ∷ l) =
    made-append m c (changes_for n l)
    ∙ all-steps n l
    ∙ ap (λ (w : Model). linked w (λ k i. parent_by l k i (named w k i)) (λ e. meets (listing w e) (naming w e (ids_of a_fin l)))) (step m t.child t.id t.parent)
    ∙ linked-along m (λ k i. parent_by (t ∷ l) k i (named m k i)) (λ e. meets (meets (listing m e) (naming m e (ids_of a_fin (t ∷ [])))) (naming m e (ids_of a_fin l))) (λ e. meets (listing m e) (naming m e (ids_of a_fin (t ∷ l)))) (λ e. sym (meets-append (listing m e) (naming m e (ids_of a_fin (t ∷ []))) (naming m e (ids_of a_fin l))) ∙ ap (meets (listing m e)) (parts e))
  where
    c : List Change
    c = changes_at m t

    n : Model
    n = made_all m c

    own : ℕ → ℕ → List ℕ
    own e i = cond (eqb e (fin m i).edge) (i ∷ []) []

    parts : (e : ℕ) → naming m e (ids_of a_fin (t ∷ [])) ++ naming m e (ids_of a_fin l) ≡ naming m e (ids_of a_fin (t ∷ l))
    parts e = ap (λ r. joined (own e) r ++ joined (own e) (ids_of a_fin l)) (append-nil (cond (same_child a_fin t.child) (t.id ∷ []) [])) ∙ sym (joined-append (own e) (cond (same_child a_fin t.child) (t.id ∷ []) []) (ids_of a_fin l))

pub mended-is : (m : Model) (b : ℕ) → mended m b ≡ linked m (new_parent m b) (new_listing m b)
unfolding mended
mended-is m b = all-steps m (meetings m b)
