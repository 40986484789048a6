-- What a mending leaves as it was, and what it takes from the lists. Assumes nothing.
use Rattle.std.specs.Prelude.{ℕ, ◌≤◌, ◌≡◌, refl, Bool, true, false, cond, ◌&&◌, ◌||◌, List, [], ◌∷◌, ◌++◌, map, eqb, leb, length}
use Rattle.std.proofs.Common.{arith, sym, ap, ◌∙◌, subst, append-nil, append_assoc, eqb-true}
use Rattle.std.proofs.lemmas.Bool.{false≢true}
use Rattle.geom_lines_planes.specs.Refuse.{◌unless◌}
use Rattle.meaning.specs.Lists.{every, member, count, joined, meet, meets}
use Rattle.meaning.specs.Model.{Model, changed, fin, edge}
use Rattle.meaning.specs.Walks.{face_walk, faces_refusal, edge_walk, edges_refusal, vertex_walk, vertices_refusal}
use Rattle.meaning_list_laws.specs.Tests.{and_both, and-true, and-false, or-none, then-zero, unless-zero}
use Rattle.meaning_list_laws.specs.Lists.{member-append, member-none, member-cons, member-one, member-snoc, member-tail, member-head, count_none, count-cons, count-absent, meet-old, meet-new}
use Rattle.meaning_mends.specs.Mends.{Child, a_region, a_shell, a_loop, a_fin, named, Meeting, met, meetings, same_child, once, body_there, lists_refusal, fits, changes, mend_refusal, mended}
use Rattle.meaning_mends.specs.Laws.{child-of, Has, Each, wants_all, Met, all-mended}
use Rattle.meaning_mend_laws.specs.Terms.{linked, listing, ids_of, reached, parent_by, new_parent, naming, new_listing, OnlyOf, SameLists, SameWalks}
use Rattle.meaning_mend_laws.specs.Steps.{mended-is}

-- ---- a mending that is not refused

pub accepted-there : (m : Model) (b n : ℕ) → mend_refusal m b n ≡ 0 → body_there m b ≡ true
unfolding mend_refusal lists_refusal
accepted-there m b n z = unless-zero 1 (body_there m b) (then-zero (2 unless body_there m b) _ (then-zero (lists_refusal m b) _ z).0).0

pub accepted-once : (m : Model) (b n : ℕ) → mend_refusal m b n ≡ 0 → every (map (once m) (meetings m b)) ≡ true
unfolding mend_refusal lists_refusal
accepted-once m b n z = unless-zero 0 (every (map (once m) (meetings m b))) (then-zero (2 unless body_there m b) _ (then-zero (lists_refusal m b) _ z).0).1

pub accepted-fits : (m : Model) (b n : ℕ) → mend_refusal m b n ≡ 0 → every (map fits (changes m b)) ≡ true
unfolding mend_refusal
accepted-fits m b n z = (and_both (every (map fits (changes m b))) (leb (length (changes m b)) n) (unless-zero 7 _ (then-zero (lists_refusal m b) _ z).1)).0

-- ---- the parent by the lists

-- a meeting is of the record i of class k
one-id : (k c : Child) (i j : ℕ) → member i (cond (same_child k c) (j ∷ []) []) ≡ (same_child k c && eqb i j)
one-id k c i j = by (same_child k c)
  where
    by : (b : Bool) → member i (cond b (j ∷ []) []) ≡ (b && eqb i j)
    by true = member-one i j
    by false = member-none i

member-ids : (k : Child) (i : ℕ) (t : Meeting) (l : List Meeting) → member i (ids_of k (t ∷ l)) ≡ ((same_child k t.child && eqb i t.id) || member i (ids_of k l))
unfolding ids_of
member-ids k i t l = member-append i (cond (same_child k t.child) (t.id ∷ []) []) (ids_of k l) ∙ ap (λ b. b || member i (ids_of k l)) (one-id k t.child i t.id)

pub unmet : (l : List Meeting) (k : Child) (i p : ℕ) → member i (ids_of k l) ≡ false → parent_by l k i p ≡ p
unfolding parent_by
unmet [] k i p h = refl
unmet (t ∷ l) k i p h =
    let neither = or-none (same_child k t.child && eqb i t.id) (member i (ids_of k l)) (sym (member-ids k i t l) ∙ h) in
    rw neither.0 (unmet l k i p neither.1)

-- what holds of every meeting holds of the record and the parent by the lists
pub met_by : (P : Meeting → Type 0) (l : List Meeting) (k : Child) (i p : ℕ) → Met P l → member i (ids_of k l) ≡ true → P (met k (parent_by l k i p) i)
unfolding parent_by ids_of
met_by P [] k i p g h = absurd (false≢true (sym (member-none i) ∙ h))
met_by P (t ∷ l) k i p g h = by (member i (ids_of k l)) refl (λ q r. met_by P l k i q g.1 r)
  where
    same : Bool
    same = same_child k t.child && eqb i t.id

    here : (b : Bool) → same ≡ b → (b || false) ≡ true → P (met k (cond b t.parent p) i)
    here true e f =
        let both = and_both (same_child k t.child) (eqb i t.id) e in
        subst (λ c. P (met c t.parent i)) (sym (child-of k t.child both.0)) (subst (λ j. P (met t.child t.parent j)) (sym (eqb-true i t.id both.1)) g.0)
    here false e f = absurd (false≢true f)

    by : (b : Bool) → member i (ids_of k l) ≡ b → ((q : ℕ) → member i (ids_of k l) ≡ true → P (met k (parent_by l k i q) i)) → P (met k (parent_by l k i (cond same t.parent p)) i)
    by true e again = again (cond same t.parent p) e
    by false e again = rw (unmet l k i (cond same t.parent p) e) (here same refl (sym (ap (λ b. same || b) e) ∙ sym (member-ids k i t l) ∙ h))

-- ---- the fins that name an edge

pub member-naming : (m : Model) (e i : ℕ) (l : List ℕ) → member i (naming m e l) ≡ (member i l && eqb e (fin m i).edge)
unfolding naming joined
member-naming m e i [] = rw (member-none i)
member-naming m e i (x ∷ l) =
    member-append i (cond (eqb e (fin m x).edge) (x ∷ []) []) (naming m e l)
    ∙ ap (λ b. member i (cond (eqb e (fin m x).edge) (x ∷ []) []) || b) (member-naming m e i l)
    ∙ by (eqb i x) refl
    ∙ ap (λ b. b && eqb e (fin m i).edge) (sym (member-cons i x l))
  where
    own : ℕ → Bool
    own n = eqb e (fin m n).edge

    one : (b : Bool) → member i (cond b (x ∷ []) []) ≡ (b && eqb i x)
    one true = member-one i x
    one false = member-none i

    or_same : (b c : Bool) → (b || (c && b)) ≡ b
    or_same true c = refl
    or_same false true = refl
    or_same false false = refl

    by : (b : Bool) → eqb i x ≡ b → (member i (cond (eqb e (fin m x).edge) (x ∷ []) []) || (member i l && eqb e (fin m i).edge)) ≡ ((b || member i l) && eqb e (fin m i).edge)
    by true q =
        ap (λ c. c || (member i l && own i)) (one (own x) ∙ ap (λ c. own x && c) q ∙ and-true (own x) ∙ ap own (sym (eqb-true i x q)))
        ∙ or_same (own i) (member i l)
    by false q = ap (λ c. c || (member i l && own i)) (one (own x) ∙ ap (λ c. own x && c) q ∙ and-false (own x))

-- ---- entries met one after the other stand behind those that are there, each once

record Grown (s l r : List ℕ) : Type 0 where
  new : List ℕ
  behind : r ≡ s ++ new
  from : (i : ℕ) → member i new ≡ true → (member i l ≡ true) × (member i s ≡ false)
  once : (i : ℕ) → count i new ≤ 1

grown : (s l : List ℕ) → Grown s l (meets s l)
unfolding meets
grown s [] = record { new = []; behind = sym (append-nil s); from = λ i h. absurd (false≢true (sym (member-none i) ∙ h)); once = λ i. omega (arith, count_none i) }
grown s (x ∷ l) = by (member x s) refl (grown (meet s x) l)
  where
    by : (b : Bool) → member x s ≡ b → Grown (meet s x) l (meets (meet s x) l) → Grown s (x ∷ l) (meets (meet s x) l)
    by true q g =
        record {
          new = g.new;
          behind = g.behind ∙ ap (λ r. r ++ g.new) (meet-old s x q);
          from = λ i h. let old = g.from i h in (member-tail i x l old.0, sym (ap (member i) (meet-old s x q)) ∙ old.1);
          once = g.once;
        }
    by false q g =
        record {
          new = x ∷ g.new;
          behind = g.behind ∙ ap (λ r. r ++ g.new) (meet-new s x q) ∙ append_assoc s (x ∷ []) g.new;
          from = λ i h. from i (eqb i x) refl h;
          once = λ i. once i (eqb i x) refl;
        }
      where
        absent : (i : ℕ) → member i g.new ≡ true → (member i s ≡ false) × (eqb i x ≡ false)
        absent i h = or-none (member i s) (eqb i x) (sym (member-snoc i s x) ∙ sym (ap (member i) (meet-new s x q)) ∙ (g.from i h).1)

        from : (i : ℕ) (b : Bool) → eqb i x ≡ b → member i (x ∷ g.new) ≡ true → (member i (x ∷ l) ≡ true) × (member i s ≡ false)
        from i true e h = (subst (λ n. member n (x ∷ l) ≡ true) (sym (eqb-true i x e)) (member-head x l), subst (λ n. member n s ≡ false) (sym (eqb-true i x e)) q)
        from i false e h =
            let later : member i g.new ≡ true = sym (ap (λ b. b || member i g.new) e) ∙ sym (member-cons i x g.new) ∙ h in
            (member-tail i x l (g.from i later).0, (absent i later).0)

        not_new : (i : ℕ) (b : Bool) → member i g.new ≡ b → eqb i x ≡ true → b ≡ false
        not_new i true e h = sym h ∙ (absent i e).1
        not_new i false e h = refl

        once : (i : ℕ) (b : Bool) → eqb i x ≡ b → count i (x ∷ g.new) ≤ 1
        once i true e = let none : count i g.new ≡ 0 = count-absent i g.new (not_new i (member i g.new) refl e) in rw (count-cons i x g.new, e) (omega arith)
        once i false e = rw (count-cons i x g.new, e) (omega (arith, g.once i))

-- ---- nothing else

pub only_of : (m : Model) (b : ℕ) → OnlyOf m b (new_parent m b) (new_listing m b)
only_of m b =
    record {
      parents = λ k i h. unmet (meetings m b) k i (named m k i) h;
      lists = λ e. let g = grown (listing m e) (naming m e (reached m b a_fin)) in
          record {
            new = g.new;
            behind = g.behind;
            fins = λ i h. let both = and_both (member i (reached m b a_fin)) (eqb e (fin m i).edge) (sym (member-naming m e i (reached m b a_fin)) ∙ (g.from i h).0) in
                (both.0, sym (eqb-true e (fin m i).edge both.1), (g.from i h).1);
            once = g.once;
          };
    }

-- those that the model has
pub only-own : (m : Model) (b : ℕ) → OnlyOf m b (named m) (listing m)
only-own m b =
    record {
      parents = λ k i h. refl;
      lists = λ e. record { new = []; behind = sym (append-nil (listing m e)); fins = λ i h. absurd (false≢true (sym (member-none i) ∙ h)); once = λ i. omega (arith, count_none i) };
    }

-- ---- the pointers of the model behind a mending

named-linked : (m : Model) (u : Child → ℕ → ℕ) (a : ℕ → List ℕ) (k : Child) (i : ℕ) → named (linked m u a) k i ≡ u k i
unfolding linked changed
named-linked m u a a_region i = refl
named-linked m u a a_shell i = refl
named-linked m u a a_loop i = refl
named-linked m u a a_fin i = refl

pub parent_is : (m : Model) (b : ℕ) (k : Child) (i : ℕ) → named (mended m b) k i ≡ new_parent m b k i
parent_is m b k i = ap (λ (w : Model). named w k i) (mended-is m b) ∙ named-linked m (new_parent m b) (new_listing m b) k i

pub listing-is : (m : Model) (b e : ℕ) → listing (mended m b) e ≡ new_listing m b e
unfolding linked changed
listing-is m b e = ap (λ (w : Model). listing w e) (mended-is m b)

-- ---- lists and walks

pub linked-lists : (m : Model) (u : Child → ℕ → ℕ) (a : ℕ → List ℕ) → SameLists m (linked m u a)
unfolding linked changed
linked-lists m u a =
    record { bodies = refl; region-shells = λ r. refl; shell-faces = λ s. refl; shell-wire-edges = λ s. refl; shell-acorn-vertices = λ s. refl; faces = refl; loop-fins = λ l. refl }

pub linked-walks : (m : Model) (u : Child → ℕ → ℕ) (a : ℕ → List ℕ) (b : ℕ) → SameWalks m (linked m u a) b
unfolding linked changed face_walk faces_refusal edge_walk edges_refusal vertex_walk vertices_refusal
linked-walks m u a b = record { faces = refl; edges = refl; vertices = refl; faces-refusal = refl; edges-refusal = refl; vertices-refusal = refl }

-- ---- behind a mending that is accepted, the model has what the lists ask for
pub all_there : (m : Model) (b n : ℕ) → mend_refusal m b n ≡ 0 → Each (Has (mended m b)) (wants_all (meetings m b))
all_there m b n z = all-mended m b (accepted-there m b n z) (accepted-once m b n z)
