-- How the walk goes on, step by step. Assumes nothing.
use Rattle.std.specs.Prelude.{ℕ, zero, suc, ◌+◌, ◌*◌, ◌/◌, ◌≤◌, ◌<◌, ◌≡◌, refl, Bool, true, false, cond, List, [], ◌∷◌, ◌++◌, map, eqb, leb, ltb, length, get_or, set, take, drop}
use Rattle.std.proofs.Common.{arith, add-one, sym, ap, ◌∙◌, subst, length-set, take-append-drop, take-suc, take_all, drop-cons, eq-eqb, ne_eqb, le-leb, leb-true}
use Rattle.std.proofs.lemmas.List.Edits.{sets}
use Rattle.std.proofs.Math.Seq.{length-sets}
use Rattle.std.proofs.lemmas.Bool.{lt-leb}
use Rattle.meaning.specs.Lists.{all, all_below, member, joined}
use Rattle.meaning.specs.Model.{Model, fin, edge}
use Rattle.memory_layout.specs.Layout.{word, words_of, word_strides, largest_tables}
use Rattle.memory_layout.specs.Entries.{list_of}
use Rattle.memory_layout.specs.Decode.{decode}
use Rattle.memory_layout.specs.Fit.{Lists}
use Rattle.memory_layout.specs.Laws.{capacity-le}
use Rattle.meaning_list_laws.specs.Lists.{joined_snoc}
use Rattle.meaning_list_laws.specs.Tests.{all_below-at}
use Rattle.meaning_mends.specs.Mends.{Child, a_region, a_shell, a_loop, a_fin, named, child_table, Meeting, met, renamed, enlisted}
use Rattle.meaning_mends.specs.Words.{change_words}
use Rattle.mend_meetings.specs.Machine.{FULL, mark_places, mark_at, State, held, entry_put, logged, marked, rename_step, enlist_at, enlist_step, list_step, stepped, walked, Goes, Walks}
use Rattle.mend_meetings.specs.Facts.{Ready, Present, model_of}

-- the meeting of a fin in its loop's list
abbrev pub fin_meeting : ℕ → ℕ → List Meeting
fin_meeting l i = met a_fin l i ∷ []

pub fins-met : (l : ℕ) (fins : List ℕ) → map (met a_fin l) fins ≡ joined (fin_meeting l) fins
unfolding joined
fins-met l [] = refl
fins-met l (i ∷ fins) = ap (λ r. met a_fin l i ∷ r) (fins-met l fins)

-- ---- the words of a change

pub sets-six : (d a b c e f g : List ℕ) (at k x y z u v t : ℕ) → at ≡ 6 * k → a ≡ set d at x → b ≡ set a (at + 1) y → c ≡ set b (at + 2) z → e ≡ set c (at + 3) u → f ≡ set e (at + 4) v → g ≡ set f (at + 5) t
    → g ≡ sets d (6 * k) (x ∷ y ∷ z ∷ u ∷ v ∷ t ∷ [])
sets-six d a b c e f g at k x y z u v t h p q r s i j =
    let one : at + 1 ≡ suc (6 * k) = omega arith in
    let two : at + 2 ≡ suc (suc (6 * k)) = omega arith in
    let three : at + 3 ≡ suc (suc (suc (6 * k))) = omega arith in
    let four : at + 4 ≡ suc (suc (suc (suc (6 * k)))) = omega arith in
    let five : at + 5 ≡ suc (suc (suc (suc (suc (6 * k))))) = omega arith in
    rw (j, i, s, r, q, p, five, four, three, two, one, h)

pub length-put : (d : List ℕ) (k : ℕ) (ws : List ℕ) → length (entry_put d k ws) ≡ length d
unfolding entry_put
length-put d k ws = by (ltb k (length d / 6))
  where
    by : (b : Bool) → length (cond b (sets d (6 * k) ws) d) ≡ length d
    by true = length-sets d (6 * k) ws
    by false = refl

pub logged_none : (ws d s : List ℕ) (n : ℕ) → leb FULL n ≡ true → Goes (logged ws) d s n d s n
unfolding logged
logged_none ws d s n h = record { goes = rw h; long = refl; marks = refl }

pub logged-one : (ws d e s : List ℕ) (n : ℕ) → leb FULL n ≡ false → e ≡ entry_put d n ws → Goes (logged ws) d s n e s (n + 1)
unfolding logged
logged-one ws d e s n h p = record { goes = rw (h, p); long = ap length p ∙ length-put d n ws; marks = refl }

-- ---- one step after the other

pub goes_none : (d s : List ℕ) (n : ℕ) (m : Model) → Walks m [] d s n d s n
unfolding walked
goes_none d s n m = record { goes = refl; long = refl; marks = refl }

pub goes-stay : {f : State → State} (d s : List ℕ) (n : ℕ) → f (held d s n) ≡ held d s n → Goes f d s n d s n
goes-stay d s n h = record { goes = sym h; long = refl; marks = refl }

pub goes_same : {f g : State → State} {d s e t : List ℕ} {n u : ℕ} → f (held d s n) ≡ g (held d s n) → Goes f d s n e t u → Goes g d s n e t u
goes_same h p = record { goes = p.goes ∙ h; long = p.long; marks = p.marks }

pub goes_on : {f g : State → State} {d₀ s₀ d₁ s₁ d₂ s₂ : List ℕ} {n₀ n₁ n₂ : ℕ} → Goes f d₀ s₀ n₀ d₁ s₁ n₁ → Goes g d₁ s₁ n₁ d₂ s₂ n₂ → Goes (λ s. g (f s)) d₀ s₀ n₀ d₂ s₂ n₂
goes_on {f} {g} p q = record { goes = q.goes ∙ ap g p.goes; long = q.long ∙ p.long; marks = q.marks ∙ p.marks }

walked-append : (m : Model) (a b : List Meeting) (s : State) → walked m (a ++ b) s ≡ walked m b (walked m a s)
unfolding walked
walked-append m [] b s = refl
walked-append m (t ∷ a) b s = walked-append m a b (stepped m t s)

pub goes_then : {m : Model} {a b : List Meeting} {d₀ s₀ d₁ s₁ d₂ s₂ : List ℕ} {n₀ n₁ n₂ : ℕ} → Walks m a d₀ s₀ n₀ d₁ s₁ n₁ → Walks m b d₁ s₁ n₁ d₂ s₂ n₂
    → Walks m (a ++ b) d₀ s₀ n₀ d₂ s₂ n₂
goes_then {m} {a} {b} {d₀} {s₀} {d₁} {s₁} {d₂} {s₂} {n₀} p q =
    record { goes = q.goes ∙ ap (walked m b) p.goes ∙ sym (walked-append m a b (held d₀ s₀ n₀)); long = q.long ∙ p.long; marks = q.marks ∙ p.marks }

pub goes-list : {m : Model} {a b : List Meeting} {d s e t : List ℕ} {n u : ℕ} → a ≡ b → Walks m a d s n e t u → Walks m b d s n e t u
goes-list {m} {a} {b} {d} {s} {e} {t} {n} {u} h p = subst (λ (l : List Meeting). Walks m l d s n e t u) h p

-- a turn of a loop over the entries of a list, each with its meetings
module _ (m : Model) (f : ℕ → List Meeting) (l : List ℕ) (k : ℕ) where
  pub goes-turn : k < length l → {d₀ s₀ d₁ s₁ d₂ s₂ : List ℕ} {n₀ n₁ n₂ : ℕ} → Walks m (joined f (take k l)) d₀ s₀ n₀ d₁ s₁ n₁ → Walks m (f (get_or l k 0)) d₁ s₁ n₁ d₂ s₂ n₂
      → Walks m (joined f (take (k + 1) l)) d₀ s₀ n₀ d₂ s₂ n₂
  goes-turn h p q = goes-list (sym (ap (λ n. joined f (take n l)) (add-one k) ∙ ap (joined f) (take-suc l k 0 h) ∙ joined_snoc f (take k l) (get_or l k 0))) (goes_then p q)

  pub goes-done : length l ≤ k → {d s e t : List ℕ} {n u : ℕ} → Walks m (joined f (take k l)) d s n e t u → Walks m (joined f l) d s n e t u
  goes-done h p = goes-list (ap (joined f) (take_all k l h)) p

-- ---- a record that is met

-- the parent stands first in a record
pub named-word : (room w : List ℕ) (c : Child) (i : ℕ) → named (model_of room w) c i ≡ word (words_of room w (child_table c) i) 0
unfolding decode
named-word room w a_region i = refl
named-word room w a_shell i = refl
named-word room w a_loop i = refl
named-word room w a_fin i = refl

pub rename-none : (m : Model) (c : Child) (p i : ℕ) (d s : List ℕ) (n : ℕ) → named m c i ≡ p → Goes (rename_step m c p i) d s n d s n
unfolding rename_step
rename-none m c p i d s n h = goes-stay d s n (rw (eq-eqb (named m c i) p h))

pub rename-one : (m : Model) (c : Child) (p i old : ℕ) (d s e : List ℕ) (n u : ℕ) → old ≡ named m c i → (old ≡ p → ⊥) → Goes (logged (child_table c ∷ i ∷ 0 ∷ 0 ∷ old ∷ p ∷ [])) d s n e s u → Goes (rename_step m c p i) d s n e s u
unfolding rename_step
rename-one m c p i old d s e n u h k g =
    goes_same (ap (λ x. logged (child_table c ∷ i ∷ 0 ∷ 0 ∷ x ∷ p ∷ []) (held d s n)) h ∙ sym (rw (ne_eqb (named m c i) p (λ q. k (h ∙ q))))) g

pub enlist-none : (m : Model) (i : ℕ) (d s : List ℕ) (n e : ℕ) (l : List ℕ) → e ≡ (fin m i).edge → l ≡ (edge m e).fins → member i l ≡ true → Goes (enlist_step m i) d s n d s n
unfolding enlist_step
enlist-none m i d s n e l h k g = goes-stay d s n (rw (← h, ← k, g))

pub enlist-full : (m : Model) (i : ℕ) (d s : List ℕ) (n e x : ℕ) (l : List ℕ) → e ≡ (fin m i).edge → l ≡ (edge m e).fins → x ≡ word s (mark_at 6 e) → member i l ≡ false → 8 ≤ length l + x → Goes (enlist_step m i) d s n d s FULL
unfolding enlist_step
enlist-full m i d s n e x l h k q g o = record { goes = rw (← h, ← k, g, ← q, le-leb 8 (length l + x) o); long = refl; marks = refl }

pub enlist-one : (m : Model) (i : ℕ) (d s d₁ s₁ : List ℕ) (n u e x place : ℕ) (l : List ℕ) → e ≡ (fin m i).edge → l ≡ (edge m e).fins → x ≡ word s (mark_at 6 e) → member i l ≡ false → place ≡ length l + x → place < 8 → s₁ ≡ set s (mark_at 6 e) (x + 1)
    → Goes (logged (6 ∷ e ∷ 1 ∷ place ∷ 0 ∷ i ∷ [])) d s₁ n d₁ s₁ u → Goes (enlist_step m i) d s n d₁ s₁ u
unfolding enlist_step
enlist-one m i d s d₁ s₁ n u e x place l h k q g o z y p =
    record {
      goes = p.goes ∙ rw (y, o) (sym (rw (← h, ← k, g, ← q, lt-leb 8 (length l + x) (omega arith))));
      long = p.long;
      marks = ap length y ∙ length-set s (mark_at 6 e) (x + 1);
    }

-- met before
pub met-before : (m : Model) (c : Child) (p i : ℕ) (d s : List ℕ) (n : ℕ) → (word s (mark_at (child_table c) i) ≡ 0 → ⊥) → Walks m (met c p i ∷ []) d s n d s n
unfolding walked stepped
met-before m c p i d s n h = record { goes = sym (rw (ne_eqb (word s (mark_at (child_table c) i)) 0 h)); long = refl; marks = refl }

-- met first: its parent, then, of a fin, its edge's list
pub met-first : (m : Model) (c : Child) (p i : ℕ) (d s s₁ d₂ s₂ : List ℕ) (n n₂ : ℕ) → word s (mark_at (child_table c) i) ≡ 0 → s₁ ≡ set s (mark_at (child_table c) i) 1
    → Goes (λ x. list_step m c i (rename_step m c p i x)) d s₁ n d₂ s₂ n₂ → Walks m (met c p i ∷ []) d s n d₂ s₂ n₂
unfolding walked stepped
met-first m c p i d s s₁ d₂ s₂ n n₂ h k g =
    record {
      goes = g.goes ∙ ap (λ x. list_step m c i (rename_step m c p i (held d x n))) k ∙ sym (rw (eq-eqb (word s (mark_at (child_table c) i)) 0 h));
      long = g.long;
      marks = g.marks ∙ ap length k ∙ length-set s (mark_at (child_table c) i) 1;
    }

-- a record that is no fin has no more
pub not-a-fin : (m : Model) (c : Child) (i : ℕ) (x : State) → (child_table c ≡ 5 → ⊥) → list_step m c i x ≡ x
not-a-fin m a_region i x h = refl
not-a-fin m a_shell i x h = refl
not-a-fin m a_loop i x h = refl
not-a-fin m a_fin i x h = absurd (h refl)

pub a-fin : (m : Model) (c : Child) (i : ℕ) (x : State) → child_table c ≡ 5 → list_step m c i x ≡ enlist_step m i x
a-fin m a_region i x h = absurd (omega arith)
a-fin m a_shell i x h = absurd (omega arith)
a-fin m a_loop i x h = absurd (omega arith)
a-fin m a_fin i x h = refl

-- ---- places and words

pub place-le : (k : ℕ) → k < 7 → word mark_places k ≤ 4864
place-le k h = leb-true (word mark_places k) 4864 (all_below-at (λ j. leb (word mark_places j) 4864) 7 k (unfold all_below in refl) h)

-- the marks reach each record
pub place_in : (k i : ℕ) → k < 6 → i < word largest_tables k → mark_at k i < 4864
place_in k i h g = omega (arith, leb-true (word mark_places k + word largest_tables k) 4864 (all_below-at (λ j. leb (word mark_places j + word largest_tables j) 4864) 6 k (unfold all_below in refl) h))

pub stride-some : (k : ℕ) → k < 6 → 1 ≤ word word_strides k
stride-some k h = leb-true 1 (word word_strides k) (all_below-at (λ j. leb 1 (word word_strides j)) 6 k (unfold all_below in refl) h)

pub fin-edge : (room w : List ℕ) (i : ℕ) → word (words_of room w 5 i) 1 ≡ (fin (model_of room w) i).edge
unfolding decode
fin-edge room w i = refl

pub fins-of : (room w : List ℕ) (e : ℕ) → list_of room w 7 e ≡ (edge (model_of room w) e).fins
unfolding decode list_of
fins-of room w e = refl

pub slot-few : (room w : List ℕ) → Lists room w → (k i : ℕ) → k < 10 → i < word w k → i < word largest_tables k
slot-few room w l k i h g = omega (arith, l.counts k h, l.small.small k h)

pub edge-there : (room w s : List ℕ) (i e : ℕ) → Ready room w s → Present room w 5 i → e ≡ (fin (model_of room w) i).edge → e < word w 6
edge-there room w s i e r p h = subst (λ n. n < word w 6) (sym h) (p.edge refl)

pub edge_few : (room w s : List ℕ) {e : ℕ} → Ready room w s → e < word w 6 → e < 2048
edge_few room w s {e} r h = slot-few room w r.lists 6 e (omega arith) h

pub table-few : (room w : List ℕ) → Lists room w → (k i : ℕ) → k < 6 → i < word w k → i < 4096
table-few room w l k i h g = omega (arith, l.counts k (omega arith), capacity-le room l.small k (omega arith))

-- a step behind another, said otherwise
pub goes_in : (f g h : State → State) {d s e t : List ℕ} {n u : ℕ} → ((x : State) → g x ≡ h x) → Goes (λ x. g (f x)) d s n e t u → Goes (λ x. h (f x)) d s n e t u
goes_in f g h {d} {s} {e} {t} {n} p q = record { goes = q.goes ∙ p (f (held d s n)); long = q.long; marks = q.marks }
