-- Each reported change changes, and no field is reported twice. Assumes nothing.
use Prim.Native.Nat.{ℕ, suc, ◌≤◌, ◌<◌}
use Rattle.std.proofs.Common.{arith, sym, ap₂, ◌∙◌, length-append}
use Rattle.std.specs.Prelude.{◌≡◌, Bool, not, cond, ◌&&◌, get_or}
use Rattle.std.proofs.Math.Path.{refl, ap, subst}
use Rattle.std.proofs.Math.Bool.{true, false}
use Rattle.std.proofs.lemmas.Bool.{false≢true}
use mathlib.Core.List.{List, [], ◌∷◌, ◌++◌, map}
use Rattle.std.proofs.Math.Dec.{eqb}
use Rattle.std.proofs.Math.ListN.{length, get_or-append}
use Rattle.std.proofs.lemmas.List.{get_or_at}
use borrow.Author.Tests.{eqb-true, eqb-false, eq-eqb, ltb-true, not-true}
use Rattle.meaning.specs.Lists.{every, member}
use Rattle.meaning.specs.Model.{Model, changed, fin, edge, largest}
use Rattle.meaning.specs.Edits.{appended}
use Rattle.meaning_list_laws.specs.Tests.{and_both}
use Rattle.meaning_list_laws.specs.Lists.{member-front-none}
use Rattle.meaning_mends.specs.Mends.{Child, named, meetings, child_table, same_child, Change, renamed, enlisted, made, made_all, change_if, parent_change, fin_change, changes, fits, mended, mend_refusal}
use Rattle.meaning_mends.specs.Laws.{child-of, Want, parent, listing, wants_for, wants_all, Has, Each, named-made, asked-by-one}
use Rattle.meaning_mend_laws.specs.Terms.{All, Real, same_field, Apart}
use Rattle.meaning_mend_laws.specs.Terms as terms
use Rattle.meaning_mend_laws.specs.Kept.{all_there, accepted-fits}

pub all_both : {A : Type 0} (P Q R : A → Type 0) (l : List A) → ((c : A) → P c → Q c → R c) → All P l → All Q l → All R l
all_both P Q R [] h p q = tt
all_both P Q R (c ∷ l) h p q = (h c p.0 q.0, all_both P Q R l h p.1 q.1)

-- what a test that fails says of each
other_way : (b : Bool) → (b ≡ true → ⊥) → b ≡ false
other_way true h = absurd (h refl)
other_way false h = refl

longer : (l : List ℕ) (i : ℕ) → length (appended l i) ≡ suc (length l)
longer l i = length-append l (i ∷ []) ∙ (omega arith)

turned : (k c : Child) (i j : ℕ) → (same_child k c && eqb i j) ≡ false → (same_child c k && eqb j i) ≡ false
turned k c i j g =
    other_way (same_child c k && eqb j i) (λ q.
    let both = and_both (same_child c k) (eqb j i) q in
    false≢true (sym g ∙ ap₂ ◌&&◌ (eq-eqb (child_table k) (child_table c) (sym (eqb-true (child_table c) (child_table k) both.0))) (eq-eqb i j (sym (eqb-true j i both.1)))))

-- an entry of an edge's list stays where it is
abbrev At : Model → ℕ → ℕ → ℕ → Type 0
At m e p i = (p < length (terms.listing m e)) × (get_or (terms.listing m e) p 0 ≡ i)

at-end : (l : List Change) (m : Model) (e p i : ℕ) → At m e p i → At (made_all m l) e p i
unfolding made_all made changed
at-end [] m e p i h = h
at-end (c ∷ l) m e p i h = at-end l (made m c) e p i (by c)
  where
    by : (c : Change) → At (made m c) e p i
    by (renamed k j old new) = h
    by (enlisted f q j) = go (eqb e f)
      where
        go : (t : Bool) → (p < length (cond t (appended (terms.listing m e) j) (terms.listing m e))) × (get_or (cond t (appended (terms.listing m e) j) (terms.listing m e)) p 0 ≡ i)
        go true = (omega (arith, h.0, longer (terms.listing m e) j), get_or-append (terms.listing m e) (j ∷ []) 0 p h.0 ∙ h.1)
        go false = h

-- F is the parent that the lists give
module _ (F : Child → ℕ → ℕ) where
  abbrev pub Given : Want → Type 0
  Given (parent t) = F t.child t.id ≡ t.parent
  Given (listing i) = Unit {0}

  -- the change as it comes
  abbrev Arises : Model → Change → Type 0
  Arises m (renamed k i old new) = (named m k i ≡ old) × (eqb old new ≡ false) × (F k i ≡ new)
  Arises m (enlisted e p i) = ((fin m i).edge ≡ e) × (member i (terms.listing m e) ≡ false) × (length (terms.listing m e) ≡ p)

  module _ (Q : Model → List Change → Type 0) (start : (m : Model) → Q m []) (more : (m : Model) (d : Change) (l : List Change) → Arises m d → Q (made m d) l → Q m (d ∷ l)) where
    one : (m : Model) (b : Bool) (d : Change) (l : Model → List Change) → (b ≡ true → Arises m d) → ((n : Model) → Q n (l n)) → Q m (change_if b d ++ l (made_all m (change_if b d)))
    unfolding made_all
    one m true d l h rest = more m d (l (made m d)) (h refl) (rest (made m d))
    one m false d l h rest = rest m

    each : (m : Model) (l : List Want) → Each Given l → Q m (wants_for m l)
    unfolding wants_for parent_change fin_change
    each m [] g = start m
    each m (parent t ∷ l) g =
        let old : ℕ = named m t.child t.id in
        one m (not (eqb old t.parent)) (renamed t.child t.id old t.parent) (λ n. wants_for n l)
        (λ q. (refl, not-true (eqb old t.parent) q, g.0)) (λ n. each n l g.1)
    each m (listing i ∷ l) g =
        let e : ℕ = (fin m i).edge in
        one m (not (member i (terms.listing m e))) (enlisted e (length (terms.listing m e)) i) (λ n. wants_for n l)
        (λ q. (refl, not-true (member i (terms.listing m e)) q, refl)) (λ n. each n l g.1)

  -- what a change leaves for those behind it
  abbrev Done : Change → Model → Type 0
  Done (renamed k i old new) m = named m k i ≡ F k i
  Done (enlisted e p i) m = p < length (terms.listing m e)

  done : (m : Model) (d : Change) → Arises m d → Done d (made m d)
  unfolding made changed
  done m (renamed k i old new) h = named-made m (renamed k i old new) k i ∙ rw (eq-eqb (child_table k) (child_table k) refl, eq-eqb i i refl) (sym h.2)
  done m (enlisted e p i) h = rw (eq-eqb e e refl) (omega (arith, h.2, longer (terms.listing m e) i))

  -- a field that is done is not reported, and stays done
  apart : (m : Model) (c d : Change) → Done c m → Arises m d → same_field c d ≡ false
  apart m (renamed k i old new) (renamed c j was now) g h =
      other_way (same_child k c && eqb i j) (λ q.
      let both = and_both (same_child k c) (eqb i j) q in
      let here : named m c j ≡ F c j = subst (λ d. named m d j ≡ F d j) (child-of k c both.0) (subst (λ n. named m k n ≡ F k n) (eqb-true i j both.1) g) in
      eqb-false was now h.1 (sym h.0 ∙ here ∙ h.2))
  apart m (renamed k i old new) (enlisted f q j) g h = refl
  apart m (enlisted e p i) (renamed c j was now) g h = refl
  apart m (enlisted e p i) (enlisted f q j) g h =
      other_way (eqb e f && eqb p q) (λ r.
      let both = and_both (eqb e f) (eqb p q) r in
      let same : length (terms.listing m e) ≡ length (terms.listing m f) = ap (λ n. length (terms.listing m n)) (eqb-true e f both.0) in
      omega (arith, same, h.2, eqb-true p q both.1))

  stays : (m : Model) (c d : Change) → Done c m → Arises m d → Done c (made m d)
  unfolding made changed
  stays m (renamed k i old new) (renamed c j was now) g h = named-made m (renamed c j was now) k i ∙ rw (apart m (renamed k i old new) (renamed c j was now) g h) g
  stays m (renamed k i old new) (enlisted f q j) g h = named-made m (enlisted f q j) k i ∙ g
  stays m (enlisted e p i) (renamed c j was now) g h = g
  stays m (enlisted e p i) (enlisted f q j) g h = by (eqb e f)
    where
      by : (b : Bool) → p < length (cond b (appended (terms.listing m e) j) (terms.listing m e))
      by true = omega (arith, g, longer (terms.listing m e) j)
      by false = g

  -- and what was there before it
  abbrev Was : Model → Change → Type 0
  Was m (renamed k i old new) = (named m k i ≡ old) × (old ≡ new → ⊥)
  Was m (enlisted e p i) = ((fin m i).edge ≡ e) × (member i (terms.listing m e) ≡ false) × (length (terms.listing m e) ≤ p)

  before : (m : Model) (c d : Change) → same_field c d ≡ false → Was (made m c) d → Was m d
  unfolding made changed
  before m (renamed k i old new) (renamed c j was now) g h = (sym (named-made m (renamed k i old new) c j ∙ rw (turned k c i j g)) ∙ h.0, h.1)
  before m (renamed k i old new) (enlisted f q j) g h = h
  before m (enlisted e p i) (renamed c j was now) g h = (sym (named-made m (enlisted e p i) c j) ∙ h.0, h.1)
  before m (enlisted e p i) (enlisted f q j) g h = let old = by (eqb f e) h.1 h.2 in (h.0, old.0, old.1)
    where
      by : (b : Bool) → member j (cond b (appended (terms.listing m f) i) (terms.listing m f)) ≡ false → length (cond b (appended (terms.listing m f) i) (terms.listing m f)) ≤ q
          → (member j (terms.listing m f) ≡ false) × (length (terms.listing m f) ≤ q)
      by true r s = (member-front-none j (terms.listing m f) (i ∷ []) r, omega (arith, s, longer (terms.listing m f) i))
      by false r s = (r, s)

  was-now : (m : Model) (d : Change) → Arises m d → Was m d
  was-now m (renamed k i old new) h = (h.0, eqb-false old new h.1)
  was-now m (enlisted e p i) h = (h.0, h.1, omega (arith, h.2))

  -- and what is there at the end
  abbrev Is : Model → Change → Type 0
  Is n (renamed k i old new) = F k i ≡ new
  Is n (enlisted e p i) = At n e p i

  is-now : (m : Model) (d : Change) (l : List Change) → Arises m d → Is (made_all (made m d) l) d
  unfolding made changed
  is-now m (renamed k i old new) l h = h.2
  is-now m (enlisted e p i) l h = at-end l (made m (enlisted e p i)) e p i (done m (enlisted e p i) h, rw (eq-eqb e e refl) (get_or_at (terms.listing m e) i [] 0 p h.2))

  record Told (m : Model) (l : List Change) : Type 0 where
    fresh : (c : Change) → Done c m → All (λ d. same_field c d ≡ false) l
    was : All (Was m) l
    is : All (Is (made_all m l)) l
    apart : Apart l

  told : (m : Model) (l : List Want) → Each Given l → Told m (wants_for m l)
  unfolding made_all
  told = each Told (λ m. record { fresh = λ c q. tt; was = tt; is = tt; apart = tt }) (λ m d l h rest.
      let others : All (λ c. same_field d c ≡ false) l = rest.fresh d (done m d h) in
      record {
        fresh = λ c q. (apart m c d q h, rest.fresh c (stays m c d q h));
        was = (was-now m d h, all_both (λ c. same_field d c ≡ false) (Was (made m d)) (Was m) l (before m d) others rest.was);
        is = (is-now m d l h, rest.is);
        apart = (others, rest.apart);
      })

  -- a list that a fin goes into where its place is below the limit stays within it
  fitted : (limit : ℕ) → largest.edge_fins ≤ limit → (m : Model) (l : List Want) → Each Given l → (e : ℕ) → length (terms.listing m e) ≤ limit
      → every (map fits (wants_for m l)) ≡ true → length (terms.listing (made_all m (wants_for m l)) e) ≤ limit
  unfolding made_all every made changed
  fitted limit h =
      each (λ m l. (e : ℕ) → length (terms.listing m e) ≤ limit → every (map fits l) ≡ true → length (terms.listing (made_all m l) e) ≤ limit) (λ m e q f. q)
      (λ m d l g rest e q f. let both = and_both (fits d) (every (map fits l)) f in rest e (by m d g e q both.0) both.1)
    where
      by : (m : Model) (d : Change) → Arises m d → (e : ℕ) → length (terms.listing m e) ≤ limit → fits d ≡ true → length (terms.listing (made m d) e) ≤ limit
      by m (renamed k i old new) g e q f = q
      by m (enlisted o p i) g e q f = go (eqb e o) refl
        where
          go : (t : Bool) → eqb e o ≡ t → length (cond t (appended (terms.listing m e) i) (terms.listing m e)) ≤ limit
          go true r =
              let here : length (terms.listing m e) ≡ length (terms.listing m o) = ap (λ n. length (terms.listing m n)) (eqb-true e o r) in
              omega (arith, longer (terms.listing m e) i, here, g.2, ltb-true p 8 f)
          go false r = q

-- the parent that a mended model names is the one that the lists give
given : (n : Model) (l : List Want) → Each (Has n) l → Each (Given (named n)) l
given n [] h = tt
given n (parent t ∷ l) h = (h.0, given n l h.1)
given n (listing i ∷ l) h = (tt, given n l h.1)

module _ (m : Model) (b n : ℕ) (z : mend_refusal m b n ≡ 0) where
  reported : Told (named (mended m b)) m (changes m b)
  reported =
      subst (Told (named (mended m b)) m) (sym (asked-by-one m (meetings m b)))
      (told (named (mended m b)) m (wants_all (meetings m b)) (given (mended m b) (wants_all (meetings m b)) (all_there m b n z)))

  pub each-real : All (Real m (mended m b)) (changes m b)
  unfolding mended
  each-real = all_both (Was (named (mended m b)) m) (Is (named (mended m b)) (mended m b)) (Real m (mended m b)) (changes m b) both reported.was reported.is
    where
      both : (c : Change) → Was (named (mended m b)) m c → Is (named (mended m b)) (mended m b) c → Real m (mended m b) c
      both (renamed k i old new) w s = record { was = w.0; is = s; other = w.1 }
      both (enlisted e p i) w s = record { names = w.0; absent = w.1; behind = w.2; there = s.0; is = s.1 }

  pub each-apart : Apart (changes m b)
  each-apart = reported.apart

  -- no edge's list outgrows what the mending tests
  pub lists-fit : (limit : ℕ) → largest.edge_fins ≤ limit → (e : ℕ) → length (terms.listing m e) ≤ limit → length (terms.listing (mended m b) e) ≤ limit
  unfolding mended
  lists-fit limit h e q =
      subst (λ l. every (map fits l) ≡ true → length (terms.listing (made_all m l) e) ≤ limit) (sym (asked-by-one m (meetings m b)))
      (fitted (named (mended m b)) limit h m (wants_all (meetings m b)) (given (mended m b) (wants_all (meetings m b)) (all_there m b n z)) e q) (accepted-fits m b n z)
