-- A split keeps a movable body movable, clause by clause, and so does any sequence of splits, refused or not. Assumes nothing.
use Rattle.std.specs.Prelude.{ℕ, suc, ◌+◌, ◌-◌, ◌≤◌, ◌<◌, ◌≡◌, Bool, true, false, cond, ◌&&◌, Float, get_or}
use Rattle.std.proofs.Common.{le_trans, arith, sym, ap, ◌∙◌, ltb-true, ltb-false, leb-true, le-leb, eqb-true}
use Rattle.std.proofs.Math.Path.{refl, subst}
use mathlib.Core.List.{List, [], ◌∷◌}
use Rattle.std.proofs.Math.Option.{Option, none, some}
use Rattle.std.proofs.Math.Dec.{eqb, leb, ltb}
use Rattle.std.proofs.Math.ListN.{length}
use Rattle.std.proofs.lemmas.Bool.{eqb-false}
use Rattle.meaning.specs.Lists.{run, all, member, count, is_some}
use Rattle.meaning.specs.Model.{Model, Limits, Edge, changed, face, loop, fin, edge}
use Rattle.meaning.specs.Walks.{face_walk, edge_walk}
use Rattle.meaning.specs.Inquire.{rim}
use Rattle.meaning.specs.Split.{split_refusal, first_half, second_half, after_split}
use Rattle.meaning_list_laws.specs.Tests.{and_both, bit-true}
use Rattle.meaning_list_laws.specs.Lists.{count-present, count-run-before, count-run-after, member-counted, all-member, all-counted}
use Rattle.meaning_split_laws.specs.Terms.{sifted}
use Rattle.meaning_split_laws.specs.After.{edge-first, edge_other, edge_fresh, accepted}
use Rattle.meaning_split_laws.specs.Struck.{restored-whole}
use Rattle.meaning_split_laws.proofs.Struck.{restored-split}
use Rattle.meaning_split_laws.specs.Gained.{edge-walk-after, edge-walk-old, walked-below}
use Rattle.meaning_shift.specs.Moving.{Movable, outside, one_loop_each, backs_within, fronts_outside, ends_there}
use Rattle.meaning_shift.specs.Fins.{loop-below}

-- ---- small facts

pub all_in : (p : ℕ → Bool) (l : List ℕ) → ((y : ℕ) → member y l ≡ true → p y ≡ true) → all p l ≡ true
all_in p l h = all-counted p l (λ y q. h y (member-counted y l q))

struck-shorter : (p : ℕ → Bool) (l : List ℕ) → length (sifted p l) ≤ length l
unfolding sifted
struck-shorter p [] = omega arith
struck-shorter p (y ∷ l) = by (p y) (struck-shorter p l)
  where
    by : (c : Bool) → length (sifted p l) ≤ length l → length (cond c (y ∷ sifted p l) (sifted p l)) ≤ suc (length l)
    by true h = omega arith
    by false h = omega arith

-- an entry of u, u + 1, .. is one of them
pub run-from : (u n : ℕ) (i : ℕ) → member i (run u n) ≡ true → (u ≤ i) × (i < u + n)
run-from u n i h =
    let in-it : 1 ≤ count i (run u n) = count-present i (run u n) h in
    (low (ltb i u) refl in-it, high (ltb i (u + n)) refl in-it)
  where
    low : (c : Bool) → ltb i u ≡ c → 1 ≤ count i (run u n) → u ≤ i
    low true e q = let out : count i (run u n) ≡ 0 = count-run-before u n i (ltb-true i u e) in absurd (omega arith)
    low false e q = ltb-false i u e

    high : (c : Bool) → ltb i (u + n) ≡ c → 1 ≤ count i (run u n) → i < u + n
    high true e q = ltb-true i (u + n) e
    high false e q = let out : count i (run u n) ≡ 0 = count-run-after u n i (ltb-false i (u + n) e) in absurd (omega arith)

-- ---- behind an accepted split

module _ (x : Limits) (m : Model) (b r : ℕ) (k : Movable x m b r) (e : ℕ) (t : Float) (h : split_refusal x m e t ≡ 0) where
  abbrev pub n : Model
  n = after_split m e t

  pub he : e < m.edges.used
  he = (accepted x m e t h).0

  -- a loop loses no fin
  rim-longer : (f : ℕ) → member f (face_walk m b) ≡ true → length (rim m f) ≤ length (rim n f)
  unfolding after_split
  rim-longer f q =
      subst (λ (l : List ℕ). length l ≤ length (rim n f))
      ((restored-whole m n (e ∷ []) k.formed.ids (restored-split m e t he)).loop-fins (get_or (face m f).loops 0 0) (loop-below x m b r k f q))
      (struck-shorter (λ i. ltb i m.fins.used) (rim n f))

  pub loops-kept : one_loop_each n b ≡ true
  unfolding after_split face_walk changed
  loops-kept =
      all_in (λ f. eqb (length (face m f).loops) 1 && leb 3 (length (rim n f))) (face_walk m b)
      (λ f q. let was = and_both (eqb (length (face m f).loops) 1) (leb 3 (length (rim m f))) (all-member (λ f. eqb (length (face m f).loops) 1 && leb 3 (length (rim m f))) (face_walk m b) f k.loops q) in
      rw was.0 (le-leb 3 (length (rim n f)) (le_trans (leb-true 3 (length (rim m f)) was.1) (rim-longer f q))))

  -- a shell stays in its region
  outside_kept : (o : Option ℕ) → outside n o ≡ outside m o
  unfolding after_split changed
  outside_kept none = refl
  outside_kept (some s) = refl

  pub fronts-kept : fronts_outside n b ≡ true
  unfolding after_split face_walk changed
  fronts-kept =
      all_in (λ f. outside n (face m f).front) (face_walk m b)
      (λ f q. outside_kept (face m f).front ∙ all-member (λ f. outside m (face m f).front) (face_walk m b) f k.fronts q)

  pub backs-kept : backs_within n b r ≡ true
  unfolding after_split face_walk changed
  backs-kept = k.backs

  -- ---- its edges: the old ones, and the new one where e is walked

  new-walked : member m.edges.used (edge_walk n b) ≡ true → member e (edge_walk m b) ≡ true
  new-walked q =
      let once : 1 ≤ count m.edges.used (edge_walk n b) = count-present m.edges.used (edge_walk n b) q in
      bit-true (member e (edge_walk m b)) (rw (edge-walk-after x m k.formed e t he b k.there).once at once)

  -- what holds of each old edge that is walked, and of the new one where e is
  pub each-edge : (P : ℕ → Bool) → ((p : ℕ) → member p (edge_walk m b) ≡ true → p < m.edges.used → P p ≡ true) → (member e (edge_walk m b) ≡ true → P m.edges.used ≡ true) → all P (edge_walk n b) ≡ true
  each-edge P old new = all_in P (edge_walk n b) (λ p q. by p q (eqb p m.edges.used) refl)
    where
      by : (p : ℕ) → member p (edge_walk n b) ≡ true → (c : Bool) → eqb p m.edges.used ≡ c → P p ≡ true
      by p q true c =
          let last : p ≡ m.edges.used = eqb-true p m.edges.used c in
          ap P last ∙ new (new-walked (sym (ap (λ (z : ℕ). member z (edge_walk n b)) last) ∙ q))
      by p q false c =
          let there : member p (edge_walk m b) ≡ true = sym (edge-walk-old x m k.formed e t he b k.there p (eqb-false p m.edges.used c)) ∙ q in
          old p there (walked-below x m k.formed e t he b k.there p there)

  -- a loop stays its face's
  abbrev pub own_fin : Model → ℕ → Bool
  own_fin a i = member (loop a (fin a i).owner).face (face_walk a b)

  pub own-was : (p : ℕ) → member p (edge_walk m b) ≡ true → (i : ℕ) → member i (edge m p).fins ≡ true → own_fin m i ≡ true
  own-was p q i g = all-member (own_fin m) (edge m p).fins i (all-member (λ p. all (own_fin m) (edge m p).fins) (edge_walk m b) p k.fins q) g

  pub owned : (i j : ℕ) → (fin n i).owner ≡ (fin m j).owner → own_fin m j ≡ true → own_fin n i ≡ true
  owned i j o g = faces-of (fin n i).owner ∙ ap (λ (l : ℕ). member (loop m l).face (face_walk m b)) o ∙ g
    where
      faces-of : (l : ℕ) → member (loop n l).face (face_walk n b) ≡ member (loop m l).face (face_walk m b)
      faces-of l = unfold after_split face_walk changed in refl

  abbrev ended : Edge → Bool
  ended a = is_some a.start && is_some a.end

  pub ends-kept : ends_there n b ≡ true
  ends-kept = each-edge (λ p. ended (edge n p)) old new
    where
      was : (p : ℕ) → member p (edge_walk m b) ≡ true → ended (edge m p) ≡ true
      was p q = all-member (λ p. ended (edge m p)) (edge_walk m b) p k.ends q

      first : (a : Edge) → ended a ≡ true → ended (first_half m a) ≡ true
      first a q = rw (and_both (is_some a.start) (is_some a.end) q).0

      second : (a : Edge) → ended a ≡ true → ended (second_half m a) ≡ true
      second a q = (and_both (is_some a.start) (is_some a.end) q).1

      old : (p : ℕ) → member p (edge_walk m b) ≡ true → p < m.edges.used → ended (edge n p) ≡ true
      old p q below = by (eqb p e) refl
        where
          by : (c : Bool) → eqb p e ≡ c → ended (edge n p) ≡ true
          by true c = ap (λ (z : ℕ). ended (edge n z)) (eqb-true p e c) ∙ ap ended (edge-first m e t he) ∙ first (edge m e) (was e (sym (ap (λ (z : ℕ). member z (edge_walk m b)) (eqb-true p e c)) ∙ q))
          by false c = ap ended (edge_other m e t p below (eqb-false p e c)) ∙ was p q

      new : member e (edge_walk m b) ≡ true → ended (edge n m.edges.used) ≡ true
      new q = ap ended (edge_fresh m e t m.edges.used (omega arith)) ∙ second (edge m e) (was e q)
