-- What is met: that the first of the same is stored, once, and that all are found again. For any things that can be told apart. Assumes nothing.
use Prim.Native.Nat.{ℕ, zero, suc, ◌+◌, ◌≤◌, ◌<◌}
use native.Mathlib.Omega.{arith}
use Rattle.std.specs.Prelude.{◌≡◌, Bool, ◌&&◌, ◌||◌, eqb, ltb, get_or}
use Rattle.std.proofs.Math.Path.{refl}
use Rattle.std.proofs.Common.{ap, ◌∙◌, length-append, ltb-true, ltb-false, eq-eqb, ne_eqb}
use Rattle.std.proofs.Math.Bool.{true, false, cond, or-true}
use Rattle.std.proofs.lemmas.Bool.{false≢true}
use mathlib.Core.List.{List, [], ◌∷◌, ◌++◌}
use Rattle.std.proofs.Math.ListN.{length, get_or-append}
use Rattle.std.proofs.Math.Seq.{get_or-append_seam}
use Rattle.meaning.specs.Lists.{count}
use Rattle.meaning.specs.Formed.{bit}
use Rattle.meaning_list_laws.specs.Tests.{and_both, or-none}
use Rattle.stl_body.specs.Read.{known, which_of, met_behind, fins_on}
use Rattle.stl_body.specs.Laws.{holds, Apart}

pub holds-nth : {A : Type 0} (p : A → Bool) (l : List A) (i : ℕ) (d : A) → holds p l ≡ true → i < length l → p (get_or l i d) ≡ true
unfolding holds
holds-nth p [] i d h b = absurd (omega arith)
holds-nth p (a ∷ l) zero d h b = (and_both (p a) (holds p l) h).0
holds-nth p (a ∷ l) (suc i) d h b = holds-nth p l i d (and_both (p a) (holds p l) h).1 (omega arith)

pub holds-all : {A : Type 0} (p : A → Bool) (l : List A) (d : A) → ((i : ℕ) → i < length l → p (get_or l i d) ≡ true) → holds p l ≡ true
unfolding holds
holds-all p [] d h = refl
holds-all p (a ∷ l) d h = rw (h 0 (omega arith)) (holds-all p l d (λ i b. h (suc i) (omega arith)))

module _ {A : Type 0} (same : A → A → Bool) where
  -- what is known stands within the list, at its number
  pub which-below : (p : A) (l : List A) → known same p l ≡ true → which_of same p l < length l
  unfolding known which_of
  which-below p [] h = absurd (false≢true h)
  which-below p (q ∷ l) h = go (same p q) h (which-below p l)
    where
      go : (b : Bool) → (b || known same p l) ≡ true → (known same p l ≡ true → which_of same p l < length l) → cond b 0 (suc (which_of same p l)) < suc (length l)
      go true e r = omega arith
      go false e r = let z : which_of same p l < length l = r e in omega arith

  pub which-same : (p : A) (l : List A) (d : A) → known same p l ≡ true → same p (get_or l (which_of same p l) d) ≡ true
  unfolding known which_of
  which-same p [] d h = absurd (false≢true h)
  which-same p (q ∷ l) d h = go (same p q) refl h (which-same p l d)
    where
      go : (b : Bool) → same p q ≡ b → (b || known same p l) ≡ true → (known same p l ≡ true → same p (get_or l (which_of same p l) d) ≡ true)
          → same p (get_or (q ∷ l) (cond b 0 (suc (which_of same p l))) d) ≡ true
      go true e f r = e
      go false e f r = r f

  -- what is known stays known
  pub known-front : (p : A) (k l : List A) → known same p k ≡ true → known same p (k ++ l) ≡ true
  unfolding known
  known-front p [] l h = absurd (false≢true h)
  known-front p (q ∷ k) l h = go (same p q) h (known-front p k l)
    where
      go : (b : Bool) → (b || known same p k) ≡ true → (known same p k ≡ true → known same p (k ++ l) ≡ true) → (b || known same p (k ++ l)) ≡ true
      go true e r = refl
      go false e r = r e

  pub known-last : (p : A) (k : List A) → same p p ≡ true → known same p (k ++ (p ∷ [])) ≡ true
  unfolding known
  known-last p [] h = rw h
  known-last p (q ∷ k) h = rw (known-last p k h) (or-true (same p q))

  -- one more
  abbrev pub met_one : List A → A → List A
  met_one seen p = cond (known same p seen) seen (seen ++ (p ∷ []))

  one_known : (seen : List A) (p q : A) → known same q seen ≡ true → known same q (met_one seen p) ≡ true
  one_known seen p q h = go (known same p seen)
    where
      go : (b : Bool) → known same q (cond b seen (seen ++ (p ∷ []))) ≡ true
      go true = h
      go false = known-front q seen (p ∷ []) h

  one-itself : (seen : List A) (p : A) → same p p ≡ true → known same p (met_one seen p) ≡ true
  one-itself seen p h = go (known same p seen) refl
    where
      go : (b : Bool) → known same p seen ≡ b → known same p (cond b seen (seen ++ (p ∷ []))) ≡ true
      go true e = e
      go false e = known-last p seen h

  pub seen-known : (seen l : List A) (q : A) → known same q seen ≡ true → known same q (met_behind same seen l) ≡ true
  unfolding met_behind
  seen-known seen [] q h = h
  seen-known seen (p ∷ l) q h = seen-known (met_one seen p) l q (one_known seen p q h)

  -- all that is met is known behind it, where each is the same as itself
  pub met-known : (seen l : List A) (i : ℕ) (d : A) → holds (λ p. same p p) l ≡ true → i < length l → known same (get_or l i d) (met_behind same seen l) ≡ true
  unfolding met_behind holds
  met-known seen [] i d h b = absurd (omega arith)
  met-known seen (p ∷ l) zero d h b = seen-known (met_one seen p) l p (one-itself seen p (and_both (same p p) (holds (λ p. same p p) l) h).0)
  met-known seen (p ∷ l) (suc i) d h b = met-known (met_one seen p) l i d (and_both (same p p) (holds (λ p. same p p) l) h).1 (omega arith)

  -- there are no more than were met
  pub met-length : (seen l : List A) → length (met_behind same seen l) ≤ length seen + length l
  unfolding met_behind
  met-length seen [] = omega arith
  met-length seen (p ∷ l) = let z = met-length (met_one seen p) l in let y = go (known same p seen) in omega arith
    where
      go : (b : Bool) → length (cond b seen (seen ++ (p ∷ []))) ≤ suc (length seen)
      go true = omega arith
      go false = rw (length-append seen (p ∷ [])) (omega arith)

  -- what holds of all that is met holds of all that is stored
  pub met_holds : (t : A → Bool) (seen l : List A) → holds t seen ≡ true → holds t l ≡ true → holds t (met_behind same seen l) ≡ true
  unfolding met_behind holds
  met_holds t seen [] g h = g
  met_holds t seen (p ∷ l) g h = let both = and_both (t p) (holds t l) h in met_holds t (met_one seen p) l (go (known same p seen) both.0) both.1
    where
      last : (k : List A) → holds t k ≡ true → t p ≡ true → holds t (k ++ (p ∷ [])) ≡ true
      last [] a e = rw e
      last (q ∷ k) a e = let both = and_both (t q) (holds t k) a in rw both.0 (last k both.1 e)

      go : (b : Bool) → t p ≡ true → holds t (cond b seen (seen ++ (p ∷ []))) ≡ true
      go true e = g
      go false e = last seen g e

  -- ---- no entry is the same as one before it

  unknown-nth : (p : A) (l : List A) (i : ℕ) (d : A) → known same p l ≡ false → i < length l → same p (get_or l i d) ≡ false
  unfolding known
  unknown-nth p [] i d h b = absurd (omega arith)
  unknown-nth p (q ∷ l) zero d h b = (or-none (same p q) (known same p l) h).0
  unknown-nth p (q ∷ l) (suc i) d h b = unknown-nth p l i d (or-none (same p q) (known same p l) h).1 (omega arith)

  apart_snoc : (d : A) (l : List A) (p : A) → Apart same d l → known same p l ≡ false → Apart same d (l ++ (p ∷ []))
  apart_snoc d l p a h = record { apart = λ i j b c. by i j b (rw length-append at c) (ltb j (length l)) refl }
    where
      by : (i j : ℕ) → i < j → j < length l + 1 → (t : Bool) → ltb j (length l) ≡ t → same (get_or (l ++ (p ∷ [])) j d) (get_or (l ++ (p ∷ [])) i d) ≡ false
      by i j b c true e =
          let n : j < length l = ltb-true j (length l) e in
          let k : i < length l = omega arith in
          rw (get_or-append l (p ∷ []) d j n, get_or-append l (p ∷ []) d i k) (a.apart i j b n)
      by i j b c false e =
          let n : j ≡ length l = omega (arith, ltb-false j (length l) e) in
          let k : i < length l = omega arith in
          rw (n, get_or-append_seam l p [] d, get_or-append l (p ∷ []) d i k) (unknown-nth p l i d h k)

  met-apart-behind : (d : A) (seen l : List A) → Apart same d seen → Apart same d (met_behind same seen l)
  unfolding met_behind
  met-apart-behind d seen [] a = a
  met-apart-behind d seen (p ∷ l) a = met-apart-behind d (met_one seen p) l (go (known same p seen) refl)
    where
      go : (b : Bool) → known same p seen ≡ b → Apart same d (cond b seen (seen ++ (p ∷ [])))
      go true e = a
      go false e = apart_snoc d seen p a e

  pub met-apart : (d : A) (l : List A) → Apart same d (met_behind same [] l)
  met-apart d l = met-apart-behind d [] l (record { apart = λ i j b c. absurd (omega arith) })

-- ---- the fins of an edge: each is listed once, by its own edge and by no other

pub fins-length : (e u : ℕ) (l : List ℕ) → length (fins_on e u l) ≡ count e l
unfolding fins_on count
fins-length e u [] = refl
fins-length e u (k ∷ l) = go (eqb e k) (fins-length e (suc u) l)
  where
    go : (b : Bool) → length (fins_on e (suc u) l) ≡ count e l → length (cond b (u ∷ fins_on e (suc u) l) (fins_on e (suc u) l)) ≡ cond b (suc (count e l)) (count e l)
    go true h = ap suc h
    go false h = h

pub fins-before : (e u c : ℕ) (l : List ℕ) → c < u → count c (fins_on e u l) ≡ 0
unfolding fins_on count
fins-before e u c [] h = refl
fins-before e u c (k ∷ l) h = go (eqb e k) (fins-before e (suc u) c l (omega arith))
  where
    go : (b : Bool) → count c (fins_on e (suc u) l) ≡ 0 → count c (cond b (u ∷ fins_on e (suc u) l) (fins_on e (suc u) l)) ≡ 0
    go true z = rw (ne_eqb c u (λ q. omega arith)) z
    go false z = z

pub fin-once : (e u i : ℕ) (l : List ℕ) → i < length l → count (u + i) (fins_on e u l) ≡ bit (eqb e (get_or l i 0))
unfolding fins_on count
fin-once e u i [] h = absurd (omega arith)
fin-once e u zero (k ∷ l) h = go (eqb e k)
  where
    go : (b : Bool) → count (u + 0) (cond b (u ∷ fins_on e (suc u) l) (fins_on e (suc u) l)) ≡ bit b
    go true = rw (eq-eqb (u + 0) u (omega arith)) (ap suc (fins-before e (suc u) (u + 0) l (omega arith)))
    go false = fins-before e (suc u) (u + 0) l (omega arith)
fin-once e u (suc i) (k ∷ l) h = go (eqb e k) (ap (λ n. count n (fins_on e (suc u) l)) over ∙ fin-once e (suc u) i l (omega arith))
  where
    over : u + suc i ≡ suc u + i
    over = omega arith

    go : (b : Bool) → count (u + suc i) (fins_on e (suc u) l) ≡ bit (eqb e (get_or l i 0)) → count (u + suc i) (cond b (u ∷ fins_on e (suc u) l) (fins_on e (suc u) l)) ≡ bit (eqb e (get_or l i 0))
    go true z = rw (ne_eqb (u + suc i) u (λ q. omega arith)) z
    go false z = z
