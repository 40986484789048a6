-- The fins of a loop, each against the next. Assumes nothing.
use Prim.Native.Nat.{ℕ, zero, suc, ◌+◌, ◌≤◌, ◌<◌}
use Rattle.std.proofs.Common.{arith, add-one, ◌∙◌, subst, length-append, ltb-true}
use Rattle.std.specs.Prelude.{◌≡◌, Bool, true, false, not, ◌&&◌, ltb, Float, length, get_or, take, drop}
use Rattle.std.proofs.Math.Path.{refl, sym, ap}
use mathlib.Core.List.{List, [], ◌∷◌, ◌++◌, append-nil, append_assoc}
use Rattle.std.proofs.Math.Option.{Option}
use Rattle.std.proofs.Math.ListN.{get_or-append}
use Rattle.std.proofs.Math.Seq.{get_or-append_seam}
use Rattle.meaning.specs.Lists.{same, rotated}
use Rattle.meaning.specs.Model.{Model, Sense, positive, negative, Edge, has, fin, edge}
use Rattle.meaning.specs.Walks.{directed, ends_of, readable_fin}
use Rattle.meaning.specs.Faults.{Finding, meets_next, open_at, opens}
use Rattle.meaning_list_laws.specs.Tests.{and_both}
use Rattle.memory_layout.specs.Layout.{word}
use Rattle.memory_layout.specs.Decode.{decode}
use Rattle.memory_records.specs.declared.records.Fin as Fins
use Rattle.memory_records.specs.declared.records.Edge as Edges
use Rattle.memory_records.specs.Seen.{seen_ref, seen_sense, seen_fin, seen_edge}
use Rattle.check_reasons.specs.declared.Tally.{Tally}
use Rattle.check_reasons.specs.Log.{Noted, Enough}
use Rattle.check_reasons.specs.Laws.{noted-same, noted-then, enough-same, enough-first, enough-then}
use Rattle.check_ends.specs.Ends.{ref_of}
use Rattle.check_ends.specs.Laws.{ref_back}
use Rattle.check_open_loop.specs.declared.FinEnds.{FinEnds}
use Rattle.check_open_loop.specs.OpenLoop.{directed_refs, seen_ends, open_between}

-- ---- whether a fin can be read

module _ (m : Model) (i : ℕ) where
  pub fin-lacks : has m.fins i ≡ false → false ≡ readable_fin m i
  fin-lacks h = rw h

  pub fin-has : (x : Fins.Fin) → has m.fins i ≡ true → x ≡ seen_fin (fin m i) → has m.edges x.edge ≡ readable_fin m i
  unfolding seen_fin
  fin-has x h q = rw (h, q)

pub fin-slots : (room w : List ℕ) (x : List Float) (i : ℕ) → readable_fin (decode room w x) i ≡ true → (i < word w 5) × ((fin (decode room w x) i).edge < word w 6)
unfolding decode
fin-slots room w x i e =
    let both = and_both (ltb i (word w 5)) (ltb (fin (decode room w x) i).edge (word w 6)) e in
    (ltb-true i (word w 5) both.0, ltb-true (fin (decode room w x) i).edge (word w 6) both.1)

pub edge-slot : (room w : List ℕ) (x : List Float) (i : ℕ) (f : Fins.Fin) → f ≡ seen_fin (fin (decode room w x) i) → readable_fin (decode room w x) i ≡ true → f.edge < word w 6
unfolding seen_fin
edge-slot room w x i f q e = subst (λ (y : Fins.Fin). y.edge < word w 6) (sym q) (fin-slots room w x i e).1

-- ---- its ends

sides : (s : Sense) (e : Edge) → directed_refs (seen_sense s) (seen_ref e.start) (seen_ref e.end) ≡ seen_ends (directed s e)
unfolding directed_refs seen_sense seen_ends
sides positive e = refl
sides negative e = refl

pub ends-told : (m : Model) (i : ℕ) (f : Fins.Fin) (e : Edges.Edge) → f ≡ seen_fin (fin m i) → e ≡ seen_edge (edge m f.edge)
    → directed_refs f.sense e.start e.end ≡ seen_ends (ends_of m i)
unfolding seen_fin seen_edge
ends-told m i f e p q =
    let r : e ≡ seen_edge (edge m (fin m i).edge) = q ∙ ap (λ (y : Fins.Fin). seen_edge (edge m y.edge)) p in
    ap (λ (y : Edges.Edge). directed_refs f.sense y.start y.end) r
    ∙ ap (λ (y : Fins.Fin). directed_refs y.sense (seen_ref (edge m (fin m i).edge).start) (seen_ref (edge m (fin m i).edge).end)) p
    ∙ sides (fin m i).sense (edge m (fin m i).edge)

-- ---- two fins

pub open_told : (m : Model) (i next : ℕ) (x y : FinEnds) (b : Bool) → readable_fin m i ≡ true → readable_fin m next ≡ true → x ≡ seen_ends (ends_of m i) → y ≡ seen_ends (ends_of m next)
    → b ≡ same (ref_of x.end) (ref_of y.start) → not b ≡ open_between m i next
unfolding seen_ends
open_told m i next x y b h g p q r =
    let s : b ≡ same (ends_of m i).end (ends_of m next).start =
    r
    ∙ ap (λ (z : FinEnds). same (ref_of z.end) (ref_of y.start)) p
    ∙ ap (λ (z : FinEnds). same (ref_of (seen_ref (ends_of m i).end)) (ref_of z.start)) q
    ∙ ap (λ (o : Option ℕ). same o (ref_of (seen_ref (ends_of m next).start))) (ref_back (ends_of m i).end)
    ∙ ap (λ (o : Option ℕ). same (ends_of m i).end o) (ref_back (ends_of m next).start) in
    rw (h, g, s)

pub open-not : (m : Model) (i next : ℕ) → readable_fin m i ≡ false → false ≡ open_between m i next
open-not m i next h = by (readable_fin m i) (readable_fin m next) (not (meets_next m i next)) h
  where
    by : (a b c : Bool) → a ≡ false → false ≡ (a && b && c)
    by true b c e = absurd (let z : ◌≡◌ {A = ℕ} 0 1 = cc in omega arith)
    by false b c e = refl

pub open-next-not : (m : Model) (i next : ℕ) → readable_fin m i ≡ true → readable_fin m next ≡ false → false ≡ open_between m i next
open-next-not m i next h g = by (readable_fin m i) (readable_fin m next) (not (meets_next m i next)) h g
  where
    by : (a b c : Bool) → a ≡ true → b ≡ false → false ≡ (a && b && c)
    by true true c h e = absurd (let z : ◌≡◌ {A = ℕ} 0 1 = cc in omega arith)
    by true false c h e = refl
    by false b c h e = absurd (let z : ◌≡◌ {A = ℕ} 0 1 = cc in omega arith)

-- ---- the next fin

pub next-follows : (l : List ℕ) (k : ℕ) → k + 1 < length l → get_or l (k + 1) 0 ≡ get_or (rotated l) k 0
next-follows [] k h = absurd (omega arith)
next-follows (x ∷ l) k h =
    let less : k < length l = omega arith in
    rw add-one (sym (get_or-append l (x ∷ []) 0 k less))

pub next-first : (l : List ℕ) (k : ℕ) → k < length l → length l ≤ k + 1 → get_or l 0 0 ≡ get_or (rotated l) k 0
next-first [] k h g = absurd (omega arith)
next-first (x ∷ l) k h g =
    let e : k ≡ length l = omega arith in
    sym (ap (λ i. get_or (l ++ (x ∷ [])) i 0) e ∙ get_or-append_seam l x [] 0)

pub rotated-length : (l : List ℕ) → length (rotated l) ≡ length l
rotated-length [] = refl
rotated-length (x ∷ l) = omega (arith, length-append l (x ∷ []))

-- ---- a turn of the loop

module _ (m : Model) where
  turned : (a b : List ℕ) (k : ℕ) → k < length a → k < length b
      → opens m (take (suc k) a) (take (suc k) b) ≡ opens m (take k a) (take k b) ++ open_at m (get_or a k 0) (get_or b k 0)
  unfolding opens
  turned [] b k h g = absurd (omega arith)
  turned (i ∷ a) [] k h g = absurd (omega arith)
  turned (i ∷ a) (j ∷ b) zero h g = append-nil (open_at m i j)
  turned (i ∷ a) (j ∷ b) (suc k) h g =
      ap (λ (l : List Finding). open_at m i j ++ l) (turned a b k (omega arith) (omega arith))
      ∙ sym (append_assoc (open_at m i j) (opens m (take k a) (take k b)) (open_at m (get_or a k 0) (get_or b k 0)))

  parted : (a b : List ℕ) (k : ℕ) → k < length a → k < length b
      → opens m a b ≡ (opens m (take k a) (take k b) ++ open_at m (get_or a k 0) (get_or b k 0)) ++ opens m (drop (suc k) a) (drop (suc k) b)
  unfolding opens
  parted [] b k h g = absurd (omega arith)
  parted (i ∷ a) [] k h g = absurd (omega arith)
  parted (i ∷ a) (j ∷ b) zero h g = refl
  parted (i ∷ a) (j ∷ b) (suc k) h g =
      ap (λ (l : List Finding). open_at m i j ++ l) (parted a b k (omega arith) (omega arith))
      ∙ sym (append_assoc (open_at m i j) (opens m (take k a) (take k b) ++ open_at m (get_or a k 0) (get_or b k 0)) (opens m (drop (suc k) a) (drop (suc k) b)))
      ∙ ap (λ (l : List Finding). l ++ opens m (drop (suc k) a) (drop (suc k) b)) (sym (append_assoc (open_at m i j) (opens m (take k a) (take k b)) (open_at m (get_or a k 0) (get_or b k 0))))

  module _ (a b : List ℕ) (k : ℕ) (h : k < length a) (g : k < length b) where
    pub opens-turn : {d d₁ d₂ : List ℕ} {t t₁ t₂ : Tally} → Noted (opens m (take k a) (take k b)) d t d₁ t₁ → Noted (open_at m (get_or a k 0) (get_or b k 0)) d₁ t₁ d₂ t₂
        → Noted (opens m (take (k + 1) a) (take (k + 1) b)) d t d₂ t₂
    opens-turn p q = rw add-one (noted-same (sym (turned a b k h g)) (noted-then p q))

    pub opens-enough : {d d₁ : List ℕ} {t t₁ : Tally} → Enough t (opens m a b) → Noted (opens m (take k a) (take k b)) d t d₁ t₁ → Enough t₁ (open_at m (get_or a k 0) (get_or b k 0))
    opens-enough {d} {d₁} {t} {t₁} e p = enough-then (enough-first t _ _ (enough-same (parted a b k h g) e)) p
