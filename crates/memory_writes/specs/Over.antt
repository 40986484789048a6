-- Laws of `over`: what reads the same, and what reads as written. Assumes nothing.
use Prim.Native.Nat.{ℕ, zero, suc, ◌+◌, ◌-◌, ◌≤◌, ◌<◌}
use Rattle.std.proofs.Math.Nat.{zero-add, add-sub_of_le}
use Rattle.std.proofs.Common.{suc-add, add-zero, add-one, ◌∙◌, length-set, drop_of_length-le, take_at, get_or-take, get_or-drop, take-add, drop-cons}
use native.Mathlib.Omega.{arith}
use Rattle.std.specs.Prelude.{◌≡◌, get_or}
use Rattle.std.proofs.Math.Path.{sym, ap}
use mathlib.Core.List.{List, [], ◌∷◌, ◌++◌, append_assoc, append-nil}
use Rattle.std.proofs.Math.ListN.{length, take, drop, set, length-append, length-drop, take-append-drop, get_or-append}
use Rattle.std.proofs.Math.Seq.{length-take-le, take-nil, take-append-le, drop_at, drop-append-add, drop-drop, take-take, set-append_left, append_snoc, sets-eq}
use Rattle.std.proofs.lemmas.List.{drop-append-le}
use Rattle.memory_writes.specs.Put.{over}

one_further : (at n : ℕ) → at + (n + 1) ≡ suc (at + n)
one_further at n = omega arith

further : (at p n : ℕ) → at + (p + n) ≡ at + p + n
further at p n = omega arith

module _ {A : Type 0} where
  -- what stands before the end of what was written
  head-length : (at : ℕ) (a l : List A) → at + length a ≤ length l → length (take at l ++ a) ≡ at + length a
  head-length at a l h = length-append (take at l) a ∙ ap (λ (n : ℕ). n + length a) (length-take-le at l (omega (arith, h)))

  pub length_over : (at : ℕ) (a l : List A) → at + length a ≤ length l → length (over at a l) ≡ length l
  unfolding over
  length_over at a l h =
      length-append (take at l ++ a) (drop (at + length a) l)
      ∙ ap (λ (n : ℕ). n + length (drop (at + length a) l)) (head-length at a l h)
      ∙ ap (λ (n : ℕ). at + length a + n) (length-drop (at + length a) l)
      ∙ add-sub_of_le h

  -- ---- what reads the same: all before what was written, and all from its end on

  pub take-over : (at n : ℕ) (a l : List A) → n ≤ at → at ≤ length l → take n (over at a l) ≡ take n l
  unfolding over
  take-over at n a l h g =
      let e : length (take at l) ≡ at = length-take-le at l g in
      ap (take n) (append_assoc (take at l) a (drop (at + length a) l))
      ∙ take-append-le n (take at l) (a ++ drop (at + length a) l) (omega arith)
      ∙ take-take n at l h

  pub drop-over : (at p : ℕ) (a l : List A) → at + length a ≤ p → at + length a ≤ length l → drop p (over at a l) ≡ drop p l
  unfolding over
  drop-over at p a l h g =
      let e : length (take at l ++ a) ≡ at + length a = head-length at a l g in
      let s : length (take at l ++ a) + (p - (at + length a)) ≡ p = omega arith in
      let t : at + length a + (p - (at + length a)) ≡ p = omega arith in
      ap (λ (n : ℕ). drop n (over at a l)) (sym s)
      ∙ drop-append-add (take at l ++ a) (drop (at + length a) l) (p - (at + length a))
      ∙ drop-drop (p - (at + length a)) (at + length a) l
      ∙ ap (λ (n : ℕ). drop n l) t

  part-front : (q m : ℕ) (l : List A) → take m (drop q l) ≡ drop q (take (q + m) l)
  part-front zero m l = ap (λ (n : ℕ). take n l) (sym (zero-add m))
  part-front (suc q) m [] = take-nil m ∙ sym (ap (drop (suc q)) (take-nil (suc q + m)))
  part-front (suc q) m (x ∷ l) = part-front q m l ∙ ap (λ (n : ℕ). drop (suc q) (take n (x ∷ l))) (sym (suc-add q m))

  -- a part of a part
  pub part-within : (n q m : ℕ) (l : List A) → q + m ≤ n → take m (drop q (take n l)) ≡ take m (drop q l)
  part-within n q m l h = part-front q m (take n l) ∙ ap (drop q) (take-take (q + m) n l h) ∙ sym (part-front q m l)

  pub part-before : (at p n : ℕ) (a l : List A) → p + n ≤ at → at ≤ length l → take n (drop p (over at a l)) ≡ take n (drop p l)
  part-before at p n a l h g = part-front p n (over at a l) ∙ ap (drop p) (take-over at (p + n) a l h g) ∙ sym (part-front p n l)

  pub part-behind : (at p n : ℕ) (a l : List A) → at + length a ≤ p → at + length a ≤ length l → take n (drop p (over at a l)) ≡ take n (drop p l)
  part-behind at p n a l h g = ap (take n) (drop-over at p a l h g)

  pub entry-before : (at q : ℕ) (a l : List A) (d : A) → q < at → at ≤ length l → get_or (over at a l) q d ≡ get_or l q d
  entry-before at q a l d h g =
      sym (get_or-take at (over at a l) q d h) ∙ ap (λ (r : List A). get_or r q d) (take-over at at a l (omega arith) g) ∙ get_or-take at l q d h

  pub entry-behind : (at q : ℕ) (a l : List A) (d : A) → at + length a ≤ q → at + length a ≤ length l → get_or (over at a l) q d ≡ get_or l q d
  entry-behind at q a l d h g =
      ap (λ (n : ℕ). get_or (over at a l) n d) (sym (add-zero q))
      ∙ sym (get_or-drop q (over at a l) 0 d)
      ∙ ap (λ (r : List A). get_or r 0 d) (drop-over at q a l h g)
      ∙ get_or-drop q l 0 d
      ∙ ap (λ (n : ℕ). get_or l n d) (add-zero q)

  -- ---- what reads as written

  pub drop-at-over : (at : ℕ) (a l : List A) → at ≤ length l → drop at (over at a l) ≡ a ++ drop (at + length a) l
  unfolding over
  drop-at-over at a l h =
      ap (drop at) (append_assoc (take at l) a (drop (at + length a) l))
      ∙ drop_at (take at l) (a ++ drop (at + length a) l) at (length-take-le at l h)

  pub part-written : (at n : ℕ) (a l : List A) → length a ≡ n → at ≤ length l → take n (drop at (over at a l)) ≡ a
  part-written at n a l e h = ap (take n) (drop-at-over at a l h) ∙ take_at a (drop (at + length a) l) n e

  pub entry-written : (at q : ℕ) (a l : List A) (d : A) → q < length a → at ≤ length l → get_or (over at a l) (at + q) d ≡ get_or a q d
  entry-written at q a l d h g =
      sym (get_or-drop at (over at a l) q d)
      ∙ ap (λ (r : List A). get_or r q d) (drop-at-over at a l g)
      ∙ get_or-append a (drop (at + length a) l) d q h

  -- ---- a part lent, written and taken back

  pub taken_back : (at n : ℕ) (a l : List A) → length a ≡ n → take at l ++ (a ++ drop n (drop at l)) ≡ over at a l
  unfolding over
  taken_back at n a l e =
      ap (λ (r : List A). take at l ++ (a ++ r)) (drop-drop n at l ∙ ap (λ (m : ℕ). drop (at + m) l) (sym e))
      ∙ sym (append_assoc (take at l) a (drop (at + length a) l))

  -- nothing written, all written, and what stands written where it stands
  pub over_none : (at : ℕ) (l : List A) → over at [] l ≡ l
  unfolding over
  over_none at l =
      append_assoc (take at l) [] (drop (at + 0) l) ∙ ap (λ (n : ℕ). take at l ++ drop n l) (add-zero at) ∙ take-append-drop at l

  pub over-whole : (a l : List A) → length a ≡ length l → over 0 a l ≡ a
  unfolding over
  over-whole a l e =
      let z : 0 + length a ≡ length a = zero-add (length a) in
      ap (λ (n : ℕ). a ++ drop n l) z ∙ ap (λ (r : List A). a ++ r) (drop_of_length-le l {i = length a} (omega arith)) ∙ append-nil a

  pub over-same : (at n : ℕ) (l : List A) → at + n ≤ length l → over at (take n (drop at l)) l ≡ l
  unfolding over
  over-same at n l h =
      let e : length (drop at l) ≡ length l - at = length-drop at l in
      let f : length (take n (drop at l)) ≡ n = length-take-le n (drop at l) (omega arith) in
      ap (λ (m : ℕ). take at l ++ take n (drop at l) ++ drop (at + m) l) f
      ∙ ap (λ (r : List A). r ++ drop (at + n) l) (sym (take-add at n l))
      ∙ take-append-drop (at + n) l

  -- what is written behind what was written
  pub over-behind : (at : ℕ) (a b l : List A) → at + length (a ++ b) ≤ length l → over (at + length a) b (over at a l) ≡ over at (a ++ b) l
  unfolding over
  over-behind at a b l h =
      let e : length (a ++ b) ≡ length a + length b = length-append a b in
      let f : length (take at l ++ a) ≡ at + length a = head-length at a l (omega arith) in
      let p : at + length a + length b ≡ at + length (a ++ b) = omega arith in
      ap (λ (r : List A). r ++ b ++ drop (at + length a + length b) (over at a l)) (take_at (take at l ++ a) (drop (at + length a) l) (at + length a) f)
      ∙ ap (λ (r : List A). take at l ++ a ++ b ++ r) (drop-over at (at + length a + length b) a l (omega arith) (omega arith))
      ∙ ap (λ (n : ℕ). take at l ++ a ++ b ++ drop n l) p
      ∙ ap (λ (r : List A). r ++ drop (at + length (a ++ b)) l) (append_assoc (take at l) a b)

  -- ---- stores

  pub one_store : (l : List A) (at : ℕ) (a : A) → at + 1 ≤ length l → set l at a ≡ over at (a ∷ []) l
  unfolding over
  one_store l at a h = sets-eq (a ∷ []) l at h

  pub two-stores : (l : List A) (at : ℕ) (a b : A) → at + 2 ≤ length l → set (set l at a) (at + 1) b ≡ over at (a ∷ b ∷ []) l
  unfolding over
  two-stores l at a b h = ap (λ (n : ℕ). set (set l at a) n b) (add-one at) ∙ sets-eq (a ∷ b ∷ []) l at h

  -- ---- a store within what was written

  set-append-add : (xs ys : List A) (n : ℕ) (v : A) → set (xs ++ ys) (length xs + n) v ≡ xs ++ set ys n v
  set-append-add [] ys n v = ap (λ (m : ℕ). set ys m v) (zero-add n)
  set-append-add (x ∷ xs) ys n v =
      ap (λ (m : ℕ). set (x ∷ (xs ++ ys)) m v) (suc-add (length xs) n) ∙ ap (λ (r : List A). x ∷ r) (set-append-add xs ys n v)

  pub set-over : (at p : ℕ) (a l : List A) (v : A) → p < length a → at + length a ≤ length l → set (over at a l) (at + p) v ≡ over at (set a p v) l
  unfolding over
  set-over at p a l v h g =
      let e : length (take at l) ≡ at = length-take-le at l (omega arith) in
      let f : length (take at l ++ a) ≡ at + length a = head-length at a l g in
      set-append_left (take at l ++ a) (drop (at + length a) l) (at + p) v (omega arith)
      ∙ ap (λ (r : List A). r ++ drop (at + length a) l)
      (ap (λ (n : ℕ). set (take at l ++ a) (n + p) v) (sym e) ∙ set-append-add (take at l) a p v)
      ∙ ap (λ (n : ℕ). take at l ++ set a p v ++ drop (at + n) l) (sym (length-set a p v))

  -- the last of what was written stood there before
  pub over_last : (at : ℕ) (a l : List A) (v d : A) → at + length a < length l → get_or l (at + length a) d ≡ v → over at (a ++ (v ∷ [])) l ≡ over at a l
  unfolding over
  over_last at a l v d h e =
      ap (λ (n : ℕ). take at l ++ (a ++ (v ∷ [])) ++ drop (at + n) l) (length-append a (v ∷ []))
      ∙ ap (λ (r : List A). r ++ drop (at + (length a + 1)) l) (sym (append_assoc (take at l) a (v ∷ [])))
      ∙ append_snoc (take at l ++ a) v (drop (at + (length a + 1)) l)
      ∙ ap (λ (r : List A). take at l ++ a ++ r)
      (ap (λ (n : ℕ). v ∷ drop n l) (one_further at (length a))
      ∙ ap (λ (x : A). x ∷ drop (suc (at + length a)) l) (sym e)
      ∙ sym (drop-cons l (at + length a) d h))

  -- what is written within a part is written within the list
  pub over-within : (at p n : ℕ) (a l : List A) → p + length a ≤ n → at + n ≤ length l
      → over at (over p a (take n (drop at l))) l ≡ over (at + p) a l
  unfolding over
  over-within at p n a l h g =
      let d : List A = drop at l in
      let r : List A = take n d in
      let q : ℕ = p + length a in
      let e : length d ≡ length l - at = length-drop at l in
      let f : length r ≡ n = length-take-le n d (omega arith) in
      let m : length (take p r ++ a ++ drop q r) ≡ n = length_over p a r (omega arith) ∙ f in
      ap (λ (k : ℕ). take at l ++ (take p r ++ a ++ drop q r) ++ drop (at + k) l) m
      ∙ ap (λ (k : List A). take at l ++ (k ++ a ++ drop q r) ++ drop (at + n) l) (take-take p n d (omega arith))
      ∙ ap (λ (k : List A). take at l ++ (take p d ++ a ++ drop q r) ++ k) (sym (drop-drop n at l))
      ∙ append_assoc (take at l) (take p d ++ a ++ drop q r) (drop n d)
      ∙ ap (λ (k : List A). take at l ++ k)
      (append_assoc (take p d ++ a) (drop q r) (drop n d)
      ∙ ap (λ (k : List A). take p d ++ a ++ k)
      (sym (drop-append-le q r (drop n d) (omega arith)) ∙ ap (drop q) (take-append-drop n d) ∙ drop-drop q at l))
      ∙ sym (append_assoc (take at l) (take p d ++ a) (drop (at + q) l))
      ∙ ap (λ (k : List A). k ++ drop (at + q) l) (sym (append_assoc (take at l) (take p d) a) ∙ ap (λ (k : List A). k ++ a) (sym (take-add at p l)))
      ∙ ap (λ (k : ℕ). take (at + p) l ++ a ++ drop k l) (further at p (length a))
