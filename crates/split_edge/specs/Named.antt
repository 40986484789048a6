-- What stands for each entry of a loop and of a shell is what `meaning` says, and how many entries there are. Assumes nothing.
use Rattle.std.specs.Prelude.{ℕ, zero, suc, ◌+◌, ◌≤◌, ◌<◌, ◌≡◌, Bool, ◌&&◌, ◌||◌, List, [], ◌∷◌, map, ltb, length, get_or}
use Rattle.std.proofs.Common.{arith, sym, ◌∙◌, length-append, eqb-true, eq-eqb, ne_eqb, lt-ltb, le-ltb}
use Rattle.std.proofs.Math.Path.{refl, ap}
use Rattle.std.proofs.Math.Bool.{true, false, cond}
use Rattle.std.proofs.Math.Dec.{eqb}
use Rattle.std.proofs.lemmas.Bool.{eqb-false}
use Rattle.meaning.specs.Lists.{member, count, count_if, place, joined}
use Rattle.meaning.specs.Model.{Sense, positive, negative}
use Rattle.meaning.specs.Split.{beside}
use Rattle.meaning_list_laws.specs.Lists.{count_if-cons, place-below, nth-place}
use Rattle.memory_layout.specs.Layout.{word}
use Rattle.memory_layout.specs.Decode.{sense_of}
use Rattle.split_lists.specs.Beside.{entries_for}
use Rattle.split_pieces.specs.Pieces.{fin_word, fin_words}

-- ---- places

-- what is no entry has its place behind the last
pub place_none : (x : ℕ) (l : List ℕ) → member x l ≡ false → place x l ≡ length l
unfolding member place
place_none x [] h = refl
place_none x (y ∷ l) h = go (eqb x y) h (place_none x l)
  where
    go : (b : Bool) → (b || member x l) ≡ false → (member x l ≡ false → place x l ≡ length l) → cond b 0 (suc (place x l)) ≡ suc (length l)
    go true h r = absurd (let z : ◌≡◌ {A = ℕ} 0 1 = cc in omega arith)
    go false h r = ap suc (r h)

pub place-member : (x : ℕ) (l : List ℕ) → ltb (place x l) (length l) ≡ member x l
place-member x l = go (member x l) refl
  where
    go : (b : Bool) → member x l ≡ b → ltb (place x l) (length l) ≡ b
    go true h = lt-ltb (place x l) (length l) (place-below l x h)
    go false h = let e = place_none x l h in le-ltb (place x l) (length l) (omega arith)

pub nth-map : (f : ℕ → ℕ) (l : List ℕ) (k : ℕ) → k < length l → word (map f l) k ≡ f (word l k)
nth-map f [] k h = absurd (omega arith)
nth-map f (y ∷ l) zero h = refl
nth-map f (y ∷ l) (suc k) h = nth-map f l k (omega arith)

-- ---- the fins of an edge, in the list of the loop l

module _ (room w fins : List ℕ) (l first i : ℕ) where
  fin-word : (p : ℕ) → member i fins ≡ true → word (fin_words room w p fins) (place i fins) ≡ fin_word room w p i
  unfolding fin_words
  fin-word p h = nth-map (fin_word room w p) fins (place i fins) (place-below fins i h) ∙ ap (fin_word room w p) (nth-place fins i h)

  -- the fin itself, and where the loop owns it, its new fin by its sense
  pub entries-fin : entries_for fins (fin_words room w 0 fins) (fin_words room w 2 fins) l first i
      ≡ cond (member i fins && eqb (fin_word room w 0 i) l) (beside (sense_of (fin_word room w 2 i)) i (first + place i fins)) (i ∷ [])
  unfolding entries_for
  entries-fin = rw (place-member i fins) (go (member i fins) refl)
    where
      go : (b : Bool) → member i fins ≡ b
          → cond (b && eqb (word (fin_words room w 0 fins) (place i fins)) l) (beside (sense_of (word (fin_words room w 2 fins) (place i fins))) i (first + place i fins)) (i ∷ [])
          ≡ cond (b && eqb (fin_word room w 0 i) l) (beside (sense_of (fin_word room w 2 i)) i (first + place i fins)) (i ∷ [])
      go true h = rw (fin-word 0 h, fin-word 2 h)
      go false h = refl

-- ---- the edge, in the list of a shell

pub entries-wire : (e first i : ℕ) → entries_for (e ∷ []) (0 ∷ []) (0 ∷ []) 0 first i ≡ cond (eqb i e) (e ∷ first ∷ []) (i ∷ [])
unfolding entries_for place
entries-wire e first i = go (eqb i e) (eqb-true i e)
  where
    go : (b : Bool) → (b ≡ true → i ≡ e)
        → cond (ltb (cond b 0 1) 1 && eqb (word (0 ∷ []) (cond b 0 1)) 0) (beside (sense_of (word (0 ∷ []) (cond b 0 1))) i (first + cond b 0 1)) (i ∷ [])
        ≡ cond b (e ∷ first ∷ []) (i ∷ [])
    go true h = let z : first + 0 ≡ first = omega arith in rw (z, h refl)
    go false h = refl

-- ---- how many entries there are

pub joined_length : (f : ℕ → List ℕ) (p : ℕ → Bool) (l : List ℕ) → ((i : ℕ) → length (f i) ≡ 1 + cond (p i) 1 0) → length (joined f l) ≡ length l + count_if p l
unfolding joined count_if
joined_length f p [] h = refl
joined_length f p (y ∷ l) h =
    let a = length-append (f y) (joined f l) in
    let b = joined_length f p l h in
    let c = count_if-cons p y l in
    let d = h y in
    omega arith

pub beside-length : (b : Bool) (s : Sense) (i n : ℕ) → length (cond b (beside s i n) (i ∷ [])) ≡ 1 + cond b 1 0
beside-length true positive i n = refl
beside-length true negative i n = refl
beside-length false s i n = refl

count_if-sum : (p a b : ℕ → Bool) (l : List ℕ) → ((i : ℕ) → cond (p i) 1 0 ≤ cond (a i) 1 0 + cond (b i) 1 0) → count_if p l ≤ count_if a l + count_if b l
unfolding count_if
count_if-sum p a b [] h = omega arith
count_if-sum p a b (y ∷ l) h =
    let r = count_if-sum p a b l h in
    let c = count_if-cons p y l in
    let d = count_if-cons a y l in
    let e = count_if-cons b y l in
    let g = h y in
    omega arith

count_if-never : (p : ℕ → Bool) (l : List ℕ) → ((i : ℕ) → p i ≡ false) → count_if p l ≡ 0
unfolding count_if
count_if-never p [] h = refl
count_if-never p (y ∷ l) h = rw (h y) (count_if-never p l h)

pub count_if-count : (x : ℕ) (l : List ℕ) → count_if (λ i. eqb x i) l ≡ count x l
unfolding count_if count
count_if-count x [] = refl
count_if-count x (y ∷ l) = rw (count_if-count x l)

pub eqb_swap : (a b : ℕ) → eqb a b ≡ eqb b a
eqb_swap a b = go (eqb b a) (eqb-true b a) (eqb-false b a)
  where
    go : (t : Bool) → (t ≡ true → b ≡ a) → (t ≡ false → b ≡ a → ⊥) → eqb a b ≡ t
    go true y n = eq-eqb a b (sym (y refl))
    go false y n = ne_eqb a b (λ e. n refl (sym e))

-- of the entries of l that are in a and pass q there are no more than entries of a that pass q, if each of these stands in l at most once
pub among : (q : ℕ → Bool) (l a : List ℕ) → ((k : ℕ) → k < length a → q (get_or a k 0) ≡ true → count (get_or a k 0) l ≤ 1) → count_if (λ i. member i a && q i) l ≤ count_if q a
unfolding member
among q l [] h = let e = count_if-never (λ i. member i [] && q i) l (λ i. refl) in omega arith
among q l (y ∷ a) h = go (q y) refl (among q l a (λ k g. h (suc k) (omega arith))) (count_if-cons q y a)
  where
    met : (u m v : Bool) → cond ((u || m) && v) 1 0 ≤ cond u 1 0 + cond (m && v) 1 0
    met true true true = omega arith
    met true true false = omega arith
    met true false true = omega arith
    met true false false = omega arith
    met false true true = omega arith
    met false true false = omega arith
    met false false v = omega arith

    passed : (u m v : Bool) → (u ≡ true → v ≡ false) → cond ((u || m) && v) 1 0 ≤ 0 + cond (m && v) 1 0
    passed true m v e = rw (e refl) (none (true || m))
      where
        none : (b : Bool) → cond (b && false) 1 0 ≤ 0 + cond (m && false) 1 0
        none true = omega arith
        none false = omega arith
    passed false m v e = omega arith

    go : (b : Bool) → q y ≡ b → count_if (λ i. member i a && q i) l ≤ count_if q a → count_if q (y ∷ a) ≡ cond (q y) 1 0 + count_if q a
        → count_if (λ i. (eqb i y || member i a) && q i) l ≤ count_if q (y ∷ a)
    go true e r c =
        let s = count_if-sum (λ i. (eqb i y || member i a) && q i) (λ i. eqb y i) (λ i. member i a && q i) l (λ i. rw (eqb_swap y i) (met (eqb i y) (member i a) (q i))) in
        let n = count_if-count y l in
        let o = h 0 (omega arith) e in
        let d : count_if q (y ∷ a) ≡ 1 + count_if q a = c ∙ ap (λ (b : Bool). cond b 1 0 + count_if q a) e in
        omega arith
    go false e r c =
        let s = count_if-sum (λ i. (eqb i y || member i a) && q i) (λ i. false) (λ i. member i a && q i) l
        (λ i. passed (eqb i y) (member i a) (q i) (λ f. ap q (eqb-true i y f) ∙ e)) in
        let n = count_if-never (λ i. false) l (λ i. refl) in
        let d : count_if q (y ∷ a) ≡ 0 + count_if q a = c ∙ ap (λ (b : Bool). cond b 1 0 + count_if q a) e in
        omega arith
