-- Laws of marks, of lent lists, and of loops that take one entry after the other. Assumes nothing.
use Rattle.std.specs.Prelude.{ℕ, zero, suc, ◌+◌, ◌≤◌, ◌<◌, ◌≡◌, refl, Bool, true, false, not, ◌&&◌, ◌||◌, List, [], ◌∷◌, ◌++◌, map, eqb, length, get_or, set, take, drop, replicate}
use Rattle.std.proofs.Common.{arith, add-one, zero-add, add-zero, sym, ap, ◌∙◌, subst, length-set, length-take-le, take-suc, take_at, get_or-set_same, get_or-set_other}
use Rattle.std.proofs.Math.Decide.{dec_lt}
use Rattle.std.proofs.Math.Dec.{ltb}
use Rattle.std.proofs.lemmas.List.{length-replicate, get_or-replicate}
use Rattle.std.proofs.lemmas.List.Edits.{sets, sets-eq}
use Rattle.std.proofs.Math.Seq.{length-sets}
use borrow.Author.Tests.{ltb-true, lt-ltb, eqb-true, eqb-false, eq-eqb}
use Rattle.geom_lines_planes.specs.Refuse.{◌then◌}
use Rattle.meaning.specs.Lists.{all, member, joined, count}
use Rattle.meaning.specs.Refuse.{first_of}
use Rattle.meaning.specs.Formed.{bit}
use Rattle.meaning_list_laws.specs.Tests.{and_both, or-false, first_of-snoc}
use Rattle.meaning_list_laws.specs.Lists.{member-none, member-snoc, all_snoc, joined_snoc, count-absent, count-member, count_less, less_one, length-less, all-counted, all-at, count-present}
use Rattle.walk_marks.specs.Marks.{Marked, puts}

-- ---- one entry more

pub take_more : {A : Type 0} (l : List A) (k : ℕ) (d : A) → k < length l → take (k + 1) l ≡ take k l ++ (get_or l k d ∷ [])
take_more l k d h = ap (λ n. take n l) (add-one k) ∙ take-suc l k d h

-- a turn of a loop that tests each entry, that looks for x, that goes by each entry's list, that keeps the first refusal, that takes something of each entry
pub all-turn : (p : ℕ → Bool) (l : List ℕ) (k : ℕ) (ok x : Bool) → k < length l → ok ≡ all p (take k l) → x ≡ p (get_or l k 0) → (ok && x) ≡ all p (take (k + 1) l)
all-turn p l k ok x h e f = cc (ap (all p) (take_more l k 0 h), all_snoc p (take k l) (get_or l k 0))

pub member-turn : (x : ℕ) (l : List ℕ) (k : ℕ) (found t : Bool) → k < length l → found ≡ member x (take k l) → t ≡ eqb x (get_or l k 0) → (found || t) ≡ member x (take (k + 1) l)
member-turn x l k found t h e f = cc (ap (member x) (take_more l k 0 h), member-snoc x (take k l) (get_or l k 0))

pub joined-turn : (f : ℕ → List ℕ) (l : List ℕ) (k : ℕ) → k < length l → joined f (take (k + 1) l) ≡ joined f (take k l) ++ f (get_or l k 0)
joined-turn f l k h = ap (joined f) (take_more l k 0 h) ∙ joined_snoc f (take k l) (get_or l k 0)

pub first-turn : (f : ℕ → ℕ) (l : List ℕ) (k n p : ℕ) → k < length l → n ≡ first_of f (take k l) → p ≡ f (get_or l k 0) → (n then p) ≡ first_of f (take (k + 1) l)
first-turn f l k n p h e g = rw (e, g) (sym (ap (first_of f) (take_more l k 0 h) ∙ first_of-snoc f (take k l) (get_or l k 0)))

pub map-turn : {A : Type 0} (f : ℕ → A) (l : List ℕ) (k : ℕ) → k < length l → map f (take (k + 1) l) ≡ map f (take k l) ++ (f (get_or l k 0) ∷ [])
map-turn f l k h = ap (map f) (take_more l k 0 h) ∙ one (take k l) (get_or l k 0)
  where
    one : (l : List ℕ) (y : ℕ) → map f (l ++ (y ∷ [])) ≡ map f l ++ (f y ∷ [])
    one [] y = refl
    one (z ∷ l) y = ap (λ t. f z ∷ t) (one l y)

-- a test that every entry passes
pub all-nth : (p : ℕ → Bool) (l : List ℕ) (k : ℕ) → all p l ≡ true → k < length l → p (get_or l k 0) ≡ true
all-nth p l k a h = all-at p l (get_or l k 0) a (count-member l k h)

pub map-nth : (f : ℕ → ℕ) (l : List ℕ) (k : ℕ) → k < length l → get_or (map f l) k 0 ≡ f (get_or l k 0)
map-nth f [] k h = absurd (omega arith)
map-nth f (y ∷ l) zero h = refl
map-nth f (y ∷ l) (suc k) h = map-nth f l k (omega arith)

-- ---- marks

pub marked-none : (n : ℕ) → Marked (replicate n 0) []
marked-none n = record { at = λ i h. get_or-replicate n i 0 0 (rw length-replicate at h) ∙ sym (ap bit (member-none i)) }

pub marked_more : (m l : List ℕ) (x : ℕ) → Marked m l → Marked (set m x 1) (l ++ (x ∷ []))
marked_more m l x s = record { at = λ i h. by i (rw length-set at h) (eqb i x) refl }
  where
    seen : (b : Bool) → bit (b || true) ≡ 1
    seen true = refl
    seen false = refl

    by : (i : ℕ) → i < length m → (t : Bool) → eqb i x ≡ t → get_or (set m x 1) i 0 ≡ bit (member i (l ++ (x ∷ [])))
    by i h true e =
        let q : i ≡ x = eqb-true i x e in
        subst (λ k. get_or (set m x 1) k 0 ≡ 1) (sym q) (get_or-set_same m x 1 0 (omega arith)) ∙ sym (rw (member-snoc i l x, e) (seen (member i l)))
    by i h false e = get_or-set_other m x i 1 0 (eqb-false i x e) ∙ s.at i h ∙ sym (rw (member-snoc i l x, e, or-false (member i l)))

-- marks tell lists with the same ids not apart
pub marked-same : (m l k : List ℕ) → Marked m l → ((x : ℕ) → member x l ≡ member x k) → Marked m k
marked-same m l k s h = record { at = λ i g. s.at i g ∙ ap bit (h i) }

pub marked-read : (m l : List ℕ) (x : ℕ) → Marked m l → x < length m → not (eqb (get_or m x 0) 0) ≡ member x l
marked-read m l x s h = rw (s.at x h) (by (member x l))
  where
    by : (b : Bool) → not (eqb (bit b) 0) ≡ b
    by true = refl
    by false = refl

-- ---- a list with ids put into it

pub puts_none : (d : List ℕ) (at : ℕ) → puts d at [] ≡ d
unfolding puts
puts_none d at = refl

pub puts-append : (d : List ℕ) (at : ℕ) (k l : List ℕ) → puts d at (k ++ l) ≡ puts (puts d at k) (at + length k) l
unfolding puts
puts-append d at [] l = ap (λ n. sets d n l) (sym (add-zero at))
puts-append d at (x ∷ k) l = puts-append (set d at x) (suc at) k l ∙ ap (λ n. sets (sets (set d at x) (suc at) k) n l) (omega arith)

puts_one : (d : List ℕ) (n m x : ℕ) → n ≡ m → puts d n (x ∷ []) ≡ set d m x
unfolding puts
puts_one d n m x e = ap (λ i. set d i x) e

-- a turn of a loop that puts one entry after the other
pub puts-turn : (d l : List ℕ) (at k : ℕ) (out next : List ℕ) (i x : ℕ) → k < length l → i ≡ at + k → x ≡ get_or l k 0 → out ≡ puts d at (take k l) → next ≡ set out i x
    → next ≡ puts d at (take (k + 1) l)
puts-turn d l at k out next i x h e f o n =
    n
    ∙ ap (λ t. set t i x) o
    ∙ ap (set (puts d at (take k l)) i) f
    ∙ sym (puts_one (puts d at (take k l)) (at + length (take k l)) i (get_or l k 0) (ap (λ n. at + n) (length-take-le k l (omega arith)) ∙ sym e))
    ∙ sym (puts-append d at (take k l) (get_or l k 0 ∷ []))
    ∙ sym (ap (puts d at) (take_more l k 0 h))

pub puts-length : (d : List ℕ) (at : ℕ) (l : List ℕ) → length (puts d at l) ≡ length d
unfolding puts
puts-length d at l = length-sets d at l

-- where there is room for all, they stand there, and the rest is as it was
pub puts-front : (d l : List ℕ) → length l ≤ length d → puts d 0 l ≡ l ++ drop (length l) d
unfolding puts
puts-front d l h = sets-eq l d 0 (omega arith) ∙ ap (λ n. l ++ drop n d) (zero-add (length l))

pub puts-taken : (d l : List ℕ) → length l ≤ length d → take (length l) (puts d 0 l) ≡ l
puts-taken d l h = ap (take (length l)) (puts-front d l h) ∙ take_at l (drop (length l) d) (length l) refl

-- ---- a list without repeats, all below n, has at most n entries

below_less : (n c : ℕ) → c < suc n → (c ≡ n → ⊥) → c < n
below_less n c h g = elim (dec_lt c n) [
  | yes l ↦ l
  | no d ↦ absurd (g (omega arith))
]

-- entries below suc n of which none is n are below n
all-less : (n : ℕ) (k l : List ℕ) → all (λ x. ltb x (suc n)) l ≡ true → ((c : ℕ) → 1 ≤ count c k → 1 ≤ count c l) → count n k ≡ 0 → all (λ x. ltb x n) k ≡ true
all-less n k l a sub gone =
    all-counted (λ x. ltb x n) k
    (λ c h. let below : c < suc n = ltb-true c (suc n) (all-at (λ x. ltb x (suc n)) l c a (sub c h)) in
    let other : c ≡ n → ⊥ = λ q. let z : 1 ≤ count n k = subst (λ i. 1 ≤ count i k) q h in omega arith in
    lt-ltb c n (below_less n c below other))

pub once-short : (n : ℕ) (l : List ℕ) → all (λ x. ltb x n) l ≡ true → ((c : ℕ) → count c l ≤ 1) → length l ≤ n
once-short zero [] a once = omega arith
once-short zero (y ∷ l) a once = unfold all in absurd (omega (arith, ltb-true y 0 (and_both (ltb y 0) (all (λ x. ltb x 0) l) a).0))
once-short (suc n) l a once = by (once-short n) (member n l) refl
  where
    by : ((k : List ℕ) → all (λ x. ltb x n) k ≡ true → ((c : ℕ) → count c k ≤ 1) → length k ≤ n) → (b : Bool) → member n l ≡ b → length l ≤ suc n
    by short true e =
        let there : 1 ≤ count n l = count-present n l e in
        let gone : count n (less_one n l) ≡ 0 = omega (arith, rw (eq-eqb n n refl) at (count_less n n l there), once n) in
        let rest : length (less_one n l) ≤ n =
        short (less_one n l)
        (all-less n (less_one n l) l a (λ c h. omega (arith, count_less n c l there)) gone)
        (λ c. omega (arith, count_less n c l there, once c)) in
        omega (arith, length-less n l there)
    by short false e = omega (arith, short l (all-less n l l a (λ c h. h) (count-absent n l e)) once)
