-- The numbers of the bodies, worked out one after the other. Assumes nothing.
use Rattle.std.specs.Prelude.{ℕ, zero, suc, ◌+◌, ◌-◌, ◌≤◌, ◌<◌, ◌≡◌, refl, Bool, true, false, cond, ◌&&◌, ◌||◌, List, [], ◌∷◌, map, eqb, ltb, Float, length, get_or, take, set, replicate}
use Rattle.std.proofs.Math.Decide.{dec_lt}
use Rattle.std.proofs.Common.{arith, add-one, sym, ap, ap₂, ◌∙◌, length-set, get_or-set_same, get_or-set_other, take-suc, lt-ltb, le-ltb}
use Rattle.std.proofs.lemmas.List.{length-replicate}
use Rattle.meaning.specs.Lists.{all, member}
use Rattle.meaning.specs.Offices.{body_for}
use Rattle.meaning_list_laws.specs.Lists.{member-snoc, member-head, member-tail, all_none, all_cons, all_append}
use Rattle.meaning_courses.specs.Courses.{of_body, of_course, bodies_in, stones_of, LEVELS}
use Rattle.memory_layout.specs.Layout.{word}
use Rattle.memory_layout.specs.Decode.{decode, list_at}
use Rattle.inquire_stone.specs.declared.Stone.{Stone}
use Rattle.inquire_stone.specs.Answers.{stone_number, stone_answer}
use Rattle.course_table.specs.Table.{course_at, entry_of, courses_in}
use Rattle.course_stones.specs.Sums.{with_bodies, new_sum, some_below, listed_in, noted_if, noted, stone_for, weighed_numbers, weighed_plus, weighed_minus, course_sum}

-- ---- what is noted

noted-none : (p : ℕ → Bool) (f : ℕ → ℕ) (l : List ℕ) → l ≡ noted p f 0 l
unfolding noted
noted-none p f l = refl

noted-turn : (p : ℕ → Bool) (f : ℕ → ℕ) (l : List ℕ) (k v : ℕ) (b : Bool) → b ≡ p k → v ≡ f k → noted_if b k v (noted p f k l) ≡ noted p f (k + 1) l
unfolding noted
noted-turn p f l k v b d e = ap₂ (λ (q : Bool) (i : ℕ). noted_if q k i (noted p f k l)) d e ∙ ap (λ i. noted p f i l) (sym (add-one k))

noted-length : (p : ℕ → Bool) (f : ℕ → ℕ) (n : ℕ) (l : List ℕ) → length (noted p f n l) ≡ length l
unfolding noted
noted-length p f zero l = refl
noted-length p f (suc n) l = by (p n) ∙ noted-length p f n l
  where
    by : (b : Bool) → length (noted_if b n (f n) (noted p f n l)) ≡ length (noted p f n l)
    by true = length-set (noted p f n l) n (f n)
    by false = refl

pub noted-at : (p : ℕ → Bool) (f : ℕ → ℕ) (n : ℕ) (l : List ℕ) (b : ℕ) → p b ≡ true → b < n → n ≤ length l → word (noted p f n l) b ≡ f b
unfolding noted
noted-at p f zero l b t h g = absurd (omega arith)
noted-at p f (suc n) l b t h g = elim (dec_lt b n) [
  | yes less ↦ other (p n) less ∙ noted-at p f n l b t less (omega arith)
  | no last ↦ ap (λ i. word (noted_if (p n) n (f n) (noted p f n l)) i) (same last) ∙ ap (λ q. word (noted_if q n (f n) (noted p f n l)) n) (ap p (sym (same last)) ∙ t)
      ∙ get_or-set_same (noted p f n l) n (f n) 0 (omega (arith, noted-length p f n l)) ∙ ap f (sym (same last))
]
  where
    same : (b < n → ⊥) → b ≡ n
    same q = omega arith

    other : (q : Bool) → b < n → word (noted_if q n (f n) (noted p f n l)) b ≡ word (noted p f n l) b
    other true less = get_or-set_other (noted p f n l) n b (f n) 0 (λ e. omega arith)
    other false less = refl

pub left_out : (wanted : Bool) (b v : ℕ) (l : List ℕ) → wanted ≡ false → l ≡ noted_if wanted b v l
left_out wanted b v l e = rw e

pub put_in : (wanted : Bool) (b u v : ℕ) (l : List ℕ) → wanted ≡ true → u ≡ v → set l b u ≡ noted_if wanted b v l
put_in wanted b u v l e q = rw e (ap (set l b) q)

-- ---- what is listed

pub none-listed : (p : ℕ → Bool) → false ≡ some_below p 0
unfolding some_below
none-listed p = refl

pub listed-turn : (p : ℕ → Bool) (n : ℕ) (a x : Bool) → a ≡ some_below p n → x ≡ p n → (a || x) ≡ some_below p (n + 1)
unfolding some_below
listed-turn p n a x e f = ap₂ ◌||◌ e f ∙ ap (some_below p) (sym (add-one n))

pub some_below_lem : (p : ℕ → Bool) (n c : ℕ) → c < n → p c ≡ true → some_below p n ≡ true
unfolding some_below
some_below_lem p zero c h e = absurd (omega arith)
some_below_lem p (suc n) c h e = elim (dec_lt c n) [
  | yes less ↦ rw (some_below_lem p n c less e)
  | no last ↦ ap (λ q. some_below p n || q) (ap p (same last) ∙ e) ∙ or-true (some_below p n)
]
  where
    same : (c < n → ⊥) → n ≡ c
    same q = omega arith

    or-true : (b : Bool) → (b || true) ≡ true
    or-true true = refl
    or-true false = refl

pub member-turn : (x : ℕ) (l : List ℕ) (k : ℕ) (a b : Bool) → k < length l → a ≡ member x (take k l) → b ≡ eqb x (get_or l k 0) → (a || b) ≡ member x (take (k + 1) l)
member-turn x l k a b h e f =
    ap₂ ◌||◌ e f ∙ sym (member-snoc x (take k l) (get_or l k 0)) ∙ ap (member x) (sym (take-suc l k 0 h) ∙ ap (λ i. take i l) (sym (add-one k)))

entries-listed : (f : ℕ → List ℕ) (q : ℕ → Bool) → ((d : ℕ) → all q (f d) ≡ true) → (l : List ℕ) → ((e : ℕ) → member e l ≡ true → q e ≡ true) → all q (bodies_in f (map entry_of l)) ≡ true
unfolding bodies_in entry_of
entries-listed f q h [] g = all_none q
entries-listed f q h (e ∷ l) g = by (ltb e 65536) (entries-listed f q h l (λ i m. g i (member-tail i e l m)))
  where
    by : (b : Bool) → all q (bodies_in f (map entry_of l)) ≡ true → all q (bodies_in f (cond b (of_body e) (of_course (e - 65536)) ∷ map entry_of l)) ≡ true
    by true rest = all_cons q e (bodies_in f (map entry_of l)) ∙ ap₂ ◌&&◌ (g e (member-head e l)) rest
    by false rest = all_append q (f (e - 65536)) (bodies_in f (map entry_of l)) (h (e - 65536)) rest

-- every stone of a course is listed
pub stones-listed : (k : List ℕ) (n c : ℕ) → all (listed_in k) (stones_of (courses_in k) n c) ≡ true
unfolding stones_of courses_in listed_in bodies_in
stones-listed k zero c = all_none (listed_in k)
stones-listed k (suc n) c = elim (dec_lt c (word k 0)) [
  | yes h ↦ rw (lt-ltb c (word k 0) h) (entries-listed (λ d. stones_of (courses_in k) n d) (listed_in k) (λ d. stones-listed k n d) (list_at k (course_at c)) (λ e m. some_below_lem (λ i. member e (list_at k (course_at i))) (word k 0) c h m))
  | no h ↦ rw (le-ltb c (word k 0) (omega arith)) (all_none (listed_in k))
]

-- ---- the stones

-- the seen marks count by their length alone
pub marks-alike : (room w : List ℕ) (x : List Float) (b : ℕ) (a d : List ℕ) → length a ≡ length d → stone_answer room w x b a ≡ stone_answer room w x b d
unfolding stone_answer stone_number
marks-alike room w x b a d e = rw e

-- of the first b bodies the numbers stand in the lists
pub record Weighed (room w : List ℕ) (x : List Float) (o : ℕ) (k : List ℕ) (n : ℕ) (marks₀ R₀ P₀ M₀ marks₁ R P M : List ℕ) (b : ℕ) : Type 0 where
  pub few : b ≤ n
  pub marks : marks₁ ≡ marks₀
  pub numbers : R ≡ weighed_numbers room w x o marks₀ k b R₀
  pub above : P ≡ weighed_plus room w x o marks₀ k b P₀
  pub below : M ≡ weighed_minus room w x o marks₀ k b M₀

module _ (room w : List ℕ) (x : List Float) (o : ℕ) (k : List ℕ) (n : ℕ) (marks₀ R₀ P₀ M₀ : List ℕ) where
  pub none-weighed : Weighed room w x o k n marks₀ R₀ P₀ M₀ marks₀ R₀ P₀ M₀ 0
  none-weighed = record { few = omega arith; marks = refl; numbers = noted-none _ _ R₀; above = noted-none _ _ P₀; below = noted-none _ _ M₀ }

  pub one-weighed : (marks R P M : List ℕ) (b : ℕ) → Weighed room w x o k n marks₀ R₀ P₀ M₀ marks R P M b → b < n → (wanted : Bool) → wanted ≡ listed_in k b → (after R₁ P₁ M₁ : List ℕ) → after ≡ marks
      → R₁ ≡ noted_if wanted b (stone_for room w x o marks b).refused R → P₁ ≡ noted_if wanted b (stone_for room w x o marks b).plus P → M₁ ≡ noted_if wanted b (stone_for room w x o marks b).minus M
      → Weighed room w x o k n marks₀ R₀ P₀ M₀ after R₁ P₁ M₁ (b + 1)
  one-weighed marks R P M b h less wanted asked after R₁ P₁ M₁ left r p m =
      record {
        few = omega arith;
        marks = left ∙ h.marks;
        numbers = r ∙ ap (noted_if wanted b (stone_for room w x o marks b).refused) h.numbers ∙ noted-turn (listed_in k) (λ i. (stone_for room w x o marks₀ i).refused) R₀ b _ wanted asked (ap (λ (t : Stone). t.refused) same);
        above = p ∙ ap (noted_if wanted b (stone_for room w x o marks b).plus) h.above ∙ noted-turn (listed_in k) (λ i. (stone_for room w x o marks₀ i).plus) P₀ b _ wanted asked (ap (λ (t : Stone). t.plus) same);
        below = m ∙ ap (noted_if wanted b (stone_for room w x o marks b).minus) h.below ∙ noted-turn (listed_in k) (λ i. (stone_for room w x o marks₀ i).minus) M₀ b _ wanted asked (ap (λ (t : Stone). t.minus) same);
      }
    where
      same : stone_for room w x o marks b ≡ stone_for room w x o marks₀ b
      same = marks-alike room w x (body_for (decode room w x) o b) marks marks₀ (ap length h.marks)

-- marks that are as they were are still zeros
pub zeros-still : (a b : List ℕ) → a ≡ b → b ≡ replicate (length b) 0 → a ≡ replicate (length a) 0
zeros-still a b e z = e ∙ z ∙ ap (λ (l : List ℕ). replicate (length l) 0) (sym e)

-- marks that were cleared are zeros
pub kept-zero : (a : List ℕ) (n : ℕ) → a ≡ replicate n 0 → a ≡ replicate (length a) 0
kept-zero a n e = e ∙ ap (λ k. replicate k 0) (sym (ap length e ∙ length-replicate n 0))

-- and what was worked out is what the sum is made of
pub summed : (room w : List ℕ) (x : List Float) (o : ℕ) (k : List ℕ) (c : ℕ) (marks zeros : List ℕ) → marks ≡ zeros → (R P M : List ℕ)
    → R ≡ weighed_numbers room w x o marks k (word w 0) (replicate 64 0) → P ≡ weighed_plus room w x o marks k (word w 0) (replicate 64 0) → M ≡ weighed_minus room w x o marks k (word w 0) (replicate 64 0)
    → with_bodies R P M new_sum (stones_of (courses_in k) LEVELS c) ≡ course_sum room w x o k c zeros
unfolding course_sum
summed room w x o k c marks zeros e R P M r p m = rw (r, p, m, e)
