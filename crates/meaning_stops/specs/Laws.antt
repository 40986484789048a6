-- Laws of rows and stops: the number of the first stop is the first refusal of the rows; it is `accepted` where that is 0; the rows before it pass. Assumes nothing.
use Rattle.std.specs.Prelude.{ℕ, zero, suc, ◌+◌, ◌≡◌, refl, Bool, true, false, ◌&&◌, List, [], ◌∷◌, ◌++◌, map}
use Rattle.std.proofs.Common.{arith, sym, ap, ◌∙◌}
use Rattle.geom_lines_planes.specs.Refuse.{◌unless◌, ◌then◌}
use Rattle.meaning.specs.Lists.{run, all, all_below, joined}
use Rattle.meaning.specs.Refuse.{first_refusal, first_of}
use Rattle.meaning_list_laws.specs.Tests.{then-zero, then-assoc, first_of-snoc}
use Rattle.meaning_stops.specs.Stops.{Part, numbers, Row, refusal_of, Stop, stop_at, unless_passed, first_part}

-- ---- the parts of a row

pub parts-append : (k l : List Part) → first_refusal (numbers (k ++ l)) ≡ (first_refusal (numbers k) then first_refusal (numbers l))
unfolding first_refusal
parts-append [] l = refl
parts-append (p ∷ k) l = ap (λ (n : ℕ). p.number then n) (parts-append k l) ∙ sym (then-assoc p.number (first_refusal (numbers k)) (first_refusal (numbers l)))

pub parts-joined : (f : ℕ → List Part) (g : ℕ → ℕ) (l : List ℕ) → ((i : ℕ) → first_refusal (numbers (f i)) ≡ g i) → first_refusal (numbers (joined f l)) ≡ first_of g l
unfolding first_refusal joined first_of
parts-joined f g [] h = refl
parts-joined f g (i ∷ l) h = parts-append (f i) (joined f l) ∙ rw (h i, parts-joined f g l h)

pub parts-mapped : (f : ℕ → Part) (l : List ℕ) → first_refusal (numbers (map f l)) ≡ first_of (λ i. (f i).number) l
unfolding first_refusal first_of
parts-mapped f [] = refl
parts-mapped f (i ∷ l) = ap (λ (n : ℕ). (f i).number then n) (parts-mapped f l)

-- ---- tests in a row: each with the same number

pub unless-both : (n : ℕ) (a b : Bool) → (n unless (a && b)) ≡ (n unless a then n unless b)
unless-both zero true b = refl
unless-both zero false true = refl
unless-both zero false false = refl
unless-both (suc n) true b = refl
unless-both (suc n) false b = refl

pub unless-all : (n : ℕ) (p : ℕ → Bool) (l : List ℕ) → (n unless all p l) ≡ first_of (λ i. n unless p i) l
unfolding all first_of
unless-all n p [] = refl
unless-all n p (i ∷ l) = unless-both n (p i) (all p l) ∙ ap (λ (k : ℕ). n unless p i then k) (unless-all n p l)

pub unless-below : (n : ℕ) (p : ℕ → Bool) (k : ℕ) → (n unless all_below p k) ≡ first_of (λ i. n unless p i) (run 0 k)
unfolding all_below run first_of
unless-below n p zero = refl
unless-below n p (suc k) =
    let same : 0 + k ≡ k = omega arith in
    rw same
    (unless-both n (all_below p k) (p k) ∙ ap (λ (j : ℕ). j then n unless p k) (unless-below n p k) ∙ sym (first_of-snoc (λ i. n unless p i) (run 0 k) k))

-- ---- the first stop

pub passed-number : (n : ℕ) (here later : Stop) → here.number ≡ n → (unless_passed n here later).number ≡ (n then later.number)
passed-number zero here later e = refl
passed-number (suc n) here later e = e

-- where a row passes, what follows is told
pub row-passed : (k : ℕ) (l : List Part) (later : Stop) → first_refusal (numbers l) ≡ 0 → first_part k l later ≡ later
unfolding first_part first_refusal
row-passed k [] later z = refl
row-passed k (p ∷ l) later z =
    let both = then-zero p.number (first_refusal (numbers l)) z in
    ap (λ (n : ℕ). unless_passed n (stop_at k p) (first_part k l later)) both.0 ∙ row-passed k l later both.1

-- ---- the first in the order of the tests

-- the part of this number among those of a row: those before it pass
pub record At (k : ℕ) (l : List Part) (s : Stop) : Type 0 where
  pub before : List Part
  pub here : Part
  pub behind : List Part
  pub parts : l ≡ before ++ (here ∷ behind)
  pub passed : first_refusal (numbers before) ≡ 0
  pub stop : s ≡ stop_at k here

-- a row that refuses stops at its first part that does
pub row-stops : (k : ℕ) (l : List Part) (later : Stop) (n : ℕ) → first_refusal (numbers l) ≡ suc n → At k l (first_part k l later)
unfolding first_refusal first_part
row-stops k [] later n z = absurd (omega arith)
row-stops k (p ∷ l) later n z = by p.number refl z (row-stops k l later n)
  where
    by : (j : ℕ) → p.number ≡ j → (j then first_refusal (numbers l)) ≡ suc n → (first_refusal (numbers l) ≡ suc n → At k l (first_part k l later)) → At k (p ∷ l) (first_part k (p ∷ l) later)
    by zero e q again =
        let rest = again q in
        record {
          before = p ∷ rest.before;
          here = rest.here;
          behind = rest.behind;
          parts = ap (λ (r : List Part). p ∷ r) rest.parts;
          passed = ap (λ (i : ℕ). i then first_refusal (numbers rest.before)) e ∙ rest.passed;
          stop = ap (λ (i : ℕ). unless_passed i (stop_at k p) (first_part k l later)) e ∙ rest.stop;
        }
    by (suc j) e q again = record { before = []; here = p; behind = l; parts = refl; passed = refl; stop = ap (λ (i : ℕ). unless_passed i (stop_at k p) (first_part k l later)) e }

-- the row of the stop is one of the rows, those before it pass, and it is stopped at the first of its parts that refuses
pub record Stopped (l : List Row) (s : Stop) : Type 0 where
  pub before : List Row
  pub here : Row
  pub behind : List Row
  pub rows : l ≡ before ++ (here ∷ behind)
  pub passed : first_refusal (map refusal_of before) ≡ 0
  pub at : At here.row here.parts s
