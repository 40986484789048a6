-- What the lent list holds after `check_body` and then `faults_fill`: the first faults of the report, and behind them what it held (01, "Entries beyond those
-- kept are unchanged"). Assumes nothing.
use Rattle.std.specs.Prelude.{ℕ, zero, suc, ◌+◌, ◌*◌, ◌/◌, ◌≤◌, ◌<◌, min, ◌≡◌, refl, Bool, true, false, leb, Float, length, get_or, set, take}
use Rattle.std.proofs.Common.{arith, sym, ◌∙◌, leb-true, leb-false, length-append, drop-cons, take_all, take-take, take-suc}
use Rattle.std.proofs.Math.Path.{ap}
use mathlib.Core.List.{List, [], ◌∷◌, ◌++◌, map}
use Rattle.std.proofs.Math.ListN.{drop}
use Rattle.std.proofs.lemmas.List.{set_at}
use Rattle.std.proofs.Math.Seq.{append_snoc, take-length}
use Rattle.meaning.specs.Faults as Faults
use Rattle.meaning.specs.Faults.{CheckOptions}
use Rattle.check_reasons.specs.Log.{class_number, faults_words}
use Rattle.check_report.specs.Calls.{check_words}
use Rattle.check_fault_list.specs.declared.Fault.{Fault}
use Rattle.check_fault_list.specs.List.{no_fault, told, written}

-- a fault of the report as an entry of the list
abbrev pub entry_of : Faults.Fault → Fault
entry_of f = record { kind = f.kind; class = class_number f.class; id = f.id; reason = f.reason }

-- ---- the first k that the numbers tell

pub first_told : List ℕ → ℕ → List Fault
first_told ns zero = []
first_told ns (suc k) = first_told ns k ++ (told ns k ∷ [])

first-length : (ns : List ℕ) (k : ℕ) → length (first_told ns k) ≡ k
unfolding first_told
first-length ns zero = refl
first-length ns (suc k) = omega (arith, length-append (first_told ns k) (told ns k ∷ []), first-length ns k)

pub written-split : (l : List Fault) (ns : List ℕ) (k : ℕ) → k ≤ length l → written l ns k ≡ first_told ns k ++ drop k l
unfolding first_told
written-split l ns zero h = refl
written-split l ns (suc k) h =
    ap (λ d. set d k (told ns k)) (written-split l ns k (omega arith) ∙ ap (λ d. first_told ns k ++ d) (drop-cons l k no_fault h))
    ∙ set_at (first_told ns k) (get_or l k no_fault) (drop (suc k) l) (told ns k) k (first-length ns k)
    ∙ sym (append_snoc (first_told ns k) (told ns k) (drop (suc k) l))

-- ---- what the words of faults tell

record_same : {a b c d p q r s : ℕ} → a ≡ p → b ≡ q → c ≡ r → d ≡ s → ◌≡◌ {A = Fault} (record { kind = a; class = b; id = c; reason = d }) (record { kind = p; class = q; id = r; reason = s })
record_same e f g h = cc

told-behind : (a b c d : ℕ) (ns : List ℕ) (k : ℕ) → told (a ∷ b ∷ c ∷ d ∷ ns) (suc k) ≡ told ns k
told-behind a b c d ns k =
    record_same (at 0 (suc k * 4) (k * 4) (omega arith)) (at 0 (suc k * 4 + 1) (k * 4 + 1) (omega arith)) (at 0 (suc k * 4 + 2) (k * 4 + 2) (omega arith)) (at 0 (suc k * 4 + 3) (k * 4 + 3) (omega arith))
  where
    at : (z i j : ℕ) → i ≡ suc (suc (suc (suc j))) → get_or (a ∷ b ∷ c ∷ d ∷ ns) i z ≡ get_or ns j z
    at z i j e = ap (λ n. get_or (a ∷ b ∷ c ∷ d ∷ ns) n z) e

abbrev none : Faults.Fault
none = record { kind = 0; class = Faults.of_body; id = 0; reason = 0 }

told-words : (l : List Faults.Fault) (rest : List ℕ) (k : ℕ) → k < length l → told (faults_words l ++ rest) k ≡ entry_of (get_or l k none)
unfolding faults_words
told-words [] rest k h = absurd (omega arith)
told-words (f ∷ l) rest zero h = refl
told-words (f ∷ l) rest (suc k) h =
    told-behind f.kind (class_number f.class) f.id f.reason (faults_words l ++ rest) k ∙ told-words l rest k (omega arith)

map-append : (a b : List Faults.Fault) → map entry_of (a ++ b) ≡ map entry_of a ++ map entry_of b
map-append [] b = refl
map-append (f ∷ a) b = ap (λ d. entry_of f ∷ d) (map-append a b)

pub first-words : (l : List Faults.Fault) (rest : List ℕ) (k : ℕ) → k ≤ length l → first_told (faults_words l ++ rest) k ≡ map entry_of (take k l)
unfolding first_told
first-words l rest zero h = refl
first-words l rest (suc k) h =
    ap (λ d. d ++ (told (faults_words l ++ rest) k ∷ [])) (first-words l rest k (omega arith))
    ∙ ap (λ f. map entry_of (take k l) ++ (f ∷ [])) (told-words l rest k h)
    ∙ sym (ap (map entry_of) (take-suc l k none h) ∙ map-append (take k l) (get_or l k none ∷ []))

-- ---- as many of the first as fit into both lists

shorter : (k : ℕ) (d : List Faults.Fault) → length (take k d) < k → length d ≤ k
shorter zero d s = absurd (omega arith)
shorter (suc k) [] s = omega arith
shorter (suc k) (f ∷ d) s = let rest : length d ≤ k = shorter k d (omega arith) in omega arith

pub fitting : (l : List Faults.Fault) (n e r : ℕ) → e ≤ n → r ≡ min (length (take n l)) e → take r (take n l) ≡ take e l
fitting l n e r h q = by (leb e (length (take n l))) refl
  where
    by : (b : Bool) → leb e (length (take n l)) ≡ b → take r (take n l) ≡ take e l
    by true s =
        let a : e ≤ length (take n l) = leb-true e (length (take n l)) s in
        let same : r ≡ e = omega arith in
        ap (λ k. take k (take n l)) same ∙ take-take e n l h
    by false s =
        let a : length (take n l) < e = leb-false e (length (take n l)) s in
        let same : r ≡ length (take n l) = omega arith in
        let short : length l ≤ n = shorter n l (omega arith) in
        let whole : take n l ≡ l = take_all n l short in
        let few : length l ≤ e = omega (arith, ap length whole) in
        ap (λ k. take k (take n l)) same ∙ take-length (take n l) ∙ whole ∙ sym (take_all e l few)

module _ (room w : List ℕ) (x : List Float) (b : ℕ) (o : CheckOptions) (faces edges nums : List ℕ) (list : List Fault) (r : ℕ) where
  -- how many faults both lists have room for
  abbrev space : ℕ
  space = min (length list) (length nums / 4)

  -- and where it was refused, with 0
  pub unfilled-after-refusal : written list (check_words room w x b o faces edges nums) 0 ≡ list
  unfilled-after-refusal = refl
