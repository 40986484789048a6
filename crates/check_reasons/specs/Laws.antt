-- Laws of the log. Assumes nothing.
use Rattle.std.specs.Prelude.{ℕ, zero, suc, ◌+◌, ◌*◌, ◌≤◌, ◌<◌, ◌≡◌, refl, Bool, not, cond, ◌&&◌, eqb, leb, length, get_or, set, take, drop}
use native.Mathlib.Omega.{arith}
use Rattle.std.proofs.Common.{add-one, add-zero, sym, ap, ◌∙◌, subst, length-append, take-append-drop, take-suc, drop-cons}
use Rattle.std.proofs.Math.Bool.{true, false}
use mathlib.Core.List.{List, [], ◌∷◌, ◌++◌, map, append_assoc}
use Rattle.std.proofs.Math.Option.{Option, none, some}
use Rattle.std.proofs.lemmas.Bool.{lt-leb}
use Rattle.std.proofs.lemmas.List.Edits.{sets}
use Rattle.std.proofs.Math.Seq.{length-sets}
use Rattle.meaning.specs.Lists.{joined}
use Rattle.meaning.specs.Faults.{Class, of_body, of_region, of_shell, of_face, of_loop, of_fin, of_edge, of_vertex, class_or, reason_row, Finding, found, skipped, fault_on, about, only_if, faults_of, skipped_of}
use Rattle.meaning_list_laws.specs.Lists.{joined-cons, joined-append, joined_snoc}
use Rattle.check_reasons.specs.declared.Reason.{Reason}
use Rattle.check_reasons.specs.declared.Tally.{Tally}
use Rattle.check_reasons.specs.Log.{class_number, class_at, class_word, row_of, fault_words, faults_words, FIRST, over, Log, log_of, more, noted, logged, Noted, Enough}

-- an entry of a table that is made of another
pub map-nth : {A B : Type 0} (f : A → B) (l : List A) (k : ℕ) (d : A) (e : B) → k < length l → get_or (map f l) k e ≡ f (get_or l k d)
map-nth f [] k d e h = absurd (omega arith)
map-nth f (x ∷ l) zero d e h = refl
map-nth f (x ∷ l) (suc k) d e h = map-nth f l k d e (omega arith)

-- ---- a class in numbers

class_back : (n : ℕ) → n < 8 → class_number (class_at n) ≡ n
class_back zero h = refl
class_back (suc zero) h = refl
class_back (suc (suc zero)) h = refl
class_back (suc (suc (suc zero))) h = refl
class_back (suc (suc (suc (suc zero)))) h = refl
class_back (suc (suc (suc (suc (suc zero))))) h = refl
class_back (suc (suc (suc (suc (suc (suc zero)))))) h = refl
class_back (suc (suc (suc (suc (suc (suc (suc n))))))) h = omega arith

pub class-told : (o : Option Class) (n : ℕ) → n < 8 → cond (eqb (class_word o) 8) n (class_word o) ≡ class_number (class_or o (class_at n))
class-told none n h = sym (class_back n h)
class-told (some of_body) n h = refl
class-told (some of_region) n h = refl
class-told (some of_shell) n h = refl
class-told (some of_face) n h = refl
class-told (some of_loop) n h = refl
class-told (some of_fin) n h = refl
class-told (some of_edge) n h = refl
class-told (some of_vertex) n h = refl

-- ---- one finding

pub sets-four : (d a b c e : List ℕ) (at k x y z u : ℕ) → at ≡ 4 * k → a ≡ set d at x → b ≡ set a (at + 1) y → c ≡ set b (at + 2) z → e ≡ set c (at + 3) u
    → e ≡ sets d (4 * k) (x ∷ y ∷ z ∷ u ∷ [])
sets-four d a b c e at k x y z u h p q r s =
    let one : at + 1 ≡ suc (4 * k) = omega arith in
    let two : at + 2 ≡ suc (suc (4 * k)) = omega arith in
    let three : at + 3 ≡ suc (suc (suc (4 * k))) = omega arith in
    rw (s, r, q, p, three, two, one, h)

pub note-one : (d e : List ℕ) (t : Tally) (kind class n id asked : ℕ) → asked < 8 → kind ≡ (reason_row n).kind → class ≡ cond (eqb (class_word (reason_row n).class) 8) asked (class_word (reason_row n).class)
    → e ≡ sets d (4 * t.faults) (kind ∷ class ∷ id ∷ n ∷ []) → over t ≡ false
    → Noted (fault_on n (about (class_at asked) id) ∷ []) d t e (record { faults = t.faults + 1; unchecked = t.unchecked })
unfolding logged noted fault_on
note-one d e t kind class n id asked h p q s go =
    let same : e ≡ sets d (4 * t.faults) ((reason_row n).kind ∷ class_number (class_or (reason_row n).class (class_at asked)) ∷ id ∷ n ∷ []) =
    s ∙ ap (λ k. sets d (4 * t.faults) (k ∷ class ∷ id ∷ n ∷ [])) p ∙ ap (λ k. sets d (4 * t.faults) ((reason_row n).kind ∷ k ∷ id ∷ n ∷ [])) (q ∙ class-told (reason_row n).class asked h) in
    record {
      log = ap (λ l. log_of l (record { faults = t.faults + 1; unchecked = t.unchecked })) same ∙ rw (go, add-one) refl;
      long = ap length same ∙ simp length-sets;
    }

pub skip-one : (d : List ℕ) (t : Tally) → over t ≡ false → Noted (skipped ∷ []) d t d (record { faults = t.faults; unchecked = t.unchecked + 1 })
unfolding logged noted
skip-one d t go = record { log = rw (go, add-one) refl; long = refl }

-- ---- behind the first fault, where it is all that is asked for, nothing is logged

pub logged-over : (g : Log) (l : List Finding) → over g.tally ≡ true → logged g l ≡ g
unfolding logged noted
logged-over g [] e = refl
logged-over g (x ∷ l) e = ap (λ b. logged (cond b g (more g x)) l) e ∙ logged-over g l e

pub noted-over : (l : List Finding) (d : List ℕ) (t : Tally) → over t ≡ true → Noted l d t d t
noted-over l d t e = record { log = sym (logged-over (log_of d t) l e); long = refl }

-- ---- a fault where a test holds

pub only-true : (b : Bool) (x : Finding) → b ≡ true → only_if b x ≡ x ∷ []
only-true b x e = rw e

pub only-false : (b : Bool) (x : Finding) → b ≡ false → only_if b x ≡ []
only-false b x e = rw e

-- ---- one list of findings behind the other

logged-append : (g : Log) (a b : List Finding) → logged g (a ++ b) ≡ logged (logged g a) b
unfolding logged
logged-append g [] b = refl
logged-append g (x ∷ a) b = logged-append (noted g x) a b

pub noted-none : (d : List ℕ) (t : Tally) → Noted [] d t d t
unfolding logged
noted-none d t = record { log = refl; long = refl }

pub noted-then : {a b : List Finding} {d d₁ d₂ : List ℕ} {t t₁ t₂ : Tally} → Noted a d t d₁ t₁ → Noted b d₁ t₁ d₂ t₂ → Noted (a ++ b) d t d₂ t₂
noted-then {a} {b} {d} {d₁} {d₂} {t} {t₁} {t₂} p q =
    record { log = q.log ∙ ap (λ g. logged g b) p.log ∙ sym (logged-append (log_of d t) a b); long = q.long ∙ p.long }

pub noted-same : {a b : List Finding} {d e : List ℕ} {t u : Tally} → a ≡ b → Noted a d t e u → Noted b d t e u
noted-same {a} {b} {d} {e} {t} {u} h p = subst (λ (l : List Finding). Noted l d t e u) h p

-- ---- there are numbers

-- a number of the tally that a finding raises by one at most
module _ (of : Tally → ℕ) (one : (g : Log) (x : Finding) → of (more g x).tally ≤ of g.tally + 1) where
  noted-raises : (g : Log) (x : Finding) → of (noted g x).tally ≤ of g.tally + 1
  unfolding noted
  noted-raises g x = by (over g.tally)
    where
      by : (b : Bool) → of (cond b g (more g x)).tally ≤ of g.tally + 1
      by true = omega arith
      by false = one g x

  logged-raises : (g : Log) (l : List Finding) → of (logged g l).tally ≤ of g.tally + length l
  unfolding logged
  logged-raises g [] = omega arith
  logged-raises g (x ∷ l) = omega (arith, logged-raises (noted g x) l, noted-raises g x)

  raises : {l : List Finding} {d d₁ : List ℕ} {t t₁ : Tally} → Noted l d t d₁ t₁ → of t₁ ≤ of t + length l
  raises {l} {d} {d₁} {t} {t₁} p = subst (λ (g : Log). of g.tally ≤ of t + length l) (sym p.log) (logged-raises (log_of d t) l)

one-fault : (g : Log) (x : Finding) → (more g x).tally.faults ≤ g.tally.faults + 1
one-fault g (found f) = omega arith
one-fault g skipped = omega arith

one-unchecked : (g : Log) (x : Finding) → (more g x).tally.unchecked ≤ g.tally.unchecked + 1
one-unchecked g (found f) = omega arith
one-unchecked g skipped = omega arith

pub enough-same : {a b : List Finding} {t : Tally} → a ≡ b → Enough t a → Enough t b
enough-same {a} {b} {t} h e = subst (λ (l : List Finding). Enough t l) h e

pub enough-first : (t : Tally) (a b : List Finding) → Enough t (a ++ b) → Enough t a
enough-first t a b e = record { faults = omega (arith, rw length-append at e.faults); unchecked = omega (arith, rw length-append at e.unchecked) }

pub enough-then : {a b : List Finding} {d d₁ : List ℕ} {t t₁ : Tally} → Enough t (a ++ b) → Noted a d t d₁ t₁ → Enough t₁ b
enough-then {a} {b} {d} {d₁} {t} {t₁} e p =
    record {
      faults = omega (arith, raises (λ r. r.faults) one-fault p, rw length-append at e.faults);
      unchecked = omega (arith, raises (λ r. r.unchecked) one-unchecked p, rw length-append at e.unchecked);
    }

-- ---- a turn of a loop over the entries of a list, each with its findings

module _ (f : ℕ → List Finding) (l : List ℕ) (k : ℕ) (h : k < length l) where
  taken : joined f (take (k + 1) l) ≡ joined f (take k l) ++ f (get_or l k 0)
  taken = ap (λ n. joined f (take n l)) (add-one k) ∙ ap (joined f) (take-suc l k 0 h) ∙ joined_snoc f (take k l) (get_or l k 0)

  pub noted-turn : {d d₁ d₂ : List ℕ} {t t₁ t₂ : Tally} → Noted (joined f (take k l)) d t d₁ t₁ → Noted (f (get_or l k 0)) d₁ t₁ d₂ t₂
      → Noted (joined f (take (k + 1) l)) d t d₂ t₂
  noted-turn p q = noted-same (sym taken) (noted-then p q)

  whole : joined f l ≡ joined f (take k l) ++ (f (get_or l k 0) ++ joined f (drop (suc k) l))
  whole =
      ap (joined f) (sym (take-append-drop k l) ∙ ap (λ r. take k l ++ r) (drop-cons l k 0 h))
      ∙ joined-append f (take k l) (get_or l k 0 ∷ drop (suc k) l)
      ∙ ap (λ r. joined f (take k l) ++ r) (joined-cons f (get_or l k 0) (drop (suc k) l))

  pub enough-turn : {d d₁ : List ℕ} {t t₁ : Tally} → Enough t (joined f l) → Noted (joined f (take k l)) d t d₁ t₁ → Enough t₁ (f (get_or l k 0))
  enough-turn {d} {d₁} {t} {t₁} e p =
      enough-first t₁ (f (get_or l k 0)) (joined f (drop (suc k) l)) (enough-then (subst (λ (r : List Finding). Enough t r) whole e) p)

-- ---- the whole log: the words of all faults as far as the list goes, the number of faults, and `unchecked`

sets-append : (d : List ℕ) (at n : ℕ) (k l : List ℕ) → n ≡ at + length k → sets d at (k ++ l) ≡ sets (sets d at k) n l
sets-append d at n [] l h = ap (λ i. sets d i l) (omega arith)
sets-append d at n (x ∷ k) l h = sets-append (set d at x) (suc at) n k l (omega arith)

abbrev tallied : ℕ → ℕ → Tally
tallied n u = record { faults = n; unchecked = u }

pub logs : {a b : List ℕ} {n m u v : ℕ} → a ≡ b → n ≡ m → u ≡ v → log_of a (tallied n u) ≡ log_of b (tallied m v)
logs p q r = cc

-- as long as the checks not made stay below FIRST, each finding is logged
all_asked : (d : List ℕ) (n u : ℕ) (x : Finding) → u < FIRST → noted (log_of d (tallied n u)) x ≡ more (log_of d (tallied n u)) x
unfolding noted
all_asked d n u x h = rw (lt-leb FIRST u h)

pub logged-report : (d : List ℕ) (n u : ℕ) (l : List Finding) → u + length l < FIRST
    → logged (log_of d (tallied n u)) l ≡ log_of (sets d (4 * n) (faults_words (faults_of l))) (tallied (n + length (faults_of l)) (u + skipped_of l))
unfolding logged faults_of skipped_of faults_words
logged-report d n u [] h = cc (add-zero n, add-zero u)
logged-report d n u (found f ∷ l) h =
    ap (λ g. logged g l) (all_asked d n u (found f) (omega arith))
    ∙ logged-report (sets d (4 * n) (fault_words f)) (suc n) u l (omega arith)
    ∙ logs (sym (sets-append d (4 * n) (4 * suc n) (fault_words f) (faults_words (faults_of l)) (omega arith))) (omega arith) refl
logged-report d n u (skipped ∷ l) h = ap (λ g. logged g l) (all_asked d n u skipped (omega arith)) ∙ logged-report d n (suc u) l (omega arith) ∙ logs refl refl (omega arith)
