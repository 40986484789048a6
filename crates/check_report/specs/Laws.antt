-- The lent words of the checker, and its refusals. Assumes nothing.
use Prim.Native.Nat.{ℕ, zero, suc, ◌+◌, ◌*◌, ◌/◌, ◌≤◌, ◌<◌}
use Rattle.std.proofs.Common.{arith, div-add-mod', ◌∙◌, append_assoc, append-nil, take-append-drop, take_all, length-take-le}
use Rattle.std.proofs.Math.Path.{◌≡◌, refl, sym, ap}
use Rattle.std.specs.Prelude.{Bool, false, cond, ◌&&◌, List, [], ◌∷◌, ◌++◌, Float, get_or, set, take, drop}
use Rattle.std.proofs.Math.Bool.{true}
use Rattle.std.proofs.Math.Dec.{eqb, ltb, leb}
use Rattle.std.proofs.Math.ListN.{length}
use Rattle.std.proofs.lemmas.List.Edits.{sets}
use Rattle.std.proofs.Math.Seq.{take-nil}
use Rattle.std.proofs.lemmas.List.{drop-append-le}
use borrow.Author.Tests.{ltb-true, ltb-false, leb-true, leb-false, eqb-true, le-leb}
use Rattle.geom_lines_planes.specs.Refuse.{◌unless◌, ◌then◌, answer}
use Rattle.geom_lines_planes.specs.Laws.{Cases, Gives, read-value}
use Rattle.meaning.specs.Lists.{all, joined, firsts}
use Rattle.meaning.specs.Model.{Model, has, shell}
use Rattle.meaning.specs.Walks.{shells_of, face_walk, faces_refusal}
use Rattle.meaning.specs.Faults as Faults
use Rattle.meaning.specs.Faults.{Fault, Finding, found, skipped, faults_of, skipped_of, report_of, kept, counts, CheckOptions, findings, check_refusal, sawing, whole_solid, sawable}
use Rattle.meaning_list_laws.specs.Tests.{refused-answer, then-zero, unless-zero}
use Rattle.meaning_list_laws.specs.Findings.{NoFault, regions-followed, faces-exist}
use Rattle.memory_layout.specs.Layout.{word}
use Rattle.memory_layout.specs.Decode.{decode}
use Rattle.memory_layout.specs.Readable.{readable}
use Rattle.memory_layout.specs.Fit.{Lists}
use Rattle.memory_layout.specs.Laws.{fit_of, lists_of}
use Rattle.check_reasons.specs.declared.Tally.{Tally}
use Rattle.check_reasons.specs.Log.{fault_words, faults_words, FIRST, Log, log_of, more, noted, logged, Noted, Enough}
use Rattle.check_reasons.specs.Laws.{logs, logged-report, logged-over}
use Rattle.walk_answers.specs.Calls.{reach, handed, in_front}
use Rattle.walk_answers.specs.Decoded.{refused_by}
use Rattle.walk_answers.specs.Laws.{all-firsts-same, face-list, faces-refusal}
use Rattle.walk_paths.specs.Paths.{face_path, face_list, body_followed, faces_there, Faced}
use Rattle.walk_paths.specs.Laws.{shelled-of, faced-of}
use Rattle.walk_visits.specs.Visits.{ids_of}
use Rattle.check_refusals.specs.Facts.{ask_refusal}
use Rattle.check_findings.specs.Findings.{nothing_yet}
use Rattle.station_answers.specs.declared.Counts.{Counts}
use Rattle.station_answers.specs.declared.Checked.{Checked}
use Rattle.station_answers.specs.declared.Checked.TheVariants as Checks
use Rattle.station_answers.specs.declared.Sawable.TheVariants as Saws
use Rattle.check_report.specs.Calls.{asked, seen_counts, first_of, told, report_on, check_number, check_answer, check_words, first_answer, fit_answer}
use Rattle.check_report.specs.declared.FirstFault.{FirstFault}
use Rattle.check_report.specs.declared.FirstFault.TheVariants as Firsts
use Rattle.check_report.specs.Up.{through_first, report_from, report_up, answer_up, words_up}
use Rattle.meaning_list_laws.specs.Lists.{drop-end, all_firsts}

-- ---- entries put from the front on, as far as the list goes

sets-none : (i : ℕ) (l : List ℕ) → sets [] i l ≡ []
sets-none i [] = refl
sets-none i (y ∷ l) = sets-none (suc i) l

sets_behind : (x : ℕ) (d : List ℕ) (i : ℕ) (l : List ℕ) → sets (x ∷ d) (suc i) l ≡ x ∷ sets d i l
sets_behind x d i [] = refl
sets_behind x d i (y ∷ l) = sets_behind x (set d i y) (suc i) l

sets-front : (d l : List ℕ) → sets d 0 l ≡ take (length d) l ++ drop (length l) d
sets-front d [] = sym (ap (λ a. a ++ d) (take-nil (length d)))
sets-front [] (y ∷ l) = sets-none 0 (y ∷ l)
sets-front (x ∷ d) (y ∷ l) = sets_behind y d 0 l ∙ ap (λ a. y ∷ a) (sets-front d l)

-- the words of the first faults
words-length : (l : List Fault) → length (faults_words l) ≡ 4 * length l
unfolding faults_words
words-length [] = refl
words-length (f ∷ l) = omega (arith, words-length l)

words-first : (k : ℕ) (l : List Fault) → take (4 * k) (faults_words l) ≡ faults_words (take k l)
unfolding faults_words
words-first zero l = refl
words-first (suc k) [] = take-nil (4 * suc k)
words-first (suc k) (f ∷ l) =
    let e : 4 * suc k ≡ suc (suc (suc (suc (4 * k)))) = omega arith in
    ap (λ n. take n (fault_words f ++ faults_words l)) e ∙ ap (λ a. fault_words f ++ a) (words-first k l)

-- a list of which only a front part was lent
front_rest : (d l : List ℕ) (n : ℕ) → n ≤ length d → drop (length l) (take n d) ++ drop n d ≡ drop (length (take n l)) d
front_rest d l n h = by (leb (length l) n) refl
  where
    long : length (take n d) ≡ n
    long = length-take-le n d h

    by : (b : Bool) → leb (length l) n ≡ b → drop (length l) (take n d) ++ drop n d ≡ drop (length (take n l)) d
    by true e =
        let a : length l ≤ n = leb-true (length l) n e in
        let g : length l ≤ length (take n d) = omega (arith, long) in
        sym (drop-append-le (length l) (take n d) (drop n d) g)
        ∙ ap (drop (length l)) (take-append-drop n d)
        ∙ ap (λ i. drop i d) (ap length (sym (take_all n l a)))
    by false e =
        let a : n < length l = leb-false (length l) n e in
        let g : length (take n d) ≤ length l = omega (arith, long) in
        ap (λ r. r ++ drop n d) (drop-end (length l) (take n d) g) ∙ ap (λ i. drop i d) (sym (length-take-le n l (omega arith)))

pub front-put : (d l : List ℕ) (n : ℕ) → n ≤ length d → sets (take n d) 0 l ++ drop n d ≡ in_front (take n l) d
unfolding in_front
front-put d l n h =
    let long : length (take n d) ≡ n = length-take-le n d h in
    ap (λ a. a ++ drop n d) (sets-front (take n d) l ∙ ap (λ i. take i l ++ drop (length l) (take n d)) long)
    ∙ append_assoc (take n l) (drop (length l) (take n d)) (drop n d)
    ∙ ap (λ a. take n l ++ a) (front_rest d l n h)

-- how many of the first are kept
first-few : (n : ℕ) (a : List Fault) → cond (ltb (length a) n) (length a) n ≡ length (take n a)
first-few n a = by (ltb (length a) n) refl
  where
    by : (b : Bool) → ltb (length a) n ≡ b → cond (ltb (length a) n) (length a) n ≡ length (take n a)
    by true h = let q : length a < n = ltb-true (length a) n h in rw h (ap length (sym (take_all n a (omega arith))))
    by false h = rw h (sym (length-take-le n a (ltb-false (length a) n h)))

-- ---- what was logged on that part, from nothing

-- without a fault so far the next finding is logged
begun : (d : List ℕ) (u : ℕ) (x : Finding) → noted (log_of d (record { faults = 0; unchecked = u })) x ≡ more (log_of d (record { faults = 0; unchecked = u })) x
unfolding noted
begun d u x = by (leb FIRST u)
  where
    by : (b : Bool) → cond (b && false) (log_of d (record { faults = 0; unchecked = u })) (more (log_of d (record { faults = 0; unchecked = u })) x) ≡ more (log_of d (record { faults = 0; unchecked = u })) x
    by true = refl
    by false = refl

-- up to the first fault, whatever was unchecked before it
logged-first : (d : List ℕ) (u : ℕ) (l : List Finding) → FIRST ≤ u
    → logged (log_of d (record { faults = 0; unchecked = u })) l
    ≡ log_of (sets d 0 (faults_words (faults_of (through_first l)))) (record { faults = length (faults_of (through_first l)); unchecked = u + skipped_of (through_first l) })
unfolding logged faults_of skipped_of faults_words through_first
logged-first d u [] h = logs refl refl (omega arith)
logged-first d u (found f ∷ l) h =
    let g : Log = log_of (sets d 0 (fault_words f)) (record { faults = 1; unchecked = u }) in
    let stays : logged g l ≡ g = logged-over g l (rw (le-leb FIRST u h)) in
    ap (λ r. logged r l) (begun d u (found f)) ∙ stays ∙ logs (ap (sets d 0) (sym (append-nil (fault_words f)))) refl (omega arith)
logged-first d u (skipped ∷ l) h = ap (λ r. logged r l) (begun d u skipped) ∙ logged-first d (suc u) l (omega arith) ∙ logs refl refl (omega arith)

-- all that was logged, or what was logged up to the first fault
logged-up : (first : Bool) (d : List ℕ) (l : List Finding) → length l < FIRST
    → logged (log_of d (nothing_yet first)) l ≡ log_of (sets d 0 (faults_words (report_from first l).faults)) (record { faults = length (report_from first l).faults; unchecked = (report_from first l).unchecked })
unfolding report_of
logged-up true d l h = logged-first d FIRST l (omega arith)
logged-up false d l h = logged-report d 0 0 l (omega arith) ∙ logs refl (omega arith) (omega arith)

module _ (d e : List ℕ) (k : ℕ) (first : Bool) (l : List Finding) (t r : Tally) (start : t ≡ nothing_yet first) (few : Enough t l) (p : Noted l (take (4 * k) d) t e r) where
  logged-is : log_of e r ≡ log_of (sets (take (4 * k) d) 0 (faults_words (report_from first l).faults)) (record { faults = length (report_from first l).faults; unchecked = (report_from first l).unchecked })
  logged-is = p.log ∙ ap (λ u. logged (log_of (take (4 * k) d) u) l) start ∙ logged-up first (take (4 * k) d) l (omega (arith, few.faults))

  pub words-kept : 4 * k ≤ length d → e ++ drop (4 * k) d ≡ in_front (faults_words (kept k (report_from first l))) d
  words-kept h =
      ap (λ (g : Log). g.list ++ drop (4 * k) d) logged-is
      ∙ front-put d (faults_words (report_from first l).faults) (4 * k) h
      ∙ ap (λ a. in_front a d) (words-first k (report_from first l).faults)

  faults-told : r.faults ≡ length (report_from first l).faults
  faults-told = ap (λ (g : Log). g.tally.faults) logged-is

  unchecked-told : r.unchecked ≡ (report_from first l).unchecked
  unchecked-told = ap (λ (g : Log). g.tally.unchecked) logged-is

  pub counts-told : (s : ℕ) → s ≡ cond (ltb r.faults k) r.faults k → ◌≡◌ {A = Counts} (record { faults = r.faults; kept = s; unchecked = r.unchecked }) (seen_counts (counts k (report_from first l)))
  counts-told s q =
      let short : s ≡ length (take k (report_from first l).faults) = q ∙ ap (λ i. cond (ltb i k) i k) faults-told ∙ first-few k (report_from first l).faults in
      cc (faults-told, unchecked-told, short)

pub quarter : (n : ℕ) → 4 * (n / 4) ≤ n
quarter n = omega (arith, div-add-mod' n 4)

-- ---- the first fault

first-faults : (l : List Finding) → faults_of (through_first l) ≡ take 1 (faults_of l)
unfolding faults_of through_first
first-faults [] = refl
first-faults (found f ∷ l) = refl
first-faults (skipped ∷ l) = first-faults l

first-twice : (l : List Fault) → take 1 (take 1 l) ≡ take 1 l
first-twice [] = refl
first-twice (f ∷ l) = refl

pub first-none : (l : List Fault) (n : ℕ) → n ≡ 0 → n ≡ length (take 1 l) → Firsts.None ≡ told (first_of l)
first-none [] n z e = refl
first-none (f ∷ l) n z e = absurd (omega arith)

pub first-is : (l : List Fault) (n : ℕ) (d : List ℕ) → (n ≡ 0 → ⊥) → n ≡ length (take 1 l) → d ≡ in_front (faults_words (take 1 l)) (0 ∷ 0 ∷ 0 ∷ 0 ∷ [])
    → Firsts.Is (record { kind = get_or d 0 0; class = get_or d 1 0; id = get_or d 2 0; reason = get_or d 3 0 }) ≡ told (first_of l)
unfolding faults_words in_front
first-is [] n d z e h = absurd (z e)
first-is (f ∷ l) n d z e h = ap (λ (k : List ℕ). Firsts.Is (record { kind = get_or k 0 0; class = get_or k 1 0; id = get_or k 2 0; reason = get_or k 3 0 })) h

-- ---- the call

checked-cases : Cases Checks.Is Checks.Refused
checked-cases = record { apart = λ b m e. cc; values = λ a b e. cc; numbers = λ m n e. cc }

module _ (room w : List ℕ) (x : List Float) (b : ℕ) where
  pub number-told : (geometry : Bool) (samples : ℕ) (faces edges : List ℕ)
      → refused_by (readable room w x) (reach room 3 faces && reach room 6 edges) (ask_refusal (decode room w x) samples b) ≡ check_number room w x b (asked geometry samples) faces edges
  unfolding refused_by check_number ask_refusal check_refusal
  number-told geometry samples faces edges = refl

  module _ (first : Bool) (o : CheckOptions) (faces edges nums : List ℕ) where
    pub answer-refused : (n : ℕ) → n ≡ check_number room w x b o faces edges → (n ≡ 0 → ⊥) → Checks.Refused n ≡ answer_up room w x b first o faces edges nums
    unfolding answer_up
    answer-refused n e h =
        refused-answer Checks.Is Checks.Refused n (seen_counts (counts (length nums / 4) (report_up room w x b first o))) h
        ∙ ap (λ k. answer Checks.Is Checks.Refused k (seen_counts (counts (length nums / 4) (report_up room w x b first o)))) e

    pub words-refused : (n : ℕ) → n ≡ check_number room w x b o faces edges → (n ≡ 0 → ⊥) → nums ≡ words_up room w x b first o faces edges nums
    unfolding words_up
    words-refused n e h = by n h ∙ ap (λ k. in_front (handed k (faults_words (kept (length nums / 4) (report_up room w x b first o)))) nums) e
      where
        by : (k : ℕ) → (k ≡ 0 → ⊥) → nums ≡ in_front (handed k (faults_words (kept (length nums / 4) (report_up room w x b first o)))) nums
        by zero q = absurd (q refl)
        by (suc k) q = unfold in_front handed in refl

    pub answer-given : (c : Counts) → 0 ≡ check_number room w x b o faces edges → c ≡ seen_counts (counts (length nums / 4) (report_up room w x b first o)) → Checks.Is c ≡ answer_up room w x b first o faces edges nums
    unfolding answer_up
    answer-given c e h = ap Checks.Is h ∙ ap (λ k. answer Checks.Is Checks.Refused k (seen_counts (counts (length nums / 4) (report_up room w x b first o)))) e

    pub words-given : (d : List ℕ) → 0 ≡ check_number room w x b o faces edges → d ≡ in_front (faults_words (kept (length nums / 4) (report_up room w x b first o))) nums → d ≡ words_up room w x b first o faces edges nums
    unfolding words_up
    words-given d e h = h ∙ start ∙ ap (λ k. in_front (handed k (faults_words (kept (length nums / 4) (report_up room w x b first o)))) nums) e
      where
        start : in_front (faults_words (kept (length nums / 4) (report_up room w x b first o))) nums ≡ in_front (handed 0 (faults_words (kept (length nums / 4) (report_up room w x b first o)))) nums
        start = unfold handed in refl

  -- all of it is the report
  module _ (o : CheckOptions) (faces edges nums : List ℕ) where
    pub answer-all : answer_up room w x b false o faces edges nums ≡ check_answer room w x b o faces edges nums
    unfolding answer_up check_answer report_up report_on
    answer-all = refl

    pub words-all : words_up room w x b false o faces edges nums ≡ check_words room w x b o faces edges nums
    unfolding words_up check_words report_up report_on
    words-all = refl

  -- ---- the first fault, off a report that goes up to it

  module _ (o : CheckOptions) (faces edges : List ℕ) (r : Checked) (given : r ≡ answer_up room w x b true o faces edges (0 ∷ 0 ∷ 0 ∷ 0 ∷ [])) where
    abbrev every : List Finding
    every = findings (decode room w x) o b

    pub first-refused : (n : ℕ) → r ≡ Checks.Refused n → Firsts.Refused n ≡ first_answer room w x b o faces edges
    unfolding answer_up first_answer
    first-refused n e = by (check_number room w x b o faces edges) (sym given ∙ e)
      where
        by : (k : ℕ) → answer Checks.Is Checks.Refused k (seen_counts (counts 1 (report_up room w x b true o))) ≡ Checks.Refused n → Firsts.Refused n ≡ answer told Firsts.Refused k (first_of (report_on room w x b o).faults)
        by zero q = absurd (let z : ◌≡◌ {A = ℕ} 0 1 = cc in omega arith)
        by (suc k) q = let same : ◌≡◌ {A = ℕ} (suc k) n = cc in ap Firsts.Refused (sym same)

    pub first-given : (c : Counts) → r ≡ Checks.Is c → (d : List ℕ) → d ≡ words_up room w x b true o faces edges (0 ∷ 0 ∷ 0 ∷ 0 ∷ []) → (q : FirstFault)
        → ((l : List Fault) → c.faults ≡ length (take 1 l) → d ≡ in_front (faults_words (take 1 l)) (0 ∷ 0 ∷ 0 ∷ 0 ∷ []) → q ≡ told (first_of l))
        → q ≡ first_answer room w x b o faces edges
    unfolding answer_up words_up first_answer report_up report_on report_of handed
    first-given c e d h q made = by (check_number room w x b o faces edges) (sym given ∙ e) h
      where
        by : (k : ℕ) → answer Checks.Is Checks.Refused k (seen_counts (counts 1 (report_from true every))) ≡ Checks.Is c → d ≡ in_front (handed k (faults_words (take 1 (faults_of (through_first every))))) (0 ∷ 0 ∷ 0 ∷ 0 ∷ [])
            → q ≡ answer told Firsts.Refused k (first_of (faults_of every))
        by zero z g =
            let same : seen_counts (counts 1 (report_from true every)) ≡ c = cc in
            made (faults_of every) (ap (λ (y : Counts). y.faults) (sym same) ∙ ap length (first-faults every)) (g ∙ ap (λ a. in_front (faults_words a) (0 ∷ 0 ∷ 0 ∷ 0 ∷ [])) (ap (take 1) (first-faults every) ∙ first-twice (faults_of every)))
        by (suc k) z g = absurd (let u : ◌≡◌ {A = ℕ} 0 1 = cc in omega arith)

  -- ---- fit to saw, off the report

  module _ (faces edges : List ℕ) (r : Checked) (given : r ≡ check_answer room w x b sawing faces edges []) where
    pub fit_refused : (n : ℕ) → r ≡ Checks.Refused n → Saws.Refused n ≡ fit_answer room w x b faces edges
    unfolding check_answer fit_answer
    fit_refused n e = by (check_number room w x b sawing faces edges) (sym given ∙ e)
      where
        by : (k : ℕ) → answer Checks.Is Checks.Refused k (seen_counts (counts 0 (report_on room w x b sawing))) ≡ Checks.Refused n → Saws.Refused n ≡ answer Saws.Is Saws.Refused k (sawable (decode room w x) b)
        by zero q = absurd (let z : ◌≡◌ {A = ℕ} 0 1 = cc in omega arith)
        by (suc k) q = let same : suc k ≡ n = cc in ap Saws.Refused (sym same)

    pub fit-given : (c : Counts) → r ≡ Checks.Is c → (v : Bool) → v ≡ (eqb c.faults 0 && eqb c.unchecked 0 && whole_solid (decode room w x) b) → Saws.Is v ≡ fit_answer room w x b faces edges
    unfolding check_answer fit_answer
    fit-given c e v h = ap Saws.Is h ∙ by (check_number room w x b sawing faces edges) (sym given ∙ e)
      where
        valid : Saws.Is (eqb (seen_counts (counts 0 (report_on room w x b sawing))).faults 0 && eqb (seen_counts (counts 0 (report_on room w x b sawing))).unchecked 0 && whole_solid (decode room w x) b) ≡ Saws.Is (sawable (decode room w x) b)
        valid = unfold report_on sawable in refl

        by : (k : ℕ) → answer Checks.Is Checks.Refused k (seen_counts (counts 0 (report_on room w x b sawing))) ≡ Checks.Is c → Saws.Is (eqb c.faults 0 && eqb c.unchecked 0 && whole_solid (decode room w x) b) ≡ answer Saws.Is Saws.Refused k (sawable (decode room w x) b)
        by zero q = let same : seen_counts (counts 0 (report_on room w x b sawing)) ≡ c = cc in ap (λ (y : Counts). Saws.Is (eqb y.faults 0 && eqb y.unchecked 0 && whole_solid (decode room w x) b)) (sym same) ∙ valid
        by (suc k) q = absurd (let z : ◌≡◌ {A = ℕ} 0 1 = cc in omega arith)

    -- a report without a fault: what the walk of faces meets is there
    module _ (c : Counts) (e : r ≡ Checks.Is c) (none : eqb c.faults 0 ≡ true) where
      abbrev m : Model
      m = decode room w x

      read : Gives (check_number room w x b sawing faces edges) (seen_counts (counts 0 (report_on room w x b sawing))) c
      unfolding check_answer
      read = read-value checked-cases _ _ c (sym given ∙ e)

      tests : (readable room w x ≡ true) × (has m.bodies b ≡ true)
      unfolding check_number check_refusal
      tests =
          let a = then-zero (9 unless readable room w x) _ read.number in
          let d = then-zero (8 unless reach room 3 faces && reach room 6 edges) _ a.1 in
          (unless-zero 8 (readable room w x) a.0, unless-zero 1 (has m.bodies b) (then-zero (1 unless leb 3 255) _ d.1).1)

      quiet : NoFault (findings m sawing b)
      unfolding report_on report_of
      quiet = ap (λ (y : Counts). y.faults) read.value ∙ eqb-true c.faults 0 none

      followed : body_followed room w b ≡ true
      unfolding faces_refusal
      followed = unless-zero 1 (body_followed room w b) (sym (faces-refusal room w x b) ∙ rw (tests.1, regions-followed m sawing b quiet))

      there : faces_there room w b ≡ true
      unfolding faces_there
      there =
          sym (all-firsts-same (λ f. ltb f (word w 3)) (ids_of room w (face_path room w b)))
          ∙ ap (all (λ f. ltb f (word w 3))) (sym walked)
          ∙ all_firsts (λ f. ltb f (word w 3)) (joined (λ s. (shell m s).faces) (shells_of m b)) exist
        where
          walked : firsts (joined (λ s. (shell m s).faces) (shells_of m b)) ≡ firsts (ids_of room w (face_path room w b))
          walked = unfold face_list face_walk in face-list room w x b

          exist : all (λ f. ltb f (word w 3)) (joined (λ s. (shell m s).faces) (shells_of m b)) ≡ true
          exist = unfold decode in faces-exist m sawing b quiet

      pub fit-faced : Lists room w × Faced room w b
      fit-faced =
          let fit = fit_of room w x tests.0 in
          (lists_of room w x fit, faced-of room w b (shelled-of room w b followed) there)
