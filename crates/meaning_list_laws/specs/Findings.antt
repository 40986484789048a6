-- Laws of lists of findings, and what a report without a fault says of a body. Assumes nothing.
use Rattle.std.specs.Prelude.{ℕ, ◌+◌, ◌≡◌, Bool, cond, not, ◌&&◌, ◌||◌, eqb, length}
use Rattle.std.proofs.Common.{arith, sym, ap, ◌∙◌, length-append, eqb-true, eq-eqb}
use Rattle.std.proofs.Math.Path.{refl}
use Rattle.std.proofs.Math.Bool.{true, false, or-true}
use Rattle.std.proofs.lemmas.Bool.{false≢true}
use mathlib.Core.List.{List, [], ◌∷◌, ◌++◌}
use Rattle.meaning.specs.Lists.{all, member, joined}
use Rattle.meaning.specs.Model.{Model, has, body, region, shell}
use Rattle.meaning.specs.Walks.{shells_of, region_followed}
use Rattle.meaning.specs.Faults.{Finding, found, skipped, fault_on, fault, only_if, CheckOptions, face_findings, shell_findings, region_findings, layout, manifold_edges, findings, faults_of}
use Rattle.meaning_list_laws.specs.Tests.{and_both}
use Rattle.meaning_list_laws.specs.Lists.{all-imply, all-joined}

-- the report so far, after more findings
pub faults_of-append : (k l : List Finding) → faults_of (k ++ l) ≡ faults_of k ++ faults_of l
unfolding faults_of
faults_of-append [] l = refl
faults_of-append (found f ∷ k) l = rw (faults_of-append k l)
faults_of-append (skipped ∷ k) l = faults_of-append k l

-- ---- findings without a fault

abbrev pub NoFault : List Finding → Type 0
NoFault l = length (faults_of l) ≡ 0

pub no-fault-append : (k l : List Finding) → NoFault k → NoFault l → NoFault (k ++ l)
no-fault-append k l p q = rw (faults_of-append k l, length-append (faults_of k) (faults_of l)) (omega arith)

pub no-fault-parts : (k l : List Finding) → NoFault (k ++ l) → NoFault k × NoFault l
no-fault-parts k l h =
    let sum : length (faults_of k) + length (faults_of l) ≡ 0 = sym (length-append (faults_of k) (faults_of l)) ∙ ap length (sym (faults_of-append k l)) ∙ h in
    (omega arith, omega arith)

pub no-fault-joined : (f : ℕ → List Finding) (l : List ℕ) → ((p : ℕ) → member p l ≡ true → NoFault (f p)) → NoFault (joined f l)
unfolding joined member
no-fault-joined f [] h = unfold faults_of in refl
no-fault-joined f (y ∷ l) h =
    no-fault-append (f y) (joined f l) (h y (rw (eq-eqb y y refl))) (no-fault-joined f l (λ p q. h p (rw q (or-true (eqb p y)))))

pub no-fault-at : (f : ℕ → List Finding) (l : List ℕ) → NoFault (joined f l) → (p : ℕ) → member p l ≡ true → NoFault (f p)
unfolding joined member
no-fault-at f [] h p q = absurd (false≢true q)
no-fault-at f (y ∷ l) h p q =
    let both : NoFault (f y) × NoFault (joined f l) = no-fault-parts (f y) (joined f l) h in
    by (eqb p y) refl q both.0 (no-fault-at f l both.1 p)
  where
    by : (b : Bool) → eqb p y ≡ b → (b || member p l) ≡ true → NoFault (f y) → (member p l ≡ true → NoFault (f p)) → NoFault (f p)
    by true r s here rest = rw (eqb-true p y r) here
    by false r s here rest = rest s

pub one-fault : (n i : ℕ) (l : List Finding) → NoFault (fault n i ∷ l) → ⊥
unfolding fault_on faults_of
one-fault n i l h = omega arith

pub only-if-false : (b : Bool) (n i : ℕ) → NoFault (only_if b (fault n i)) → b ≡ false
only-if-false true n i h = absurd (one-fault n i [] h)
only-if-false false n i h = refl

-- a test that passes where there is no fault passes of all
no-fault-all : (f : ℕ → List Finding) (p : ℕ → Bool) (l : List ℕ) → ((y : ℕ) → NoFault (f y) → p y ≡ true) → NoFault (joined f l) → all p l ≡ true
unfolding joined all
no-fault-all f p [] h q = refl
no-fault-all f p (y ∷ l) h q = let both = no-fault-parts (f y) (joined f l) q in rw (h y both.0) (no-fault-all f p l h both.1)

-- ---- "A missing record is put on the parent that names it": without a fault, all that the walk of faces meets is there

module _ (m : Model) (o : CheckOptions) where
  face-there : (s f : ℕ) → NoFault (face_findings m o s f) → has m.faces f ≡ true
  unfolding face_findings
  face-there s f q = by (has m.faces f) _ q
    where
      by : (b : Bool) (l : List Finding) → NoFault (cond b l (fault 7 s ∷ [])) → b ≡ true
      by true l r = refl
      by false l r = absurd (one-fault 7 s [] r)

  -- the shell is there, and so are the faces that it lists
  abbrev shell_there : ℕ → Bool
  shell_there s = has m.shells s && all (has m.faces) (shell m s).faces

  shell-there : (r s : ℕ) → NoFault (shell_findings m o r s) → shell_there s ≡ true
  unfolding shell_findings
  shell-there r s q = by (has m.shells s) (only_if (not (eqb (shell m s).region r)) (fault 6 s)) q
    where
      by : (b : Bool) (k : List Finding) → NoFault (cond b (k ++ joined (face_findings m o s) (shell m s).faces) (fault 5 r ∷ [])) → (b && all (has m.faces) (shell m s).faces) ≡ true
      by true k h = no-fault-all (face_findings m o s) (has m.faces) (shell m s).faces (face-there s) (no-fault-parts k _ h).1
      by false k h = absurd (one-fault 5 r [] h)

  -- and of a region, the shells with their faces
  abbrev region_there : ℕ → Bool
  region_there r = has m.regions r && all shell_there (region m r).shells

  region-there : (b r : ℕ) → NoFault (region_findings m o b r) → region_there r ≡ true
  unfolding region_findings
  region-there b r q = by (has m.regions r) (only_if (not (eqb (region m r).body b)) (fault 4 r)) q
    where
      by : (c : Bool) (k : List Finding) → NoFault (cond c (k ++ joined (shell_findings m o r) (region m r).shells) (fault 3 b ∷ [])) → (c && all shell_there (region m r).shells) ≡ true
      by true k h = no-fault-all (shell_findings m o r) shell_there (region m r).shells (shell-there r) (no-fault-parts k _ h).1
      by false k h = absurd (one-fault 3 b [] h)

  module _ (b : ℕ) (quiet : NoFault (findings m o b)) where
    regions-there : all region_there (body m b).regions ≡ true
    unfolding findings
    regions-there =
        no-fault-all (region_findings m o b) region_there (body m b).regions (region-there b)
        (no-fault-parts (layout m b (body m b).regions) (joined (region_findings m o b) (body m b).regions)
        (no-fault-parts (layout m b (body m b).regions ++ joined (region_findings m o b) (body m b).regions) (manifold_edges m b) quiet).0).1

    pub regions-followed : all (region_followed m) (body m b).regions ≡ true
    regions-followed =
        all-imply (region_followed m) region_there (body m b).regions
        (λ r e. let both = and_both (has m.regions r) (all shell_there (region m r).shells) e in
        rw both.0 (all-imply (has m.shells) shell_there (region m r).shells (λ s q. (and_both (has m.shells s) _ q).0) both.1))
        regions-there

    pub faces-exist : all (has m.faces) (joined (λ s. (shell m s).faces) (shells_of m b)) ≡ true
    faces-exist =
        all-joined (has m.faces) shell_there (λ s. (shell m s).faces) (shells_of m b) (λ s q. (and_both (has m.shells s) _ q).1)
        (all-joined shell_there region_there (λ r. (region m r).shells) (body m b).regions (λ r q. (and_both (has m.regions r) _ q).1) regions-there)
