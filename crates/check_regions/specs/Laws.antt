-- What is found of shells and regions, by what is there. Assumes nothing.
use Rattle.std.specs.Prelude.{ℕ, ◌≡◌, refl, Bool, true, false, not, ◌&&◌, List, [], ◌∷◌, ◌++◌, eqb, length, get_or, Float}
use Rattle.std.proofs.Common.{arith, sym, ap}
use Rattle.meaning.specs.Lists.{joined}
use Rattle.meaning.specs.Model.{Model, has, shell, region}
use Rattle.meaning.specs.Faults.{only_if, fault, CheckOptions, face_findings, shell_findings, region_findings, layout}
use Rattle.memory_layout.specs.Decode.{decode}
use Rattle.memory_layout.specs.Entries.{list_of}
use Rattle.memory_records.specs.declared.records.Shell.{Shell}
use Rattle.memory_records.specs.declared.records.Region.{Region}
use Rattle.memory_records.specs.Seen.{seen_shell, seen_region}

-- the lists, by their numbers
pub shell-list : (room w : List ℕ) (x : List Float) (s : ℕ) → list_of room w 2 s ≡ (shell (decode room w x) s).faces
unfolding decode list_of
shell-list room w x s = refl

pub region-list : (room w : List ℕ) (x : List Float) (r : ℕ) → list_of room w 1 r ≡ (region (decode room w x) r).shells
unfolding decode list_of
region-list room w x r = refl

module _ (m : Model) (o : CheckOptions) where
  pub shell-missing : (r s : ℕ) → has m.shells s ≡ false → shell_findings m o r s ≡ fault 5 r ∷ []
  unfolding shell_findings
  shell-missing r s h = rw h

  pub shell-there : (r s : ℕ) (x : Shell) (l : List ℕ) → has m.shells s ≡ true → x ≡ seen_shell (shell m s) → l ≡ (shell m s).faces
      → shell_findings m o r s ≡ only_if (not (eqb x.region r)) (fault 6 s) ++ joined (face_findings m o s) l
  unfolding shell_findings seen_shell
  shell-there r s x l h p q = rw (h, q, p)

  pub region-missing : (b r : ℕ) → has m.regions r ≡ false → region_findings m o b r ≡ fault 3 b ∷ []
  unfolding region_findings
  region-missing b r h = rw h

  pub region-there : (b r : ℕ) (x : Region) (l : List ℕ) → has m.regions r ≡ true → x ≡ seen_region (region m r) → l ≡ (region m r).shells
      → region_findings m o b r ≡ only_if (not (eqb x.body b)) (fault 4 r) ++ joined (shell_findings m o r) l
  unfolding region_findings seen_region
  region-there b r x l h p q = rw (h, q, p)

-- ---- the region layout

module _ (m : Model) (r : ℕ) where
  pub solid-not : has m.regions r ≡ false → false ≡ (has m.regions r && (region m r).solid)
  solid-not h = rw h

  pub solid-told : (x : Region) → has m.regions r ≡ true → x ≡ seen_region (region m r) → x.solid ≡ (has m.regions r && (region m r).solid)
  unfolding seen_region
  solid-told x h p = rw (h, p)

pub layout-none : (m : Model) (b : ℕ) (l : List ℕ) → length l ≡ 0 → layout m b l ≡ fault 1 b ∷ []
layout-none m b [] h = refl
layout-none m b (r ∷ l) h = absurd (omega arith)

pub layout-first : (m : Model) (b : ℕ) (l : List ℕ) (a : Bool) → (length l ≡ 0 → ⊥) → a ≡ (has m.regions (get_or l 0 0) && (region m (get_or l 0 0)).solid) → layout m b l ≡ only_if a (fault 2 b)
layout-first m b [] a h p = absurd (h refl)
layout-first m b (r ∷ l) a h p = ap (λ (c : Bool). only_if c (fault 2 b)) (sym p)
