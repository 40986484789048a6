-- What is found of a loop, by what is there. Assumes nothing.
use Rattle.std.specs.Prelude.{ℕ, ◌≤◌, ◌≡◌, refl, Bool, true, false, not, cond, List, [], ◌∷◌, ◌++◌, eqb, length, take, Float}
use Rattle.std.proofs.Common.{sym, ap, ◌∙◌, append-nil, take_all}
use Rattle.std.proofs.Math.Option.{Option}
use Rattle.meaning.specs.Lists.{joined, rotated}
use Rattle.meaning.specs.Model.{Model, has, face, loop}
use Rattle.meaning.specs.Faults.{Finding, only_if, fault, CheckOptions, fin_findings, fin_geometry, opens, loop_findings}
use Rattle.memory_layout.specs.Decode.{decode}
use Rattle.memory_layout.specs.Entries.{list_of}
use Rattle.memory_records.specs.declared.records.Face.{Face}
use Rattle.memory_records.specs.declared.records.Loop.{Loop}
use Rattle.memory_records.specs.Seen.{seen_face, seen_loop}
use Rattle.check_reasons.specs.declared.Tally.{Tally}
use Rattle.check_reasons.specs.Log.{Noted}
use Rattle.check_reasons.specs.Laws.{noted-same}
use Rattle.check_ends.specs.Ends.{ref_of}
use Rattle.check_ends.specs.Laws.{ref_back}
use Rattle.check_fin.specs.Fin.{fin_on}
use Rattle.check_loop.specs.Loop.{options, fins_findings}

-- a face's surface
pub surface-told : (m : Model) (f : ℕ) (x : Face) → x ≡ seen_face (face m f) → ref_of x.surface ≡ (face m f).surface
unfolding seen_face
surface-told m f x h = ap (λ (y : Face). ref_of y.surface) h ∙ ref_back (face m f).surface

pub geometry-told : (m : Model) (n f : ℕ) (x : Face) (l : List ℕ) → x ≡ seen_face (face m f) → joined (fin_geometry m n f) l ≡ joined (fin_on m n (ref_of x.surface)) l
unfolding fin_geometry fin_on
geometry-told m n f x l h = ap (λ (o : Option ℕ). joined (fin_on m n o) l) (sym (surface-told m f x h))

-- ---- the fins of a loop

module _ (m : Model) (geometry : Bool) (n f l : ℕ) (fins : List ℕ) where
  pub fins-none : eqb (length fins) 0 ≡ true → fins_findings m (options geometry n) f l fins ≡ fault 12 l ∷ []
  unfolding fins_findings
  fins-none h = rw h

  pub fins-without : eqb (length fins) 0 ≡ false → geometry ≡ false → fins_findings m (options geometry n) f l fins ≡ joined (fin_findings m l) fins ++ opens m fins (rotated fins)
  unfolding fins_findings
  fins-without h g = rw (h, g) (append-nil (joined (fin_findings m l) fins ++ opens m fins (rotated fins)))

  pub fins-with : eqb (length fins) 0 ≡ false → geometry ≡ true
      → fins_findings m (options geometry n) f l fins ≡ (joined (fin_findings m l) fins ++ opens m fins (rotated fins)) ++ joined (fin_geometry m n f) fins
  unfolding fins_findings
  fins-with h g = rw (h, g)

  -- whether with or without geometry
  pub fins-some : eqb (length fins) 0 ≡ false
      → fins_findings m (options geometry n) f l fins ≡ (joined (fin_findings m l) fins ++ opens m fins (rotated fins)) ++ cond geometry (joined (fin_geometry m n f) fins) []
  unfolding fins_findings
  fins-some h = rw h

-- ---- a loop

module _ (m : Model) (o : CheckOptions) (f l : ℕ) where
  pub loop-missing : has m.loops l ≡ false → loop_findings m o f l ≡ fault 10 f ∷ []
  unfolding loop_findings
  loop-missing h = rw h

  pub loop-there : (x : Loop) (fins : List ℕ) → has m.loops l ≡ true → x ≡ seen_loop (loop m l) → fins ≡ (loop m l).fins
      → loop_findings m o f l ≡ only_if (not (eqb x.face f)) (fault 11 l) ++ fins_findings m o f l fins
  unfolding loop_findings fins_findings seen_loop
  loop-there x fins h p q = rw (h, q, p)

-- a loop's fins, by the list's number
pub loop-list : (room w : List ℕ) (x : List Float) (l : ℕ) → list_of room w 6 l ≡ (loop (decode room w x) l).fins
unfolding decode list_of
loop-list room w x l = refl

-- ---- a loop over all entries of a list, at its end

pub each-done : (f : ℕ → List Finding) (l : List ℕ) (k : ℕ) → length l ≤ k → {d e : List ℕ} {t u : Tally} → Noted (joined f (take k l)) d t e u → Noted (joined f l) d t e u
each-done f l k h p = noted-same (ap (joined f) (take_all k l h)) p
