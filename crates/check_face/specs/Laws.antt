-- What is found of a face, by what is there. Assumes nothing.
use Rattle.std.specs.Prelude.{ℕ, ◌≡◌, refl, Bool, true, false, cond, ◌||◌, Float}
use Rattle.std.proofs.Math.Path.{sym, ap}
use Rattle.std.proofs.Common.{◌∙◌}
use Rattle.std.proofs.Math.Bool.{not}
use mathlib.Core.List.{List, [], ◌∷◌, ◌++◌, append-nil}
use Rattle.std.proofs.Math.Option.{Option}
use Rattle.meaning.specs.Lists.{is_some, is, joined}
use Rattle.meaning.specs.Model.{Model, has, face}
use Rattle.meaning.specs.Faults.{only_if, fault, CheckOptions, loop_findings, checked_from, face_findings}
use Rattle.memory_layout.specs.Decode.{decode}
use Rattle.memory_layout.specs.Entries.{list_of}
use Rattle.memory_records.specs.declared.records.Face.{Face}
use Rattle.memory_records.specs.Seen.{seen_face}
use Rattle.check_ends.specs.Ends.{ref_of}
use Rattle.check_ends.specs.Laws.{ref_back}
use Rattle.check_loop.specs.Laws.{surface-told}
use Rattle.check_face.specs.Face.{inside_findings}

-- a face's loops, by the list's number
pub face-list : (room w : List ℕ) (x : List Float) (f : ℕ) → list_of room w 5 f ≡ (face (decode room w x) f).loops
unfolding decode list_of
face-list room w x f = refl

module _ (m : Model) (o : CheckOptions) (f : ℕ) (x : Face) (seen : x ≡ seen_face (face m f)) where
  -- its surface and loops
  pub inside-told : (b : Bool) (loops : List ℕ) → b ≡ not (is_some (ref_of x.surface)) → loops ≡ (face m f).loops → inside_findings m o f ≡ only_if b (fault 9 f) ++ joined (loop_findings m o f) loops
  unfolding inside_findings
  inside-told b loops p q =
      let r : not (is_some (face m f).surface) ≡ b = ap (λ (s : Option ℕ). not (is_some s)) (sym (surface-told m f x seen)) ∙ sym p in
      ap (λ (c : Bool). only_if c (fault 9 f) ++ joined (loop_findings m o f) (face m f).loops) r ∙ ap (λ (l : List ℕ). only_if b (fault 9 f) ++ joined (loop_findings m o f) l) (sym q)

  front-told : ref_of x.front ≡ (face m f).front
  unfolding seen_face
  front-told = ap (λ (y : Face). ref_of y.front) seen ∙ ref_back (face m f).front

  back-told : ref_of x.back ≡ (face m f).back
  unfolding seen_face
  back-told = ap (λ (y : Face). ref_of y.back) seen ∙ ref_back (face m f).back

  module _ (s : ℕ) (a b c : Bool) (there : has m.faces f ≡ true) (p : a ≡ is (ref_of x.front) s) (q : b ≡ is (ref_of x.back) s) where
    sided : (is (face m f).front s || is (face m f).back s) ≡ (a || b)
    sided =
        ap (λ (y : Option ℕ). is y s || is (face m f).back s) (sym front-told)
        ∙ ap (λ (y : Option ℕ). is (ref_of x.front) s || is y s) (sym back-told)
        ∙ ap (λ (y : Bool). y || is (ref_of x.back) s) (sym p)
        ∙ ap (λ (y : Bool). a || y) (sym q)

    split : face_findings m o s f ≡ only_if (not (a || b)) (fault 8 f) ++ cond (checked_from (face m f).front s) (inside_findings m o f) []
    unfolding face_findings inside_findings
    split = rw (there, sided)

    fronted : c ≡ checked_from (ref_of x.front) s → checked_from (face m f).front s ≡ c
    fronted r = ap (λ (y : Option ℕ). checked_from y s) (sym front-told) ∙ sym r

    -- from another shell, and from its own
    pub face-past : c ≡ checked_from (ref_of x.front) s → c ≡ false → face_findings m o s f ≡ only_if (not (a || b)) (fault 8 f)
    face-past r h =
        split
        ∙ ap (λ (y : Bool). only_if (not (a || b)) (fault 8 f) ++ cond y (inside_findings m o f) []) (fronted r ∙ h)
        ∙ append-nil (only_if (not (a || b)) (fault 8 f))

    pub face-checked : c ≡ checked_from (ref_of x.front) s → c ≡ true → face_findings m o s f ≡ only_if (not (a || b)) (fault 8 f) ++ inside_findings m o f
    face-checked r h = split ∙ ap (λ (y : Bool). only_if (not (a || b)) (fault 8 f) ++ cond y (inside_findings m o f) []) (fronted r ∙ h)

    -- before it is known which
    pub face-sides : face_findings m o s f ≡ only_if (not (a || b)) (fault 8 f) ++ cond (checked_from (face m f).front s) (inside_findings m o f) []
    face-sides = split

pub face-missing : (m : Model) (o : CheckOptions) (s f : ℕ) → has m.faces f ≡ false → face_findings m o s f ≡ fault 7 s ∷ []
unfolding face_findings
face-missing m o s f h = rw h
