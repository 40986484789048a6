-- The theorems of specs/Checked.antt that rest on those of specs/ that the edits of must-fail/ make fail. Assumes nothing.
use Prim.Native.Nat.{ℕ}
use Rattle.std.specs.Prelude.{◌≡◌, ◌||◌, length}
use Rattle.std.proofs.Math.Path.{refl, sym, ap, ap₂, fun_ext}
use Rattle.std.proofs.Common.{◌∙◌, eq-eqb}
use Rattle.std.proofs.Math.Bool.{Bool, not, cond}
use mathlib.Core.List.{List, [], ◌∷◌, ◌++◌, map}
use Rattle.std.proofs.Math.Dec.{eqb}
use Rattle.meaning.specs.Lists.{member, joined, rotated, is, is_some, the, same}
use Rattle.meaning.specs.Model.{Model, changed, has, body, region, shell, face, loop, surface}
use Rattle.meaning.specs.Faults.{Finding, found, fault, only_if, fin_geometry, CheckOptions, fin_findings, open_findings, loop_findings, checked_from, face_findings, shell_findings, region_findings, layout}
use Rattle.meaning_mends.specs.Mends.{Child, a_region, a_shell, a_loop, a_fin, met, loop_meetings, face_meetings, shell_meetings, region_meetings, meetings}
use Rattle.meaning_mends.specs.Laws.{Met}
use Rattle.meaning_mend_laws.specs.Terms.{linked, without, list_findings}
use Rattle.meaning_mend_laws.specs.Checked.{without-append, without-cond, gone, stays, stays-if, Other, other_none, other-joined, other-cond, other-geometry, other-opens, met_at, met-one, alike, n, same-geometry, same-opens, Right, fin-right, within, layout-right}

-- ---- the model with other pointers: all that is found of edges' ends, curves and surfaces is the same

module _ (m : Model) (u : Child → ℕ → ℕ) (a : ℕ → List ℕ) where
  module _ (o : CheckOptions) where
    fins-right : (f l : ℕ) (fins : List ℕ) → Met (Right m u a) (map (met a_fin l) fins) → within m u a o (n m u a) f l fins ≡ without (within m u a o m f l fins)
    fins-right f l fins h =
        ap₂ (λ (x y : List Finding). x ++ open_findings (n m u a) fins ++ y) (alike (fin_findings (n m u a) l) (fin_findings m l) fins (λ i q. fin-right m u a l i (met-one (Right m u a) (met a_fin l) fins h i q)))
        (ap (λ (g : ℕ → List Finding). cond o.geometry (joined g fins) []) (fun_ext (λ i. same-geometry m u a o.edge_samples f i)))
        ∙ ap (λ (y : List Finding). without each ++ y ++ shapes) (same-opens m u a fins (rotated fins))
        ∙ sym (without-append (each ++ open_findings m fins) shapes ∙ ap₂ ◌++◌ (without-append each (open_findings m fins) ∙ ap (λ (y : List Finding). without each ++ y) (other-opens m fins (rotated fins))) shaped)
      where
        each : List Finding
        each = joined (fin_findings m l) fins

        shapes : List Finding
        shapes = cond o.geometry (joined (fin_geometry m o.edge_samples f) fins) []

        shaped : Other shapes
        shaped = other-cond o.geometry (joined (fin_geometry m o.edge_samples f) fins) [] (other-joined (fin_geometry m o.edge_samples f) fins (λ i. other-geometry m o.edge_samples f i)) other_none

    loop-right : (f l : ℕ) → Met (Right m u a) (loop_meetings m f l) → loop_findings (n m u a) o f l ≡ without (loop_findings m o f l)
    unfolding loop_findings loop_meetings linked changed member
    loop-right f l h =
        ap₂ (λ (x : Bool) (y : List Finding). cond (has m.loops l) (only_if (not x) (fault 11 l) ++ cond none-there (fault 12 l ∷ []) y) (fault 10 f ∷ [])) (eq-eqb (u a_loop l) f h.0.0) (fins-right f l fins h.1)
        ∙ sym (without-cond (has m.loops l) _ (fault 10 f ∷ [])
        ∙ ap₂ (cond (has m.loops l))
        (gone 11 l (not (eqb (loop m l).face f)) _ refl ∙ without-cond none-there (fault 12 l ∷ []) (within m u a o m f l fins) ∙ ap (λ (y : List Finding). cond none-there y (without (within m u a o m f l fins))) (stays 12 _ refl))
        (stays 10 _ refl))
      where
        fins : List ℕ
        fins = (loop m l).fins

        none-there : Bool
        none-there = eqb (length fins) 0

    face-right : (s f : ℕ) → Met (Right m u a) (face_meetings m f) → face_findings (n m u a) o s f ≡ without (face_findings m o s f)
    unfolding face_findings face_meetings linked changed member
    face-right s f h =
        ap (λ (y : List Finding). cond (has m.faces f) (only_if (not sided) (fault 8 f) ++ cond from (only_if (not (is_some (face m f).surface)) (fault 9 f) ++ y) []) (fault 7 s ∷ []))
        (alike (loop_findings (n m u a) o f) (loop_findings m o f) (face m f).loops (λ l q. loop-right f l (met_at (Right m u a) (loop_meetings m f) (face m f).loops h l q)))
        ∙ sym (without-cond (has m.faces f) _ (fault 7 s ∷ [])
        ∙ ap₂ (cond (has m.faces f))
        (stays-if 8 f (not sided) _ refl ∙ ap (λ (y : List Finding). only_if (not sided) (fault 8 f) ++ y) (without-cond from _ [] ∙ ap₂ (cond from) (stays-if 9 f (not (is_some (face m f).surface)) _ refl) other_none))
        (stays 7 _ refl))
      where
        sided : Bool
        sided = is (face m f).front s || is (face m f).back s

        from : Bool
        from = checked_from (face m f).front s

    shell-right : (r s : ℕ) → Met (Right m u a) (shell_meetings m r s) → shell_findings (n m u a) o r s ≡ without (shell_findings m o r s)
    unfolding shell_findings shell_meetings linked changed member
    shell-right r s h =
        ap₂ (λ (x : Bool) (y : List Finding). cond (has m.shells s) (only_if (not x) (fault 6 s) ++ y) (fault 5 r ∷ [])) (eq-eqb (u a_shell s) r h.0.0)
        (alike (face_findings (n m u a) o s) (face_findings m o s) (shell m s).faces (λ f q. face-right s f (met_at (Right m u a) (face_meetings m) (shell m s).faces h.1 f q)))
        ∙ sym (without-cond (has m.shells s) _ (fault 5 r ∷ []) ∙ ap₂ (cond (has m.shells s)) (gone 6 s (not (eqb (shell m s).region r)) _ refl) (stays 5 _ refl))

    region-right : (b r : ℕ) → Met (Right m u a) (region_meetings m b r) → region_findings (n m u a) o b r ≡ without (region_findings m o b r)
    unfolding region_findings region_meetings linked changed member
    region-right b r h =
        ap₂ (λ (x : Bool) (y : List Finding). cond (has m.regions r) (only_if (not x) (fault 4 r) ++ y) (fault 3 b ∷ [])) (eq-eqb (u a_region r) b h.0.0)
        (alike (shell_findings (n m u a) o r) (shell_findings m o r) (region m r).shells (λ s q. shell-right r s (met_at (Right m u a) (shell_meetings m r) (region m r).shells h.1 s q)))
        ∙ sym (without-cond (has m.regions r) _ (fault 3 b ∷ []) ∙ ap₂ (cond (has m.regions r)) (gone 4 r (not (eqb (region m r).body b)) _ refl) (stays 3 _ refl))

    pub lists-right : (b : ℕ) → Met (Right m u a) (meetings m b) → list_findings (n m u a) o b ≡ without (list_findings m o b)
    unfolding meetings linked
    lists-right b h =
        ap₂ ◌++◌ (layout-right m u a o b (body m b).regions) (alike (region_findings (n m u a) o b) (region_findings m o b) (body m b).regions (λ r q. region-right b r (met_at (Right m u a) (region_meetings m b) (body m b).regions h r q)))
        ∙ sym (without-append (layout m b (body m b).regions) (joined (region_findings m o b) (body m b).regions))
