-- Faces by their rules, off the lent words, are those of the model. Assumes nothing.
use Rattle.std.specs.Prelude.{ℕ, zero, suc, ◌+◌, ◌<◌, ◌≡◌, Bool, ◌&&◌, eqb, Float, length, get_or, take}
use Rattle.std.proofs.Common.{arith, add-one, ◌∙◌}
use Rattle.std.proofs.Math.Path.{refl, sym, ap}
use Rattle.std.proofs.Math.Bool.{true, false}
use mathlib.Core.List.{List, [], ◌∷◌}
use Rattle.std.specs.Float.{binary64}
use Rattle.std.specs.Float.Ieee.{of_bits}
use borrow.Author.Tests.{eq-eqb, ne_eqb}
use Rattle.geom_lines_planes.specs.Refuse.{◌unless◌, ◌then◌}
use Rattle.geom_carriers.specs.declared.Carrier.TheVariants as Carriers
use Rattle.geom_carriers.specs.Found.{Found}
use Rattle.std.specs.Prelude.{Some, None}
use Rattle.geom_carriers.specs.Queries.{the_plane, plane_refusal}
use Rattle.meaning.specs.Lists.{all, the, is_some}
use Rattle.meaning.specs.Model.{Model, has}
use Rattle.meaning.specs.Refuse.{first_of}
use Rattle.meaning.specs.Inquire.{start_of, rim}
use Rattle.meaning_list_laws.specs.Lists.{all_snoc}
use Rattle.meaning_list_laws.specs.Tests.{then-zero}
use Rattle.meaning_slabs.specs.Slabs.{standing, along_normal, one_loop, level_face, level, broken_fin, face_axis}
use Rattle.memory_layout.specs.Layout.{word}
use Rattle.memory_layout.specs.Decode.{maybe_at, decode}
use Rattle.memory_layout.specs.Entries.{list_of}
use Rattle.walk_marks.specs.Laws.{take_more}
use Rattle.inquire_fin_starts.specs.Starts.{start_number}
use Rattle.inquire_fin_starts.specs.Laws.{start-number}
use Rattle.inquire_sides.specs.Sides.{rim_of}
use Rattle.slab_faces.specs.Tested.{rim_tested, face_tested}

-- ---- the normal

-- where there is no plane, zeros
pub no-normal : (f : Found) (n : ℕ) → plane_refusal f ≡ suc n → record { x = of_bits binary64 0; y = of_bits binary64 0; z = of_bits binary64 0 } ≡ (the_plane f).normal
unfolding plane_refusal the_plane of_bits
no-normal None n e = refl
no-normal (Some (Carriers.Line l)) n e = refl
no-normal (Some (Carriers.Plane s)) n e = absurd (omega arith)
no-normal (Some Carriers.Other) n e = refl

pub id-none : (w : List ℕ) (at : ℕ) → word w at ≡ 0 → 0 ≡ the (maybe_at w at)
id-none w at e = rw (eq-eqb (word w at) 0 e)

pub id-some : (w : List ℕ) (at : ℕ) → (word w at ≡ 0 → ⊥) → word w (at + 1) ≡ the (maybe_at w at)
id-some w at e = rw (ne_eqb (word w at) 0 e) (ap (word w) (add-one at))

-- ---- the corners

-- one fin more
pub level-turn : (p : ℕ → Bool) (l : List ℕ) (k : ℕ) (ok b : Bool) → k < length l → ok ≡ all p (take k l) → b ≡ p (get_or l k 0) → (ok && b) ≡ all p (take (k + 1) l)
level-turn p l k ok b h e f = ap (λ t. t && b) e ∙ ap (λ t. all p (take k l) && t) f ∙ sym (ap (all p) (take_more l k 0 h) ∙ all_snoc p (take k l) (get_or l k 0))

module _ (room w : List ℕ) (x : List Float) where
  abbrev m : Model
  m = decode room w x

  -- "A missing vertex or end": the starts are there where none is refused
  stands : (i : ℕ) → (start_number room w i ≡ 0 → standing m (start_of m i) ≡ true) × ((start_number room w i ≡ 0 → ⊥) → standing m (start_of m i) ≡ false)
  stands i = by (is_some (start_of m i)) (has m.vertices (the (start_of m i))) (start-number room w x i)
    where
      by : (a b : Bool) → start_number room w i ≡ (7 unless a then 2 unless b) → (start_number room w i ≡ 0 → (a && b) ≡ true) × ((start_number room w i ≡ 0 → ⊥) → (a && b) ≡ false)
      by true true e = (λ h. refl, λ h. absurd (h e))
      by true false e = (λ h. absurd (omega arith), λ h. refl)
      by false b e = (λ h. absurd (omega arith), λ h. refl)

  all-stand : (l : List ℕ) → first_of (start_number room w) l ≡ 0 → all (λ i. standing m (start_of m i)) l ≡ true
  unfolding first_of all
  all-stand [] e = refl
  all-stand (i ∷ l) e = let both = then-zero (start_number room w i) (first_of (start_number room w) l) e in rw ((stands i).0 both.0) (all-stand l both.1)

  one-lacks : (l : List ℕ) → (first_of (start_number room w) l ≡ 0 → ⊥) → all (λ i. standing m (start_of m i)) l ≡ false
  unfolding first_of all
  one-lacks [] e = absurd (e refl)
  one-lacks (i ∷ l) e = by (start_number room w i) refl e (one-lacks l)
    where
      off : (b : Bool) → (b && false) ≡ false
      off true = refl
      off false = refl

      by : (n : ℕ) → start_number room w i ≡ n → ((n then first_of (start_number room w) l) ≡ 0 → ⊥) → ((first_of (start_number room w) l ≡ 0 → ⊥) → all (λ i. standing m (start_of m i)) l ≡ false) → (standing m (start_of m i) && all (λ i. standing m (start_of m i)) l) ≡ false
      by zero q h rest = rw (rest h) (off (standing m (start_of m i)))
      by (suc n) q h rest = rw ((stands i).1 (λ z. omega arith))

  module _ (f : ℕ) where
    rim-is : rim m f ≡ rim_of room w f
    unfolding decode rim_of list_of
    rim-is = refl

    pub face-lacks : (l : List ℕ) → l ≡ rim_of room w f → (first_of (start_number room w) l ≡ 0 → ⊥) → false ≡ level_face m f
    unfolding level_face
    face-lacks l e h = let q : all (λ i. standing m (start_of m i)) (rim m f) ≡ false = ap (all (λ i. standing m (start_of m i))) (rim-is ∙ sym e) ∙ one-lacks l h in rw q

    pub face-level : (l : List ℕ) (a : ℕ) (r : Bool) → l ≡ rim_of room w f → first_of (start_number room w) l ≡ 0 → a ≡ face_axis m f → r ≡ level m a l → r ≡ level_face m f
    unfolding level_face
    face-level l a r e h ea er =
        let q : all (λ i. standing m (start_of m i)) (rim m f) ≡ true = ap (all (λ i. standing m (start_of m i))) (rim-is ∙ sym e) ∙ all-stand l h in
        rw q (er ∙ ap (λ k. level m k l) ea ∙ ap (level m (face_axis m f)) (e ∙ sym rim-is))

    pub fin-tested : (rule n : ℕ) (l : List ℕ) → rule ≡ 3 → l ≡ rim_of room w f → n ≡ broken_fin m f → n ≡ rim_tested m rule f
    unfolding rim_tested
    fin-tested rule n l e q h = rw (eq-eqb rule 3 e) h

    pub rim-same : (l : List ℕ) → l ≡ rim_of room w f → l ≡ rim m f
    rim-same l e = e ∙ sym rim-is

    pub loops-are : one_loop m f ≡ eqb (length (list_of room w 5 f)) 1
    unfolding one_loop decode list_of
    loops-are = refl

-- ---- a face by its rule

module _ (m : Model) (rule f : ℕ) where
  pub level-tested : (rule ≡ 3 → ⊥) → (suc f unless level_face m f) ≡ rim_tested m rule f
  unfolding rim_tested
  level-tested e = rw (ne_eqb rule 3 e)

  pub normal-tested : rule ≡ 1 → (suc f unless along_normal m f) ≡ face_tested m rule f
  unfolding face_tested
  normal-tested e = rw (eq-eqb rule 1 e)

  pub loops-tested : (rule ≡ 1 → ⊥) → rule ≡ 2 → (suc f unless one_loop m f) ≡ face_tested m rule f
  unfolding face_tested
  loops-tested g e = rw (ne_eqb rule 1 g, eq-eqb rule 2 e)

  pub not-asked : (rule ≡ 1 → ⊥) → (rule ≡ 2 → ⊥) → one_loop m f ≡ false → 0 ≡ face_tested m rule f
  unfolding face_tested
  not-asked g e h = rw (ne_eqb rule 1 g, ne_eqb rule 2 e, h)

  pub one-asked : (rule ≡ 1 → ⊥) → (rule ≡ 2 → ⊥) → one_loop m f ≡ true → rim_tested m rule f ≡ face_tested m rule f
  unfolding face_tested
  one-asked g e h = rw (ne_eqb rule 1 g, ne_eqb rule 2 e, h)

pub level-none : (m : Model) (a : ℕ) (l : List ℕ) → length l ≡ 0 → true ≡ level m a l
unfolding level all
level-none m a [] h = refl
level-none m a (i ∷ l) h = absurd (omega arith)
