-- Sides of which none is refused, part by part. Assumes nothing.
use Rattle.std.specs.Prelude.{ℕ, ◌+◌, ◌≤◌, ◌<◌, ◌≡◌, Bool, true, false, cond, length, get_or, take, drop, Float}
use Rattle.std.proofs.Common.{arith, ◌∙◌, take-append-drop}
use Rattle.std.proofs.Math.Path.{refl, sym, ap}
use mathlib.Core.List.{List, [], ◌∷◌, ◌++◌, map, map-append}
use Rattle.geom_lines_planes.specs.Refuse.{◌then◌}
use Rattle.meaning.specs.Lists.{joined}
use Rattle.meaning.specs.Model.{Model}
use Rattle.meaning.specs.Inquire.{Side, sides_of, side_refusal, sides_refusal}
use Rattle.meaning_list_laws.specs.Tests.{then-zero, then-assoc}
use Rattle.meaning_list_laws.specs.Lists.{joined-append}
use Rattle.memory_layout.specs.Layout.{word, words_of}
use Rattle.memory_layout.specs.Decode.{decode, flag_at}
use Rattle.memory_layout.specs.Entries.{list_of}
use Rattle.memory_layout.specs.Fit.{Lists}
use Rattle.memory_layout.proofs.Laws.{listed_le}
use Rattle.inquire_sides.specs.Sides.{side_number}
use Rattle.inquire_sides.specs.Laws.{side-number}
use Rattle.inquire_regions.specs.Regions.{region_sides, solid_shells}
use Rattle.inquire_regions.specs.Laws.{faces-turn, shells-turn, sides-list}
use Rattle.inquire_regions.proofs.Laws.{regions-turn}

-- ---- both parts

module _ (m : Model) where
  refusal-both : (k l : List Side) → sides_refusal m (k ++ l) ≡ (sides_refusal m k then sides_refusal m l)
  unfolding sides_refusal
  refusal-both [] l = refl
  refusal-both (s ∷ k) l = ap (λ n. side_refusal m s then n) (refusal-both k l) ∙ sym (then-assoc (side_refusal m s) (sides_refusal m k) (sides_refusal m l))

  first-none : (k l : List Side) → sides_refusal m (k ++ l) ≡ 0 → sides_refusal m k ≡ 0
  first-none k l e = (then-zero (sides_refusal m k) (sides_refusal m l) (sym (refusal-both k l) ∙ e)).0

  last_none : (k l : List Side) → sides_refusal m (k ++ l) ≡ 0 → sides_refusal m l ≡ 0
  last_none k l e = (then-zero (sides_refusal m k) (sides_refusal m l) (sym (refusal-both k l) ∙ e)).1

  alone-none : (s : Side) → sides_refusal m (s ∷ []) ≡ 0 → side_refusal m s ≡ 0
  unfolding sides_refusal
  alone-none s e = (then-zero (side_refusal m s) 0 e).0

  -- of the first n
  front-none : (f : ℕ → List Side) (l : List ℕ) (n : ℕ) → sides_refusal m (joined f l) ≡ 0 → sides_refusal m (joined f (take n l)) ≡ 0
  front-none f l n e =
      first-none (joined f (take n l)) (joined f (drop n l))
      (ap (sides_refusal m) (sym (joined-append f (take n l) (drop n l)) ∙ ap (joined f) (take-append-drop n l)) ∙ e)

  pub shell-none : (shells : List ℕ) (k : ℕ) → k < length shells → sides_refusal m (joined (sides_of m) shells) ≡ 0 → sides_refusal m (sides_of m (get_or shells k 0)) ≡ 0
  shell-none shells k h e =
      last_none (joined (sides_of m) (take k shells)) (sides_of m (get_or shells k 0))
      (ap (sides_refusal m) (shells-turn m [] shells k h) ∙ front-none (sides_of m) shells (k + 1) e)

module _ (room w : List ℕ) (x : List Float) where
  pub side-none : (s : ℕ) (faces : List ℕ) (k : ℕ) → k < length faces → faces ≡ list_of room w 2 s → sides_refusal (decode room w x) (sides_of (decode room w x) s) ≡ 0 → side_number room w s (get_or faces k 0) ≡ 0
  side-none s faces k h e z =
      side-number room w x s (get_or faces k 0)
      ∙ alone-none m (record { shell = s; face = get_or faces k 0 })
      (last_none m (map side (take k faces)) (side (get_or faces k 0) ∷ []) (ap (sides_refusal m) (faces-turn m [] s faces k h) ∙ first-none m (map side (take (k + 1) faces)) (map side (drop (k + 1) faces)) (ap (sides_refusal m) (parts faces (k + 1) ∙ ap (map side) e ∙ sides-list room w x s) ∙ z)))
    where
      m : Model
      m = decode room w x

      side : ℕ → Side
      side f = record { shell = s; face = f }

      parts : (l : List ℕ) (n : ℕ) → map side (take n l) ++ map side (drop n l) ≡ map side l
      parts l n = sym (map-append side (take n l) (drop n l)) ∙ ap (map side) (take-append-drop n l)

  pub region-none : (regions shells : List ℕ) (k : ℕ) → k < length regions → shells ≡ solid_shells room w (get_or regions k 0) → sides_refusal (decode room w x) (joined (region_sides (decode room w x)) regions) ≡ 0
      → sides_refusal (decode room w x) (joined (sides_of (decode room w x)) shells) ≡ 0
  region-none regions shells k h e z =
      last_none (decode room w x) (joined (region_sides (decode room w x)) (take k regions)) (joined (sides_of (decode room w x)) shells)
      (ap (sides_refusal (decode room w x)) (regions-turn room w x regions shells k h e) ∙ front-none (decode room w x) (region_sides (decode room w x)) regions (k + 1) z)

-- ---- how many

pub solid-few : (room w : List ℕ) (r : ℕ) → Lists room w → r < word w 1 → length (solid_shells room w r) ≤ 16
unfolding solid_shells
solid-few room w r l h = by (flag_at (words_of room w 1 r) 1)
  where
    by : (b : Bool) → length (cond b (list_of room w 1 r) []) ≤ 16
    by true = listed_le room w 1 r l (omega arith) h
    by false = omega arith
