-- The rules' numbers, judged one after the other, and what the code asks in their place. Assumes nothing.
use Prim.Native.Nat.{ℕ, zero, suc, ◌-◌}
use Rattle.std.proofs.Common.{arith, ◌∙◌}
use Rattle.std.specs.Prelude.{◌≡◌, false, cond, eqb, Float}
use Rattle.std.proofs.Math.Path.{refl, sym, ap}
use Rattle.std.proofs.Math.Bool.{true}
use mathlib.Core.List.{List, [], ◌∷◌}
use Rattle.std.proofs.Math.Dec.{ltb}
use borrow.Author.Tests.{eq-eqb, ne_eqb}
use Rattle.geom_lines_planes.specs.Refuse.{◌unless◌}
use Rattle.meaning.specs.Lists.{all, firsts}
use Rattle.meaning.specs.Model.{Model}
use Rattle.meaning.specs.Refuse.{first_of}
use Rattle.meaning.specs.Walks.{face_walk, edge_walk, vertex_walk}
use Rattle.meaning_slabs.specs.Slabs as Slabs
use Rattle.meaning_slabs.specs.Slabs.{broken, judged, verdict, rules, first_broken, broken_fin, along_normal, one_loop, along_axis, grid_vertex, level_face}
use Rattle.meaning_slab_laws.specs.Verdicts.{none-broken}
use Rattle.memory_layout.specs.Layout.{word}
use Rattle.memory_layout.specs.Decode.{decode}
use Rattle.walk_visits.specs.Visits.{ids_of}
use Rattle.walk_paths.specs.Paths.{edge_path, edge_list, vertex_path, Edged}
use Rattle.walk_answers.specs.Laws.{edge-list, vertex-list}
use Rattle.inquire_polyhedral.specs.Laws.{first-firsts, first-where}
use Rattle.slab_edges.specs.Tested.{id_tested}
use Rattle.slab_faces.specs.Tested.{rim_tested, face_tested}
use Rattle.slab_rules.specs.declared.Verdict.{Verdict}
use Rattle.slab_rules.specs.Judged.{judged_by, verdict_of}

-- ---- one rule more

module _ (v : Verdict) (rule n : ℕ) where
  pub judge-stays : (v.rule ≡ 0 → ⊥) → record { rule = v.rule; entity = v.entity } ≡ judged_by v rule n
  unfolding judged_by
  judge-stays h = rw (ne_eqb v.rule 0 h)

  pub judge-holds : v.rule ≡ 0 → n ≡ 0 → record { rule = 0; entity = v.entity } ≡ judged_by v rule n
  unfolding judged_by
  judge-holds h e = rw (eq-eqb v.rule 0 h, eq-eqb n 0 e)

  pub judge-names : v.rule ≡ 0 → (n ≡ 0 → ⊥) → record { rule = rule; entity = n - 1 } ≡ judged_by v rule n
  unfolding judged_by
  judge-names h e = rw (eq-eqb v.rule 0 h, ne_eqb n 0 e)

-- a row of rules from the k-th on, judged behind a verdict
abbrev behind : Verdict → ℕ → List ℕ → Slabs.Verdict
behind v k l = cond (eqb v.rule 0) (judged k l) (verdict_of v)

-- one of them more is its turn
step : (v : Verdict) (k n : ℕ) (l : List ℕ) → behind (judged_by v (suc k) n) (suc (suc k)) l ≡ behind v (suc k) (n ∷ l)
unfolding judged_by judged
step v k n l = by v.rule v.entity n
  where
    by : (r e n : ℕ) → behind (judged_by (record { rule = r; entity = e }) (suc k) n) (suc (suc k)) l ≡ behind (record { rule = r; entity = e }) (suc k) (n ∷ l)
    by zero e zero = refl
    by zero e (suc i) =
        let less : suc i - 1 ≡ i = omega arith in
        rw (ne_eqb (suc i) 0 (λ z. omega arith), ne_eqb (suc k) 0 (λ z. omega arith)) (ap (broken (suc k)) less)
    by (suc r) e n = let no : eqb (suc r) 0 ≡ false = ne_eqb (suc r) 0 (λ z. omega arith) in rw (no, no)

last : (v : Verdict) (k : ℕ) → behind v k [] ≡ verdict_of v
unfolding judged
last v k = by v.rule v.entity
  where
    by : (r e : ℕ) → behind (record { rule = r; entity = e }) k [] ≡ verdict_of (record { rule = r; entity = e })
    by zero e = refl
    by (suc r) e = rw (ne_eqb (suc r) 0 (λ z. omega arith))

-- six rules, one after the other
pub all-judged : (v₁ v₂ v₃ v₄ v₅ v₆ : Verdict) (a b c d e f : ℕ) → v₁ ≡ judged_by (record { rule = 0; entity = 0 }) 1 a → v₂ ≡ judged_by v₁ 2 b → v₃ ≡ judged_by v₂ 3 c → v₄ ≡ judged_by v₃ 4 d
    → v₅ ≡ judged_by v₄ 5 e → v₆ ≡ judged_by v₅ 6 f → verdict_of v₆ ≡ judged 1 (a ∷ b ∷ c ∷ d ∷ e ∷ f ∷ [])
all-judged v₁ v₂ v₃ v₄ v₅ v₆ a b c d e f e₁ e₂ e₃ e₄ e₅ e₆ =
    sym (last v₆ 7)
    ∙ ap (λ (v : Verdict). behind v 7 []) e₆ ∙ step v₅ 5 f []
    ∙ ap (λ (v : Verdict). behind v 6 (f ∷ [])) e₅ ∙ step v₄ 4 e (f ∷ [])
    ∙ ap (λ (v : Verdict). behind v 5 (e ∷ f ∷ [])) e₄ ∙ step v₃ 3 d (e ∷ f ∷ [])
    ∙ ap (λ (v : Verdict). behind v 4 (d ∷ e ∷ f ∷ [])) e₃ ∙ step v₂ 2 c (d ∷ e ∷ f ∷ [])
    ∙ ap (λ (v : Verdict). behind v 3 (c ∷ d ∷ e ∷ f ∷ [])) e₂ ∙ step v₁ 1 b (c ∷ d ∷ e ∷ f ∷ [])
    ∙ ap (λ (v : Verdict). behind v 2 (b ∷ c ∷ d ∷ e ∷ f ∷ [])) e₁ ∙ step (record { rule = 0; entity = 0 }) 0 a (b ∷ c ∷ d ∷ e ∷ f ∷ [])

-- ---- edges and vertices: a path's first is the walk's

module _ (room w : List ℕ) (x : List Float) (b : ℕ) where
  abbrev m : Model
  m = decode room w x

  pub edges-first : Edged room w b → first_of (id_tested m 4) (ids_of room w (edge_path room w b)) ≡ first_broken (along_axis m) (edge_walk m b)
  unfolding id_tested decode edge_list
  edges-first d =
      first-where (id_tested m 4) (λ e. suc e unless along_axis m e) (λ e. ltb e (word w 6)) (ids_of room w (edge_path room w b)) one d.edges
      ∙ sym (first-firsts (λ e. suc e unless along_axis m e) (ids_of room w (edge_path room w b)))
      ∙ ap (first_of (λ e. suc e unless along_axis m e)) (sym walk)
    where
      one : (e : ℕ) → ltb e (word w 6) ≡ true → id_tested m 4 e ≡ (suc e unless along_axis m e)
      one e h = rw h

      walk : edge_walk m b ≡ firsts (ids_of room w (edge_path room w b))
      walk = edge-list room w x b

  pub vertices-first : first_of (id_tested m 5) (ids_of room w (vertex_path room w b)) ≡ first_broken (grid_vertex m) (vertex_walk m b)
  unfolding id_tested
  vertices-first =
      same (ids_of room w (vertex_path room w b))
      ∙ sym (first-firsts (λ v. suc v unless grid_vertex m v) (ids_of room w (vertex_path room w b)))
      ∙ ap (first_of (λ v. suc v unless grid_vertex m v)) (sym (vertex-list room w x b))
    where
      same : (l : List ℕ) → first_of (id_tested m 5) l ≡ first_of (λ v. suc v unless grid_vertex m v) l
      same l = refl

-- ---- faces: where a face has not one loop, an earlier rule is broken

module _ (m : Model) (walk : List ℕ) where
  normals : first_of (face_tested m 1) walk ≡ first_broken (along_normal m) walk
  unfolding face_tested
  normals = refl

  loops : first_of (face_tested m 2) walk ≡ first_broken (one_loop m) walk
  unfolding face_tested
  loops = refl

  module _ (h : all (one_loop m) walk ≡ true) where
    fins : first_of (face_tested m 3) walk ≡ first_of (broken_fin m) walk
    unfolding face_tested rim_tested
    fins = first-where (face_tested m 3) (broken_fin m) (one_loop m) walk one h
      where
        one : (f : ℕ) → one_loop m f ≡ true → face_tested m 3 f ≡ broken_fin m f
        one f e = rw e

    levels : first_of (face_tested m 6) walk ≡ first_broken (level_face m) walk
    unfolding face_tested rim_tested
    levels = first-where (face_tested m 6) (λ f. suc f unless level_face m f) (one_loop m) walk one h
      where
        one : (f : ℕ) → one_loop m f ≡ true → face_tested m 6 f ≡ (suc f unless level_face m f)
        one f e = rw e

  -- the same verdict
  faces-judged : (d e : ℕ) → judged 1 (first_of (face_tested m 1) walk ∷ first_of (face_tested m 2) walk ∷ first_of (face_tested m 3) walk ∷ d ∷ e ∷ first_of (face_tested m 6) walk ∷ [])
      ≡ judged 1 (first_broken (along_normal m) walk ∷ first_broken (one_loop m) walk ∷ first_of (broken_fin m) walk ∷ d ∷ e ∷ first_broken (level_face m) walk ∷ [])
  unfolding judged
  faces-judged d e = rw (normals, loops) (by (first_broken (along_normal m) walk) (first_broken (one_loop m) walk) refl)
    where
      by : (p q : ℕ) → first_broken (one_loop m) walk ≡ q
          → judged 1 (p ∷ q ∷ first_of (face_tested m 3) walk ∷ d ∷ e ∷ first_of (face_tested m 6) walk ∷ []) ≡ judged 1 (p ∷ q ∷ first_of (broken_fin m) walk ∷ d ∷ e ∷ first_broken (level_face m) walk ∷ [])
      by (suc p) q r = refl
      by zero (suc q) r = refl
      by zero zero r = let h = none-broken (one_loop m) walk r in rw (fins h, levels h)

pub verdict-is : (m : Model) (b : ℕ) (r : Slabs.Verdict) (n₁ n₂ n₃ n₄ n₅ n₆ : ℕ) (list : List ℕ) → list ≡ face_walk m b → n₁ ≡ first_of (face_tested m 1) list → n₂ ≡ first_of (face_tested m 2) list → n₃ ≡ first_of (face_tested m 3) list
    → n₄ ≡ first_broken (along_axis m) (edge_walk m b) → n₅ ≡ first_broken (grid_vertex m) (vertex_walk m b) → n₆ ≡ first_of (face_tested m 6) list → r ≡ judged 1 (n₁ ∷ n₂ ∷ n₃ ∷ n₄ ∷ n₅ ∷ n₆ ∷ []) → r ≡ verdict m b
unfolding verdict rules
verdict-is m b r n₁ n₂ n₃ n₄ n₅ n₆ list el e₁ e₂ e₃ e₄ e₅ e₆ e =
    e
    ∙ ap (λ n. judged 1 (n ∷ n₂ ∷ n₃ ∷ n₄ ∷ n₅ ∷ n₆ ∷ [])) (e₁ ∙ ap (first_of (face_tested m 1)) el)
    ∙ ap (λ n. judged 1 (first_of (face_tested m 1) (face_walk m b) ∷ n ∷ n₃ ∷ n₄ ∷ n₅ ∷ n₆ ∷ [])) (e₂ ∙ ap (first_of (face_tested m 2)) el)
    ∙ ap (λ n. judged 1 (first_of (face_tested m 1) (face_walk m b) ∷ first_of (face_tested m 2) (face_walk m b) ∷ n ∷ n₄ ∷ n₅ ∷ n₆ ∷ [])) (e₃ ∙ ap (first_of (face_tested m 3)) el)
    ∙ ap (λ n. judged 1 (first_of (face_tested m 1) (face_walk m b) ∷ first_of (face_tested m 2) (face_walk m b) ∷ first_of (face_tested m 3) (face_walk m b) ∷ n₄ ∷ n₅ ∷ n ∷ [])) (e₆ ∙ ap (first_of (face_tested m 6)) el)
    ∙ ap (λ n. judged 1 (first_of (face_tested m 1) (face_walk m b) ∷ first_of (face_tested m 2) (face_walk m b) ∷ first_of (face_tested m 3) (face_walk m b) ∷ n ∷ n₅ ∷ first_of (face_tested m 6) (face_walk m b) ∷ [])) e₄
    ∙ ap (λ n. judged 1 (first_of (face_tested m 1) (face_walk m b) ∷ first_of (face_tested m 2) (face_walk m b) ∷ first_of (face_tested m 3) (face_walk m b) ∷ first_broken (along_axis m) (edge_walk m b) ∷ n ∷ first_of (face_tested m 6) (face_walk m b) ∷ [])) e₅
    ∙ faces-judged m (face_walk m b) (first_broken (along_axis m) (edge_walk m b)) (first_broken (grid_vertex m) (vertex_walk m b))
