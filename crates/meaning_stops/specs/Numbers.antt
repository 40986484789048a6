-- The rows are the calls' tests: of a split, row by row; of a body, in the calls' order. Assumes nothing.
use Prim.Native.Nat.{ℕ, zero, suc, ◌+◌}
use Rattle.std.specs.Prelude.{◌≡◌, true, false, cond, ◌&&◌}
use Rattle.std.proofs.Math.Path.{refl, sym, ap, ap₂}
use Rattle.std.proofs.Common.{◌∙◌}
use Rattle.std.proofs.Math.Bool.{Bool}
use mathlib.Core.List.{[], ◌∷◌, ◌++◌, map}
use Rattle.std.proofs.Math.Dec.{eqb, leb}
use Rattle.std.proofs.Math.ListN.{length}
use Rattle.std.specs.Float.Ieee.{Float, lt}
use Rattle.std.specs.Float.Ieee.Scale.{finite}
use Rattle.interval_arithmetic.specs.Ops.{zero_f}
use Rattle.geom_lines_planes.specs.Refuse.{◌unless◌, ◌then◌}
use Rattle.geom_lines_planes.specs.declared.surface.Plane.{Plane}
use Rattle.geom_carriers.specs.declared.Carrier.{Carrier}
use Rattle.geom_carriers.specs.declared.Carrier.TheVariants as Carriers
use Rattle.std.specs.Prelude.{Some, None}
use Rattle.geom_carriers.specs.Queries.{line_refusal, plane_refusal, the_plane}
use Rattle.geom_signs.specs.Signs.{span_s}
use Rattle.meaning.specs.Lists.{run, count, the, is_some}
use Rattle.meaning.specs.Floats.{float_of}
use Rattle.meaning.specs.Model.{Model, Limits, largest, Table, has, carrier_at, shell, face, loop, fin, edge, curve, surface}
use Rattle.meaning.specs.Refuse.{◌if◌, first_refusal}
use Rattle.meaning.specs.Split.{is_positive, lo, hi, parameter, start_point, end_point, split_point, apart, test1, test2, test3, test4, test5, test6, test7, test8, test9, test10, on_plane, test11-fin, test12, gain, edge_fits, loops_fit, shells_fit, test13}
use Rattle.meaning.specs.Faults.{of_shell, of_loop, of_fin, no_line, no_plane}
use Rattle.meaning_stops.specs.Stops.{this, nothing, part, numbers, refusal_of}
use Rattle.meaning_stops.specs.Splits.{row1, row2, row3, row3-fin, row4, row5, row6, row7, row8, row9, row10, row11-fin, row12, row13, row13-loops, row13-shells, bounds_stops}
use Rattle.meaning_stops.specs.Laws.{parts-append, parts-joined, parts-mapped, unless-both, unless-all, unless-below}

-- ---- carriers: "missing 2, not a line 7"; "missing 2; not a plane 7"

pub line-parts : (t : Table Carrier) (c : ℕ) (r : ℕ) → (2 unless has t c then 7 if no_line (carrier_at t c) then r) ≡ (line_refusal (carrier_at t c) then r)
unfolding carrier_at line_refusal
line-parts t c r = go (has t c) (t.slot c)
  where
    go : (h : Bool) (k : Carrier) → (2 unless h then 7 if no_line (cond h (Some k) None) then r) ≡ (line_refusal (cond h (Some k) None) then r)
    go false k = refl
    go true (Carriers.Line l) = refl
    go true (Carriers.Plane s) = refl
    go true Carriers.Other = refl

pub plane-parts : (t : Table Carrier) (s : ℕ) (r : ℕ) → (2 unless has t s then 7 if no_plane (carrier_at t s) then r) ≡ (plane_refusal (carrier_at t s) then r)
unfolding carrier_at plane_refusal
plane-parts t s r = go (has t s) (t.slot s)
  where
    go : (h : Bool) (k : Carrier) → (2 unless h then 7 if no_plane (cond h (Some k) None) then r) ≡ (plane_refusal (cond h (Some k) None) then r)
    go false k = refl
    go true (Carriers.Line l) = refl
    go true (Carriers.Plane p) = refl
    go true Carriers.Other = refl

-- ---- tests with one number

pub one : (n : ℕ) → (n then 0) ≡ n
one zero = refl
one (suc n) = refl

two : (n : ℕ) (a b : Bool) → (n unless a then n unless b then 0) ≡ (n unless (a && b))
two n a b = ap (λ (k : ℕ). n unless a then k) (one (n unless b)) ∙ sym (unless-both n a b)

three : (n : ℕ) (a b c : Bool) → (n unless a then n unless b then n unless c then 0) ≡ (n unless (a && b && c))
three zero a b c = zeros a b c
  where
    zeros : (a b c : Bool) → (0 unless a then 0 unless b then 0 unless c then 0) ≡ (0 unless (a && b && c))
    zeros true true true = refl
    zeros true true false = refl
    zeros true false true = refl
    zeros true false false = refl
    zeros false true true = refl
    zeros false true false = refl
    zeros false false true = refl
    zeros false false false = refl
three (suc n) true true true = refl
three (suc n) true true false = refl
three (suc n) true false c = refl
three (suc n) false b c = refl

-- ---- the thirteen rows

module _ (x : Limits) (m : Model) (e : ℕ) where
  fin-third : (i : ℕ) → first_refusal (numbers (row3-fin m e i)) ≡ (2 unless has m.fins i then 7 if (fin m i).pcurve)
  unfolding first_refusal
  fin-third i = ap (λ (n : ℕ). 2 unless has m.fins i then n) (one (7 if (fin m i).pcurve))

  pub third : first_refusal (numbers (row3 m e)) ≡ test3 m e
  third = parts-joined (row3-fin m e) (λ i. 2 unless has m.fins i then 7 if (fin m i).pcurve) (edge m e).fins fin-third

  pub fourth : first_refusal (numbers (row4 m e)) ≡ test4 m e
  unfolding first_refusal
  fourth = two 7 (is_some (edge m e).start) (is_some (edge m e).end)

  pub fifth : first_refusal (numbers (row5 m e)) ≡ test5 m e
  unfolding first_refusal
  fifth =
      let c : ℕ = the (edge m e).curve in
      ap (λ (n : ℕ). 1 unless is_some (edge m e).curve then n) (line-parts m.curves c 0 ∙ one (line_refusal (curve m c)))

  pub sixth : first_refusal (numbers (row6 m e)) ≡ test6 m e
  unfolding first_refusal
  sixth = ap (λ (n : ℕ). 2 unless has m.vertices (the (edge m e).start) then n) (one (2 unless has m.vertices (the (edge m e).end)))

  pub seventh : first_refusal (numbers (row7 m e)) ≡ test7 m e
  unfolding first_refusal
  seventh = one (test7 m e)

  pub eighth : first_refusal (numbers (row8 m e)) ≡ test8 m e
  unfolding first_refusal test8
  eighth = three 7 (finite (lo m e)) (finite (hi m e)) (is_positive (span_s (lo m e) (hi m e)))

  pub twelfth : first_refusal (numbers (row12 m e)) ≡ test12 m e
  unfolding test12
  twelfth =
      parts-mapped (λ s. part 1 (1 unless leb (count e (shell m s).wire_edges) 1) (this of_shell s) nothing) (run 0 m.shells.used)
      ∙ sym (unless-below 1 (λ s. leb (count e (shell m s).wire_edges) 1) m.shells.used)

  abbrev loop_fits : ℕ → Bool
  loop_fits i = leb (length (loop m (fin m i).owner).fins + gain m e (fin m i).owner) x.loop_fins

  abbrev shell_fits : ℕ → Bool
  shell_fits s = leb (length (shell m s).wire_edges + count e (shell m s).wire_edges) x.shell_wire_edges

  lists-fit : first_refusal (numbers (row13-loops x m e ++ row13-shells x m e)) ≡ (8 unless loops_fit x m e then 8 unless shells_fit x m e)
  lists-fit =
      parts-append (row13-loops x m e) (row13-shells x m e)
      ∙ ap₂ (λ (a b : ℕ). a then b)
      (parts-mapped (λ i. part 5 (8 unless loop_fits i) (this of_loop (fin m i).owner) (this of_fin i)) (edge m e).fins ∙ sym (unless-all 8 loop_fits (edge m e).fins))
      (parts-mapped (λ s. part 6 (8 unless shell_fits s) (this of_shell s) nothing) (run 0 m.shells.used) ∙ sym (unless-below 8 shell_fits m.shells.used))

  pub thirteenth : first_refusal (numbers (row13 x m e)) ≡ test13 x m e
  unfolding first_refusal test13
  thirteenth =
      ap (λ (n : ℕ). 8 unless a then 8 unless b then 8 unless c then 8 unless edge_fits x m e then n) lists-fit ∙ six a b c (edge_fits x m e) (loops_fit x m e) (shells_fit x m e)
    where
      a : Bool
      a = leb (m.fins.used + length (edge m e).fins) x.fins

      b : Bool
      b = leb (m.edges.used + 1) x.edges

      c : Bool
      c = leb (m.vertices.used + 1) x.vertices

      six : (a b c d f g : Bool) → (8 unless a then 8 unless b then 8 unless c then 8 unless d then 8 unless f then 8 unless g) ≡ (8 unless ((a && b && c) && d && f && g))
      six false b c d f g = refl
      six true false c d f g = refl
      six true true false d f g = refl
      six true true true false f g = refl
      six true true true true false g = refl
      six true true true true true g = refl

module _ (m : Model) (e : ℕ) (t : Float) where
  pub first : (asked : ℕ) → first_refusal (numbers (row1 asked t)) ≡ test1 t
  unfolding first_refusal
  first asked = three 1 (finite t) (lt zero_f t) (lt t (float_of 1))

  pub second : (asked : ℕ) → first_refusal (numbers (row2 m asked e)) ≡ test2 m e
  unfolding first_refusal
  second asked = one (2 unless has m.edges e)

  pub ninth : first_refusal (numbers (row9 m e t)) ≡ test9 m e t
  unfolding first_refusal
  ninth = one (test9 m e t)

  pub tenth : first_refusal (numbers (row10 m e t)) ≡ test10 m e t
  unfolding first_refusal test10
  tenth = ap (λ (n : ℕ). 4 unless apart m (split_point m e t) (start_point m e) then n) (one (4 unless apart m (split_point m e t) (end_point m e)))

  pub fin-eleventh : (i : ℕ) → first_refusal (numbers (row11-fin m e t i)) ≡ test11-fin m e t i
  unfolding first_refusal row11-fin test11-fin
  fin-eleventh i =
      let l : ℕ = (fin m i).owner in
      let f : ℕ = (loop m l).face in
      let s : ℕ = the (face m f).surface in
      let at : Float → ℕ = λ u. on_plane m e (the_plane (surface m s)) u in
      ap (λ (n : ℕ). 1 unless eqb (fin m i).edge e then 2 unless has m.loops l then 1 unless eqb (count i (loop m l).fins) 1 then 2 unless has m.faces f then 1 unless is_some (face m f).surface then n)
      (plane-parts m.surfaces s (at (lo m e) then at (hi m e) then at (parameter m e t) then 0)
      ∙ ap (λ (n : ℕ). plane_refusal (surface m s) then at (lo m e) then at (hi m e) then n) (one (at (parameter m e t))))

pub bounds-are-tests : (m : Model) (e : ℕ) → map refusal_of (bounds_stops m e) ≡ test2 m e ∷ test4 m e ∷ test5 m e ∷ test6 m e ∷ test7 m e ∷ test8 m e ∷ []
unfolding bounds_stops refusal_of
bounds-are-tests m e = rw (second m e zero_f e, fourth largest m e, fifth largest m e, sixth largest m e, seventh largest m e, eighth largest m e)
