-- What the code tells of rows 9 to 11 is what `meaning_stops` has; and what is known where they pass. Assumes nothing.
use Prim.Native.Nat.{ℕ, ◌+◌, ◌<◌}
use Rattle.std.specs.Prelude.{◌≡◌, Bool, not, cond, ◌||◌, length, get_or, take, drop, Float}
use Rattle.std.proofs.Math.Path.{refl, sym, ap, ap₂}
use Rattle.std.proofs.Common.{◌∙◌, ltb-true}
use Rattle.std.proofs.Math.Bool.{true, false}
use mathlib.Core.List.{List, [], ◌∷◌, ◌++◌, append_assoc, append-nil}
use Rattle.std.proofs.Math.Option.{none, some}
use Rattle.std.proofs.Math.Dec.{eqb, ltb}
use Rattle.geom_lines_planes.specs.declared.surface.Plane.{Plane}
use Rattle.geom_lines_planes.specs.Refuse.{◌unless◌}
use Rattle.geom_lines_planes.specs.Laws.{Refuses}
use Rattle.geom_carriers.specs.declared.Carrier.{Carrier}
use Rattle.geom_carriers.specs.declared.Carrier.TheVariants as Carriers
use Rattle.std.specs.Prelude.{Some, None}
use Rattle.geom_carriers.specs.Queries.{plane_refusal, the_plane}
use Rattle.meaning.specs.Lists.{member, count, the, is_some}
use Rattle.meaning.specs.Model.{Model, largest, Table, has, carrier_at, edge, surface}
use Rattle.meaning.specs.Refuse.{◌if◌, first_refusal}
use Rattle.meaning.specs.Split.{lo, hi, parameter, split_point, test9, on_plane}
use Rattle.meaning.specs.Faults.{of_fin, of_edge, no_plane}
use Rattle.meaning_list_laws.specs.Tests.{or-false, unless-zero}
use Rattle.meaning_stops.specs.Stops.{this, nothing, Part, part, first_stop}
use Rattle.meaning_stops.specs.Splits.{row9, row10, row11, row11-fin, row11-fins, split_stops}
use Rattle.meaning_stops.proofs.Laws.{stop-number}
use Rattle.meaning_stops.proofs.Numbers.{rows-are-tests}
use Rattle.memory_layout.specs.Layout.{word, real, words_of}
use Rattle.memory_layout.specs.Decode.{decode}
use Rattle.memory_layout.specs.Entries.{list_of}
use Rattle.split_segment.specs.Segment.{segment_at}
use Rattle.split_fin_tests.specs.FinTests.{cut_at}
use Rattle.split_place.specs.SplitNumber.{place_row}
use Rattle.walk_marks.specs.Laws.{take_more}
use Rattle.split_stop_parts.specs.declared.Stop.{Stop}
use Rattle.split_stop_parts.specs.Told.{told, tell_at, first_told, row_told}
use Rattle.split_stop_parts.specs.Laws.{part-stops, first-assoc, first-zero, tell-number, chained, row_one, row-two, row_chained, row-append, rows-first, rows-one}
use Rattle.split_stop_place.specs.PlaceRows.{place_rows, point_told}
use Rattle.split_stop_place.specs.FinRows.{off_told, plane_told, surface_told, face_told, loop_told, use_told, fin_told}

no_member : (y : ℕ) → member y [] ≡ false
unfolding member
no_member y = refl

-- ---- a surface: "surface missing 2; not a plane 7"

-- behind the test that it is there, the number of the plane's own test is 7 or 0
plane-told : (t : Table Carrier) (s f : ℕ) (r : Stop)
    → first_told (tell_at 11 7 (2 unless has t s) 9 s 3 f) (first_told (tell_at 11 8 (7 if no_plane (carrier_at t s)) 9 s 3 f) r)
    ≡ first_told (tell_at 11 7 (2 unless has t s) 9 s 3 f) (first_told (tell_at 11 8 (plane_refusal (carrier_at t s)) 9 s 3 f) r)
unfolding carrier_at plane_refusal tell_at first_told
plane-told t s f r = go (has t s) (t.slot s)
  where
    go : (h : Bool) (k : Carrier)
        → first_told (tell_at 11 7 (2 unless h) 9 s 3 f) (first_told (tell_at 11 8 (7 if no_plane (cond h (Some k) None)) 9 s 3 f) r)
        ≡ first_told (tell_at 11 7 (2 unless h) 9 s 3 f) (first_told (tell_at 11 8 (plane_refusal (cond h (Some k) None)) 9 s 3 f) r)
    go false k = refl
    go true (Carriers.Line l) = refl
    go true (Carriers.Plane p) = refl
    go true Carriers.Other = refl

-- where the code has read the refusal off the plane's answer
pub plane-refuses : (n k s f : ℕ) (r : Stop) → Refuses n k → tell_at 11 8 k 9 s 3 f ≡ first_told (tell_at 11 8 n 9 s 3 f) r
plane-refuses n k s f r h = rw (h.number, h.given) (sym (part-stops 11 8 h.less 9 s 3 f r))

-- ---- one fin

module _ (m : Model) (e : ℕ) (t : Float) where
  abbrev off : Plane → ℕ → ℕ → Stop
  off p i l =
      first_told (tell_at 11 9 (on_plane m e p (lo m e)) 5 i 4 l) (first_told (tell_at 11 10 (on_plane m e p (hi m e)) 5 i 4 l) (tell_at 11 11 (on_plane m e p (parameter m e t)) 5 i 4 l))

  -- an optional surface, as its tag's test and its id
  surface-told : (b : Bool) (s f i l : ℕ)
      → first_told (tell_at 11 6 (1 unless is_some (cond b none (some s))) 3 f 4 l)
      (first_told (tell_at 11 7 (2 unless has m.surfaces (the (cond b none (some s)))) 9 (the (cond b none (some s))) 3 f)
      (first_told (tell_at 11 8 (7 if no_plane (surface m (the (cond b none (some s))))) 9 (the (cond b none (some s))) 3 f) (off (the_plane (surface m (the (cond b none (some s))))) i l)))
      ≡ first_told (tell_at 11 6 (1 unless not b) 3 f 4 l) (surface_told m s f i l (cut_at m e t))
  unfolding tell_at first_told surface_told plane_told off_told on_plane cut_at split_point
  surface-told true s f i l = refl
  surface-told false s f i l = plane-told m.surfaces s f (off (the_plane (surface m s)) i l)

  -- one fin more
  or-three : (a b c : Bool) → ((a || b) || c) ≡ (b || (a || c))
  or-three true true c = refl
  or-three true false c = refl
  or-three false true c = refl
  or-three false false c = refl

  seen_parts : (s l : List ℕ) (y : ℕ)
      → row11-fins m e t s (l ++ (y ∷ [])) ≡ row11-fins m e t s l ++ (part 1 (1 if (member y s || member y l)) (this of_fin y) (this of_edge e) ∷ row11-fin m e t y)
  unfolding row11-fins member
  seen_parts s [] y =
      ap₂ (λ (b : Bool) (r : List Part). part 1 (1 if b) (this of_fin y) (this of_edge e) ∷ r) (sym (or-false (member y s))) (append-nil (row11-fin m e t y))
  seen_parts s (i ∷ l) y =
      ap (λ (r : List Part). part 1 (1 if member i s) (this of_fin i) (this of_edge e) ∷ (row11-fin m e t i ++ r))
      (seen_parts (i ∷ s) l y
      ∙ ap (λ (b : Bool). row11-fins m e t (i ∷ s) l ++ (part 1 (1 if b) (this of_fin y) (this of_edge e) ∷ row11-fin m e t y)) (or-three (eqb y i) (member y s) (member y l)))
      ∙ ap (λ (r : List Part). part 1 (1 if member i s) (this of_fin i) (this of_edge e) ∷ r)
      (sym
      (append_assoc (row11-fin m e t i) (row11-fins m e t (i ∷ s) l)
      (part 1 (1 if (member y s || (eqb y i || member y l))) (this of_fin y) (this of_edge e) ∷ row11-fin m e t y)))

module _ (room w : List ℕ) (x : List Float) (e : ℕ) (t : Float) where
  abbrev m : Model
  m = decode room w x

  fin-told : (seen : List ℕ) (i : ℕ)
      → row_told 11 (part 1 (1 if member i seen) (this of_fin i) (this of_edge e) ∷ row11-fin m e t i) ≡ fin_told room w x e (cut_at m e t) seen i
  unfolding row11-fin chained fin_told use_told loop_told face_told list_of decode
  fin-told seen i =
      let l : ℕ = word (words_of room w 5 i) 0 in
      let f : ℕ = word (words_of room w 4 l) 0 in
      let a : Stop = tell_at 11 1 (1 if member i seen) 5 i 6 e in
      let b : Stop = tell_at 11 2 (1 unless eqb (word (words_of room w 5 i) 1) e) 5 i 6 e in
      let d : Stop = tell_at 11 3 (2 unless ltb l (word w 4)) 4 l 5 i in
      let g : Stop = tell_at 11 4 (1 unless eqb (count i (list_of room w 6 l)) 1) 5 i 4 l in
      let h : Stop = tell_at 11 5 (2 unless ltb f (word w 3)) 3 f 4 l in
      row_chained 11 _
      ∙ ap (λ (r : Stop). first_told a (first_told b (first_told d (first_told g (first_told h r)))))
      (surface-told m e t (eqb (word (words_of room w 3 f) 4) 0) (word (words_of room w 3 f) 5) f i l)
      ∙ ap (first_told a) (sym (first-assoc b d (loop_told room w x i l (cut_at m e t))))
      ∙ sym (first-assoc a (first_told b d) (loop_told room w x i l (cut_at m e t)))

  pub fins-none : tell_at 0 0 0 10 0 10 0 ≡ row_told 11 (row11-fins m e t [] [])
  unfolding row11-fins chained tell_at
  fins-none = sym (row_chained 11 [])

  pub fins-more : (l : List ℕ) (k : ℕ) (s r : Stop) → k < length l → s ≡ row_told 11 (row11-fins m e t [] (take k l)) → r ≡ fin_told room w x e (cut_at m e t) (take k l) (get_or l k 0)
      → first_told s r ≡ row_told 11 (row11-fins m e t [] (take (k + 1) l))
  fins-more l k s r h p q =
      ap₂ first_told p (q ∙ sym (fin-told (take k l) (get_or l k 0)))
      ∙ sym
      (ap (λ (z : List ℕ). row_told 11 (row11-fins m e t [] z)) (take_more l k 0 h)
      ∙ ap (row_told 11) (seen_parts m e t [] (take k l) (get_or l k 0) ∙ none_seen (get_or l k 0) (take k l))
      ∙ row-append 11 (row11-fins m e t [] (take k l)) (part 1 (1 if member (get_or l k 0) (take k l)) (this of_fin (get_or l k 0)) (this of_edge e) ∷ row11-fin m e t (get_or l k 0)))
    where
      none_seen : (y : ℕ) (l : List ℕ)
          → row11-fins m e t [] l ++ (part 1 (1 if (member y [] || member y l)) (this of_fin y) (this of_edge e) ∷ row11-fin m e t y) ≡ row11-fins m e t [] l ++ (part 1 (1 if member y l) (this of_fin y) (this of_edge e) ∷ row11-fin m e t y)
      none_seen y l = ap (λ (b : Bool). row11-fins m e t [] l ++ (part 1 (1 if (b || member y l)) (this of_fin y) (this of_edge e) ∷ row11-fin m e t y)) (no_member y)

  -- ---- rows 9 and 10, and all three

  pub point-told : point_told (segment_at m e) (cut_at m e t).at (real x 0) e (the (edge m e).start) (the (edge m e).end) ≡ first_told (row_told 9 (row9 m e t)) (row_told 10 (row10 m e t))
  unfolding point_told segment_at cut_at test9 decode
  point-told = sym (ap₂ first_told (row_one 9 (part 1 (test9 m e t) (this of_edge e) nothing)) (row-two 10 _ _))

  pub place-told : told (first_stop (place_rows m e t))
      ≡ first_told (point_told (segment_at m e) (cut_at m e t).at (real x 0) e (the (edge m e).start) (the (edge m e).end)) (row_told 11 (row11 m e t))
  unfolding place_rows
  place-told =
      rows-first _ _
      ∙ ap (first_told (row_told 9 (row9 m e t))) (rows-first _ _ ∙ ap (first_told (row_told 10 (row10 m e t))) (rows-one _))
      ∙ sym (first-assoc (row_told 9 (row9 m e t)) (row_told 10 (row10 m e t)) (row_told 11 (row11 m e t)))
      ∙ ap (λ (a : Stop). first_told a (row_told 11 (row11 m e t))) (sym point-told)

  -- where rows 9 to 11 pass, so do the tests
  pub place-number : (told (first_stop (place_rows m e t))).number ≡ place_row m e t
  unfolding told place_rows split_stops place_row
  place-number = stop-number (place_rows m e t) ∙ ap (λ (l : List ℕ). first_refusal (take 3 (drop 8 l))) (rows-are-tests largest m e e t)

-- behind parts 1 to 3 the fin's loop is there
pub owner-there : (room w : List ℕ) (e : ℕ) (seen : List ℕ) (i : ℕ) → (use_told room w e seen i).number ≡ 0 → word (words_of room w 5 i) 0 < word w 4
unfolding use_told
owner-there room w e seen i z =
    let l : ℕ = word (words_of room w 5 i) 0 in
    let n : ℕ = 2 unless ltb l (word w 4) in
    let a = first-zero (tell_at 11 1 (1 if member i seen) 5 i 6 e) _ z in
    let b = first-zero (tell_at 11 2 (1 unless eqb (word (words_of room w 5 i) 1) e) 5 i 6 e) (tell_at 11 3 n 4 l 5 i) a.1 in
    ltb-true l (word w 4) (unless-zero 1 (ltb l (word w 4)) (sym (tell-number 11 3 n 4 l 5 i) ∙ b.1))
