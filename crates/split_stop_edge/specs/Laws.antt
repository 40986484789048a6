-- What the code tells of rows 1 to 8 is what `meaning_stops` has; and what is known where they pass. Assumes nothing.
use Rattle.std.specs.Prelude.{ℕ, ◌≤◌, ◌<◌, ◌≡◌, Bool, true, false, not, cond, eqb, take, drop, Float}
use Rattle.std.proofs.Math.Path.{refl, sym, ap, ap₂}
use Rattle.std.proofs.Common.{◌∙◌}
use Rattle.std.proofs.lemmas.Bool.{false≢true}
use mathlib.Core.List.{List, [], ◌∷◌}
use Rattle.std.proofs.Math.Option.{none, some}
use borrow.Author.Tests.{lt-ltb, le-ltb}
use Rattle.geom_lines_planes.specs.Refuse.{◌unless◌}
use Rattle.geom_carriers.specs.declared.Carrier.{Carrier}
use Rattle.geom_carriers.specs.declared.Carrier.TheVariants as Carriers
use Rattle.std.specs.Prelude.{Some, None}
use Rattle.geom_carriers.specs.Queries.{line_refusal}
use Rattle.meaning.specs.Lists.{joined, the, is_some}
use Rattle.meaning.specs.Model.{Model, largest, Table, has, carrier_at, edge, curve}
use Rattle.meaning.specs.Refuse.{◌if◌, first_refusal}
use Rattle.meaning.specs.Split.{lo, hi, test4, test5, test6, test7}
use Rattle.meaning.specs.Faults.{of_edge, of_vertex, no_line}
use Rattle.meaning_list_laws.specs.Tests.{and_both, none-refused, unless-zero}
use Rattle.meaning_stops.specs.Stops.{this, this_curve, nothing, ◌∶◌, part, first_stop}
use Rattle.meaning_stops.specs.Splits.{row1, row2, row3, row4, row5, row6, row7, row8, bounds_stops, split_stops}
use Rattle.meaning_stops.proofs.Laws.{stop-number}
use Rattle.meaning_stops.specs.Numbers.{bounds-are-tests}
use Rattle.meaning_stops.proofs.Numbers.{rows-are-tests}
use Rattle.memory_layout.specs.Layout.{word, words_of}
use Rattle.memory_layout.specs.Decode.{decode}
use Rattle.memory_layout.specs.Entries.{list_of}
use Rattle.split_segment.specs.Segment.{segment_at, low, high}
use Rattle.split_bounds.specs.Ends.{ends_refusal}
use Rattle.split_fins.specs.Laws.{unless-is}
use Rattle.split_place.specs.SplitNumber.{edge_row}
use Rattle.split_stop_parts.specs.declared.Stop.{Stop}
use Rattle.split_stop_parts.specs.Told.{told, tell_at, first_told, row_told}
use Rattle.split_stop_parts.specs.Laws.{part-stops, part-passes, first-assoc, row-two, row-three, row_one, rows-first, rows-one}
use Rattle.split_stop_edge.specs.EdgeRows.{bounds_rows, edge_rows, pcurve_parts, ends_told, curve_told, vertices_told, carried_told, span_told}

-- ---- a curve: "curve missing: 2; not a line: 7"

-- behind the test that it is there, the number of the line's own test is 7 or 0
line-told : (t : Table Carrier) (c e : ℕ)
    → first_told (tell_at 5 2 (2 unless has t c) 8 c 6 e) (tell_at 5 3 (7 if no_line (carrier_at t c)) 8 c 6 e) ≡ first_told (tell_at 5 2 (2 unless has t c) 8 c 6 e) (tell_at 5 3 (line_refusal (carrier_at t c)) 8 c 6 e)
unfolding carrier_at line_refusal tell_at first_told
line-told t c e = go (has t c) (t.slot c)
  where
    go : (h : Bool) (k : Carrier)
        → first_told (tell_at 5 2 (2 unless h) 8 c 6 e) (tell_at 5 3 (7 if no_line (cond h (Some k) None)) 8 c 6 e) ≡ first_told (tell_at 5 2 (2 unless h) 8 c 6 e) (tell_at 5 3 (line_refusal (cond h (Some k) None)) 8 c 6 e)
    go false k = refl
    go true (Carriers.Line l) = refl
    go true (Carriers.Plane s) = refl
    go true Carriers.Other = refl

-- ---- rows 4 to 6: an optional id, as its tag's test and its id

abbrev ends : Bool → Bool → ℕ → Stop
ends a b e = first_told (tell_at 4 1 (7 unless a) 6 e 10 0) (tell_at 4 2 (7 unless b) 6 e 10 0)

abbrev line : Model → Bool → ℕ → ℕ → Stop
line m c k e = first_told (tell_at 5 1 (1 unless c) 6 e 10 0) (first_told (tell_at 5 2 (2 unless has m.curves k) 8 k 6 e) (tell_at 5 3 (line_refusal (curve m k)) 8 k 6 e))

abbrev points : Model → ℕ → ℕ → ℕ → Stop
points m i j e = first_told (tell_at 6 1 (2 unless has m.vertices i) 7 i 6 e) (tell_at 6 2 (2 unless has m.vertices j) 7 j 6 e)

given : (m : Model) (e : ℕ) (a b c : Bool) (i j k : ℕ)
    → first_told (ends (is_some (cond a none (some i))) (is_some (cond b none (some j))) e)
    (first_told (line m (is_some (cond c none (some k))) (the (cond c none (some k))) e) (points m (the (cond a none (some i))) (the (cond b none (some j))) e))
    ≡ first_told (ends (not a) (not b) e) (first_told (line m (not c) k e) (points m i j e))
unfolding tell_at first_told
given m e true b c i j k = refl
given m e false true c i j k = refl
given m e false false true i j k = refl
given m e false false false i j k = refl

some-given : (a : Bool) (i : ℕ) → is_some (cond a none (some i)) ≡ true → i ≡ the (cond a none (some i))
some-given true i h = absurd (false≢true h)
some-given false i h = refl

module _ (m : Model) (e : ℕ) where
  fourth : row_told 4 (row4 m e) ≡ ends (is_some (edge m e).start) (is_some (edge m e).end) e
  fourth = row-two 4 (part 1 (7 unless is_some (edge m e).start) (this of_edge e) nothing) (part 2 (7 unless is_some (edge m e).end) (this of_edge e) nothing)

  fifth : row_told 5 (row5 m e) ≡ line m (is_some (edge m e).curve) (the (edge m e).curve) e
  fifth =
      let c : ℕ = the (edge m e).curve in
      row-three 5 (part 1 (1 unless is_some (edge m e).curve) (this of_edge e) nothing) (part 2 (2 unless has m.curves c) (this_curve c) (this of_edge e)) (part 3 (7 if no_line (curve m c)) (this_curve c) (this of_edge e))
      ∙ ap (first_told (tell_at 5 1 (1 unless is_some (edge m e).curve) 6 e 10 0)) (line-told m.curves c e)

  sixth : row_told 6 (row6 m e) ≡ points m (the (edge m e).start) (the (edge m e).end) e
  sixth =
      row-two 6 (part 1 (2 unless has m.vertices (the (edge m e).start)) (this of_vertex (the (edge m e).start)) (this of_edge e))
      (part 2 (2 unless has m.vertices (the (edge m e).end)) (this of_vertex (the (edge m e).end)) (this of_edge e))

  seventh : row_told 7 (row7 m e) ≡ tell_at 7 1 (test7 m e) 6 e 10 0
  seventh = row_one 7 (part 1 (test7 m e) (this of_edge e) nothing)

  -- rows 7 and 8
  pub span-told : span_told (segment_at m e) e (the (edge m e).start) (the (edge m e).end) ≡ first_told (row_told 7 (row7 m e)) (row_told 8 (row8 m e))
  unfolding span_told segment_at low high lo hi test7
  span-told = sym (ap₂ first_told seventh (row-three 8 _ _ _))

module _ (room w : List ℕ) (e : ℕ) where
  -- one fin of row 3
  pub pcurve-missing : (i : ℕ) → word w 5 ≤ i → tell_at 3 1 2 5 i 6 e ≡ row_told 3 (pcurve_parts room w e i)
  unfolding pcurve_parts
  pcurve-missing i h = rw (le-ltb i (word w 5) h) (sym (row-two 3 _ _ ∙ part-stops 3 1 1 5 i 6 e _))

  pub pcurve-there : (i : ℕ) → i < word w 5 → tell_at 3 2 (7 unless eqb (word (words_of room w 5 i) 3) 0) 5 i 6 e ≡ row_told 3 (pcurve_parts room w e i)
  unfolding pcurve_parts
  pcurve-there i h =
      rw (lt-ltb i (word w 5) h)
      (ap (λ (n : ℕ). tell_at 3 2 n 5 i 6 e) (unless-is 7 (eqb (word (words_of room w 5 i) 3) 0)) ∙ sym (row-two 3 _ _ ∙ part-passes 3 1 5 i 6 e _))

module _ (room w : List ℕ) (x : List Float) (e : ℕ) where
  abbrev m : Model
  m = decode room w x

  abbrev s : List ℕ
  s = words_of room w 6 e

  carried : first_told (row_told 4 (row4 m e)) (first_told (row_told 5 (row5 m e)) (row_told 6 (row6 m e))) ≡ carried_told m w s e
  unfolding carried_told ends_told curve_told vertices_told decode
  carried =
      ap₂ first_told (fourth m e) (ap₂ first_told (fifth m e) (sixth m e))
      ∙ given m e (eqb (word s 0) 0) (eqb (word s 2) 0) (eqb (word s 4) 0) (word s 1) (word s 3) (word s 5)

  pub pcurves-told : row_told 3 (joined (pcurve_parts room w e) (list_of room w 7 e)) ≡ row_told 3 (row3 m e)
  unfolding pcurve_parts list_of decode
  pcurves-told = refl

  -- rows 4 to 8
  pub bounds-told : told (first_stop (bounds_rows m e)) ≡ first_told (carried_told m w s e) (span_told (segment_at m e) e (the (edge m e).start) (the (edge m e).end))
  unfolding bounds_rows
  bounds-told =
      rows-first _ _
      ∙ ap (first_told (row_told 4 (row4 m e))) (rows-first _ _ ∙ ap (first_told (row_told 5 (row5 m e))) (rows-first _ _ ∙ ap (first_told (row_told 6 (row6 m e))) (rows-first _ _ ∙ ap (first_told (row_told 7 (row7 m e))) (rows-one _))))
      ∙ ap (first_told (row_told 4 (row4 m e))) (sym (first-assoc (row_told 5 (row5 m e)) (row_told 6 (row6 m e)) _))
      ∙ sym (first-assoc (row_told 4 (row4 m e)) _ _)
      ∙ ap₂ first_told carried (sym (span-told m e))

  -- rows 1 to 8
  pub edge-told : (asked : ℕ) (t : Float)
      → told (first_stop (edge_rows m asked e t))
      ≡ first_told (row_told 1 (row1 asked t)) (first_told (row_told 2 (row2 m asked e)) (first_told (row_told 3 (row3 m e)) (told (first_stop (bounds_rows m e)))))
  unfolding edge_rows bounds_rows
  edge-told asked t = rows-first _ _ ∙ ap (first_told (row_told 1 (row1 asked t))) (rows-first _ _ ∙ ap (first_told (row_told 2 (row2 m asked e))) (rows-first _ _))

  absent : word w 6 ≤ e → has m.edges e ≡ false
  unfolding decode
  absent h = le-ltb e (word w 6) h

  present : e < word w 6 → has m.edges e ≡ true
  unfolding decode
  present h = lt-ltb e (word w 6) h

  second : (asked : ℕ) → row_told 2 (row2 m asked e) ≡ tell_at 2 1 (2 unless has m.edges e) 6 asked 10 0
  second asked = row_one 2 (part 1 (2 unless has m.edges e) (this of_edge asked) nothing)

  pub edge-missing : (asked : ℕ) (t : Float) → word w 6 ≤ e → told (first_stop (edge_rows m asked e t)) ≡ first_told (row_told 1 (row1 asked t)) (tell_at 2 1 2 6 asked 10 0)
  edge-missing asked t h =
      edge-told asked t
      ∙ ap (first_told (row_told 1 (row1 asked t)))
      (ap (λ (a : Stop). first_told a (first_told (row_told 3 (row3 m e)) (told (first_stop (bounds_rows m e))))) (second asked ∙ ap (λ (b : Bool). tell_at 2 1 (2 unless b) 6 asked 10 0) (absent h)) ∙ part-stops 2 1 1 6 asked 10 0 _)

  pub edge-there : (asked : ℕ) (t : Float) → e < word w 6
      → told (first_stop (edge_rows m asked e t)) ≡ first_told (row_told 1 (row1 asked t)) (first_told (row_told 3 (joined (pcurve_parts room w e) (list_of room w 7 e))) (told (first_stop (bounds_rows m e))))
  edge-there asked t h =
      edge-told asked t
      ∙ ap (first_told (row_told 1 (row1 asked t)))
      (ap (λ (a : Stop). first_told a (first_told (row_told 3 (row3 m e)) (told (first_stop (bounds_rows m e))))) (second asked ∙ ap (λ (b : Bool). tell_at 2 1 (2 unless b) 6 asked 10 0) (present h))
      ∙ part-passes 2 1 6 asked 10 0 _
      ∙ ap (λ (a : Stop). first_told a (told (first_stop (bounds_rows m e)))) (sym pcurves-told))

  -- ---- where rows 4 to 6 pass, the edge's points can be read

  carried-number : (carried_told m w s e).number ≡ first_refusal (test4 m e ∷ test5 m e ∷ test6 m e ∷ [])
  unfolding told bounds_stops
  carried-number =
      ap (λ (a : Stop). a.number)
      (sym carried ∙ sym (rows-first (4 ∶ row4 m e) ((5 ∶ row5 m e) ∷ (6 ∶ row6 m e) ∷ []) ∙ ap (first_told (row_told 4 (row4 m e))) (rows-first (5 ∶ row5 m e) ((6 ∶ row6 m e) ∷ []) ∙ ap (first_told (row_told 5 (row5 m e))) (rows-one (6 ∶ row6 m e)))))
      ∙ stop-number ((4 ∶ row4 m e) ∷ (5 ∶ row5 m e) ∷ (6 ∶ row6 m e) ∷ [])
      ∙ ap (λ (l : List ℕ). first_refusal (take 3 (drop 1 l))) (bounds-are-tests m e)

  pub ends-pass : e < word w 6 → (carried_told m w s e).number ≡ 0 → ends_refusal m e ≡ 0
  unfolding ends_refusal first_refusal decode
  ends-pass h z = rw (lt-ltb e (word w 6) h) (sym carried-number ∙ z)

  pub ends-given : ends_refusal m e ≡ 0 → (word s 1 ≡ the (edge m e).start) × (word s 3 ≡ the (edge m e).end)
  unfolding ends_refusal decode
  ends-given z =
      let both = and_both (is_some (edge m e).start) (is_some (edge m e).end) (unless-zero 6 _ (none-refused _ z 1)) in
      (some-given (eqb (word s 0) 0) (word s 1) both.0, some-given (eqb (word s 2) 0) (word s 3) both.1)

  -- where rows 1 to 8 pass, so do the tests
  pub edge-number : (asked : ℕ) (t : Float) → (told (first_stop (edge_rows m asked e t))).number ≡ edge_row m e t
  unfolding told edge_rows split_stops edge_row
  edge-number asked t = stop-number (edge_rows m asked e t) ∙ ap (λ (l : List ℕ). first_refusal (take 8 l)) (rows-are-tests largest m asked e t)
