-- A good record of an image, laid over the words of a slot, passes the test of refusal 9. Assumes nothing.
use Rattle.std.specs.Prelude.{ℕ, zero, suc, ◌<◌, ◌≡◌, refl, true, false, cond, ◌||◌, List, [], eqb, length, get_or, drop}
use Rattle.std.proofs.Common.{arith, sym, ap, ◌∙◌, subst, le-leb}
use Rattle.std.proofs.Math.Path.{ap₂}
use Rattle.std.proofs.Math.Bool.{Bool, ◌&&◌}
use Rattle.std.proofs.Math.Dec.{leb}
use Rattle.std.specs.Float.Ieee.{binary64, of_bits}
use Rattle.geom_lines_planes.specs.declared.tolerance.Tolerance.TheVariants.{Own}
use Rattle.meaning.specs.Model.{Office, office-0, office-1}
use Rattle.meaning.specs.Edits.{tolerance_ok}
use Rattle.meaning_list_laws.specs.Tests.{and_both}
use Rattle.memory_layout.specs.Layout.{word}
use Rattle.memory_layout.specs.Laid.{office}
use Rattle.memory_layout.specs.Readable.{own_ok, record_ok}
use Rattle.image_format.specs.Bytes.{number}
use Rattle.image_format.specs.Fields.{list_limits_of, Fields, list_counts, list_places_of, fields_in}
use Rattle.image_laws.specs.Numbers.{Bytes}
use Rattle.image_record_test.specs.Parts.{fixed_size, mark_good, number_at, bits_at, optional_good, marked_good, bits_good, tolerance_good, three_good, vertex_good, carrier_good, fields_good, fixed_good}
use Rattle.image_record_test.specs.Good.{record_good}
use Rattle.image_record_test.specs.Explicit.{numbers_at, fields_here, fields-here}
use Rattle.image_record_test.specs.Tested.{lists_good, record-good}
use Rattle.image_loading.specs.Laid.{front_of}
use Rattle.image_effects.specs.Records.{front_counts, Laid}

-- ---- what a good record has

module _ (k : ℕ) (h : k < 10) (s : List ℕ) (b : Bytes s) (good : record_good k s ≡ true) where
  abbrev f : Fields
  f = fields_in k s

  good-fields : fields_good k s ≡ true
  unfolding fixed_good
  good-fields =
      let a : Bool = leb (fixed_size k) (length s) in
      let t = and_both (a && fixed_good k s) (lists_good (get_or list_limits_of k []) (drop (fixed_size k) s)) (sym (record-good k h s b) ∙ good) in
      (and_both (mark_good k (number 2 s)) (fields_good k s) (and_both a (fixed_good k s) t.0).1).1

-- ---- what its tests say

optional-known : (t i : ℕ) → optional_good t i ≡ true → leb t 1 ≡ true
unfolding optional_good
optional-known t i e = (and_both (leb t 1) (eqb t 1 || eqb i 0) e).0

tolerance-known : (t n : ℕ) → tolerance_good t n ≡ true → own_ok t (of_bits binary64 n) ≡ true
unfolding tolerance_good
tolerance-known t n e = go (eqb t 0) e
  where
    go : (c : Bool) → cond c (eqb n 0) (tolerance_ok (Own (of_bits binary64 n))) ≡ true → (c || tolerance_ok (Own (of_bits binary64 n))) ≡ true
    go true e = refl
    go false e = e

office-known : (o : Office) → leb (office o) 1 ≡ true
office-known office-0 = refl
office-known office-1 = refl

-- the tags of three optional ids, and the tag behind them
marked-known : (s r : List ℕ) → ((q : ℕ) → q < 7 → word r q ≡ word (numbers_at 4 7 2 s) q) → marked_good s ≡ true
    → (leb (word r 0) 1 && leb (word r 2) 1 && leb (word r 4) 1 && leb (word r 6) 1) ≡ true
unfolding marked_good numbers_at
marked-known s r same e =
    let a : Bool = optional_good (number_at s 0) (number_at s 1) in
    let b : Bool = optional_good (number_at s 2) (number_at s 3) in
    let c : Bool = optional_good (number_at s 4) (number_at s 5) in
    let d : Bool = leb (number_at s 6) 1 in
    let p = and_both (a && b && c) d e in
    let q = and_both (a && b) c p.0 in
    let o = and_both a b q.0 in
    rw (same 0 (omega arith), same 2 (omega arith), same 4 (omega arith), same 6 (omega arith))
    (ap₂ ◌&&◌ (ap₂ ◌&&◌ (ap₂ ◌&&◌ (optional-known _ _ o.0) (optional-known _ _ o.1)) (optional-known _ _ q.1)) p.1)

vertex-known : (s : List ℕ) → vertex_good s ≡ true → (leb (number_at s 0) 1 ≡ true) × (tolerance_good (number_at s 0) (bits_at s 1 3) ≡ true)
unfolding vertex_good
vertex-known s e =
    let a : Bool = leb (number_at s 0) 1 in
    let x : Bool = bits_good (bits_at s 1 0) in
    let y : Bool = bits_good (bits_at s 1 1) in
    let z : Bool = bits_good (bits_at s 1 2) in
    let p = and_both (a && x && y && z) (tolerance_good (number_at s 0) (bits_at s 1 3)) e in
    ((and_both a x (and_both (a && x) y (and_both (a && x && y) z p.0).0).0).0, p.1)

carrier-known : (s : List ℕ) → carrier_good s ≡ true → leb (number_at s 0) 2 ≡ true
unfolding carrier_good
carrier-known s e = (and_both (leb (number_at s 0) 2) (three_good (number_at s 0) s 0 && three_good (number_at s 0) s 3) e).0

-- ---- and so does the test of refusal 9, table by table

module _ (k : ℕ) (s w r : List ℕ) (l : Laid k (fields_here k s) w r) where
  -- a list within its limit
  count-ok : (j : ℕ) → j < word list_counts k → leb (word r (word (get_or list_places_of k []) j)) (word (get_or list_limits_of k []) j) ≡ true
  count-ok j h = let a = l.lists j h in let c = a.count in let d = a.short in le-leb (word r (word (get_or list_places_of k []) j)) (word (get_or list_limits_of k []) j) (omega arith)

  -- a tag that is known
  tag-ok : (q n : ℕ) → q < word front_counts k → leb (word (front_of k (fields_here k s)) q) n ≡ true → leb (word r q) n ≡ true
  tag-ok q n h e = ap (λ (m : ℕ). leb m n) (l.fields q h) ∙ e

module _ (s w r : List ℕ) where
  body_ok : Laid 0 (fields_here 0 s) w r → fields_good 0 s ≡ true → record_ok 0 r (fields_here 0 s).floats ≡ true
  unfolding record_ok fields_good front_of fields_here numbers_at
  body_ok l e = ap₂ ◌&&◌ (ap₂ ◌&&◌ (tag-ok 0 s w r l 0 4 (omega arith) e) (tag-ok 0 s w r l 1 1 (omega arith) (office-known (fields_here 0 s).office))) (count-ok 0 s w r l 0 (omega arith))

  region-ok : Laid 1 (fields_here 1 s) w r → fields_good 1 s ≡ true → record_ok 1 r (fields_here 1 s).floats ≡ true
  unfolding record_ok fields_good front_of fields_here numbers_at
  region-ok l e = ap₂ ◌&&◌ (tag-ok 1 s w r l 1 1 (omega arith) e) (count-ok 1 s w r l 0 (omega arith))

  shell-ok : Laid 2 (fields_here 2 s) w r → record_ok 2 r (fields_here 2 s).floats ≡ true
  unfolding record_ok
  shell-ok l = ap₂ ◌&&◌ (ap₂ ◌&&◌ (count-ok 2 s w r l 0 (omega arith)) (count-ok 2 s w r l 1 (omega arith))) (count-ok 2 s w r l 2 (omega arith))

  face-ok : Laid 3 (fields_here 3 s) w r → fields_good 3 s ≡ true → record_ok 3 r (fields_here 3 s).floats ≡ true
  unfolding record_ok fields_good front_of fields_here numbers_at
  face-ok l e = ap₂ ◌&&◌ (marked-known s r l.fields e) (count-ok 3 s w r l 0 (omega arith))

  loop-ok : Laid 4 (fields_here 4 s) w r → record_ok 4 r (fields_here 4 s).floats ≡ true
  unfolding record_ok
  loop-ok l = count-ok 4 s w r l 0 (omega arith)

  fin-ok : Laid 5 (fields_here 5 s) w r → fields_good 5 s ≡ true → record_ok 5 r (fields_here 5 s).floats ≡ true
  unfolding record_ok fields_good front_of fields_here numbers_at
  fin-ok l e = rw (l.fields 2 (omega arith), l.fields 3 (omega arith)) e

  edge-ok : Laid 6 (fields_here 6 s) w r → fields_good 6 s ≡ true → record_ok 6 r (fields_here 6 s).floats ≡ true
  unfolding record_ok fields_good front_of fields_here numbers_at
  edge-ok l e =
      let p = and_both (marked_good s) (tolerance_good (number_at s 6) (bits_at s 7 0)) e in
      ap₂ ◌&&◌ (ap₂ ◌&&◌ (marked-known s r l.fields p.0) (count-ok 6 s w r l 0 (omega arith)))
      (ap (λ (t : ℕ). own_ok t (of_bits binary64 (bits_at s 7 0))) (l.fields 6 (omega arith)) ∙ tolerance-known (number_at s 6) (bits_at s 7 0) p.1)

  vertex-ok : Laid 7 (fields_here 7 s) w r → fields_good 7 s ≡ true → record_ok 7 r (fields_here 7 s).floats ≡ true
  unfolding record_ok fields_good front_of fields_here numbers_at
  vertex-ok l e =
      let p = vertex-known s e in
      rw (l.fields 0 (omega arith)) (ap₂ ◌&&◌ p.0 (tolerance-known (number_at s 0) (bits_at s 1 3) p.1))

  curve-ok : Laid 8 (fields_here 8 s) w r → fields_good 8 s ≡ true → record_ok 8 r (fields_here 8 s).floats ≡ true
  unfolding record_ok fields_good front_of fields_here numbers_at
  curve-ok l e = tag-ok 8 s w r l 0 2 (omega arith) (carrier-known s e)

  surface-ok : Laid 9 (fields_here 9 s) w r → fields_good 9 s ≡ true → record_ok 9 r (fields_here 9 s).floats ≡ true
  unfolding record_ok fields_good front_of fields_here numbers_at
  surface-ok l e = tag-ok 9 s w r l 0 2 (omega arith) (carrier-known s e)

  table-ok : (k : ℕ) → k < 10 → Laid k (fields_here k s) w r → fields_good k s ≡ true → record_ok k r (fields_here k s).floats ≡ true
  table-ok zero h l e = body_ok l e
  table-ok (suc zero) h l e = region-ok l e
  table-ok (suc (suc zero)) h l e = shell-ok l
  table-ok (suc (suc (suc zero))) h l e = face-ok l e
  table-ok (suc (suc (suc (suc zero)))) h l e = loop-ok l
  table-ok (suc (suc (suc (suc (suc zero))))) h l e = fin-ok l e
  table-ok (suc (suc (suc (suc (suc (suc zero)))))) h l e = edge-ok l e
  table-ok (suc (suc (suc (suc (suc (suc (suc zero))))))) h l e = vertex-ok l e
  table-ok (suc (suc (suc (suc (suc (suc (suc (suc zero)))))))) h l e = curve-ok l e
  table-ok (suc (suc (suc (suc (suc (suc (suc (suc (suc zero))))))))) h l e = surface-ok l e
  table-ok (suc (suc (suc (suc (suc (suc (suc (suc (suc (suc k)))))))))) h l e = absurd (omega arith)

-- "Accepted means readable by 01's refusal 9", for one record
pub record-passes : (k : ℕ) → k < 10 → (s : List ℕ) → Bytes s → record_good k s ≡ true → (w r : List ℕ) → Laid k (fields_in k s) w r → record_ok k r (fields_in k s).floats ≡ true
record-passes k h s b good w r l =
    ap (λ (f : Fields). record_ok k r f.floats) (fields-here k s)
    ∙ table-ok s w r k h (subst (λ (f : Fields). Laid k f w r) (fields-here k s) l) (good-fields k h s b good)
