-- The precision's record: what is read of it is what is written, where its bits are a finite float's. Assumes nothing.
use Rattle.std.specs.Prelude.{ℕ, ◌-◌, ◌≤◌, ◌≡◌, Bool, true, ◌&&◌, List, [], ◌∷◌, drop, Float}
use Rattle.std.proofs.Common.{arith, ◌∙◌, length-drop}
use Rattle.std.proofs.Math.Path.{refl, ap}
use Rattle.std.proofs.Math.Dec.{eqb, leb}
use Rattle.std.proofs.Math.ListN.{length}
use Rattle.std.specs.Float.Ieee.{binary64, of_bits, lt}
use Rattle.std.specs.Float.Ieee.Bits.{of_bits-fits}
use Rattle.std.specs.Float.Ieee.Scale.{finite}
use borrow.Author.Tests.{leb-true, le-leb}
use Rattle.interval_arithmetic.specs.Ops.{zero_f}
use Rattle.geom_lines_planes.specs.declared.tolerance.Version.TheVariants.{First}
use Rattle.meaning.specs.Model.{office-0}
use Rattle.meaning.specs.Edits.{precision_ok}
use Rattle.meaning_list_laws.specs.Tests.{and_both, and-true, both_ways}
use Rattle.memory_layout.specs.Layout.{word}
use Rattle.image_format.specs.Bytes.{words, floats, lists, number, words_in, floats_in, lists_in, same_bytes}
use Rattle.image_format.specs.Fields.{PRECISION_RECORD, marks, record_image, fields_in}
use Rattle.image_format.specs.Image.{precision_fields, count_in, model_of}
use Rattle.image_laws.specs.Numbers.{Bytes, below-drop, number-below, numbers_in}
use Rattle.image_laws.specs.Starts.{starts}
use Rattle.image_laws.proofs.Starts.{starts-little, starts-floats}
use Rattle.image_record_test.specs.Parts.{bits_good}
use Rattle.image_record_test.specs.Kept.{finite-kept}
use Rattle.image_record_test.specs.Tested.{words-start, starts-record}
use Rattle.image_accepted.specs.Found.{up_to}

-- the precision, and what the code tests of its record
abbrev pub precision_in : List ℕ → Float
precision_in b = of_bits binary64 (number 8 (drop 42 b))

unfoldable pub head_good : List ℕ → Bool
head_good b = leb 50 (length b) && eqb (number 2 b) (word marks PRECISION_RECORD) && precision_ok (precision_in b)

pub precision-read : (b : List ℕ) → (model_of b First).precision ≡ precision_in b
unfolding model_of fields_in floats_in
precision-read b = refl

fields-again : (b : List ℕ) → precision_fields (model_of b First) ≡ fields_in PRECISION_RECORD b
unfolding model_of count_in fields_in words_in floats_in lists_in
fields-again b = refl

module _ (b : List ℕ) (bytes : Bytes b) where
  its-words : starts (words (fields_in PRECISION_RECORD b).words) (drop 2 b) ≡ leb 40 (length b - 2)
  unfolding fields_in
  its-words = words-start 10 (drop 2 b) (below-drop 256 2 b bytes) ∙ rw (length-drop 2 b)

  its-float : starts (floats (fields_in PRECISION_RECORD b).floats) (drop 42 b) ≡ (leb 8 (length b - 42) && bits_good (number 8 (drop 42 b)))
  unfolding fields_in floats_in bits_good numbers_in same_bytes
  its-float =
      starts-floats (precision_in b ∷ []) (drop 42 b) (of_bits-fits binary64 (number 8 (drop 42 b)), tt) (below-drop 256 42 b bytes)
      ∙ rw (length-drop 42 b) (ap (λ (t : Bool). leb 8 (length b - 42) && t) (and-true _))

  starts-head : starts (up_to b 0) b
      ≡ ((leb 2 (length b) && eqb (number 2 b) (word marks PRECISION_RECORD)) && leb 40 (length b - 2) && (leb 8 (length b - 42) && bits_good (number 8 (drop 42 b))))
  unfolding up_to
  starts-head =
      ap (λ f. starts (record_image PRECISION_RECORD f) b) (fields-again b)
      ∙ starts-record PRECISION_RECORD (fields_in PRECISION_RECORD b) b (unfold fields_in words_in in refl) (unfold fields_in floats_in in refl)
      ∙ rw (no-office, starts-little 2 (word marks PRECISION_RECORD) b (omega arith) bytes, its-words, its-float, no-lists) (and-true _)
    where
      no-office : (fields_in PRECISION_RECORD b).office ≡ office-0
      no-office = unfold fields_in in refl

      no-lists : starts (lists (fields_in PRECISION_RECORD b).lists) (drop 50 b) ≡ true
      no-lists = unfold fields_in lists_in lists starts in refl

  pub head-is : (precision_ok (model_of b First).precision && starts (up_to b 0) b) ≡ head_good b
  unfolding head_good
  head-is =
      rw (precision-read b, starts-head)
      (both_ways _ _
      (λ e. let p = and_both (precision_ok (precision_in b)) (((leb 2 (length b) && eqb (number 2 b) (word marks PRECISION_RECORD)) && leb 40 (length b - 2)) && (leb 8 (length b - 42) && bits_good (number 8 (drop 42 b)))) e in
      let q = and_both ((leb 2 (length b) && eqb (number 2 b) (word marks PRECISION_RECORD)) && leb 40 (length b - 2)) (leb 8 (length b - 42) && bits_good (number 8 (drop 42 b))) p.1 in
      let r = and_both (leb 2 (length b) && eqb (number 2 b) (word marks PRECISION_RECORD)) (leb 40 (length b - 2)) q.0 in
      let s = and_both (leb 2 (length b)) (eqb (number 2 b) (word marks PRECISION_RECORD)) r.0 in
      let t = and_both (leb 8 (length b - 42)) (bits_good (number 8 (drop 42 b))) q.1 in
      let l : 2 ≤ length b = leb-true 2 (length b) s.0 in
      let m : 40 ≤ length b - 2 = leb-true 40 (length b - 2) r.1 in
      let n : 8 ≤ length b - 42 = leb-true 8 (length b - 42) t.0 in
      rw (le-leb 50 (length b) (omega arith), s.1) p.0)
      (λ e. let p = and_both (leb 50 (length b) && eqb (number 2 b) (word marks PRECISION_RECORD)) (precision_ok (precision_in b)) e in
      let q = and_both (leb 50 (length b)) (eqb (number 2 b) (word marks PRECISION_RECORD)) p.0 in
      let l : 50 ≤ length b = leb-true 50 (length b) q.0 in
      let f = finite-kept (number 8 (drop 42 b)) (number-below 8 (drop 42 b) (below-drop 256 42 b bytes)) (and_both (finite (precision_in b)) (lt zero_f (precision_in b)) p.1).0 in
      rw (p.1, le-leb 2 (length b) (omega arith), q.1, le-leb 40 (length b - 2) (omega arith), le-leb 8 (length b - 42) (omega arith)) f))
