-- The theorems of specs/Statements.antt that rest on make-open. Assumes nothing.
use Rattle.std.specs.Prelude.{ℕ, ◌≤◌, ◌<◌, ◌≡◌, true, List, [], ◌∷◌, ◌++◌, length, replicate, Float}
use Rattle.std.proofs.Common.{zero-add, arith, sym, ◌∙◌}
use Rattle.std.proofs.Math.Path.{ap}
use Rattle.std.proofs.lemmas.List.{get_or-replicate}
use Rattle.std.proofs.Math.ListN.{get_or-append}
use Rattle.std.specs.Float.{nan}
use Rattle.meaning.specs.Edits.{precision_ok}
use Rattle.memory_layout.specs.Layout.{real_strides, word, real}
use Rattle.memory_layout.specs.Decode.{version_of, decode}
use Rattle.memory_layout.specs.Readable.{version_ok, readable}
use Rattle.memory_layout.specs.Fit.{Lent, Fit}
use Rattle.memory_layout.specs.Laws.{before-tables, version-there}
use Rattle.memory_writes.specs.Put.{over}
use Rattle.memory_writes.specs.Over.{length_over, entry-written}
use Rattle.memory_writes.specs.Kept.{readable_of}
use Rattle.edit_make.specs.Answers.{make_number, make_words, make_reals}
use Rattle.edit_make.specs.Laws.{make-open, make-allowed}
use Rattle.edit_make.specs.Statements.{Empty}

module _ (room w : List ℕ) (x : List Float) (p : Float) (v : ℕ) (z : make_number room w x p v ≡ 0) where
  lent : Lent room w x
  lent = make-open room w x p v z

  words-eleven : 11 ≤ length w
  words-eleven = version-there room w lent.words

  reals-one : 1 ≤ length x
  reals-one = let a = lent.reals in let b = before-tables 1 real_strides room 10 in omega arith

  abbrev w' : List ℕ
  w' = over 0 (replicate 10 0 ++ (v ∷ [])) w

  abbrev x' : List Float
  x' = over 0 (p ∷ []) x

  head-written : (k : ℕ) → k < 11 → word w' k ≡ word (replicate 10 0 ++ (v ∷ [])) k
  head-written k h =
      let head : List ℕ = replicate 10 0 ++ (v ∷ []) in
      let b = words-eleven in
      ap (word w') (sym (zero-add k)) ∙ entry-written 0 k head w 0 (omega arith) (omega arith)

  none-used : (k : ℕ) → k < 10 → word w' k ≡ 0
  none-used k h = head-written k (omega arith) ∙ get_or-append (replicate 10 0) (v ∷ []) 0 k (omega arith) ∙ get_or-replicate 10 k 0 0 h

  its-version : word w' 10 ≡ v
  its-version = head-written 10 (omega arith)

  its-precision : real x' 0 ≡ p
  its-precision = let b = reals-one in entry-written 0 0 (p ∷ []) x nan (omega arith) (omega arith)

  fit : Fit room w' x'
  fit =
      let head : List ℕ = replicate 10 0 ++ (v ∷ []) in
      let a = lent in
      let b = words-eleven in
      let c = reals-one in
      let d : length w' ≡ length w = length_over 0 head w (omega arith) in
      let e : length x' ≡ length x = length_over 0 (p ∷ []) x (omega arith) in
      record {
        sized = record {
          small = a.small;
          words = omega (arith, a.words);
          reals = omega (arith, a.reals);
          counts = λ k h. let q = none-used k h in omega arith;
        };
        version = ap version_ok its-version ∙ (make-allowed room w x p v z).1;
        precision = ap precision_ok its-precision ∙ (make-allowed room w x p v z).0;
        rows = λ k i h g. let q = none-used k h in absurd (omega arith);
      }

  pub made : Empty (decode room (make_words room w x p v) (make_reals room w x p v)) p v × (readable room (make_words room w x p v) (make_reals room w x p v) ≡ true)
  unfolding make_words make_reals decode
  made =
      rw z (
        record {
          version = ap version_of its-version;
          precision = its-precision;
          bodies = none-used 0 (omega arith);
          regions = none-used 1 (omega arith);
          shells = none-used 2 (omega arith);
          faces = none-used 3 (omega arith);
          loops = none-used 4 (omega arith);
          fins = none-used 5 (omega arith);
          edges = none-used 6 (omega arith);
          vertices = none-used 7 (omega arith);
          curves = none-used 8 (omega arith);
          surfaces = none-used 9 (omega arith);
        },
        readable_of room w' x' fit,
      )
