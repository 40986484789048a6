-- What reading an image does to the model that the lent memory holds (W-202, W-211). Assumes nothing.
use Prim.Native.Nat.{ℕ, zero, suc, ◌+◌, ◌≤◌, ◌<◌, zero-le}
use Rattle.std.proofs.Common.{arith, ◌∙◌}
use Rattle.std.specs.Prelude.{◌≡◌, refl, true, List, [], ◌∷◌, length, get_or, take, Float}
use Rattle.std.proofs.Math.Path.{ap}
use Rattle.std.proofs.Math.Dec.{leb}
use borrow.Author.Tests.{le-leb}
use Rattle.geom_lines_planes.specs.declared.tolerance.Version.{Version}
use Rattle.geom_lines_planes.specs.declared.tolerance.Version.TheVariants.{First, Second}
use Rattle.meaning.specs.Edits.{precision_ok}
use Rattle.meaning_list_laws.specs.Tests.{all_below-all}
use Rattle.memory_layout.specs.Names.{VERSION, PRECISION}
use Rattle.memory_layout.specs.Layout.{word_strides, word, real, word_at, words_of, reals_of}
use Rattle.memory_layout.specs.Decode.{version_of, table, body_of, region_of, shell_of, face_of, loop_of, fin_of, edge_of, vertex_of, carrier_of, decode}
use Rattle.memory_layout.specs.Laid.{version_tag}
use Rattle.memory_layout.specs.Readable.{version_ok, record_ok, lent_ok, readable}
use Rattle.memory_layout.specs.Fit.{Fit}
use Rattle.memory_layout.specs.Laws.{before-tables, version-there, lent_of, fit_of}
use Rattle.memory_writes.specs.Change.{SameTable, SameModel}
use Rattle.memory_writes.specs.Over.{length_over, part-behind, part-written, entry-written}
use Rattle.memory_writes.specs.Kept.{readable_of}
use Rattle.image_format.specs.Fields.{list_limits_of, Fields, list_counts, list_places_of, body_in, region_in, shell_in, face_in, loop_in, fin_in, edge_in, vertex_in, carrier_in}
use Rattle.image_format.specs.Image.{image_of, count_in, behind_records, table_bytes, fields_at, table_in, model_of, version_in, records_in, model_in, accepted}
use Rattle.image_laws.specs.Numbers.{Bytes, Words, Doubles}
use Rattle.image_laws.specs.Models.{Machine}
use Rattle.image_laws.specs.Machines.{machine-lent, behind-bytes, table-bytes, records-bytes}
use Rattle.image_laws.specs.Held.{lent-held}
use Rattle.image_laws.proofs.Statements.{accepted-is-bytes, written-is-read, written-is-accepted}
use Rattle.image_reader.specs.Answers.{room_for, version_laid, read_number, read_words, read_reals}
use Rattle.image_reader.specs.Laws.{loadable, taken}
use Rattle.image_writer.specs.Answers.{write_number, written_bytes}
use Rattle.image_accepted.specs.Head.{precision-read}
use Rattle.image_accepted.specs.Whole.{Found}
use Rattle.image_accepted.specs.Version.{image-found}
use Rattle.image_loading.specs.Laid.{words_laid, reals_laid}
use Rattle.image_effects.specs.Records.{Laid, body-laid, region-laid, shell-laid, face-laid, loop-laid, fin-laid, edge-laid, vertex-laid, curve-laid, surface-laid}
use Rattle.image_effects.specs.Passed.{record-passes}
use Rattle.image_effects.specs.Tables.{Read, read}
use Rattle.split_effect.specs.Statements.{HoldsModel}
use Rattle.split_sequences.specs.Same.{same-trans}

-- ---- the version in its place

tag_back : (v : Version) → version_of (version_tag v) ≡ v
tag_back First = refl
tag_back Second = refl

tag-ok : (v : Version) → version_ok (version_tag v) ≡ true
tag-ok First = refl
tag-ok Second = refl

-- ---- an accepted image b, read into the lent words w and floats x, whose tables have room for its records

module _ (room w : List ℕ) (x : List Float) (b : List ℕ) (a : accepted b ≡ true) (lent : lent_ok room w x ≡ true) (enough : (k : ℕ) → k < 10 → count_in (records_in b) k ≤ word room k) where
  abbrev r : List ℕ
  r = records_in b

  abbrev v : List ℕ
  v = words_laid room r 10 (version_laid b w)

  abbrev y : List Float
  y = reals_laid room r 10 x

  bytes : Bytes r
  bytes = records-bytes b (accepted-is-bytes b a)

  found : Found r
  found = image-found b (accepted-is-bytes b a) a

  -- the version's place is in front of the tables
  eleven : 11 ≤ length w
  eleven = version-there room w (lent_of room w x lent).words

  version-long : length (version_laid b w) ≡ length w
  version-long = let n = eleven in length_over 10 (version_tag (version_in b) ∷ []) w (omega arith)

  version-apart : (k i : ℕ) → words_of room (version_laid b w) k i ≡ words_of room w k i
  unfolding words_of
  version-apart k i =
      let n = eleven in
      let t = before-tables 11 word_strides room k in
      part-behind 10 (word_at room k i) (word word_strides k) (version_tag (version_in b) ∷ []) w (omega arith) (omega arith)

  laid : Read room (version_laid b w) v x y r
  laid =
      let l = lent_of room w x lent in
      let n = version-long in
      read room (version_laid b w) x r (loadable r bytes found room (version_laid b w) x (record { small = l.small; words = omega (arith, l.words); reals = l.reals }) enough)

  version-read : word v VERSION ≡ version_tag (version_in b)
  version-read = let n = eleven in laid.version ∙ entry-written 10 0 (version_tag (version_in b) ∷ []) w 0 (omega arith) (omega arith)

  in_use : (k i : ℕ) → k < 10 → i < word v k → i < count_in r k
  in_use k i h g = let e = laid.counts k h in omega arith

  -- table k, where a record of it that is laid is read as the image's
  same-table : {A : Type 0} (k : ℕ) (of : List ℕ → List Float → A) (in' : Fields → A) → k < 10 → ((f : Fields) (o r : List ℕ) → Laid k f o r → of r f.floats ≡ in' f)
      → SameTable (table room v y k of) (table_in r k in')
  same-table k of in' h back =
      record {
        used = laid.counts k h;
        slots = λ i g.
            let u = in_use k i h g in
            ap (of (words_of room v k i)) (laid.reals k i h u) ∙ back (fields_at r k i) (words_of room (version_laid b w) k i) (words_of room v k i) (laid.words k i h u);
      }

  same-model : SameModel (decode room v y) (model_in b)
  unfolding decode model_in model_of
  same-model =
      record {
        version = ap version_of version-read ∙ tag_back (version_in b);
        precision = laid.precision;
        bodies = same-table 0 (λ s _. body_of s) body_in (omega arith) body-laid;
        regions = same-table 1 (λ s _. region_of s) region_in (omega arith) region-laid;
        shells = same-table 2 (λ s _. shell_of s) shell_in (omega arith) shell-laid;
        faces = same-table 3 (λ s _. face_of s) face_in (omega arith) face-laid;
        loops = same-table 4 (λ s _. loop_of s) loop_in (omega arith) loop-laid;
        fins = same-table 5 (λ s _. fin_of s) fin_in (omega arith) fin-laid;
        edges = same-table 6 edge_of edge_in (omega arith) edge-laid;
        vertices = same-table 7 vertex_of vertex_in (omega arith) vertex-laid;
        curves = same-table 8 carrier_of carrier_in (omega arith) curve-laid;
        surfaces = same-table 9 carrier_of carrier_in (omega arith) surface-laid;
      }

  row : (k i : ℕ) → k < 10 → i < count_in r k → record_ok k (words_of room v k i) (reals_of room y k i) ≡ true
  unfolding fields_at
  row k i h u =
      ap (record_ok k (words_of room v k i)) (laid.reals k i h u)
      ∙ record-passes k h (behind_records k i (table_bytes r k)) (behind-bytes k i (table_bytes r k) (table-bytes r bytes k)) (found.good k i h u) (words_of room (version_laid b w) k i) (words_of room v k i) (laid.words k i h u)

  precision-same : real y PRECISION ≡ (model_of r First).precision
  unfolding model_of
  precision-same = laid.precision

  fit : Fit room v y
  fit =
      let l = lent_of room w x lent in
      let n = version-long in
      let p = laid.words_long in
      let q = laid.reals-long in
      record {
        sized = record {
          small = l.small;
          words = omega (arith, l.words);
          reals = omega (arith, l.reals);
          counts = λ k h. let e = laid.counts k h in let c = enough k h in omega arith;
        };
        version = ap version_ok version-read ∙ tag-ok (version_in b);
        precision = ap precision_ok (precision-same ∙ precision-read r) ∙ found.precision;
        rows = λ k i h g. row k i h (in_use k i h g);
      }

  -- the memory behind the reader is readable, and holds the model of the image
  read-holds : HoldsModel room (words_laid room (records_in b) 10 (version_laid b w)) (reals_laid room (records_in b) 10 x) (model_in b)
  read-holds = record { readable = readable_of room v y fit; model = same-model }

  pub slots-stay : (k i : ℕ) → k < 10 → count_in (records_in b) k ≤ i → i < word room k
      → (words_of room (words_laid room (records_in b) 10 (version_laid b w)) k i ≡ words_of room w k i) × (reals_of room (reals_laid room (records_in b) 10 x) k i ≡ reals_of room x k i)
  slots-stay k i h u g = (laid.words-stay k i h u g ∙ version-apart k i, laid.reals-stay k i h u g)

  pub places-stay : (k i j q : ℕ) → k < 10 → i < count_in (records_in b) k → j < word list_counts k
      → word (get_or list_places_of k []) j + word (words_of room (words_laid room (records_in b) 10 (version_laid b w)) k i) (word (get_or list_places_of k []) j) < q
      → q ≤ word (get_or list_places_of k []) j + word (get_or list_limits_of k []) j
      → word (words_of room (words_laid room (records_in b) 10 (version_laid b w)) k i) q ≡ word (words_of room w k i) q
  places-stay k i j q h u g p o =
      let l = (laid.words k i h u).lists j g in
      let c = l.count in
      l.rest q (omega arith) o ∙ ap (λ (s : List ℕ). word s q) (version-apart k i)

-- ---- the call

module _ (room w : List ℕ) (x : List Float) (b : List ℕ) where
  -- one that is refused leaves all as it was
  pub read-refused : (n : ℕ) → read_number room w x b ≡ suc n → (read_words room w x b ≡ w) × (read_reals room w x b ≡ x)
  unfolding read_words read_reals
  read-refused n e = (rw e, rw e)

  module _ (e : read_number room w x b ≡ 0) where
    -- one that is not leaves the image's model, and "Accepted means readable by 01's refusal 9"
    pub read_done : HoldsModel room (read_words room w x b) (read_reals room w x b) (model_in b)
    unfolding read_words read_reals
    read_done = let t = taken room w x b e in rw e (read-holds room w x b t.image t.lent t.enough)

-- ---- the image of the model that readable memory holds

module _ (room w : List ℕ) (x : List Float) (r : readable room w x ≡ true) (fits : Machine (decode room w x)) where
  abbrev image : List ℕ
  image = image_of (decode room w x)

  its-model : SameModel (model_in image) (decode room w x)
  its-model = written-is-read (decode room w x) fits

  image-accepted : accepted image ≡ true
  image-accepted = written-is-accepted (decode room w x) (lent-held room w x (fit_of room w x r)) fits

  -- it has as many records as are used
  image-counts : (k : ℕ) → k < 10 → count_in (records_in image) k ≡ word w k
  unfolding decode model_in model_of
  image-counts zero h = its-model.bodies.used
  image-counts (suc zero) h = its-model.regions.used
  image-counts (suc (suc zero)) h = its-model.shells.used
  image-counts (suc (suc (suc zero))) h = its-model.faces.used
  image-counts (suc (suc (suc (suc zero)))) h = its-model.loops.used
  image-counts (suc (suc (suc (suc (suc zero))))) h = its-model.fins.used
  image-counts (suc (suc (suc (suc (suc (suc zero)))))) h = its-model.edges.used
  image-counts (suc (suc (suc (suc (suc (suc (suc zero))))))) h = its-model.vertices.used
  image-counts (suc (suc (suc (suc (suc (suc (suc (suc zero)))))))) h = its-model.curves.used
  image-counts (suc (suc (suc (suc (suc (suc (suc (suc (suc zero))))))))) h = its-model.surfaces.used
  image-counts (suc (suc (suc (suc (suc (suc (suc (suc (suc (suc k)))))))))) h = absurd (omega arith)

  -- the reader takes it where the lent memory has room for it
  pub image-taken : (room' v : List ℕ) (y : List Float) → lent_ok room' v y ≡ true → ((k : ℕ) → k < 10 → word w k ≤ word room' k) → read_number room' v y image ≡ 0
  unfolding read_number room_for
  image-taken room' v y lent enough =
      let room-there = all_below-all (λ k. leb (count_in (records_in image) k) (word room' k)) 10 (λ k g. le-leb (count_in (records_in image) k) (word room' k) (let c = image-counts k g in let d = enough k g in omega arith)) in
      rw (lent, image-accepted, room-there)

  -- "Reading what was written gives the same model", in any such memory: where the model's numbers and floats fit the image's widths
  pub image-read : (room' v : List ℕ) (y : List Float) → lent_ok room' v y ≡ true → ((k : ℕ) → k < 10 → word w k ≤ word room' k)
      → HoldsModel room' (read_words room' v y image) (read_reals room' v y image) (decode room w x)
  image-read room' v y lent enough =
      let h = read_done room' v y image (image-taken room' v y lent enough) in
      record { readable = h.readable; model = same-trans _ (model_in image) _ h.model its-model }

-- which all do whose words are of 32 bits and whose floats are of 64, as all lent memory's are
module _ (room w : List ℕ) (x : List Float) (r : readable room w x ≡ true) (small : Words w) (double : Doubles x) where
  pub written-then-read : (room' v : List ℕ) (y : List Float) → lent_ok room' v y ≡ true → ((k : ℕ) → k < 10 → word w k ≤ word room' k)
      → HoldsModel room' (read_words room' v y (image_of (decode room w x))) (read_reals room' v y (image_of (decode room w x))) (decode room w x)
  written-then-read = image-read room w x r (machine-lent room w x small double)

-- what the writer's call leaves in the front of the lent bytes is that image
pub written-in-front : (room w : List ℕ) (x : List Float) (b : List ℕ) → write_number room w x b ≡ 0
    → take (length (image_of (decode room w x))) (written_bytes room w x b) ≡ image_of (decode room w x)
unfolding written_bytes
written-in-front room w x b e = rw e (part-written 0 (length (image_of (decode room w x))) (image_of (decode room w x)) b refl zero-le)
