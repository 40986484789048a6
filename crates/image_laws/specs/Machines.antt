-- What is read off bytes, and what lies in lent memory, is of numbers of 32 bits and floats of 64, whatever they are; and an image is of bytes. Assumes nothing.
use Prim.Native.Nat.{ℕ, zero, suc, ◌+◌, ◌*◌, ◌/◌, ◌%◌, ◌^◌, ◌≤◌, ◌<◌}
use Rattle.std.proofs.Common.{arith, mod-lt, zero-lt-suc, length-append}
use Rattle.std.proofs.Math.Nat.{min-le_left}
use Rattle.std.specs.Prelude.{◌≡◌, Bool, cond, T, eqb, get_or, take, drop, Float}
use Rattle.std.proofs.Math.Path.{refl, sym}
use Rattle.std.proofs.Math.Bool.{true, false}
use mathlib.Core.List.{List, [], ◌∷◌, ◌++◌, map}
use Rattle.std.proofs.Math.Option.{Option, none, some}
use Rattle.std.proofs.Math.Dec.{ltb}
use Rattle.std.proofs.Math.ListN.{length, length-take}
use Rattle.std.specs.Float.{binary64}
use Rattle.std.specs.Float.Ieee.{fits}
use Rattle.std.specs.Float.Ieee.Bits.{of_bits-fits}
use borrow.Author.Tests.{lt-ltb}
use Rattle.geom_lines_planes.specs.declared.tolerance.Tolerance.TheVariants.{Own, Session}
use Rattle.geom_lines_planes.specs.declared.tolerance.Version.{Version}
use Rattle.geom_lines_planes.specs.declared.tolerance.Version.TheVariants.{First, Second}
use Rattle.geom_carriers.specs.declared.Carrier.TheVariants as Carriers
use Rattle.meaning.specs.Lists.{run, all, joined}
use Rattle.meaning.specs.Model.{Model, Table, BodyKind, acorn, wire, sheet, solid, general, Sense, positive, negative, office-0}
use Rattle.meaning_list_laws.specs.Lists.{all_none, all_both, all_append, all_map}
use Rattle.memory_layout.specs.Names.{BODIES, REGIONS, SHELLS, FACES, LOOPS, FINS, EDGES, VERTICES, CURVES, SURFACES, AT_BODY_REGIONS, AT_REGION_SHELLS, AT_SHELL_FACES, AT_SHELL_WIRES, AT_SHELL_ACORNS, AT_FACE_LOOPS, AT_LOOP_FINS, AT_EDGE_FINS}
use Rattle.memory_layout.specs.Layout.{word, real, word_strides, real_strides, word_at, real_at, words_of, reals_of}
use Rattle.memory_layout.specs.Decode.{list_at, maybe_at, flag_at, point_at, vec_at, sense_of, kind_of, tolerance_of, body_of, decode}
use Rattle.memory_layout.specs.Laid.{bit, sense, kind, maybe, tag, own}
use Rattle.image_format.specs.Bytes.{little, number, words_in, floats_in, lists_in}
use Rattle.image_format.specs.Fields.{Fields, mark_of, word_counts, float_counts, list_counts, PRECISION_RECORD, record_image, fields_in, behind, body_fields, region_fields, shell_fields, face_fields, loop_fields, fin_fields, edge_fields, vertex_fields, carrier_fields, body_in, region_in, shell_in, face_in, loop_in, fin_in, edge_in, vertex_in, carrier_in}
use Rattle.image_format.specs.Image.{table_image, records_image, version_image, image_of, count_in, behind_records, table_bytes, fields_at, model_of, version_in, records_in, model_in}
use Rattle.image_laws.specs.Numbers.{Below, Bytes, Words, Doubles, Lists, below-first, below-cons, below_at, below-drop, number-below, numbers_in, words-in, length-words_in, patterns, floats-are, flat, lists-are}
use Rattle.image_laws.specs.Records.{first-marked, body-marked, Fitting}
use Rattle.image_laws.specs.Models.{Machine}

-- ---- every entry, and each

abbrev WIDE : ℕ
WIDE = 0x1_0000_0000

pub below_all : (n : ℕ) (l : List ℕ) → ((i : ℕ) → get_or l i 0 < n) → Below n l
below_all n [] h = all_none _
below_all n (y ∷ l) h = below-cons n y l (h 0) (below_all n l (λ i. h (suc i)))

below-take : (n k : ℕ) (l : List ℕ) → Below n l → Below n (take k l)
below-take n zero l b = all_none _
below-take n (suc k) [] b = b
below-take n (suc k) (y ∷ l) b = let both = below-first n y l b in below-cons n y (take k l) both.0 (below-take n k l both.1)

pub doubles-at : (x : List Float) (i : ℕ) → Doubles x → T (fits binary64 (real x i))
unfolding fits
doubles-at [] i d = tt
doubles-at (v ∷ x) zero d = d.0
doubles-at (v ∷ x) (suc i) d = doubles-at x i d.1

pub doubles-drop : (k : ℕ) (x : List Float) → Doubles x → Doubles (drop k x)
doubles-drop zero x d = d
doubles-drop (suc k) [] d = d
doubles-drop (suc k) (v ∷ x) d = doubles-drop k x d.1

pub doubles-take : (k : ℕ) (x : List Float) → Doubles x → Doubles (take k x)
doubles-take zero x d = tt
doubles-take (suc k) [] d = d
doubles-take (suc k) (v ∷ x) d = (d.0, doubles-take k x d.1)

-- a list with its count
abbrev Counted : List ℕ → Type 0
Counted l = Words (length l ∷ l)

counted-at : (r : List (List ℕ)) (j : ℕ) → Lists r → Counted (get_or r j [])
unfolding all
counted-at [] j h = refl
counted-at (l ∷ r) zero h = h.0
counted-at (l ∷ r) (suc j) h = counted-at r j h.1

-- ---- fields that are of their widths: a record that is read off them has such fields too

pub record Whole (f : Fields) : Type 0 where
  pub small : Words f.words
  pub double : Doubles f.floats
  pub short : Lists f.lists

pub kind-small : (k : BodyKind) → Words (kind k ∷ [])
unfolding all
kind-small acorn = refl
kind-small wire = refl
kind-small sheet = refl
kind-small solid = refl
kind-small general = refl

pub sense-small : (s : Sense) → Words (sense s ∷ [])
unfolding all
sense-small positive = refl
sense-small negative = refl

pub bit-small : (b : Bool) (l : List ℕ) → Words l → Words (bit b ∷ l)
bit-small true l h = below-cons WIDE 1 l (omega arith) h
bit-small false l h = below-cons WIDE 0 l (omega arith) h

maybe-small : (w : List ℕ) (at : ℕ) → Words w → Words (maybe (maybe_at w at))
unfolding all
maybe-small w at h = go (eqb (word w at) 0)
  where
    go : (b : Bool) → Words (maybe (cond b none (some (word w (suc at)))))
    go true = refl
    go false = below-cons WIDE 1 (word w (suc at) ∷ []) (omega arith) (below-cons WIDE (word w (suc at)) [] (below_at WIDE w (suc at) (omega arith) h) refl)

maybe-long : (o : Option ℕ) → length (maybe o) ≡ 2
maybe-long none = refl
maybe-long (some x) = refl

ids-small : (w : List ℕ) (n : ℕ) → Words w → Words (n ∷ []) → Words (maybe (maybe_at w 0) ++ maybe (maybe_at w 2) ++ maybe (maybe_at w 4) ++ (n ∷ []))
ids-small w n h k =
    all_append _ (maybe (maybe_at w 0) ++ maybe (maybe_at w 2) ++ maybe (maybe_at w 4)) (n ∷ [])
    (all_append _ (maybe (maybe_at w 0) ++ maybe (maybe_at w 2)) (maybe (maybe_at w 4)) (all_append _ (maybe (maybe_at w 0)) (maybe (maybe_at w 2)) (maybe-small w 0 h) (maybe-small w 2 h)) (maybe-small w 4 h)) k

ids-long : (w : List ℕ) (n : ℕ) → length (maybe (maybe_at w 0) ++ maybe (maybe_at w 2) ++ maybe (maybe_at w 4) ++ (n ∷ [])) ≡ 7
ids-long w n = long (maybe_at w 0) (maybe_at w 2) (maybe_at w 4)
  where
    long : (a b c : Option ℕ) → length (maybe a ++ maybe b ++ maybe c ++ (n ∷ [])) ≡ 7
    long a b c = simp (length-append, maybe-long)

-- a tolerance's tag and float
tag_small : (n : ℕ) (t : Float) → Words (tag (tolerance_of n t) ∷ [])
unfolding all
tag_small n t = go (eqb n 0)
  where
    go : (b : Bool) → Words (tag (cond b Session (Own t)) ∷ [])
    go true = refl
    go false = refl

pub own-double : (n : ℕ) (t : Float) → T (fits binary64 t) → T (fits binary64 (own (tolerance_of n t)))
unfolding fits
own-double n t h = go (eqb n 0)
  where
    go : (b : Bool) → T (fits binary64 (own (cond b Session (Own t))))
    go true = tt
    go false = h

module _ (f : Fields) (w : Whole f) where
  at : (k : ℕ) → word f.words k < WIDE
  at k = below_at WIDE f.words k (omega arith) w.small

  float : (k : ℕ) → T (fits binary64 (real f.floats k))
  float k = doubles-at f.floats k w.double

  list : (j : ℕ) → Counted (get_or f.lists j [])
  list j = counted-at f.lists j w.short

  one_word : (k : ℕ) → Words (word f.words k ∷ [])
  one_word k = below-cons WIDE (word f.words k) [] (at k) (all_none _)

  pub body-fits : Fitting BODIES (body_fields (body_in f))
  body-fits = record { mark = body-marked f.office; words = refl; floats = refl; lists = refl; small = kind-small (kind_of (word f.words 0)); double = tt; short = (list 0, tt) }

  pub region-fits : Fitting REGIONS (region_fields (region_in f))
  region-fits =
      record {
        mark = first-marked REGIONS (omega arith);
        words = refl;
        floats = refl;
        lists = refl;
        small = below-cons WIDE (word f.words 0) _ (at 0) (bit-small (flag_at f.words 1) [] (all_none _));
        double = tt;
        short = (list 0, tt);
      }

  pub shell-fits : Fitting SHELLS (shell_fields (shell_in f))
  shell-fits = record { mark = first-marked SHELLS (omega arith); words = refl; floats = refl; lists = refl; small = one_word 0; double = tt; short = (list 0, (list 1, (list 2, tt))) }

  pub face-fits : Fitting FACES (face_fields (face_in f))
  face-fits =
      record {
        mark = first-marked FACES (omega arith);
        words = ids-long f.words (sense (sense_of (word f.words 6)));
        floats = refl;
        lists = refl;
        small = ids-small f.words _ w.small (sense-small (sense_of (word f.words 6)));
        double = tt;
        short = (list 0, tt);
      }

  pub loop-fits : Fitting LOOPS (loop_fields (loop_in f))
  loop-fits = record { mark = first-marked LOOPS (omega arith); words = refl; floats = refl; lists = refl; small = one_word 0; double = tt; short = (list 0, tt) }

  pub fin-fits : Fitting FINS (fin_fields (fin_in f))
  fin-fits =
      record {
        mark = first-marked FINS (omega arith);
        words = refl;
        floats = refl;
        lists = refl;
        small =
            below-cons WIDE (word f.words 0) _ (at 0)
            (below-cons WIDE (word f.words 1) _ (at 1)
            (all_append _ (sense (sense_of (word f.words 2)) ∷ []) _ (sense-small (sense_of (word f.words 2))) (bit-small (flag_at f.words 3) [] (all_none _))));
        double = tt;
        short = tt;
      }

  pub edge-fits : Fitting EDGES (edge_fields (edge_in f))
  edge-fits =
      record {
        mark = first-marked EDGES (omega arith);
        words = ids-long f.words (tag (tolerance_of (word f.words 6) (real f.floats 0)));
        floats = refl;
        lists = refl;
        small = ids-small f.words _ w.small (tag_small (word f.words 6) (real f.floats 0));
        double = (own-double (word f.words 6) (real f.floats 0) (float 0), tt);
        short = (list 0, tt);
      }

  pub vertex-fits : Fitting VERTICES (vertex_fields (vertex_in f))
  vertex-fits =
      record {
        mark = first-marked VERTICES (omega arith);
        words = refl;
        floats = refl;
        lists = refl;
        small = tag_small (word f.words 0) (real f.floats 3);
        double = (float 0, (float 1, (float 2, (own-double (word f.words 0) (real f.floats 3) (float 3), tt))));
        short = tt;
      }

  -- the ten used counts and the precision
  pub precision-fits : Fitting PRECISION_RECORD (record { office = office-0; words = map (word f.words) (0 ∷ 1 ∷ 2 ∷ 3 ∷ 4 ∷ 5 ∷ 6 ∷ 7 ∷ 8 ∷ 9 ∷ []); floats = real f.floats 0 ∷ []; lists = [] })
  unfolding all
  precision-fits =
      record {
        mark = first-marked PRECISION_RECORD (omega arith);
        words = refl;
        floats = refl;
        lists = refl;
        small = all_map (λ v. ltb v WIDE) (λ _. true) (word f.words) (0 ∷ 1 ∷ 2 ∷ 3 ∷ 4 ∷ 5 ∷ 6 ∷ 7 ∷ 8 ∷ 9 ∷ []) (λ k _. lt-ltb (word f.words k) WIDE (at k)) refl;
        double = (float 0, tt);
        short = tt;
      }

  -- whatever the two tests of its tag say
  pub carrier-fits : (k : ℕ) → k < 12 → word word_counts k ≡ 1 → word float_counts k ≡ 6 → word list_counts k ≡ 0 → Fitting k (carrier_fields (carrier_in f))
  unfolding all fits
  carrier-fits k h p q r = go (eqb (word f.words 0) 0) (eqb (word f.words 0) 1)
    where
      go : (a b : Bool) →
          Fitting k (carrier_fields (cond a (Carriers.Line (record { origin = point_at f.floats 0; direction = vec_at f.floats 3 })) (cond b (Carriers.Plane (record { origin = point_at f.floats 0; normal = vec_at f.floats 3 })) Carriers.Other)))
      go true b =
          record { mark = first-marked k h; words = sym p; floats = sym q; lists = sym r; small = refl; double = (float 0, (float 1, (float 2, (float 3, (float 4, (float 5, tt)))))); short = tt }
      go false true =
          record { mark = first-marked k h; words = sym p; floats = sym q; lists = sym r; small = refl; double = (float 0, (float 1, (float 2, (float 3, (float 4, (float 5, tt)))))); short = tt }
      go false false = record { mark = first-marked k h; words = sym p; floats = sym q; lists = sym r; small = refl; double = (tt, (tt, (tt, (tt, (tt, (tt, tt)))))); short = tt }

-- ---- read off bytes

numbers-below : (w n : ℕ) (s : List ℕ) → Bytes s → Below (256 ^ w) (numbers_in w n s)
unfolding numbers_in
numbers-below w zero s b = all_none _
numbers-below w (suc n) s b = below-cons (256 ^ w) (number w s) _ (number-below w s b) (numbers-below w n (drop w s) (below-drop 256 w s b))

pub words-below : (n : ℕ) (s : List ℕ) → Bytes s → Words (words_in n s)
words-below n s b = rw (words-in n s) (numbers-below 4 n s b)

floats-double : (n : ℕ) (s : List ℕ) → Doubles (floats_in n s)
unfolding floats_in
floats-double zero s = tt
floats-double (suc n) s = (of_bits-fits binary64 (number 8 s), floats-double n (drop 8 s))

pub lists-short : (n : ℕ) (s : List ℕ) → Bytes s → Lists (lists_in n s)
unfolding lists_in
lists-short zero s b = tt
lists-short (suc n) s b =
    let count = number 4 s in (
      below-cons WIDE (length (words_in count (drop 4 s))) _ (rw (length-words_in count (drop 4 s)) (number-below 4 s b)) (words-below count (drop 4 s) (below-drop 256 4 s b)),
      lists-short n (drop (4 * suc count) s) (below-drop 256 (4 * suc count) s b),
    )

pub whole_in : (k : ℕ) (s : List ℕ) → Bytes s → Whole (fields_in k s)
unfolding fields_in
whole_in k s b =
    let n = 2 + 4 * word word_counts k in
    let l = n + 8 * word float_counts k in
    record {
      small = words-below (word word_counts k) (drop 2 s) (below-drop 256 2 s b);
      double = floats-double (word float_counts k) (drop n s);
      short = lists-short (word list_counts k) (drop l s) (below-drop 256 l s b);
    }

pub behind-bytes : (k n : ℕ) (s : List ℕ) → Bytes s → Bytes (behind_records k n s)
unfolding behind_records behind
behind-bytes k zero s h = h
behind-bytes k (suc n) s h = let r = behind_records k n s in below-drop 256 (length (record_image k (fields_in k r))) r (behind-bytes k n s h)

module _ (b : List ℕ) (bytes : Bytes b) where
  pub table-bytes : (k : ℕ) → Bytes (table_bytes b k)
  unfolding table_bytes behind
  table-bytes zero = below-drop 256 (length (record_image PRECISION_RECORD (fields_in PRECISION_RECORD b))) b bytes
  table-bytes (suc k) = behind-bytes k (count_in b k) (table_bytes b k) (table-bytes k)

  pub whole-at : (k i : ℕ) → Whole (fields_at b k i)
  unfolding fields_at
  whole-at k i = whole_in k _ (behind-bytes k i (table_bytes b k) (table-bytes k))

  machine-of : (v : Version) → Machine (model_of b v)
  unfolding model_of count_in
  machine-of v =
      record {
        precision = precision-fits (fields_in PRECISION_RECORD b) (whole_in PRECISION_RECORD b bytes);
        bodies = λ i _. body-fits (fields_at b BODIES i) (whole-at BODIES i);
        regions = λ i _. region-fits (fields_at b REGIONS i) (whole-at REGIONS i);
        shells = λ i _. shell-fits (fields_at b SHELLS i) (whole-at SHELLS i);
        faces = λ i _. face-fits (fields_at b FACES i) (whole-at FACES i);
        loops = λ i _. loop-fits (fields_at b LOOPS i) (whole-at LOOPS i);
        fins = λ i _. fin-fits (fields_at b FINS i) (whole-at FINS i);
        edges = λ i _. edge-fits (fields_at b EDGES i) (whole-at EDGES i);
        vertices = λ i _. vertex-fits (fields_at b VERTICES i) (whole-at VERTICES i);
        curves = λ i _. carrier-fits (fields_at b CURVES i) (whole-at CURVES i) CURVES (omega arith) refl refl refl;
        surfaces = λ i _. carrier-fits (fields_at b SURFACES i) (whole-at SURFACES i) SURFACES (omega arith) refl refl refl;
      }

pub records-bytes : (b : List ℕ) → Bytes b → Bytes (records_in b)
unfolding records_in
records-bytes b h = below-drop 256 (length (version_image (version_in b))) b h

-- the model in any bytes is of such numbers and floats
pub machine-in : (b : List ℕ) → Bytes b → Machine (model_in b)
unfolding model_in
machine-in b h = machine-of (records_in b) (records-bytes b h) (version_in b)

-- ---- in lent memory

module _ (room w : List ℕ) (x : List Float) (words : Words w) (doubles : Doubles x) where
  record-words : (k i : ℕ) → Words (words_of room w k i)
  unfolding words_of
  record-words k i = below-take WIDE (word word_strides k) (drop (word_at room k i) w) (below-drop WIDE (word_at room k i) w words)

  record-floats : (k i : ℕ) → Doubles (reals_of room x k i)
  unfolding reals_of
  record-floats k i = doubles-take (word real_strides k) (drop (real_at room k i) x) (doubles-drop (real_at room k i) x doubles)

  -- a list is no longer than its count says
  list_counted : (l : List ℕ) (at : ℕ) → Words l → Counted (list_at l at)
  unfolding list_at
  list_counted l at h =
      let n = word l at in
      let below : n < WIDE = below_at WIDE l at (omega arith) h in
      let short : length (take n (drop (suc at) l)) ≤ n = rw length-take (min-le_left n (length (drop (suc at) l))) in
      below-cons WIDE (length (take n (drop (suc at) l))) _ (omega arith) (below-take WIDE n (drop (suc at) l) (below-drop WIDE (suc at) l h))

  -- the fields of record i of table k, with the lists at the places given
  fields : ℕ → ℕ → List ℕ → Fields
  fields k i places = record { office = (body_of (words_of room w k i)).office; words = words_of room w k i; floats = reals_of room x k i; lists = map (list_at (words_of room w k i)) places }

  fields-whole : (k i : ℕ) (places : List ℕ) → Whole (fields k i places)
  unfolding fields
  fields-whole k i places = record { small = record-words k i; double = record-floats k i; short = each places }
    where
      each : (l : List ℕ) → Lists (map (list_at (words_of room w k i)) l)
      each [] = tt
      each (p ∷ l) = (list_counted (words_of room w k i) p (record-words k i), each l)

  pub machine-lent : Machine (decode room w x)
  unfolding decode fields
  machine-lent =
      record {
        precision = precision-fits (record { office = office-0; words = w; floats = x; lists = [] }) (record { small = words; double = doubles; short = tt });
        bodies = λ i _. body-fits (fields BODIES i (AT_BODY_REGIONS ∷ [])) (fields-whole BODIES i (AT_BODY_REGIONS ∷ []));
        regions = λ i _. region-fits (fields REGIONS i (AT_REGION_SHELLS ∷ [])) (fields-whole REGIONS i (AT_REGION_SHELLS ∷ []));
        shells = λ i _. shell-fits (fields SHELLS i (AT_SHELL_FACES ∷ AT_SHELL_WIRES ∷ AT_SHELL_ACORNS ∷ [])) (fields-whole SHELLS i (AT_SHELL_FACES ∷ AT_SHELL_WIRES ∷ AT_SHELL_ACORNS ∷ []));
        faces = λ i _. face-fits (fields FACES i (AT_FACE_LOOPS ∷ [])) (fields-whole FACES i (AT_FACE_LOOPS ∷ []));
        loops = λ i _. loop-fits (fields LOOPS i (AT_LOOP_FINS ∷ [])) (fields-whole LOOPS i (AT_LOOP_FINS ∷ []));
        fins = λ i _. fin-fits (fields FINS i []) (fields-whole FINS i []);
        edges = λ i _. edge-fits (fields EDGES i (AT_EDGE_FINS ∷ [])) (fields-whole EDGES i (AT_EDGE_FINS ∷ []));
        vertices = λ i _. vertex-fits (fields VERTICES i []) (fields-whole VERTICES i []);
        curves = λ i _. carrier-fits (fields CURVES i []) (fields-whole CURVES i []) CURVES (omega arith) refl refl refl;
        surfaces = λ i _. carrier-fits (fields SURFACES i []) (fields-whole SURFACES i []) SURFACES (omega arith) refl refl refl;
      }

-- ---- an image is of bytes

little-bytes : (k n : ℕ) → Bytes (little k n)
unfolding little
little-bytes zero n = all_none _
little-bytes (suc k) n = below-cons 256 (n % 256) (little k (n / 256)) (mod-lt n (zero-lt-suc 255)) (little-bytes k (n / 256))

joined_bytes : (f : ℕ → List ℕ) (l : List ℕ) → ((y : ℕ) → Bytes (f y)) → Bytes (joined f l)
unfolding joined
joined_bytes f [] h = all_none _
joined_bytes f (y ∷ l) h = all_append _ (f y) (joined f l) (h y) (joined_bytes f l h)

record-bytes : (k : ℕ) (f : Fields) → Bytes (record_image k f)
unfolding record_image
record-bytes k f =
    rw (floats-are f.floats, lists-are f.lists)
    (simp (all_both, little-bytes 2 (mark_of k f.office), joined_bytes (little 4) f.words (little-bytes 4), joined_bytes (little 8) (patterns f.floats) (little-bytes 8), joined_bytes (little 4) (flat f.lists) (little-bytes 4)))

table-image-bytes : {A : Type 0} (k : ℕ) (fields : A → Fields) (t : Table A) → Bytes (table_image k fields t)
unfolding table_image
table-image-bytes k fields t = joined_bytes (λ i. record_image k (fields (t.slot i))) (run 0 t.used) (λ i. record-bytes k (fields (t.slot i)))

version-bytes : (v : Version) → Bytes (version_image v)
unfolding version_image
version-bytes First = all_none _
version-bytes Second = record-bytes 11 _

pub image-bytes : (m : Model) → Bytes (image_of m)
unfolding image_of records_image
image-bytes m = simp (all_both, version-bytes, record-bytes, table-image-bytes)
