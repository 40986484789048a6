-- The model that sound memory holds can be written: its numbers are ids of records that there are, and its floats are those of the memory. Splits make no floats but of 64 bits. Assumes nothing.
use Rattle.std.specs.Prelude.{ℕ, zero, suc, ◌+◌, ◌≤◌, ◌<◌, ◌≡◌, Bool, true, T, leb, ltb, length, take, drop, Float}
use Rattle.std.proofs.Common.{le_trans, arith, leb-true, ltb-true}
use Rattle.std.proofs.Math.Path.{refl, subst}
use mathlib.Core.List.{List, [], ◌∷◌, ◌++◌}
use Rattle.std.proofs.Math.Option.{Option, none, some}
use Rattle.std.specs.Float.{binary64}
use Rattle.std.specs.Float.Ieee.{fits}
use Rattle.std.specs.Float.Ieee.Fits.{add-fits}
use Rattle.geom_lines_planes.specs.declared.tolerance.Tolerance.{Tolerance}
use Rattle.geom_lines_planes.specs.declared.tolerance.Tolerance.TheVariants.{Own, Session}
use Rattle.geom_lines_planes.specs.Geometry.{line_point}
use Rattle.float_vectors.specs.Space.{along}
use Rattle.meaning.specs.Lists.{all}
use Rattle.meaning.specs.Model.{BodyKind, Sense, office-0, Body, Region, Shell, Face, Loop, Fin, Edge, Vertex}
use Rattle.meaning.specs.Split.{Cut, split_point}
use Rattle.meaning.specs.Formed.{StoredIds, below_maybe}
use Rattle.meaning_list_laws.specs.Lists.{all_none, all_append, all-weaken}
use Rattle.memory_layout.specs.Layout.{real_strides, word, real, real_at, words_of, reals_of}
use Rattle.memory_layout.specs.Decode.{body_of, region_of, shell_of, face_of, loop_of, fin_of, edge_of, vertex_of, carrier_of, decode}
use Rattle.memory_layout.specs.Laid.{bit, sense, kind, maybe, tag, own, rooms}
use Rattle.memory_layout.specs.Readable.{record_ok}
use Rattle.memory_layout.specs.Entries.{list_tables, list_of}
use Rattle.memory_layout.specs.Fit.{Fit}
use Rattle.memory_layout.specs.Laws.{capacity-le, lists_of, limit-le}
use Rattle.memory_layout.proofs.Laws.{listed_le}
use Rattle.memory_writes.specs.Put.{over, put_reals, unless_refused}
use Rattle.image_format.specs.Fields.{word_counts, float_counts, list_counts, body_fields, region_fields, shell_fields, face_fields, loop_fields, fin_fields, edge_fields, vertex_fields, carrier_fields}
use Rattle.image_format.specs.Image.{precision_fields}
use Rattle.image_laws.specs.Numbers.{Words, Doubles, below-first, below-cons}
use Rattle.image_laws.specs.Records.{Fitting, body_back, region-back, face-back, fin-back, edge-back, vertex-back}
use Rattle.image_laws.specs.Models.{Machine}
use Rattle.image_laws.specs.Machines.{kind-small, sense-small, bit-small, doubles-at, doubles-drop, doubles-take, own-double, body-fits, region-fits, shell-fits, face-fits, loop-fits, fin-fits, edge-fits, vertex-fits, carrier-fits, precision-fits}
use Rattle.split_place.specs.SplitNumber.{split_number}
use Rattle.split_pieces.specs.Pieces.{floats_put}
use Rattle.split_edge.specs.After.{reals_split, split_words, split_reals}
use Rattle.split_sequences.specs.Sequence.{calls_reals}

-- ---- ids of records that there are

ids-small : (n : ℕ) (l : List ℕ) → n ≤ 4096 → all (λ v. ltb v n) l ≡ true → Words l
ids-small n l h e = all-weaken n 0x1_0000_0000 l (omega arith) e

abbrev WIDE : ℕ
WIDE = 0x1_0000_0000

kind-below : (x : BodyKind) → kind x < WIDE
kind-below x = (below-first WIDE (kind x) [] (kind-small x)).0

sense-below : (x : Sense) → sense x < WIDE
sense-below x = (below-first WIDE (sense x) [] (sense-small x)).0

bit_below : (b : Bool) → bit b < WIDE
bit_below b = (below-first WIDE (bit b) [] (bit-small b [] (all_none _))).0

listed_small : (n : ℕ) (l : List ℕ) → n ≤ 4096 → length l ≤ 1024 → all (λ v. ltb v n) l ≡ true → Words (length l ∷ l)
listed_small n l h g e = below-cons WIDE (length l) l (omega arith) (ids-small n l h e)

one-small : (n i : ℕ) (l : List ℕ) → n ≤ 4096 → i < n → Words l → Words (i ∷ l)
one-small n i l h g e = below-cons WIDE i l (omega arith) e

maybe-small : (n : ℕ) (o : Option ℕ) → n ≤ 4096 → below_maybe n o ≡ true → Words (maybe o)
maybe-small n none h e = below-cons WIDE 0 (0 ∷ []) (omega arith) (below-cons WIDE 0 [] (omega arith) (all_none _))
maybe-small n (some i) h e = below-cons WIDE 1 (i ∷ []) (omega arith) (one-small n i [] h (ltb-true i n e) (all_none _))

three-small : (a b c : Option ℕ) (n : ℕ) → Words (maybe a) → Words (maybe b) → Words (maybe c) → n < 0x1_0000_0000 → Words (maybe a ++ maybe b ++ maybe c ++ (n ∷ []))
three-small a b c n p q r h =
    all_append _ (maybe a ++ maybe b ++ maybe c) (n ∷ []) (all_append _ (maybe a ++ maybe b) (maybe c) (all_append _ (maybe a) (maybe b) p q) r) (below-cons WIDE n [] h (all_none _))

tag_small : (t : Tolerance) → tag t < 0x1_0000_0000
tag_small (Own t) = omega arith
tag_small Session = omega arith

-- ---- floats of 64 bits

doubles-append : (x y : List Float) → Doubles x → Doubles y → Doubles (x ++ y)
doubles-append [] y d e = e
doubles-append (v ∷ x) y d e = (d.0, doubles-append x y d.1 e)

doubles-over : (at : ℕ) (a x : List Float) → Doubles a → Doubles x → Doubles (over at a x)
unfolding over
doubles-over at a x d e =
    doubles-append (take at x ++ a) (drop (at + length a) x) (doubles-append (take at x) a (doubles-take at x e) d) (doubles-drop (at + length a) x e)

record-doubles : (room : List ℕ) (x : List Float) (k i : ℕ) → Doubles x → Doubles (reals_of room x k i)
unfolding reals_of
record-doubles room x k i d = doubles-take (word real_strides k) (drop (real_at room k i) x) (doubles-drop (real_at room k i) x d)

-- ---- the model of sound memory

module _ (room w : List ℕ) (x : List Float) (f : Fit room w x) (ids : StoredIds (decode room w x)) (d : Doubles x) where
  few : (k : ℕ) → k < 10 → word w k ≤ 4096
  few k h = le_trans (f.sized.counts k h) (capacity-le room f.sized.small k h)

  short : (j i : ℕ) → j < 8 → i < word w (word list_tables j) → length (list_of room w j i) ≤ 1024
  short j i h g = le_trans (listed_le room w j i (lists_of room w x f) h g) (limit-le j h)

  record-floats : (k i : ℕ) → Doubles (reals_of room x k i)
  record-floats k i = record-doubles room x k i d

  float : (k i j : ℕ) → T (fits binary64 (real (reals_of room x k i) j))
  float k i j = doubles-at (reals_of room x k i) j (record-floats k i)

  body-fit : (i : ℕ) → i < word w 0 → Fitting 0 (body_fields (body_of (words_of room w 0 i)))
  unfolding decode list_of
  body-fit i h =
      let r : Body = body_of (words_of room w 0 i) in
      subst (λ (r : Body). Fitting 0 (body_fields r)) (body_back r)
      (body-fits (body_fields r)
      (record {
        small = below-cons WIDE _ [] (kind-below r.kind) (all_none _);
        double = tt;
        short = (listed_small (word w 1) r.regions (few 1 (omega arith)) (short 0 i (omega arith) h) (ids.body-regions i h), tt);
      }))

  region-fit : (i : ℕ) → i < word w 1 → Fitting 1 (region_fields (region_of (words_of room w 1 i)))
  unfolding decode list_of
  region-fit i h =
      let r : Region = region_of (words_of room w 1 i) in
      subst (λ (r : Region). Fitting 1 (region_fields r)) (region-back r)
      (region-fits (region_fields r)
      (record {
        small = one-small (word w 0) r.body _ (few 0 (omega arith)) (ids.region-body i h) (below-cons WIDE _ [] (bit_below r.solid) (all_none _));
        double = tt;
        short = (listed_small (word w 2) r.shells (few 2 (omega arith)) (short 1 i (omega arith) h) (ids.region-shells i h), tt);
      }))

  shell-fit : (i : ℕ) → i < word w 2 → Fitting 2 (shell_fields (shell_of (words_of room w 2 i)))
  unfolding decode list_of
  shell-fit i h =
      let r : Shell = shell_of (words_of room w 2 i) in
      shell-fits (shell_fields r)
      (record {
        small = one-small (word w 1) r.region [] (few 1 (omega arith)) (ids.shell-region i h) (all_none _);
        double = tt;
        short = (
          listed_small (word w 3) r.faces (few 3 (omega arith)) (short 2 i (omega arith) h) (ids.shell-faces i h),
          (
            listed_small (word w 6) r.wire_edges (few 6 (omega arith)) (short 3 i (omega arith) h) (ids.shell-wire-edges i h),
            (listed_small (word w 7) r.acorn_vertices (few 7 (omega arith)) (short 4 i (omega arith) h) (ids.shell-acorn-vertices i h), tt),
          ),
        );
      })

  face-fit : (i : ℕ) → i < word w 3 → Fitting 3 (face_fields (face_of (words_of room w 3 i)))
  unfolding decode list_of
  face-fit i h =
      let r : Face = face_of (words_of room w 3 i) in
      subst (λ (r : Face). Fitting 3 (face_fields r)) (face-back r)
      (face-fits (face_fields r)
      (record {
        small =
            three-small r.front r.back r.surface (sense r.sense)
            (maybe-small (word w 2) r.front (few 2 (omega arith)) (ids.face-front i h))
            (maybe-small (word w 2) r.back (few 2 (omega arith)) (ids.face-back i h))
            (maybe-small (word w 9) r.surface (few 9 (omega arith)) (ids.face-surface i h)) (sense-below r.sense);
        double = tt;
        short = (listed_small (word w 4) r.loops (few 4 (omega arith)) (short 5 i (omega arith) h) (ids.face-loops i h), tt);
      }))

  loop-fit : (i : ℕ) → i < word w 4 → Fitting 4 (loop_fields (loop_of (words_of room w 4 i)))
  unfolding decode list_of
  loop-fit i h =
      let r : Loop = loop_of (words_of room w 4 i) in
      loop-fits (loop_fields r)
      (record {
        small = one-small (word w 3) r.face [] (few 3 (omega arith)) (ids.loop-face i h) (all_none _);
        double = tt;
        short = (listed_small (word w 5) r.fins (few 5 (omega arith)) (short 6 i (omega arith) h) (ids.loop-fins i h), tt);
      })

  fin-fit : (i : ℕ) → i < word w 5 → Fitting 5 (fin_fields (fin_of (words_of room w 5 i)))
  unfolding decode
  fin-fit i h =
      let r : Fin = fin_of (words_of room w 5 i) in
      subst (λ (r : Fin). Fitting 5 (fin_fields r)) (fin-back r)
      (fin-fits (fin_fields r)
      (record {
        small =
            one-small (word w 4) r.owner _ (few 4 (omega arith)) (ids.fin-owner i h)
            (one-small (word w 6) r.edge _ (few 6 (omega arith)) (ids.fin-edge i h)
            (below-cons WIDE _ _ (sense-below r.sense) (below-cons WIDE _ [] (bit_below r.pcurve) (all_none _))));
        double = tt;
        short = tt;
      }))

  edge-fit : (i : ℕ) → i < word w 6 → Fitting 6 (edge_fields (edge_of (words_of room w 6 i) (reals_of room x 6 i)))
  unfolding decode list_of
  edge-fit i h =
      let r : Edge = edge_of (words_of room w 6 i) (reals_of room x 6 i) in
      subst (λ (r : Edge). Fitting 6 (edge_fields r)) (edge-back r)
      (edge-fits (edge_fields r)
      (record {
        small =
            three-small r.start r.end r.curve (tag r.tolerance)
            (maybe-small (word w 7) r.start (few 7 (omega arith)) (ids.edge-start i h))
            (maybe-small (word w 7) r.end (few 7 (omega arith)) (ids.edge-end i h))
            (maybe-small (word w 8) r.curve (few 8 (omega arith)) (ids.edge-curve i h)) (tag_small r.tolerance);
        double = (own-double (word (words_of room w 6 i) 6) (real (reals_of room x 6 i) 0) (float 6 i 0), tt);
        short = (listed_small (word w 5) r.fins (few 5 (omega arith)) (short 7 i (omega arith) h) (ids.edge-fins i h), tt);
      }))

  vertex-fit : (i : ℕ) → Fitting 7 (vertex_fields (vertex_of (words_of room w 7 i) (reals_of room x 7 i)))
  vertex-fit i =
      let r : Vertex = vertex_of (words_of room w 7 i) (reals_of room x 7 i) in
      subst (λ (r : Vertex). Fitting 7 (vertex_fields r)) (vertex-back r)
      (vertex-fits (vertex_fields r)
      (record {
        small = below-cons WIDE _ [] (tag_small r.tolerance) (all_none _);
        double = (float 7 i 0, (float 7 i 1, (float 7 i 2, (own-double (word (words_of room w 7 i) 0) (real (reals_of room x 7 i) 3) (float 7 i 3), tt))));
        short = tt;
      }))

  carrier-fit : (k i : ℕ) → k < 12 → word word_counts k ≡ 1 → word float_counts k ≡ 6 → word list_counts k ≡ 0 → leb (word (words_of room w k i) 0) 2 ≡ true
      → Fitting k (carrier_fields (carrier_of (words_of room w k i) (reals_of room x k i)))
  carrier-fit k i g p q r e =
      let n : ℕ = word (words_of room w k i) 0 in
      let h : n ≤ 2 = leb-true n 2 e in
      carrier-fits (record { office = office-0; words = n ∷ []; floats = reals_of room x k i; lists = [] })
      (record { small = below-cons WIDE n [] (omega arith) (all_none _); double = record-floats k i; short = tt }) k g p q r

  counts-small : Words (rooms (decode room w x))
  unfolding decode
  counts-small =
      count 0 _ (omega arith)
      (count 1 _ (omega arith)
      (count 2 _ (omega arith)
      (count 3 _ (omega arith)
      (count 4 _ (omega arith) (count 5 _ (omega arith) (count 6 _ (omega arith) (count 7 _ (omega arith) (count 8 _ (omega arith) (count 9 [] (omega arith) (all_none _))))))))))
    where
      count : (k : ℕ) (l : List ℕ) → k < 10 → Words l → Words (word w k ∷ l)
      count k l h e = let c = few k h in below-cons WIDE (word w k) l (omega arith) e

  -- it fits the widths of an image
  pub machine-sound : Machine (decode room w x)
  unfolding decode record_ok
  machine-sound =
      record {
        precision = precision-fits (precision_fields (decode room w x)) (record { small = counts-small; double = (doubles-at x 0 d, tt); short = tt });
        bodies = body-fit;
        regions = region-fit;
        shells = shell-fit;
        faces = face-fit;
        loops = loop-fit;
        fins = fin-fit;
        edges = edge-fit;
        vertices = λ i _. vertex-fit i;
        curves = λ i h. carrier-fit 8 i (omega arith) refl refl refl (f.rows 8 i (omega arith) h);
        surfaces = λ i h. carrier-fit 9 i (omega arith) refl refl refl (f.rows 9 i (omega arith) h);
      }

-- ---- splits

-- the split point is made by additions
split-double : (room w : List ℕ) (x : List Float) (e : ℕ) (t : Float) → Doubles x → Doubles (reals_split room w x e t)
unfolding reals_split floats_put put_reals split_point line_point along
split-double room w x e t d =
    let own : T (fits binary64 (real (reals_of room x 6 e) 0)) = doubles-at (reals_of room x 6 e) 0 (record-doubles room x 6 e d) in
    doubles-over _ _ _ (add-fits binary64 _ _, (add-fits binary64 _ _, (add-fits binary64 _ _, (own, tt)))) (doubles-over _ _ x (own, tt) d)

unless-double : (n : ℕ) (x y : List Float) → Doubles x → Doubles y → Doubles (unless_refused n x y)
unless-double zero x y d e = d
unless-double (suc n) x y d e = e

pub calls-double : (room w : List ℕ) (x : List Float) (l : List Cut) → Doubles x → Doubles (calls_reals room w x l)
unfolding calls_reals
calls-double room w x [] d = d
calls-double room w x (c ∷ l) d = calls-double room (split_words room w x c.edge c.fraction) (split_reals room w x c.edge c.fraction) l once
  where
    once : Doubles (split_reals room w x c.edge c.fraction)
    once = unfold split_reals in
        unless-double (split_number room w x c.edge c.fraction) (reals_split room w x c.edge c.fraction) x (split-double room w x c.edge c.fraction d) d
