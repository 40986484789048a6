-- A record that is written is read as it was, its fields and what stands behind it; and the record of a record's fields is that record. Assumes nothing.
use Rattle.std.specs.Prelude.{ℕ, ◌+◌, ◌*◌, ◌<◌, ◌≡◌, refl, Bool, true, false, not, ◌&&◌, eqb, ltb, length, drop}
use Rattle.std.proofs.Common.{arith, sym, ap, ◌∙◌, length-append, drop-drop, ltb-true}
use mathlib.Core.List.{List, [], ◌∷◌, ◌++◌, append_assoc}
use Rattle.std.proofs.Math.Option.{Option, none, some}
use Rattle.std.proofs.lemmas.Bool.{not-true}
use Rattle.geom_lines_planes.specs.declared.tolerance.Tolerance.{Tolerance}
use Rattle.geom_lines_planes.specs.declared.tolerance.Tolerance.TheVariants.{Own, Session}
use Rattle.geom_carriers.specs.declared.Carrier.{Carrier}
use Rattle.geom_carriers.specs.declared.Carrier.TheVariants as Carriers
use Rattle.meaning.specs.Lists.{all_below}
use Rattle.meaning.specs.Model.{BodyKind, acorn, wire, sheet, solid, general, Sense, positive, negative, Office, office-0, office-1, Body, Region, Shell, Face, Loop, Fin, Edge, Vertex}
use Rattle.meaning_list_laws.specs.Tests.{and_both, all_below-at}
use Rattle.memory_layout.specs.Names.{BODIES}
use Rattle.memory_layout.specs.Layout.{word}
use Rattle.memory_layout.specs.Decode.{kind_of, sense_of, maybe_at, tolerance_of}
use Rattle.memory_layout.specs.Laid.{bit, sense, kind, maybe, tag, own}
use Rattle.image_format.specs.Bytes.{words, floats, lists, number}
use Rattle.image_format.specs.Fields.{Fields, marks, SECOND_BODY_MARK, mark_of, word_counts, float_counts, list_counts, record_image, office_in, body_fields, region_fields, shell_fields, face_fields, loop_fields, fin_fields, edge_fields, vertex_fields, carrier_fields, body_in, region_in, shell_in, face_in, loop_in, fin_in, edge_in, vertex_in, carrier_in}
use Rattle.image_laws.specs.Numbers.{Words, Doubles, Lists, length-little, number-little, drop-little, length-words, drop-words, length-floats, drop-floats}

-- ---- a mark of two bytes, which tells the office that it is written for
pub record Marked (k : ℕ) (o : Office) : Type 0 where
  pub narrow : mark_of k o < 0x1_0000
  pub told : office_in k (mark_of k o) ≡ o

-- the first mark of each table and of the two records in front of them, and both of a body
pub first-marked : (k : ℕ) → k < 12 → Marked k office-0
unfolding all_below
first-marked k h =
    let all = all_below-at (λ j. ltb (word marks j) 0x1_0000 && not (eqb j BODIES && eqb (word marks j) SECOND_BODY_MARK)) 12 k refl h in
    let both = and_both (ltb (word marks k) 0x1_0000) (not (eqb k BODIES && eqb (word marks k) SECOND_BODY_MARK)) all in
    record { narrow = ltb-true (word marks k) 0x1_0000 both.0; told = rw (not-true (eqb k BODIES && eqb (word marks k) SECOND_BODY_MARK) both.1) }

pub body-marked : (o : Office) → Marked BODIES o
body-marked office-0 = first-marked BODIES (omega arith)
body-marked office-1 = record { narrow = omega arith; told = refl }

-- ---- fields that a record of table k can have: as many as its shape says, each of its width
pub record Fitting (k : ℕ) (f : Fields) : Type 0 where
  pub mark : Marked k f.office
  pub words : length f.words ≡ word word_counts k
  pub floats : length f.floats ≡ word float_counts k
  pub lists : length f.lists ≡ word list_counts k
  pub small : Words f.words
  pub double : Doubles f.floats
  pub short : Lists f.lists

pub length-image : (k : ℕ) (f : Fields) → length (record_image k f) ≡ 2 + 4 * length f.words + 8 * length f.floats + length (lists f.lists)
unfolding record_image
length-image k f = simp (length-append, length-little, length-words, length-floats)

module _ (k : ℕ) (f : Fields) (s : List ℕ) (fit : Fitting k f) where
  abbrev whole : List ℕ
  whole = record_image k f ++ s

  -- the parts, one behind the other
  pub from-words : drop 2 whole ≡ words f.words ++ (floats f.floats ++ (lists f.lists ++ s))
  unfolding record_image
  from-words = simp append_assoc (drop-little 2 (mark_of k f.office) (words f.words ++ (floats f.floats ++ (lists f.lists ++ s))))

  pub from-floats : drop (2 + 4 * word word_counts k) whole ≡ floats f.floats ++ (lists f.lists ++ s)
  from-floats =
      sym (drop-drop (4 * word word_counts k) 2 whole) ∙ ap (drop (4 * word word_counts k)) from-words
      ∙ rw (← fit.words) (drop-words f.words (floats f.floats ++ (lists f.lists ++ s)))

  pub from-lists : drop (2 + 4 * word word_counts k + 8 * word float_counts k) whole ≡ lists f.lists ++ s
  from-lists =
      sym (drop-drop (8 * word float_counts k) (2 + 4 * word word_counts k) whole) ∙ ap (drop (8 * word float_counts k)) from-floats
      ∙ rw (← fit.floats) (drop-floats f.floats (lists f.lists ++ s))

  -- a record begins with its mark
  pub record-mark : number 2 whole ≡ mark_of k f.office
  unfolding record_image
  record-mark = simp append_assoc (number-little 2 (mark_of k f.office) (words f.words ++ (floats f.floats ++ (lists f.lists ++ s))) fit.mark.narrow)

-- ---- the nine kinds of records

kind-back : (k : BodyKind) → kind_of (kind k) ≡ k
kind-back acorn = refl
kind-back wire = refl
kind-back sheet = refl
kind-back solid = refl
kind-back general = refl

sense-back : (s : Sense) → sense_of (sense s) ≡ s
sense-back positive = refl
sense-back negative = refl

flag-back : (b : Bool) → not (eqb (bit b) 0) ≡ b
flag-back true = refl
flag-back false = refl

tolerance-back : (t : Tolerance) → tolerance_of (tag t) (own t) ≡ t
tolerance-back (Own t) = refl
tolerance-back Session = refl

-- three optional ids and a number
record Ids (w : List ℕ) (a b c : Option ℕ) (n : ℕ) : Type 0 where
  pub first : maybe_at w 0 ≡ a
  pub second : maybe_at w 2 ≡ b
  pub third : maybe_at w 4 ≡ c
  pub last : word w 6 ≡ n

ids-back : (a b c : Option ℕ) (n : ℕ) → Ids (maybe a ++ maybe b ++ maybe c ++ (n ∷ [])) a b c n
ids-back none none none n = record { first = refl; second = refl; third = refl; last = refl }
ids-back none none (some z) n = record { first = refl; second = refl; third = refl; last = refl }
ids-back none (some y) none n = record { first = refl; second = refl; third = refl; last = refl }
ids-back none (some y) (some z) n = record { first = refl; second = refl; third = refl; last = refl }
ids-back (some x) none none n = record { first = refl; second = refl; third = refl; last = refl }
ids-back (some x) none (some z) n = record { first = refl; second = refl; third = refl; last = refl }
ids-back (some x) (some y) none n = record { first = refl; second = refl; third = refl; last = refl }
ids-back (some x) (some y) (some z) n = record { first = refl; second = refl; third = refl; last = refl }

pub body_back : (r : Body) → body_in (body_fields r) ≡ r
body_back r = λ i. record { kind = kind-back r.kind i; office = r.office; regions = r.regions }

pub region-back : (r : Region) → region_in (region_fields r) ≡ r
region-back r = λ i. record { body = r.body; solid = flag-back r.solid i; shells = r.shells }

pub shell-back : (r : Shell) → shell_in (shell_fields r) ≡ r
shell-back r = refl

pub face-back : (r : Face) → face_in (face_fields r) ≡ r
face-back r =
    let t = ids-back r.front r.back r.surface (sense r.sense) in
    λ i. record { front = t.first i; back = t.second i; loops = r.loops; surface = t.third i; sense = (ap sense_of t.last ∙ sense-back r.sense) i }

pub loop-back : (r : Loop) → loop_in (loop_fields r) ≡ r
loop-back r = refl

pub fin-back : (r : Fin) → fin_in (fin_fields r) ≡ r
fin-back r = λ i. record { owner = r.owner; edge = r.edge; sense = sense-back r.sense i; pcurve = flag-back r.pcurve i }

pub edge-back : (r : Edge) → edge_in (edge_fields r) ≡ r
edge-back r =
    let t = ids-back r.start r.end r.curve (tag r.tolerance) in
    λ i. record {
      fins = r.fins;
      start = t.first i;
      end = t.second i;
      curve = t.third i;
      tolerance = (ap (λ n. tolerance_of n (own r.tolerance)) t.last ∙ tolerance-back r.tolerance) i;
    }

pub vertex-back : (r : Vertex) → vertex_in (vertex_fields r) ≡ r
vertex-back r = λ i. record { point = r.point; tolerance = tolerance-back r.tolerance i }

pub carrier-back : (c : Carrier) → carrier_in (carrier_fields c) ≡ c
carrier-back (Carriers.Line l) = refl
carrier-back (Carriers.Plane s) = refl
carrier-back Carriers.Other = refl
