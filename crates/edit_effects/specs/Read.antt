-- A record whose fields were written reads as those fields and its old lists, and passes its test where its values do. Assumes nothing.
-- r is the words of the record before: those of a used record, or of a new one all 0.
use Rattle.std.specs.Prelude.{ℕ, suc, ◌+◌, ◌-◌, ◌≤◌, ◌≡◌, Bool, true, false, not, cond, List, [], ◌∷◌, ◌++◌, eqb, leb, length, take, drop, Float}
use Rattle.std.proofs.Common.{zero-add, add-zero, arith, sym, ap, ◌∙◌, drop-drop, get_or-drop}
use Rattle.std.proofs.Math.Path.{refl}
use Rattle.std.proofs.Math.Option.{none, some}
use Rattle.std.proofs.Math.Seq.{drop-append-add}
use Rattle.float_vectors.specs.declared.vector.Point3.{Point3}
use Rattle.geom_lines_planes.specs.declared.tolerance.Tolerance.{Tolerance}
use Rattle.geom_lines_planes.specs.declared.tolerance.Tolerance.TheVariants.{Own, Session}
use Rattle.geom_carriers.specs.declared.Carrier.{Carrier}
use Rattle.geom_carriers.specs.declared.Carrier.TheVariants as Carriers
use Rattle.meaning.specs.Edits.{tolerance_ok}
use Rattle.meaning_list_laws.specs.Tests.{and_both}
use Rattle.memory_layout.specs.Layout.{word}
use Rattle.memory_layout.specs.Decode.{list_at, sense_of, kind_of, office_of, tolerance_of, body_of, region_of, shell_of, face_of, loop_of, fin_of, edge_of, vertex_of, carrier_of}
use Rattle.memory_layout.specs.Readable.{own_ok, record_ok}
use Rattle.memory_records.specs.declared.records.BodyKind.{BodyKind}
use Rattle.memory_records.specs.declared.records.BodyKind.TheVariants as Kinds
use Rattle.memory_records.specs.declared.records.Sense.{Sense}
use Rattle.memory_records.specs.declared.records.Sense.TheVariants as Senses
use Rattle.memory_records.specs.Seen.{Ref}
use Rattle.std.specs.Prelude.{Some, None}
use Rattle.memory_writes.specs.Put.{over}
use Rattle.edit_tags.specs.Tags.{kind_tag, sense_tag, mark, ref_tag, ref_id, tolerance_tag, tolerance_float}
use Rattle.edit_fields.specs.Fields.{body_fields, kind_fields, region_fields, shell_fields, face_fields, loop_fields, fin_fields, edge_fields, vertex_fields, carrier_fields, edge_floats, vertex_floats, carrier_floats}
use Rattle.edit_effects.specs.Meant.{meant_kind, meant_sense, meant_ref}

-- ---- what stands behind the fields is as it was

drop-kept : (f r : List ℕ) (at : ℕ) → length f ≤ at → drop at (over 0 f r) ≡ drop at r
unfolding over
drop-kept f r at h =
    let z : 0 + length f ≡ length f = zero-add (length f) in
    let e : length f + (at - length f) ≡ at = omega arith in
    ap (λ (n : ℕ). drop n (f ++ drop (0 + length f) r)) (sym e)
    ∙ drop-append-add f (drop (0 + length f) r) (at - length f)
    ∙ ap (λ (n : ℕ). drop (at - length f) (drop n r)) z
    ∙ drop-drop (at - length f) (length f) r
    ∙ ap (λ (n : ℕ). drop n r) e

word_first : (l : List ℕ) (at : ℕ) → word l at ≡ word (drop at l) 0
word_first l at = ap (word l) (sym (add-zero at)) ∙ sym (get_or-drop at l 0 0)

word_kept : (f r : List ℕ) (at : ℕ) → length f ≤ at → word (over 0 f r) at ≡ word r at
word_kept f r at h = word_first (over 0 f r) at ∙ ap (λ (l : List ℕ). word l 0) (drop-kept f r at h) ∙ sym (word_first r at)

list-kept : (f r : List ℕ) (at : ℕ) → length f ≤ at → list_at (over 0 f r) at ≡ list_at r at
unfolding list_at
list-kept f r at h =
    ap (λ (n : ℕ). take n (drop (suc at) (over 0 f r))) (word_kept f r at h)
    ∙ ap (take (word r at)) (drop-kept f r (suc at) (omega arith))

-- ---- a tag reads as what it stands for

kind-read : (kind : BodyKind) → kind_of (kind_tag kind) ≡ meant_kind kind
unfolding meant_kind
kind-read Kinds.Acorn = refl
kind-read Kinds.Wire = refl
kind-read Kinds.Sheet = refl
kind-read Kinds.Solid = refl
kind-read Kinds.General = refl

kind-known : (kind : BodyKind) → leb (kind_tag kind) 4 ≡ true
kind-known Kinds.Acorn = refl
kind-known Kinds.Wire = refl
kind-known Kinds.Sheet = refl
kind-known Kinds.Solid = refl
kind-known Kinds.General = refl

sense-read : (sense : Sense) → sense_of (sense_tag sense) ≡ meant_sense sense
unfolding meant_sense
sense-read Senses.Positive = refl
sense-read Senses.Negative = refl

sense-known : (sense : Sense) → leb (sense_tag sense) 1 ≡ true
sense-known Senses.Positive = refl
sense-known Senses.Negative = refl

mark-read : (b : Bool) → not (eqb (mark b) 0) ≡ b
mark-read true = refl
mark-read false = refl

mark-known : (b : Bool) → leb (mark b) 1 ≡ true
mark-known true = refl
mark-known false = refl

ref-read : (id : Ref) → cond (eqb (ref_tag id) 0) none (some (ref_id id)) ≡ meant_ref id
unfolding meant_ref
ref-read None = refl
ref-read (Some i) = refl

ref-known : (id : Ref) → leb (ref_tag id) 1 ≡ true
ref-known None = refl
ref-known (Some i) = refl

tolerance-read : (t : Tolerance) → tolerance_of (tolerance_tag t) (tolerance_float t) ≡ t
tolerance-read Session = refl
tolerance-read (Own t) = refl

tolerance-known : (t : Tolerance) → leb (tolerance_tag t) 1 ≡ true
tolerance-known Session = refl
tolerance-known (Own t) = refl

own-known : (t : Tolerance) → tolerance_ok t ≡ true → own_ok (tolerance_tag t) (tolerance_float t) ≡ true
own-known Session e = refl
own-known (Own t) e = e

-- ---- the records

module _ (r : List ℕ) where
  pub body-read : (kind : BodyKind) (office : ℕ) → body_of (over 0 (body_fields kind office) r) ≡ record { kind = meant_kind kind; office = office_of office; regions = list_at r 2 }
  unfolding body_fields over
  body-read kind office = rw (kind-read kind, list-kept (body_fields kind office) r 2 (omega arith))

  pub body_ok : (kind : BodyKind) (office : ℕ) → leb office 1 ≡ true → leb (word r 2) 16 ≡ true → record_ok 0 (over 0 (body_fields kind office) r) [] ≡ true
  unfolding body_fields over record_ok
  body_ok kind office o h = rw (kind-known kind, o, word_kept (body_fields kind office) r 2 (omega arith), h)

  -- a set, which keeps the office
  pub kind-set : (kind : BodyKind) → body_of (over 0 (kind_fields kind) r) ≡ record { kind = meant_kind kind; office = (body_of r).office; regions = list_at r 2 }
  unfolding kind_fields over
  kind-set kind = rw (kind-read kind, word_kept (kind_fields kind) r 1 (omega arith), list-kept (kind_fields kind) r 2 (omega arith))

  pub kind_ok : (kind : BodyKind) → leb (word r 1) 1 ≡ true → leb (word r 2) 16 ≡ true → record_ok 0 (over 0 (kind_fields kind) r) [] ≡ true
  unfolding kind_fields over record_ok
  kind_ok kind o h = rw (kind-known kind, word_kept (kind_fields kind) r 1 (omega arith), o, word_kept (kind_fields kind) r 2 (omega arith), h)

  pub region-read : (body : ℕ) (solid : Bool) → region_of (over 0 (region_fields body solid) r) ≡ record { body = body; solid = solid; shells = list_at r 2 }
  unfolding region_fields over
  region-read body solid = rw (mark-read solid, list-kept (region_fields body solid) r 2 (omega arith))

  pub region-ok : (body : ℕ) (solid : Bool) → leb (word r 2) 16 ≡ true → record_ok 1 (over 0 (region_fields body solid) r) [] ≡ true
  unfolding region_fields over record_ok
  region-ok body solid h = rw (mark-known solid, word_kept (region_fields body solid) r 2 (omega arith), h)

  pub shell-read : (region : ℕ)
      → shell_of (over 0 (shell_fields region) r) ≡ record { region = region; faces = list_at r 1; wire_edges = list_at r 514; acorn_vertices = list_at r 771 }
  unfolding over
  shell-read region =
      let f = shell_fields region in
      rw (list-kept f r 1 (omega arith), list-kept f r 514 (omega arith), list-kept f r 771 (omega arith))

  pub shell-ok : (region : ℕ) → leb (word r 1) 512 ≡ true → leb (word r 514) 256 ≡ true → leb (word r 771) 64 ≡ true
      → record_ok 2 (over 0 (shell_fields region) r) [] ≡ true
  unfolding over record_ok
  shell-ok region h g e =
      let f = shell_fields region in
      rw (word_kept f r 1 (omega arith), word_kept f r 514 (omega arith), word_kept f r 771 (omega arith), h, g, e)

  pub face-read : (front back surface : Ref) (sense : Sense)
      → face_of (over 0 (face_fields front back surface sense) r)
      ≡ record { front = meant_ref front; back = meant_ref back; loops = list_at r 7; surface = meant_ref surface; sense = meant_sense sense }
  unfolding face_fields over
  face-read front back surface sense =
      rw (ref-read front, ref-read back, ref-read surface, sense-read sense, list-kept (face_fields front back surface sense) r 7 (omega arith))

  pub face-ok : (front back surface : Ref) (sense : Sense) → leb (word r 7) 16 ≡ true → record_ok 3 (over 0 (face_fields front back surface sense) r) [] ≡ true
  unfolding face_fields over record_ok
  face-ok front back surface sense h =
      rw (ref-known front, ref-known back, ref-known surface, sense-known sense, word_kept (face_fields front back surface sense) r 7 (omega arith), h)

  pub loop-read : (face : ℕ) → loop_of (over 0 (loop_fields face) r) ≡ record { face = face; fins = list_at r 1 }
  unfolding over
  loop-read face = rw (list-kept (loop_fields face) r 1 (omega arith))

  pub loop-ok : (face : ℕ) → leb (word r 1) 1024 ≡ true → record_ok 4 (over 0 (loop_fields face) r) [] ≡ true
  unfolding over record_ok
  loop-ok face h = rw (word_kept (loop_fields face) r 1 (omega arith), h)

  pub fin-read : (owner edge : ℕ) (sense : Sense) (pcurve : Bool)
      → fin_of (over 0 (fin_fields owner edge sense pcurve) r) ≡ record { owner = owner; edge = edge; sense = meant_sense sense; pcurve = pcurve }
  unfolding fin_fields over
  fin-read owner edge sense pcurve = rw (sense-read sense, mark-read pcurve)

  pub fin-ok : (owner edge : ℕ) (sense : Sense) (pcurve : Bool) → record_ok 5 (over 0 (fin_fields owner edge sense pcurve) r) [] ≡ true
  unfolding fin_fields over record_ok
  fin-ok owner edge sense pcurve = rw (sense-known sense, mark-known pcurve)

  pub edge-read : (start end curve : Ref) (t : Tolerance)
      → edge_of (over 0 (edge_fields start end curve t) r) (edge_floats t)
      ≡ record { fins = list_at r 7; start = meant_ref start; end = meant_ref end; curve = meant_ref curve; tolerance = t }
  unfolding edge_fields edge_floats over
  edge-read start end curve t =
      rw (ref-read start, ref-read end, ref-read curve, tolerance-read t, list-kept (edge_fields start end curve t) r 7 (omega arith))

  pub edge-ok : (start end curve : Ref) (t : Tolerance) → tolerance_ok t ≡ true → leb (word r 7) 8 ≡ true
      → record_ok 6 (over 0 (edge_fields start end curve t) r) (edge_floats t) ≡ true
  unfolding edge_fields edge_floats over record_ok
  edge-ok start end curve t e h =
      rw (ref-known start, ref-known end, ref-known curve, tolerance-known t, word_kept (edge_fields start end curve t) r 7 (omega arith), h) (own-known t e)

  pub vertex-read : (p : Point3) (t : Tolerance) → vertex_of (over 0 (vertex_fields t) r) (vertex_floats p t) ≡ record { point = p; tolerance = t }
  unfolding vertex_fields vertex_floats over
  vertex-read p t = rw (tolerance-read t)

  pub vertex-ok : (p : Point3) (t : Tolerance) → tolerance_ok t ≡ true → record_ok 7 (over 0 (vertex_fields t) r) (vertex_floats p t) ≡ true
  unfolding vertex_fields vertex_floats over record_ok
  vertex-ok p t e = rw (tolerance-known t) (own-known t e)

  pub carrier-read : (c : Carrier) → carrier_of (over 0 (carrier_fields c) r) (carrier_floats c) ≡ c
  unfolding carrier_fields carrier_floats over
  carrier-read (Carriers.Line l) = refl
  carrier-read (Carriers.Plane s) = refl
  carrier-read Carriers.Other = refl

  pub carrier-long : (c : Carrier) → length (carrier_floats c) ≡ 6
  unfolding carrier_floats
  carrier-long (Carriers.Line l) = refl
  carrier-long (Carriers.Plane s) = refl
  carrier-long Carriers.Other = refl

  pub carrier-known : (c : Carrier) → leb (word (over 0 (carrier_fields c) r) 0) 2 ≡ true
  unfolding carrier_fields over
  carrier-known (Carriers.Line l) = refl
  carrier-known (Carriers.Plane s) = refl
  carrier-known Carriers.Other = refl

-- a fin that is marked is else as it was
pub marked-read : (r : List ℕ) → length r ≡ 4
    → fin_of (over 3 (mark true ∷ []) r) ≡ record { owner = (fin_of r).owner; edge = (fin_of r).edge; sense = (fin_of r).sense; pcurve = true }
unfolding over
marked-read [] h = absurd (omega arith)
marked-read (a ∷ []) h = absurd (omega arith)
marked-read (a ∷ b ∷ []) h = absurd (omega arith)
marked-read (a ∷ b ∷ c ∷ r) h = refl

pub marked-ok : (r : List ℕ) (s : List Float) → length r ≡ 4 → record_ok 5 r s ≡ true → record_ok 5 (over 3 (mark true ∷ []) r) [] ≡ true
unfolding over record_ok
marked-ok [] s h e = absurd (omega arith)
marked-ok (a ∷ []) s h e = absurd (omega arith)
marked-ok (a ∷ b ∷ []) s h e = absurd (omega arith)
marked-ok (a ∷ b ∷ c ∷ []) s h e = absurd (omega arith)
marked-ok (a ∷ b ∷ c ∷ d ∷ r) s h e = rw (and_both (leb c 1) (leb d 1) e).0
