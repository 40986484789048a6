-- The vertices of a list set one after the other: no call is refused, and the memory holds the model with those at their points. Assumes nothing.
use Rattle.std.specs.Prelude.{ℕ, ◌<◌, ◌≡◌, Bool, ◌||◌, eqb}
use Rattle.std.proofs.Math.Path.{refl, ap, ap₂}
use Rattle.std.proofs.Common.{sym, ◌∙◌, subst}
use Rattle.std.proofs.Math.Bool.{true, false, cond}
use mathlib.Core.List.{List, [], ◌∷◌, map}
use Rattle.std.proofs.Math.Dec.{ltb}
use borrow.Author.Tests.{eqb-true, ltb-true, lt-ltb}
use Rattle.float_vectors.specs.declared.vector.Point3.{Point3}
use Rattle.geom_lines_planes.specs.declared.tolerance.Tolerance.{Tolerance}
use Rattle.meaning.specs.Lists.{all, member}
use Rattle.meaning.specs.Model.{Model, Limits, Table, Vertex, changed, vertex}
use Rattle.meaning.specs.Edits.{tolerance_ok, edited}
use Rattle.meaning.specs.Walks.{vertex_walk}
use Rattle.meaning.specs.Formed.{WellFormed}
use Rattle.meaning_list_laws.specs.Tests.{and_both}
use Rattle.meaning_list_laws.specs.Lists.{member-none, all_cons, all-imply}
use Rattle.meaning_split_laws.specs.Walked.{vertices-there}
use Rattle.meaning_shift.specs.Moving.{placed}
use Rattle.memory_layout.specs.Names.{VERTICES}
use Rattle.memory_layout.specs.Decode.{decode}
use Rattle.memory_layout.specs.Readable.{readable}
use Rattle.memory_writes.specs.Change.{SameTable, SameModel}
use Rattle.edit_core.specs.Answers.{edit_number}
use Rattle.edit_effects.specs.Meant.{with_vertices}
use Rattle.edit_effects.proofs.Statements.{set-vertex}
use Rattle.split_effect.specs.Statements.{same-model}
use Rattle.split_sequences.specs.Same.{same-trans}
use Rattle.meaning_of_moves.specs.Moves.{Lent, lent_model, Moved, vertex_set, all_set, set_numbers, body_set, body_numbers}

-- ---- a model with other vertices, where the other is the same as the first

module _ (m n : Model) (s : SameModel m n) (t u : Table Vertex) (v : SameTable t u) where
  with-same : SameModel (with_vertices m t) (with_vertices n u)
  with-same =
      record {
        version = s.version;
        precision = s.precision;
        bodies = s.bodies;
        regions = s.regions;
        shells = s.shells;
        faces = s.faces;
        loops = s.loops;
        fins = s.fins;
        edges = s.edges;
        vertices = v;
        curves = s.curves;
        surfaces = s.surfaces;
      }

module _ (room : List ℕ) (point : ℕ → Point3) (tolerance : ℕ → Tolerance) where
  abbrev put : ℕ → Vertex
  put v = record { point = point v; tolerance = tolerance v }

  -- the vertices of l at their points
  unfoldable put_all : Table Vertex → List ℕ → Table Vertex
  put_all t l = changed t (λ v d. cond (member v l) (put v) d)

  putting : (c d : Bool) (a b e : Vertex) → (c ≡ true → a ≡ b) → cond d a (cond c b e) ≡ cond (c || d) a e
  putting true true a b e h = refl
  putting true false a b e h = sym (h refl)
  putting false true a b e h = refl
  putting false false a b e h = refl

  -- one vertex and then those of l
  put-more : (t u : Table Vertex) (v : ℕ) (l : List ℕ) → SameTable t (edited u v (λ _. put v)) → SameTable (put_all t l) (put_all u (v ∷ l))
  unfolding put_all changed member
  put-more t u v l s =
      record {
        used = s.used;
        slots = λ i h. ap (cond (member i l) (put i)) (s.slots i h) ∙ putting (eqb i v) (member i l) (put i) (put v) (u.slot i) (λ e. ap put (eqb-true i v e));
      }

  -- ---- one call

  module _ (v : ℕ) (a : Lent) (r : readable room a.words a.reals ≡ true) (there : v < (lent_model room a).vertices.used) (ok : tolerance_ok (tolerance v) ≡ true) where
    number-none : edit_number room a.words a.reals (tolerance_ok (tolerance v)) VERTICES v ≡ 0
    unfolding edit_number decode
    number-none = rw (r, ok, lt-ltb v (lent_model room a).vertices.used there)

    set-read : readable room (vertex_set room point tolerance v a).words (vertex_set room point tolerance v a).reals ≡ true
    set-read = (set-vertex room a.words a.reals v (point v) (tolerance v)).readable number-none

    set-model : SameModel (lent_model room (vertex_set room point tolerance v a)) (with_vertices (lent_model room a) (edited (lent_model room a).vertices v (λ _. put v)))
    set-model = (set-vertex room a.words a.reals v (point v) (tolerance v)).model number-none

  -- ---- all calls

  record Behind (l : List ℕ) (a : Lent) : Type 0 where
    numbers : set_numbers room point tolerance l a ≡ map (λ _. 0) l
    read : readable room (all_set room point tolerance l a).words (all_set room point tolerance l a).reals ≡ true
    model : SameModel (lent_model room (all_set room point tolerance l a)) (with_vertices (lent_model room a) (put_all (lent_model room a).vertices l))

  behind : (l : List ℕ) (a : Lent) → readable room a.words a.reals ≡ true → all (λ v. ltb v (lent_model room a).vertices.used) l ≡ true → all (λ v. tolerance_ok (tolerance v)) l ≡ true → Behind l a
  unfolding all_set set_numbers put_all changed
  behind [] a r there ok = record { numbers = refl; read = r; model = with-same (lent_model room a) (lent_model room a) (same-model (lent_model room a)) (lent_model room a).vertices _ (record { used = refl; slots = λ i h. ap (λ (c : Bool). cond c (put i) ((lent_model room a).vertices.slot i)) (sym (member-none i)) }) }
  behind (v ∷ l) a r there ok =
      let p = and_both (ltb v (lent_model room a).vertices.used) (all (λ v. ltb v (lent_model room a).vertices.used) l) (sym (all_cons (λ v. ltb v (lent_model room a).vertices.used) v l) ∙ there) in
      let q = and_both (tolerance_ok (tolerance v)) (all (λ v. tolerance_ok (tolerance v)) l) (sym (all_cons (λ v. tolerance_ok (tolerance v)) v l) ∙ ok) in
      let below : v < (lent_model room a).vertices.used = ltb-true v (lent_model room a).vertices.used p.0 in
      let one : SameModel (lent_model room (vertex_set room point tolerance v a)) (with_vertices (lent_model room a) (edited (lent_model room a).vertices v (λ _. put v))) = set-model v a r below q.0 in
      let rest = behind l (vertex_set room point tolerance v a) (set-read v a r below q.0) (subst (λ (k : ℕ). all (λ v. ltb v k) l ≡ true) (sym one.vertices.used) p.1) q.1 in
      record {
        numbers = ap₂ (λ (k : ℕ) (n : List ℕ). k ∷ n) (number-none v a r below q.0) rest.numbers;
        read = rest.read;
        model =
            same-trans _ (with_vertices (lent_model room (vertex_set room point tolerance v a)) (put_all (lent_model room (vertex_set room point tolerance v a)).vertices l)) _ rest.model
            (with-same (lent_model room (vertex_set room point tolerance v a)) (with_vertices (lent_model room a) (edited (lent_model room a).vertices v (λ _. put v))) one
            (put_all (lent_model room (vertex_set room point tolerance v a)).vertices l) (put_all (lent_model room a).vertices (v ∷ l)) (put-more (lent_model room (vertex_set room point tolerance v a)).vertices (lent_model room a).vertices v l one.vertices));
      }

-- ---- every vertex of a body

module _ (y : Limits) (room : List ℕ) (a : Lent) (b : ℕ) (point : ℕ → Point3) (r : readable room a.words a.reals ≡ true) (f : WellFormed y (lent_model room a)) (hb : b < (lent_model room a).bodies.used) where
  abbrev m : Model
  m = lent_model room a

  abbrev walk : List ℕ
  walk = vertex_walk m b

  abbrev tolerance : ℕ → Tolerance
  tolerance v = (vertex m v).tolerance

  set : Behind room point tolerance walk a
  set =
      behind room point tolerance walk a r (vertices-there y m f b hb)
      (all-imply (λ v. tolerance_ok (tolerance v)) (λ v. ltb v m.vertices.used) walk (λ v h. f.tables.vertex-tolerance v (ltb-true v m.vertices.used h)) (vertices-there y m f b hb))

  -- their tolerances are those that they had
  placed-is : SameModel (with_vertices m (put_all room point tolerance m.vertices walk)) (placed m b point)
  unfolding placed put_all changed
  placed-is = with-same m m (same-model m) _ (placed m b point).vertices (record { used = refl; slots = λ i h. by (member i walk) i })
    where
      by : (c : Bool) (i : ℕ) → cond c (put room point tolerance i) (vertex m i) ≡ record { point = cond c (point i) (vertex m i).point; tolerance = (vertex m i).tolerance }
      by true i = refl
      by false i = refl

  pub none-refused : body_numbers room a b point ≡ map (λ _. 0) walk
  none-refused = set.numbers

  pub body-moved : Moved room a (body_set room a b point) b point
  body-moved = record { read = r; read-too = set.read; model = same-trans _ (with_vertices m (put_all room point tolerance m.vertices walk)) _ set.model placed-is }
