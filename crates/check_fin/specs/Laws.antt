-- What is found of a fin, by what is there. Assumes nothing.
use Rattle.std.specs.Prelude.{ℕ, ◌≡◌, Bool, not, [], ◌∷◌, ◌++◌, eqb, Float}
use Rattle.std.proofs.Math.Path.{sym, ap}
use Rattle.std.proofs.Common.{◌∙◌}
use Rattle.std.proofs.Math.Bool.{true, false}
use Rattle.std.proofs.Math.Option.{Option, some}
use Rattle.geom_lines_planes.specs.Geometry.{effective}
use Rattle.geom_carriers.specs.Found.{Found}
use Rattle.meaning.specs.Lists.{member, listed, joined}
use Rattle.meaning.specs.Model.{Model, has, fin, edge, curve, surface}
use Rattle.meaning.specs.Faults.{only_if, fault, carried, fin_findings}
use Rattle.meaning_list_laws.specs.Lists.{joined-append}
use Rattle.memory_records.specs.Seen.{Ref}
use Rattle.std.specs.Prelude.{Some, None}
use Rattle.memory_records.specs.declared.records.Fin.{Fin}
use Rattle.memory_records.specs.declared.records.Edge.{Edge}
use Rattle.memory_records.specs.Seen.{seen_ref, seen_fin, seen_edge}
use Rattle.check_ends.specs.Ends.{ref_of}
use Rattle.check_ends.specs.Laws.{ref_back}
use Rattle.check_edge.specs.Edge.{rim_findings}
use Rattle.check_edge.specs.Laws.{carried_on}
use Rattle.check_fin.specs.Fin.{lacking, vertices_there, fin_edge, fin_on}

-- ---- the ends of an edge

pub vertices-told : (m : Model) (e : ℕ) (x : Edge) → x ≡ seen_edge (edge m e)
    → vertices_there m e ≡ joined (lacking m.vertices.used e) (listed (ref_of x.start)) ++ joined (lacking m.vertices.used e) (listed (ref_of x.end))
unfolding vertices_there seen_edge
vertices-told m e x h =
    joined-append (lacking m.vertices.used e) (listed (edge m e).start) (listed (edge m e).end)
    ∙ ap (λ (o : Option ℕ). joined (lacking m.vertices.used e) (listed o) ++ joined (lacking m.vertices.used e) (listed (edge m e).end)) (sym (ref_back (edge m e).start) ∙ ap (λ (y : Edge). ref_of y.start) (sym h))
    ∙ ap (λ (o : Option ℕ). joined (lacking m.vertices.used e) (listed (ref_of x.start)) ++ joined (lacking m.vertices.used e) (listed o)) (sym (ref_back (edge m e).end) ∙ ap (λ (y : Edge). ref_of y.end) (sym h))

-- ---- the edge that a fin names

module _ (m : Model) (i e : ℕ) where
  pub edge-missing : has m.edges e ≡ false → fin_edge m i e ≡ fault 15 i ∷ []
  unfolding fin_edge
  edge-missing h = rw h

  pub edge-there : (b : Bool) → has m.edges e ≡ true → b ≡ member i (edge m e).fins → fin_edge m i e ≡ only_if (not b) (fault 16 e) ++ vertices_there m e
  unfolding fin_edge
  edge-there b h q = rw (h, q)

-- ---- a fin

module _ (m : Model) (l i : ℕ) where
  pub fin-missing : has m.fins i ≡ false → fin_findings m l i ≡ fault 13 l ∷ []
  unfolding fin_findings
  fin-missing h = rw h

  pub fin-there : (x : Fin) → has m.fins i ≡ true → x ≡ seen_fin (fin m i) → fin_findings m l i ≡ only_if (not (eqb x.owner l)) (fault 14 i) ++ fin_edge m i x.edge
  unfolding fin_findings fin_edge vertices_there seen_fin
  fin-there x h q = rw (h, q)

-- ---- its geometry

module _ (m : Model) (n e : ℕ) where
  -- an edge on a curve and a surface
  pub carried-told : (c s : ℕ) (x : Edge) (f g : Found) (tolerance : Float) → x ≡ seen_edge (edge m e) → f ≡ curve m c → g ≡ surface m s → tolerance ≡ effective m.version x.tolerance m.precision
      → carried m n e (some c) (some s) ≡ rim_findings m f g tolerance n e (ref_of x.start) (ref_of x.end)
  unfolding seen_edge
  carried-told c s x f g tolerance h i j k =
      carried_on m n e c s
      ∙ ap (λ (o : Option ℕ). rim_findings m (curve m c) (surface m s) (effective m.version (edge m e).tolerance m.precision) n e o (edge m e).end) (sym (ref_back (edge m e).start))
      ∙ ap (λ (o : Option ℕ). rim_findings m (curve m c) (surface m s) (effective m.version (edge m e).tolerance m.precision) n e (ref_of (seen_ref (edge m e).start)) o) (sym (ref_back (edge m e).end))
      ∙ rw (k, h, i, j)

  module _ (x : Edge) (h : x ≡ seen_edge (edge m e)) (r : Ref) where
    curve-told : (edge m e).curve ≡ ref_of x.curve
    unfolding seen_edge
    curve-told = sym (ref_back (edge m e).curve) ∙ ap (λ (y : Edge). ref_of y.curve) (sym h)

    pub curve-none : x.curve ≡ None → carried m n e (edge m e).curve (ref_of r) ≡ fault 21 e ∷ []
    unfolding carried
    curve-none q = ap (λ (o : Option ℕ). carried m n e o (ref_of r)) (curve-told ∙ ap ref_of q)

    pub surface-none : (c : ℕ) → x.curve ≡ Some c → r ≡ None → carried m n e (edge m e).curve (ref_of r) ≡ []
    unfolding carried
    surface-none c q p = ap (λ (o : Option ℕ). carried m n e o (ref_of r)) (curve-told ∙ ap ref_of q) ∙ ap (λ (o : Option ℕ). carried m n e (some c) o) (ap ref_of p)

    pub carriers-both : (c s : ℕ) → x.curve ≡ Some c → r ≡ Some s → carried m n e (edge m e).curve (ref_of r) ≡ carried m n e (some c) (some s)
    carriers-both c s q p = ap (λ (o : Option ℕ). carried m n e o (ref_of r)) (curve-told ∙ ap ref_of q) ∙ ap (λ (o : Option ℕ). carried m n e (some c) o) (ap ref_of p)

module _ (m : Model) (n : ℕ) (surface : Option ℕ) (i : ℕ) where
  pub no-fin : has m.fins i ≡ false → fin_on m n surface i ≡ []
  unfolding fin_on
  no-fin h = rw h

  module _ (x : Fin) (h : has m.fins i ≡ true) (q : x ≡ seen_fin (fin m i)) where
    edge-told : x.edge ≡ (fin m i).edge
    unfolding seen_fin
    edge-told = ap (λ (y : Fin). y.edge) q

    pub no_edge : has m.edges x.edge ≡ false → fin_on m n surface i ≡ []
    unfolding fin_on
    no_edge g = let k : has m.edges (fin m i).edge ≡ false = ap (has m.edges) (sym edge-told) ∙ g in rw (h, k)

    pub fin-edge : has m.edges x.edge ≡ true → fin_on m n surface i ≡ carried m n x.edge (edge m x.edge).curve surface
    unfolding fin_on
    fin-edge g =
        let k : has m.edges (fin m i).edge ≡ true = ap (has m.edges) (sym edge-told) ∙ g in
        rw (h, k) (ap (λ (e : ℕ). carried m n e (edge m e).curve surface) (sym edge-told))
