-- The theorems of specs/Struck.antt that rest on `struck-struck`, `struck-beside` and `restored_same`: `splits-restore`. Assumes nothing.
use Rattle.std.specs.Prelude.{ℕ, zero, suc, ◌≤◌, ◌<◌, ◌≡◌, Bool, cond, ◌&&◌, List, [], ◌∷◌, ◌++◌, Float}
use native.Mathlib.Omega.{arith}
use Rattle.std.proofs.Math.Path.{refl, ap}
use Rattle.std.proofs.Common.{sym, ◌∙◌, subst}
use Rattle.std.proofs.Math.Bool.{true, false}
use Rattle.std.proofs.Math.Option.{some}
use Rattle.std.proofs.Math.Dec.{eqb, ltb}
use borrow.Author.Tests.{ne_eqb}
use Rattle.meaning.specs.Lists.{member}
use Rattle.meaning.specs.Model.{Model, extended, changed, body, region, shell, face, loop, fin, edge, Limits}
use Rattle.meaning.specs.Split.{split_refusal, new_fin, beside, with_new, after_split, model_after, Cut, after_all}
use Rattle.meaning_split_laws.specs.Terms.{struck_from, split_edges, Restored}
use Rattle.meaning_list_laws.specs.Lists.{member-front-none, member-back-none, member-front}
use Rattle.meaning_split_laws.specs.After.{with_new_edge, fin-was, edge-was, edge-was-fins, vertex-was, accepted, went_to}
use Rattle.meaning_split_laws.specs.Struck.{sifted-joined, struck-struck, struck-beside, struck-wire, end-was, end-new, restored_same}

-- struck by the later count, then by the earlier
pub struck-back : (n k : ℕ) (a b c : List ℕ) → n ≤ k → struck_from k c ≡ struck_from k b → struck_from n b ≡ struck_from n a → struck_from n c ≡ struck_from n a
struck-back n k a b c h p q = sym (struck-struck n k c h) ∙ ap (λ l. struck_from n l) p ∙ struck-struck n k b h ∙ q

module _ (m : Model) (e : ℕ) (t : Float) (he : e < m.edges.used) where
  struck-fin : (l f : ℕ) → struck_from m.fins.used (with_new m e l f) ≡ struck_from m.fins.used (f ∷ [])
  struck-fin l f = go (member f (edge m e).fins && eqb (fin m f).owner l)
    where
      go : (b : Bool) → struck_from m.fins.used (cond b (beside (fin m f).sense f (new_fin m e f)) (f ∷ [])) ≡ struck_from m.fins.used (f ∷ [])
      go true = struck-beside m e t he (fin m f).sense f (new_fin m e f) (omega arith)
      go false = refl

  pub restored-split : Restored m (after_split m e t) (e ∷ []) struck_from
  unfolding after_split extended changed
  restored-split =
      record {
        bodies = refl;
        regions = refl;
        shells = refl;
        faces = refl;
        loops = refl;
        fins = omega arith;
        edges = omega arith;
        vertices = omega arith;
        curves = refl;
        surfaces = refl;
        version = refl;
        precision = refl;
        body-regions = λ i h. refl;
        region-shells = λ i h. refl;
        shell-faces = λ i h. refl;
        shell-wire-edges = λ i h. sifted-joined (λ j. ltb j m.edges.used) (with_new_edge m e) (shell m i).wire_edges (struck-wire m e t he);
        shell-acorn-vertices = λ i h. refl;
        face-loops = λ i h. refl;
        loop-fins = λ i h. sifted-joined (λ j. ltb j m.fins.used) (with_new m e i) (loop m i).fins (struck-fin i);
        edge-fins = λ i h. ap (λ l. struck_from m.fins.used l) (edge-was-fins m e t i h);
        body-kind = λ i h. refl;
        body-office = λ i h. refl;
        region-body = λ i h. refl;
        region-solid = λ i h. refl;
        shell-region = λ i h. refl;
        face-front = λ i h. refl;
        face-back = λ i h. refl;
        face-surface = λ i h. refl;
        face-sense = λ i h. refl;
        loop-face = λ i h. refl;
        fin-whole = fin-was m e t;
        edge-start = edge-was m e t (λ r. r.start) (λ r. refl);
        edge-curve = edge-was m e t (λ r. r.curve) (λ r. refl);
        edge-tolerance = edge-was m e t (λ r. r.tolerance) (λ r. refl);
        vertex-whole = vertex-was m e t;
        curve-whole = λ i h. refl;
        surface-whole = λ i h. refl;
        edge-end = end-was m e t he;
        edge-end-split = λ i h q. (m.vertices.used, omega arith, end-new m e t he i h q);
      }

-- ---- one after the other

module _ (a b c : Model) (s r : List ℕ) (f : Restored a b s struck_from) (g : Restored b c r struck_from) where
  in-bodies : (i : ℕ) → i < a.bodies.used → i < b.bodies.used
  in-bodies i h = rw f.bodies h

  in-regions : (i : ℕ) → i < a.regions.used → i < b.regions.used
  in-regions i h = rw f.regions h

  in-shells : (i : ℕ) → i < a.shells.used → i < b.shells.used
  in-shells i h = rw f.shells h

  in-faces : (i : ℕ) → i < a.faces.used → i < b.faces.used
  in-faces i h = rw f.faces h

  in-loops : (i : ℕ) → i < a.loops.used → i < b.loops.used
  in-loops i h = rw f.loops h

  in-fins : (i : ℕ) → i < a.fins.used → i < b.fins.used
  in-fins i h = omega arith

  in-edges : (i : ℕ) → i < a.edges.used → i < b.edges.used
  in-edges i h = omega arith

  in-vertices : (i : ℕ) → i < a.vertices.used → i < b.vertices.used
  in-vertices i h = omega arith

  in-curves : (i : ℕ) → i < a.curves.used → i < b.curves.used
  in-curves i h = rw f.curves h

  in-surfaces : (i : ℕ) → i < a.surfaces.used → i < b.surfaces.used
  in-surfaces i h = rw f.surfaces h

  end-split : (i : ℕ) → i < a.edges.used → member i (s ++ r) ≡ true → (v : ℕ) × (a.vertices.used ≤ v) × ((edge c i).end ≡ some v)
  end-split i h q = by (member i r) refl
    where
      by : (z : Bool) → member i r ≡ z → (v : ℕ) × (a.vertices.used ≤ v) × ((edge c i).end ≡ some v)
      by true y =
          let new : (v : ℕ) × (b.vertices.used ≤ v) × ((edge c i).end ≡ some v) = g.edge-end-split i (in-edges i h) y in
          let low : a.vertices.used ≤ b.vertices.used = f.vertices in
          let high : b.vertices.used ≤ new.0 = new.1 in
          (new.0, omega arith, new.2)
      by false y =
          let old : (v : ℕ) × (a.vertices.used ≤ v) × ((edge b i).end ≡ some v) = f.edge-end-split i h (member-front i s r q y) in
          (old.0, old.1, g.edge-end i (in-edges i h) y ∙ old.2)

  pub restored-then : Restored a c (s ++ r) struck_from
  restored-then =
      record {
        bodies = g.bodies ∙ f.bodies;
        regions = g.regions ∙ f.regions;
        shells = g.shells ∙ f.shells;
        faces = g.faces ∙ f.faces;
        loops = g.loops ∙ f.loops;
        curves = g.curves ∙ f.curves;
        surfaces = g.surfaces ∙ f.surfaces;
        version = g.version ∙ f.version;
        precision = g.precision ∙ f.precision;
        fins = omega (arith, f.fins, g.fins);
        edges = omega (arith, f.edges, g.edges);
        vertices = omega (arith, f.vertices, g.vertices);
        body-regions = λ i h. struck-back a.regions.used b.regions.used (body a i).regions (body b i).regions (body c i).regions (omega (arith, f.regions)) (g.body-regions i (in-bodies i h)) (f.body-regions i h);
        region-shells = λ i h. struck-back a.shells.used b.shells.used (region a i).shells (region b i).shells (region c i).shells (omega (arith, f.shells)) (g.region-shells i (in-regions i h)) (f.region-shells i h);
        shell-faces = λ i h. struck-back a.faces.used b.faces.used (shell a i).faces (shell b i).faces (shell c i).faces (omega (arith, f.faces)) (g.shell-faces i (in-shells i h)) (f.shell-faces i h);
        shell-wire-edges = λ i h. struck-back a.edges.used b.edges.used (shell a i).wire_edges (shell b i).wire_edges (shell c i).wire_edges f.edges (g.shell-wire-edges i (in-shells i h)) (f.shell-wire-edges i h);
        shell-acorn-vertices = λ i h. struck-back a.vertices.used b.vertices.used (shell a i).acorn_vertices (shell b i).acorn_vertices (shell c i).acorn_vertices f.vertices (g.shell-acorn-vertices i (in-shells i h)) (f.shell-acorn-vertices i h);
        face-loops = λ i h. struck-back a.loops.used b.loops.used (face a i).loops (face b i).loops (face c i).loops (omega (arith, f.loops)) (g.face-loops i (in-faces i h)) (f.face-loops i h);
        loop-fins = λ i h. struck-back a.fins.used b.fins.used (loop a i).fins (loop b i).fins (loop c i).fins f.fins (g.loop-fins i (in-loops i h)) (f.loop-fins i h);
        edge-fins = λ i h. struck-back a.fins.used b.fins.used (edge a i).fins (edge b i).fins (edge c i).fins f.fins (g.edge-fins i (in-edges i h)) (f.edge-fins i h);
        body-kind = λ i h. g.body-kind i (in-bodies i h) ∙ f.body-kind i h;
        body-office = λ i h. g.body-office i (in-bodies i h) ∙ f.body-office i h;
        region-body = λ i h. g.region-body i (in-regions i h) ∙ f.region-body i h;
        region-solid = λ i h. g.region-solid i (in-regions i h) ∙ f.region-solid i h;
        shell-region = λ i h. g.shell-region i (in-shells i h) ∙ f.shell-region i h;
        face-front = λ i h. g.face-front i (in-faces i h) ∙ f.face-front i h;
        face-back = λ i h. g.face-back i (in-faces i h) ∙ f.face-back i h;
        face-surface = λ i h. g.face-surface i (in-faces i h) ∙ f.face-surface i h;
        face-sense = λ i h. g.face-sense i (in-faces i h) ∙ f.face-sense i h;
        loop-face = λ i h. g.loop-face i (in-loops i h) ∙ f.loop-face i h;
        fin-whole = λ i h. g.fin-whole i (in-fins i h) ∙ f.fin-whole i h;
        edge-start = λ i h. g.edge-start i (in-edges i h) ∙ f.edge-start i h;
        edge-curve = λ i h. g.edge-curve i (in-edges i h) ∙ f.edge-curve i h;
        edge-tolerance = λ i h. g.edge-tolerance i (in-edges i h) ∙ f.edge-tolerance i h;
        vertex-whole = λ i h. g.vertex-whole i (in-vertices i h) ∙ f.vertex-whole i h;
        curve-whole = λ i h. g.curve-whole i (in-curves i h) ∙ f.curve-whole i h;
        surface-whole = λ i h. g.surface-whole i (in-surfaces i h) ∙ f.surface-whole i h;
        edge-end = λ i h q. g.edge-end i (in-edges i h) (member-back-none i s r q) ∙ f.edge-end i h (member-front-none i s r q);
        edge-end-split = end-split;
      }

-- ---- any sequence of splits, from any model

pub splits-restore : (x : Limits) (m : Model) (l : List Cut) → Restored m (after_all x m l) (split_edges x m l) struck_from
unfolding after_all split_edges
splits-restore x m [] = restored_same m
splits-restore x m (c ∷ l) = go (split_refusal x m c.edge c.fraction) refl (splits-restore x (model_after x m c.edge c.fraction) l)
  where
    S : List ℕ
    S = split_edges x (model_after x m c.edge c.fraction) l

    M : Model
    M = after_all x (model_after x m c.edge c.fraction) l

    go : (n : ℕ) → split_refusal x m c.edge c.fraction ≡ n → Restored (model_after x m c.edge c.fraction) M S struck_from → Restored m M (cond (eqb n 0) (c.edge ∷ S) S) struck_from
    go zero h r =
        restored-then m (model_after x m c.edge c.fraction) M (c.edge ∷ []) S
        (rw (went_to x m c.edge c.fraction 0 h) (restored-split m c.edge c.fraction (accepted x m c.edge c.fraction h).0)) r
    go (suc n) h r = rw (ne_eqb (suc n) 0 (λ z. omega arith)) (subst (λ k. Restored k M S struck_from) (went_to x m c.edge c.fraction (suc n) h) r)
