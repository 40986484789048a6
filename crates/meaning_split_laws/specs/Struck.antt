-- Striking out what splits added gives back the model as it was before them: `splits-restore`. Assumes nothing.
use Rattle.std.specs.Prelude.{ℕ, ◌≤◌, ◌<◌, ◌≡◌, Bool, cond, ◌||◌, List, [], ◌∷◌, ◌++◌, Float}
use native.Mathlib.Omega.{arith}
use Rattle.std.proofs.Math.Decide.{dec_lt}
use Rattle.std.proofs.Math.Path.{refl}
use Rattle.std.proofs.Common.{sym, ◌∙◌}
use Rattle.std.proofs.Math.Bool.{true, false}
use Rattle.std.proofs.lemmas.Bool.{false≢true}
use Rattle.std.proofs.Math.Option.{some}
use Rattle.std.proofs.Math.Dec.{eqb, ltb}
use borrow.Author.Tests.{eqb-true, lt-ltb, le-ltb}
use Rattle.meaning.specs.Lists.{all, member, joined}
use Rattle.meaning.specs.Model.{Sense, positive, negative, Model, extended, changed, body, region, shell, face, loop, edge, Limits}
use Rattle.meaning.specs.Split.{beside, first_half, after_split, model_after, Cut, after_all}
use Rattle.meaning.specs.Formed.{StoredIds}
use Rattle.meaning_split_laws.specs.Terms.{sifted, struck_from, itself, Restored}
use Rattle.meaning_list_laws.specs.Tests.{and_both}
use Rattle.meaning_split_laws.specs.After.{with_new_edge, part-kept}

-- ---- sifted

pub sifted-append : (p : ℕ → Bool) (k l : List ℕ) → sifted p (k ++ l) ≡ sifted p k ++ sifted p l
unfolding sifted
sifted-append p [] l = refl
sifted-append p (y ∷ k) l = rw (sifted-append p k l) (go (p y) (sifted p k) (sifted p l))
  where
    go : (b : Bool) (i j : List ℕ) → cond b (y ∷ (i ++ j)) (i ++ j) ≡ cond b (y ∷ i) i ++ j
    go true i j = refl
    go false i j = refl

-- nothing is struck out of a list whose entries all pass
pub sifted-all : (p : ℕ → Bool) (l : List ℕ) → all p l ≡ true → sifted p l ≡ l
unfolding sifted all
sifted-all p [] a = refl
sifted-all p (y ∷ l) a =
    let both : (p y ≡ true) × (all p l ≡ true) = and_both (p y) (all p l) a in
    rw (both.0, sifted-all p l both.1)

-- where what stands for each entry is struck to what the entry is struck to, so is the joined list
pub sifted-joined : (p : ℕ → Bool) (g : ℕ → List ℕ) (l : List ℕ) → ((y : ℕ) → sifted p (g y) ≡ sifted p (y ∷ [])) → sifted p (joined g l) ≡ sifted p l
unfolding joined
sifted-joined p g [] h = refl
sifted-joined p g (y ∷ l) h = rw (sifted-append p (g y) (joined g l), h y, sifted-joined p g l h) (sym (sifted-append p (y ∷ []) l))

-- striking out twice
pub struck-struck : (n k : ℕ) (l : List ℕ) → n ≤ k → struck_from n (struck_from k l) ≡ struck_from n l
unfolding sifted
struck-struck n k [] h = refl
struck-struck n k (y ∷ l) h =
    elim (dec_lt y k) [
      | yes less ↦ rw (lt-ltb y k less, struck-struck n k l h)
      | no more ↦ rw (le-ltb y k (omega arith), le-ltb y n (omega arith)) (struck-struck n k l h)
    ]

-- ---- no split restores

module _ (m : Model) where
  pub restored_same : Restored m m [] struck_from
  unfolding member
  restored_same =
      record {
        bodies = refl;
        regions = refl;
        shells = refl;
        faces = refl;
        loops = refl;
        fins = omega arith;
        edges = omega arith;
        vertices = omega arith;
        curves = refl;
        surfaces = refl;
        version = refl;
        precision = refl;
        body-regions = λ i h. refl;
        region-shells = λ i h. refl;
        shell-faces = λ i h. refl;
        shell-wire-edges = λ i h. refl;
        shell-acorn-vertices = λ i h. refl;
        face-loops = λ i h. refl;
        loop-fins = λ i h. refl;
        edge-fins = λ i h. refl;
        body-kind = λ i h. refl;
        body-office = λ i h. refl;
        region-body = λ i h. refl;
        region-solid = λ i h. refl;
        shell-region = λ i h. refl;
        face-front = λ i h. refl;
        face-back = λ i h. refl;
        face-surface = λ i h. refl;
        face-sense = λ i h. refl;
        loop-face = λ i h. refl;
        fin-whole = λ i h. refl;
        edge-start = λ i h. refl;
        edge-curve = λ i h. refl;
        edge-tolerance = λ i h. refl;
        vertex-whole = λ i h. refl;
        curve-whole = λ i h. refl;
        surface-whole = λ i h. refl;
        edge-end = λ i h q. refl;
        edge-end-split = λ i h q. absurd (false≢true q);
      }

-- ---- one accepted split

module _ (m : Model) (e : ℕ) (t : Float) (he : e < m.edges.used) where
  -- a fin and its new fin
  pub struck-beside : (s : Sense) (f n : ℕ) → m.fins.used ≤ n → struck_from m.fins.used (beside s f n) ≡ struck_from m.fins.used (f ∷ [])
  unfolding sifted
  struck-beside positive f n k = rw (le-ltb n m.fins.used k)
  struck-beside negative f n k = rw (le-ltb n m.fins.used k)

  pub struck-wire : (y : ℕ) → struck_from m.edges.used (with_new_edge m e y) ≡ struck_from m.edges.used (y ∷ [])
  unfolding sifted
  struck-wire y = go (eqb y e) refl
    where
      go : (b : Bool) → eqb y e ≡ b → struck_from m.edges.used (cond b (e ∷ m.edges.used ∷ []) (y ∷ [])) ≡ struck_from m.edges.used (y ∷ [])
      go true q = rw (le-ltb m.edges.used m.edges.used (omega arith), eqb-true y e q)
      go false q = refl

  pub end-was : (p : ℕ) → p < m.edges.used → member p (e ∷ []) ≡ false → (edge (after_split m e t) p).end ≡ (edge m p).end
  unfolding after_split extended changed member
  end-was p h q = rw (lt-ltb p m.edges.used h) (go (eqb p e) q)
    where
      go : (b : Bool) → (b || false) ≡ false → (cond b (first_half m (edge m p)) (edge m p)).end ≡ (edge m p).end
      go true q = absurd (false≢true (sym q))
      go false q = refl

  pub end-new : (p : ℕ) → p < m.edges.used → member p (e ∷ []) ≡ true → (edge (after_split m e t) p).end ≡ some m.vertices.used
  unfolding after_split extended changed member
  end-new p h q = rw (lt-ltb p m.edges.used h) (go (eqb p e) q)
    where
      go : (b : Bool) → (b || false) ≡ true → (cond b (first_half m (edge m p)) (edge m p)).end ≡ some m.vertices.used
      go true q = refl
      go false q = absurd (false≢true q)

-- curves and surfaces as whole tables, with the slots that nobody reads
pub carriers-kept : (x : Limits) (m : Model) (l : List Cut) → ((after_all x m l).curves ≡ m.curves) × ((after_all x m l).surfaces ≡ m.surfaces)
unfolding after_all after_split
carriers-kept x m [] = (refl, refl)
carriers-kept x m (c ∷ l) =
    let rest = carriers-kept x (model_after x m c.edge c.fraction) l in (
      rest.0 ∙ part-kept (λ n. n.curves) x m c.edge c.fraction refl,
      rest.1 ∙ part-kept (λ n. n.surfaces) x m c.edge c.fraction refl,
    )

-- ---- where every stored id names a record, there is nothing to strike out of the starting lists

pub restored-whole : (m after : Model) (split : List ℕ) → StoredIds m → Restored m after split struck_from → Restored m after split itself
restored-whole m after split ids r =
    record {
      bodies = r.bodies;
      regions = r.regions;
      shells = r.shells;
      faces = r.faces;
      loops = r.loops;
      fins = r.fins;
      edges = r.edges;
      vertices = r.vertices;
      curves = r.curves;
      surfaces = r.surfaces;
      version = r.version;
      precision = r.precision;
      body-regions = λ i h. r.body-regions i h ∙ sifted-all (λ j. ltb j m.regions.used) (body m i).regions (ids.body-regions i h);
      region-shells = λ i h. r.region-shells i h ∙ sifted-all (λ j. ltb j m.shells.used) (region m i).shells (ids.region-shells i h);
      shell-faces = λ i h. r.shell-faces i h ∙ sifted-all (λ j. ltb j m.faces.used) (shell m i).faces (ids.shell-faces i h);
      shell-wire-edges = λ i h. r.shell-wire-edges i h ∙ sifted-all (λ j. ltb j m.edges.used) (shell m i).wire_edges (ids.shell-wire-edges i h);
      shell-acorn-vertices = λ i h. r.shell-acorn-vertices i h ∙ sifted-all (λ j. ltb j m.vertices.used) (shell m i).acorn_vertices (ids.shell-acorn-vertices i h);
      face-loops = λ i h. r.face-loops i h ∙ sifted-all (λ j. ltb j m.loops.used) (face m i).loops (ids.face-loops i h);
      loop-fins = λ i h. r.loop-fins i h ∙ sifted-all (λ j. ltb j m.fins.used) (loop m i).fins (ids.loop-fins i h);
      edge-fins = λ i h. r.edge-fins i h ∙ sifted-all (λ j. ltb j m.fins.used) (edge m i).fins (ids.edge-fins i h);
      body-kind = r.body-kind;
      body-office = r.body-office;
      region-body = r.region-body;
      region-solid = r.region-solid;
      shell-region = r.shell-region;
      face-front = r.face-front;
      face-back = r.face-back;
      face-surface = r.face-surface;
      face-sense = r.face-sense;
      loop-face = r.loop-face;
      fin-whole = r.fin-whole;
      edge-start = r.edge-start;
      edge-curve = r.edge-curve;
      edge-tolerance = r.edge-tolerance;
      vertex-whole = r.vertex-whole;
      curve-whole = r.curve-whole;
      surface-whole = r.surface-whole;
      edge-end = r.edge-end;
      edge-end-split = r.edge-end-split;
    }
