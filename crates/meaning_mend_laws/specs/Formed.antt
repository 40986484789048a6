-- Well formed but for a body's pointers, and well formed behind its mending. Assumes nothing.
use Rattle.std.specs.Prelude.{ℕ, zero, suc, ◌+◌, ◌≤◌, ◌<◌, ◌≡◌, refl, Bool, true, false, not, ◌&&◌, ◌||◌, List, [], ◌∷◌, ◌++◌, eqb, ltb}
use Rattle.std.proofs.Common.{arith, ap₂, ◌∙◌}
use Rattle.std.proofs.Math.Decide.{dec_lt}
use Rattle.std.proofs.Math.Path.{sym, ap, subst}
use Rattle.std.proofs.Math.Bool.{or-true}
use Rattle.std.proofs.lemmas.Bool.{false≢true}
use Rattle.std.proofs.Math.ListN.{length, length-append}
use borrow.Author.Tests.{ltb-true, lt-ltb, leb-true, eqb-true, eqb-false, eq-eqb}
use Rattle.meaning.specs.Lists.{run, all, member, count, joined, rotated, same}
use Rattle.meaning.specs.Model.{Model, Limits, changed, has, loop, fin, edge, largest}
use Rattle.meaning.specs.Walks.{Ends}
use Rattle.meaning.specs.Formed.{Readable, StoredIds, has_all, bit, Listed, closed, loop_closes, WellFormed}
use Rattle.meaning_list_laws.specs.Tests.{and_both, both_ways, bit-true}
use Rattle.meaning_list_laws.specs.Lists.{member-meets, count-append, count-above, count-present, count-absent, count-once, count_meets, member-counted, all-counted, all-member, joined_snoc}
use Rattle.meaning_mends.specs.Mends.{Child, a_region, a_shell, a_loop, a_fin, named, children, parents, met, meetings, listings, once, mend_refusal}
use Rattle.meaning_mends.specs.Laws.{met-tested, all_listed, one-lister}
use Rattle.meaning_mends.specs.Laws as laws
use Rattle.meaning_mend_laws.specs.Terms.{linked, listing, reached, new_parent, naming, new_listing, OnlyOf, many, ButForPointers}
use Rattle.meaning_mend_laws.specs.Kept.{accepted-there, accepted-once, unmet, met_by, member-naming, listing-is}
use Rattle.meaning_mend_laws.specs.Reported.{lists-fit}
use Rattle.meaning_mend_laws.specs.Checked.{same_ends}

-- ---- whether a loop closes does not go by those pointers

same-closed : (m : Model) (u : Child → ℕ → ℕ) (a : ℕ → List ℕ) (k l : List ℕ) → closed (linked m u a) k l ≡ closed m k l
unfolding closed
same-closed m u a [] l = refl
same-closed m u a (i ∷ k) [] = refl
same-closed m u a (i ∷ k) (j ∷ l) =
    ap₂ ◌&&◌ (ap₂ (λ (d g : Ends). same d.end g.start) (same_ends m u a i) (same_ends m u a j)) (same-closed m u a k l)

pub same-closes : (m : Model) (u : Child → ℕ → ℕ) (a : ℕ → List ℕ) (l : List ℕ) → loop_closes (linked m u a) l ≡ loop_closes m l
unfolding loop_closes
same-closes m u a l = ap (λ t. not (eqb (length l) 0) && t) (same-closed m u a l (rotated l))

-- ---- behind a mending, sentence by sentence

-- what one parent lists is counted among what all do
part-counted : (g : ℕ → List ℕ) (i n p : ℕ) → p < n → count i (g p) ≤ count i (joined g (run 0 n))
unfolding run
part-counted g i zero p h = absurd (omega arith)
part-counted g i (suc n) p h = by (eqb p n) refl (part-counted g i n p)
  where
    next : count i (joined g (run 0 (suc n))) ≡ count i (joined g (run 0 n)) + count i (g n)
    next =
        ap (λ k. count i (joined g (run 0 n ++ (k ∷ [])))) (let z : 0 + n ≡ n = omega arith in z)
        ∙ ap (count i) (joined_snoc g (run 0 n) n)
        ∙ count-append i (joined g (run 0 n)) (g n)

    by : (t : Bool) → eqb p n ≡ t → (p < n → count i (g p) ≤ count i (joined g (run 0 n))) → count i (g p) ≤ count i (joined g (run 0 (suc n)))
    by true e before = let here : count i (g p) ≡ count i (g n) = ap (λ k. count i (g k)) (eqb-true p n e) in omega (arith, next, here)
    by false e before = let less : p < n = omega (arith, eqb-false p n e) in omega (arith, next, before less)

module _ (x : Limits) (m : Model) (b n : ℕ) (z : mend_refusal m b n ≡ 0) (s : ButForPointers x m b) where
  found : (k : Child) (i : ℕ) → member i (reached m b k) ≡ true → laws.Listed m (met k (new_parent m b k i) i)
  found k i e = met_by (laws.Listed m) (meetings m b) k i (named m k i) (all_listed m b (accepted-there m b n z)) e

  found-there : (k : Child) (i : ℕ) → member i (reached m b k) ≡ true → i < many m k
  found-there k i e =
      let l = found k i e in
      ltb-true i (many m k) (all-member (λ i. ltb i (many m k)) (children m k (new_parent m b k i)) i (s.children-there k (new_parent m b k i) l.0) l.1)

  -- once in the lists of all parents
  found-once : (k : Child) (i : ℕ) → member i (reached m b k) ≡ true → count i (joined (children m k) (run 0 (parents m k))) ≤ 1
  unfolding listings
  found-once k i e = leb-true _ 1 (met_by (λ t. once m t ≡ true) (meetings m b) k i (named m k i) (met-tested (once m) (meetings m b) (accepted-once m b n z)) e)

  up-there : (k : Child) (i : ℕ) → i < many m k → new_parent m b k i < parents m k
  up-there k i h = by (member i (reached m b k)) refl
    where
      by : (t : Bool) → member i (reached m b k) ≡ t → new_parent m b k i < parents m k
      by true e = (found k i e).0
      by false e = rw (unmet (meetings m b) k i (named m k i) e) (s.parents-there k i h e)

  pub up-once : (k : Child) (p i : ℕ) → p < parents m k → i < many m k → count i (children m k p) ≡ bit (eqb (new_parent m b k i) p)
  up-once k p i hp hi = by (member i (reached m b k)) refl
    where
      by : (t : Bool) → member i (reached m b k) ≡ t → count i (children m k p) ≡ bit (eqb (new_parent m b k i) p)
      by false e = rw (unmet (meetings m b) k i (named m k i) e) (s.listed k p i hp hi e)
      by true e = at (eqb (new_parent m b k i) p) refl
        where
          q : ℕ
          q = new_parent m b k i

          at : (t : Bool) → eqb q p ≡ t → count i (children m k p) ≡ bit t
          at true r =
              let here : member i (children m k p) ≡ true = subst (λ j. member i (children m k j) ≡ true) (eqb-true q p r) (found k i e).1 in
              omega (arith, count-present i (children m k p) here, part-counted (children m k) i (parents m k) p hp, found-once k i e)
          at false r = none (member i (children m k p)) refl
            where
              none : (t : Bool) → member i (children m k p) ≡ t → count i (children m k p) ≡ 0
              none true u = absurd (eqb-false q p r (one-lister (children m k) i (parents m k) q p (found-once k i e) (found k i e).0 hp (found k i e).1 u))
              none false u = count-absent i (children m k p) u

  module _ (e : ℕ) (e-there : e < m.edges.used) where
    listing-most : (i : ℕ) → count i (listing m e) ≤ 1
    listing-most i =
        elim (dec_lt i m.fins.used) [
          | yes h ↦ omega (arith, s.own-fins e i e-there h, small (eqb (fin m i).edge e))
          | no h ↦ let above : m.fins.used ≤ i = omega arith in omega (arith, count-above m.fins.used i (listing m e) (s.edge-fins e e-there) above)
        ]
      where
        small : (t : Bool) → bit t ≤ 1
        small true = omega arith
        small false = omega arith

    abbrev met-it : ℕ → Bool
    met-it i = member i (reached m b a_fin)

    listed_by : (i : ℕ) → member i (new_listing m b e) ≡ (member i (listing m e) || (met-it i && eqb e (fin m i).edge))
    listed_by i = member-meets i (listing m e) (naming m e (reached m b a_fin)) ∙ ap (λ t. member i (listing m e) || t) (member-naming m e i (reached m b a_fin))

    pub fin-once : (i : ℕ) → i < m.fins.used → count i (new_listing m b e) ≡ bit (eqb (fin m i).edge e)
    fin-once i h = count-once i (new_listing m b e) (count_meets (listing m e) (naming m e (reached m b a_fin)) listing-most i) ∙ ap bit (both_ways (member i (new_listing m b e)) (eqb (fin m i).edge e) names back)
      where
        names : member i (new_listing m b e) ≡ true → eqb (fin m i).edge e ≡ true
        names g = by (member i (listing m e)) refl (sym (listed_by i) ∙ g)
          where
            by : (t : Bool) → member i (listing m e) ≡ t → (t || (met-it i && eqb e (fin m i).edge)) ≡ true → eqb (fin m i).edge e ≡ true
            by true r q = bit-true (eqb (fin m i).edge e) (omega (arith, s.own-fins e i e-there h, count-present i (listing m e) r))
            by false r q = eq-eqb (fin m i).edge e (sym (eqb-true e (fin m i).edge (and_both (met-it i) (eqb e (fin m i).edge) q).1))

        back : eqb (fin m i).edge e ≡ true → member i (new_listing m b e) ≡ true
        back g = listed_by i ∙ by (met-it i) refl
          where
            by : (t : Bool) → member i (reached m b a_fin) ≡ t → (member i (listing m e) || (t && eqb e (fin m i).edge)) ≡ true
            by true r = ap (λ t. member i (listing m e) || t) (eq-eqb e (fin m i).edge (sym (eqb-true (fin m i).edge e g))) ∙ or-true (member i (listing m e))
            by false r =
                let one : count i (listing m e) ≡ 1 = s.fins e i e-there h r ∙ ap bit g in
                ap (λ t. t || false) (member-counted i (listing m e) (omega arith))

    fin-there : has_all m.fins (new_listing m b e) ≡ true
    fin-there = all-counted (has m.fins) (new_listing m b e) (λ i h. by i (member i (listing m e)) refl (sym (listed_by i) ∙ member-counted i (new_listing m b e) h))
      where
        by : (i : ℕ) (t : Bool) → member i (listing m e) ≡ t → (t || (met-it i && eqb e (fin m i).edge)) ≡ true → has m.fins i ≡ true
        by i true r q = all-member (has m.fins) (listing m e) i (s.edge-fins e e-there) r
        by i false r q = lt-ltb i m.fins.used (found-there a_fin i (and_both (met-it i) (eqb e (fin m i).edge) q).0)

  module _ (room : largest.edge_fins ≤ x.edge_fins) where
    pub new-tables : Readable x (linked m (new_parent m b) (new_listing m b))
    unfolding linked changed
    new-tables =
        record {
          bodies = s.tables.bodies;
          regions = s.tables.regions;
          shells = s.tables.shells;
          faces = s.tables.faces;
          loops = s.tables.loops;
          fins = s.tables.fins;
          edges = s.tables.edges;
          vertices = s.tables.vertices;
          curves = s.tables.curves;
          surfaces = s.tables.surfaces;
          body-regions = s.tables.body-regions;
          region-shells = s.tables.region-shells;
          shell-faces = s.tables.shell-faces;
          shell-wire-edges = s.tables.shell-wire-edges;
          shell-acorn-vertices = s.tables.shell-acorn-vertices;
          face-loops = s.tables.face-loops;
          loop-fins = s.tables.loop-fins;
          edge-fins = λ e h. subst (λ l. length l ≤ x.edge_fins) (listing-is m b e) (lists-fit m b n z x.edge_fins room e (s.tables.edge-fins e h));
          precision = s.tables.precision;
          edge-tolerance = s.tables.edge-tolerance;
          vertex-tolerance = s.tables.vertex-tolerance;
        }

    pub new-ids : StoredIds (linked m (new_parent m b) (new_listing m b))
    unfolding linked changed
    new-ids =
        record {
          body-regions = s.children-there a_region;
          region-body = up-there a_region;
          region-shells = s.children-there a_shell;
          shell-region = up-there a_shell;
          shell-faces = s.shell-faces;
          shell-wire-edges = s.shell-wire-edges;
          shell-acorn-vertices = s.shell-acorn-vertices;
          face-front = s.face-front;
          face-back = s.face-back;
          face-loops = s.children-there a_loop;
          face-surface = s.face-surface;
          loop-face = up-there a_loop;
          loop-fins = s.children-there a_fin;
          fin-owner = up-there a_fin;
          fin-edge = s.fin-edge;
          edge-fins = fin-there;
          edge-start = s.edge-start;
          edge-end = s.edge-end;
          edge-curve = s.edge-curve;
        }

-- ---- and they are needed: of a model that other pointers for the body's records make well formed

module _ (x : Limits) (m : Model) (b : ℕ) (u : Child → ℕ → ℕ) (a : ℕ → List ℕ) (only : OnlyOf m b u a) (w : WellFormed x (linked m u a)) where
  pub tables-but : Readable x m
  unfolding linked changed
  tables-but =
      record {
        bodies = w.tables.bodies;
        regions = w.tables.regions;
        shells = w.tables.shells;
        faces = w.tables.faces;
        loops = w.tables.loops;
        fins = w.tables.fins;
        edges = w.tables.edges;
        vertices = w.tables.vertices;
        curves = w.tables.curves;
        surfaces = w.tables.surfaces;
        body-regions = w.tables.body-regions;
        region-shells = w.tables.region-shells;
        shell-faces = w.tables.shell-faces;
        shell-wire-edges = w.tables.shell-wire-edges;
        shell-acorn-vertices = w.tables.shell-acorn-vertices;
        face-loops = w.tables.face-loops;
        loop-fins = w.tables.loop-fins;
        edge-fins = λ e h. let l = only.lists e in omega (arith, length-append (listing m e) l.new, ap length l.behind, w.tables.edge-fins e h);
        precision = w.tables.precision;
        edge-tolerance = w.tables.edge-tolerance;
        vertex-tolerance = w.tables.vertex-tolerance;
      }

  pub children-but : (k : Child) (p : ℕ) → p < parents m k → all (λ i. ltb i (many m k)) (children m k p) ≡ true
  unfolding linked changed
  children-but a_region = w.ids.body-regions
  children-but a_shell = w.ids.region-shells
  children-but a_loop = w.ids.face-loops
  children-but a_fin = w.ids.loop-fins

  pub parents-of : (k : Child) (i : ℕ) → i < many m k → u k i < parents m k
  unfolding linked changed
  parents-of a_region = w.ids.region-body
  parents-of a_shell = w.ids.shell-region
  parents-of a_loop = w.ids.loop-face
  parents-of a_fin = w.ids.fin-owner

  pub listed_of : (k : Child) (p i : ℕ) → p < parents m k → i < many m k → count i (children m k p) ≡ bit (eqb (u k i) p)
  unfolding linked changed
  listed_of a_region = w.regions.once
  listed_of a_shell = w.shells.once
  listed_of a_loop = w.loops.once
  listed_of a_fin = w.fins.once

  -- the fins that an edge lists, and those added
  module _ (e i : ℕ) where
    pub counted : count i (a e) ≡ count i (listing m e) + count i (only.lists e).new
    counted = ap (count i) (only.lists e).behind ∙ count-append i (listing m e) (only.lists e).new

    pub none-added : member i (reached m b a_fin) ≡ false → count i (only.lists e).new ≡ 0
    none-added h = by (member i (only.lists e).new) refl
      where
        by : (t : Bool) → member i (only.lists e).new ≡ t → count i (only.lists e).new ≡ 0
        by true q = absurd (false≢true (sym h ∙ ((only.lists e).fins i q).0))
        by false q = count-absent i (only.lists e).new q
