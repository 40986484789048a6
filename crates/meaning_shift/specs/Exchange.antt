-- The other fin of an edge: it runs from the end to the start, and to exchange each fin for the other permutes the fins of a movable body. Assumes nothing.
use Rattle.std.specs.Prelude.{ℕ, ◌<◌, ◌≡◌, refl, Bool, true, false, cond, ◌&&◌, ◌||◌, List, [], ◌∷◌, ◌++◌, eqb, ltb, ℤ}
use Rattle.std.proofs.Common.{arith, sym, ◌∙◌, subst}
use Rattle.std.proofs.Math.Path.{ap, ap₂}
use Rattle.std.proofs.lemmas.Bool.{false≢true}
use Rattle.std.proofs.Math.Option.{Option}
use Rattle.std.proofs.Math.IntN.{neg_ℤ}
use borrow.Author.Tests.{ltb-true, lt-ltb, eqb-true, eq-eqb, ne_eqb}
use Rattle.meaning.specs.Lists.{all, member, count, joined, the}
use Rattle.meaning.specs.Model.{Model, Limits, Edge, Sense, positive, negative, has, body, loop, fin, edge, point_of}
use Rattle.meaning.specs.Walks.{face_walk, edge_walk, Ends, directed, ends_of}
use Rattle.meaning.specs.Faults.{same_sense, manifold, manifold_edge, manifold_edges, findings, layout, region_findings, report_of}
use Rattle.meaning.specs.Formed.{bit, topological}
use Rattle.meaning_list_laws.specs.Tests.{bit-true}
use Rattle.meaning_list_laws.specs.Lists.{count-present, member-counted, member-cons, member-one, member-head, member-tail, all-member}
use Rattle.meaning_list_laws.specs.Findings.{NoFault, no-fault-parts, no-fault-at}
use Rattle.meaning_split_laws.specs.Report.{TwoFins, two-fins}
use Rattle.meaning_split_laws.specs.Walked.{edges-there, edges-given}
use Rattle.meaning_sheets.specs.Sheets.{Corner, corner}
use Rattle.meaning_shift.specs.Corners.{lever, lever-turned}
use Rattle.meaning_shift.specs.Moving.{Movable}
use Rattle.meaning_shift.specs.Fins.{body_fins, fin-from, fin-below, edge-walked, rim-in, body-fin}

-- of two fins, the one that is not i
abbrev other : ℕ → List ℕ → ℕ
other i [] = i
other i (a ∷ []) = i
other i (a ∷ c ∷ l) = cond (eqb i a) c a

-- where a fin starts and ends, and what it adds where all is moved by t
abbrev pub start_corner : Model → ℕ → Corner
start_corner m i = corner (point_of m (the (ends_of m i).start))

abbrev pub end_corner : Model → ℕ → Corner
end_corner m i = corner (point_of m (the (ends_of m i).end))

unfoldable pub fin_lever : Model → Corner → ℕ → ℤ
fin_lever m t i = lever t (start_corner m i) (end_corner m i)

-- ---- two senses

same-sense : (s : Sense) → same_sense s s ≡ true
same-sense positive = refl
same-sense negative = refl

sense-swap : (s u : Sense) → same_sense s u ≡ same_sense u s
sense-swap positive positive = refl
sense-swap positive negative = refl
sense-swap negative positive = refl
sense-swap negative negative = refl

turned-start : (s u : Sense) (d : Edge) → same_sense s u ≡ false → (directed u d).start ≡ (directed s d).end
turned-start positive positive d h = absurd (false≢true (sym h))
turned-start positive negative d h = refl
turned-start negative positive d h = refl
turned-start negative negative d h = absurd (false≢true (sym h))

turned-end : (s u : Sense) (d : Edge) → same_sense s u ≡ false → (directed u d).end ≡ (directed s d).start
turned-end positive positive d h = absurd (false≢true (sym h))
turned-end positive negative d h = refl
turned-end negative positive d h = refl
turned-end negative negative d h = absurd (false≢true (sym h))

-- the other fin of a fin's edge
abbrev pub partner : Model → ℕ → ℕ
partner m i = other i (edge m (fin m i).edge).fins

pub record Opposite (m : Model) (i j : ℕ) : Type 0 where
  pub same-edge : (fin m j).edge ≡ (fin m i).edge
  pub senses : same_sense (fin m i).sense (fin m j).sense ≡ false
  pub back : partner m j ≡ i
  pub listed : member j (edge m (fin m i).edge).fins ≡ true

module _ (m : Model) (i a c : ℕ) (both : (edge m (fin m i).edge).fins ≡ (a ∷ c ∷ [])) (senses : same_sense (fin m a).sense (fin m c).sense ≡ false)
    (ea : (fin m a).edge ≡ (fin m i).edge) (ec : (fin m c).edge ≡ (fin m i).edge) where
  apart : c ≡ a → ⊥
  apart q = false≢true (sym senses ∙ ap (λ (z : ℕ). same_sense (fin m a).sense (fin m z).sense) q ∙ same-sense (fin m a).sense)

  partner-c : partner m c ≡ a
  partner-c = ap (λ (z : ℕ). other c (edge m z).fins) ec ∙ ap (other c) both ∙ ap (λ (t : Bool). cond t c a) (ne_eqb c a apart)

  partner-a : partner m a ≡ c
  partner-a = ap (λ (z : ℕ). other a (edge m z).fins) ea ∙ ap (other a) both ∙ ap (λ (t : Bool). cond t c a) (eq-eqb a a refl)

  other-is : member i (a ∷ c ∷ []) ≡ true → Opposite m i (partner m i)
  other-is h = by (eqb i a) refl (sym (member-cons i a (c ∷ [])) ∙ h)
    where
      by : (t : Bool) → eqb i a ≡ t → (t || member i (c ∷ [])) ≡ true → Opposite m i (partner m i)
      by true e g =
          let is : i ≡ a = eqb-true i a e in
          let to : partner m i ≡ c = ap (partner m) is ∙ partner-a in
          subst (λ (z : ℕ). Opposite m i z) (sym to)
          (record {
            same-edge = ec;
            senses = ap (λ (z : ℕ). same_sense (fin m z).sense (fin m c).sense) is ∙ senses;
            back = partner-c ∙ sym is;
            listed = ap (member c) both ∙ member-tail c a (c ∷ []) (member-head c []);
          })
      by false e g =
          let is : i ≡ c = eqb-true i c (sym (member-one i c) ∙ g) in
          let to : partner m i ≡ a = ap (partner m) is ∙ partner-c in
          subst (λ (z : ℕ). Opposite m i z) (sym to)
          (record {
            same-edge = ea;
            senses = ap (λ (z : ℕ). same_sense (fin m z).sense (fin m a).sense) is ∙ sense-swap (fin m c).sense (fin m a).sense ∙ senses;
            back = partner-a ∙ sym is;
            listed = ap (member a) both ∙ member-head a (c ∷ []);
          })

-- ---- of a movable body

module _ (x : Limits) (m : Model) (b r : ℕ) (k : Movable x m b r) where
  edge-below : (e : ℕ) → member e (edge_walk m b) ≡ true → e < m.edges.used
  edge-below e h = ltb-true e m.edges.used (all-member (λ e. ltb e m.edges.used) (edge_walk m b) e (edges-there x m k.formed b k.there) h)

  quiet : NoFault (findings m topological b)
  unfolding report_of
  quiet = eqb-true _ 0 k.clean

  edges-quiet : NoFault (manifold_edges m b)
  unfolding findings
  edges-quiet = (no-fault-parts (layout m b (body m b).regions ++ joined (region_findings m topological b) (body m b).regions) (manifold_edges m b) quiet).1

  walk-quiet : NoFault (joined (manifold_edge m) (edge_walk m b))
  unfolding manifold_edges
  walk-quiet = rw (k.solid, edges-given x m k.formed b k.there) at edges-quiet

  edge-quiet : (e : ℕ) → member e (edge_walk m b) ≡ true → NoFault (manifold m e (edge m e).fins)
  unfolding manifold_edge
  edge-quiet e h = rw (lt-ltb e m.edges.used (edge-below e h)) at (no-fault-at (manifold_edge m) (edge_walk m b) walk-quiet e h)

  listed_below : (e i : ℕ) → e < m.edges.used → member i (edge m e).fins ≡ true → i < m.fins.used
  listed_below e i he h = ltb-true i m.fins.used (all-member (has m.fins) (edge m e).fins i (k.formed.ids.edge-fins e he) h)

  listed-names : (e i : ℕ) → e < m.edges.used → member i (edge m e).fins ≡ true → (fin m i).edge ≡ e
  listed-names e i he h =
      eqb-true (fin m i).edge e
      (bit-true (eqb (fin m i).edge e) (omega (arith, count-present i (edge m e).fins h, k.formed.edges.once e i he (listed_below e i he h))))

  fin-listed : (i : ℕ) → i < m.fins.used → member i (edge m (fin m i).edge).fins ≡ true
  fin-listed i hi =
      let counted : count i (edge m (fin m i).edge).fins ≡ 1 = k.formed.edges.once (fin m i).edge i (k.formed.ids.fin-edge i hi) hi ∙ ap bit (eq-eqb (fin m i).edge (fin m i).edge refl) in
      member-counted i (edge m (fin m i).edge).fins (omega arith)

  opposite : (i : ℕ) → i < m.fins.used → member (fin m i).edge (edge_walk m b) ≡ true → Opposite m i (partner m i)
  opposite i hi h =
      let two : TwoFins m (edge m (fin m i).edge).fins = two-fins m (fin m i).edge (edge m (fin m i).edge).fins (edge-quiet (fin m i).edge h) in
      go two.i two.j two.both two.senses
    where
      go : (a c : ℕ) → (edge m (fin m i).edge).fins ≡ (a ∷ c ∷ []) → (has m.fins a && has m.fins c && same_sense (fin m a).sense (fin m c).sense) ≡ false → Opposite m i (partner m i)
      go a c both senses =
          let he : (fin m i).edge < m.edges.used = edge-below (fin m i).edge h in
          let la : member a (edge m (fin m i).edge).fins ≡ true = ap (member a) both ∙ member-head a (c ∷ []) in
          let lc : member c (edge m (fin m i).edge).fins ≡ true = ap (member c) both ∙ member-tail c a (c ∷ []) (member-head c []) in
          let differ : same_sense (fin m a).sense (fin m c).sense ≡ false =
          rw (lt-ltb a m.fins.used (listed_below (fin m i).edge a he la), lt-ltb c m.fins.used (listed_below (fin m i).edge c he lc)) at senses in
          other-is m i a c both differ (listed-names (fin m i).edge a he la) (listed-names (fin m i).edge c he lc) (sym (ap (member i) both) ∙ fin-listed i hi)

  pub fin-opposite : (i : ℕ) → member i (body_fins m b) ≡ true → Opposite m i (partner m i)
  fin-opposite i h = let f = fin-from x m b r k i h in opposite i (fin-below x m b r k f.0 f.1 i f.2) (edge-walked x m b r k f.0 f.1 i f.2)

  pub partner-in : (i : ℕ) → member i (body_fins m b) ≡ true → member (partner m i) (body_fins m b) ≡ true
  partner-in i h =
      let f = fin-from x m b r k i h in
      let e = edge-walked x m b r k f.0 f.1 i f.2 in
      let two : Opposite m i (partner m i) = fin-opposite i h in
      let own = all-member (λ j. member (loop m (fin m j).owner).face (face_walk m b)) (edge m (fin m i).edge).fins (partner m i)
      (all-member (λ e. all (λ i. member (loop m (fin m i).owner).face (face_walk m b)) (edge m e).fins) (edge_walk m b) (fin m i).edge k.fins e) two.listed in
      body-fin x m b r k (loop m (fin m (partner m i)).owner).face own (partner m i)
      (rim-in x m b r k (loop m (fin m (partner m i)).owner).face own (partner m i) (listed_below (fin m i).edge (partner m i) (edge-below (fin m i).edge e) two.listed) refl)

  -- the other fin adds the same with the other sign
  pub lever-other : (t : Corner) (i : ℕ) → member i (body_fins m b) ≡ true → fin_lever m t (partner m i) ≡ neg_ℤ (fin_lever m t i)
  unfolding fin_lever
  lever-other t i h = go (partner m i) (fin-opposite i h)
    where
      go : (j : ℕ) → Opposite m i j → lever t (start_corner m j) (end_corner m j) ≡ neg_ℤ (lever t (start_corner m i) (end_corner m i))
      go j two =
          let same : ends_of m j ≡ directed (fin m j).sense (edge m (fin m i).edge) = ap (λ (z : ℕ). directed (fin m j).sense (edge m z)) two.same-edge in
          let s : (ends_of m j).start ≡ (ends_of m i).end = ap (λ (d : Ends). d.start) same ∙ turned-start (fin m i).sense (fin m j).sense (edge m (fin m i).edge) two.senses in
          let e : (ends_of m j).end ≡ (ends_of m i).start = ap (λ (d : Ends). d.end) same ∙ turned-end (fin m i).sense (fin m j).sense (edge m (fin m i).edge) two.senses in
          ap₂ (λ (u : Option ℕ) (v : Option ℕ). lever t (corner (point_of m (the u))) (corner (point_of m (the v)))) s e
          ∙ lever-turned t (start_corner m i) (end_corner m i)
