-- A split keeps a model well formed, and so does any sequence of splits, refused or not: `split-keeps`, `splits-keep`. Assumes nothing.
use Prim.Native.Nat.{ℕ, zero, suc, ◌+◌, ◌-◌, ◌≤◌, ◌<◌}
use native.Mathlib.Omega.{arith}
use Rattle.std.proofs.Math.Decide.{dec_lt}
use Rattle.std.proofs.Math.Nat.{zero-add}
use Rattle.std.proofs.Math.Path.{◌≡◌, refl, ap}
use Rattle.std.proofs.Common.{sym, ◌∙◌}
use Rattle.std.proofs.Math.Bool.{Bool, true, false, cond}
use Rattle.std.specs.Prelude.{◌&&◌, get_or, Float}
use Rattle.std.proofs.lemmas.Bool.{false≢true}
use mathlib.Core.List.{List, [], ◌∷◌}
use Rattle.std.proofs.Math.Option.{Option}
use Rattle.std.proofs.Math.Dec.{eqb, ltb, leb}
use Rattle.std.proofs.Math.ListN.{length, length-append}
use borrow.Author.Tests.{ltb-true, leb-true, eqb-true, eqb-false, lt-ltb, le-ltb, ne_eqb, eq-eqb}
use Rattle.meaning.specs.Lists.{all_below, all, member, count, count_if, place, joined, same}
use Rattle.meaning.specs.Model.{Sense, positive, negative, Model, extended, changed, shell, loop, fin, edge, vertex, Limits}
use Rattle.meaning.specs.Edits.{tolerance_ok}
use Rattle.meaning.specs.Walks.{directed, ends_of}
use Rattle.meaning.specs.Split.{tables_fit, edge_fits, gain, loops_fit, shells_fit, test13, split_refusal, new_fin, beside, with_new, first_half, second_half, after_split, where_accepted, model_after, Cut, after_all}
use Rattle.meaning.specs.Formed.{Readable, below_maybe, StoredIds, bit, Listed, fin_names, fin_names_edge, loop_closes, WellFormed}
use Rattle.meaning_list_laws.specs.Tests.{and_both, all_below-at, maybe-weaken, unless-zero}
use Rattle.meaning_list_laws.specs.Lists.{count-cons, count-append, count-above, member-counted, member-uncounted, member-nth, place-nth, nth-place, place-below, all-weaken, all-joined, all_one, all_two, below-nth, length_run, all-run, count-run-before, count-run-in, double-count, bound_of}
use Rattle.meaning_split_laws.specs.Loops.{first_start, Follows, first_start-append, follows-append, follows-loop, loop-follows}
use Rattle.meaning_split_laws.specs.After.{with_new_edge, fin-was, fin-fresh, fin-at-new, loop-after, edge-first, edge_other, edge_fresh, edge-was-fins, accepted}
use Rattle.meaning_split_laws.specs.Clean.{own}

-- a fin with its new fin beside it: how often each stands there
pub beside-old : (s : Sense) (f n c : ℕ) → (c ≡ n → ⊥) → count c (beside s f n) ≡ cond (eqb c f) 1 0
unfolding count
beside-old positive f n c h = rw (ne_eqb c n h)
beside-old negative f n c h = rw (ne_eqb c n h)

pub beside-new : (s : Sense) (f n c : ℕ) → c ≡ n → (c ≡ f → ⊥) → count c (beside s f n) ≡ 1
unfolding count
beside-new positive f n c q h = rw (ne_eqb c f h, eq-eqb c n q)
beside-new negative f n c q h = rw (ne_eqb c f h, eq-eqb c n q)

module _ (x : Limits) (m : Model) (w : WellFormed x m) (e : ℕ) (t : Float) where
  -- ---- an edge lists just the fins that name it: the new edge the new fins, an old edge its old ones

  edges-once : (p c : ℕ) → p < m.edges.used + 1 → c < m.fins.used + length (edge m e).fins
      → count c (edge (after_split m e t) p).fins ≡ bit (eqb (fin (after_split m e t) c).edge p)
  edges-once p c hp hc =
      elim (dec_lt p m.edges.used) [
        | yes old ↦ elim (dec_lt c m.fins.used) [
          | yes was ↦ rw (edge-was-fins m e t p old, fin-was m e t c was) (w.edges.once p c old was)
          | no new ↦
              rw (edge-was-fins m e t p old, fin-fresh m e t c (omega arith), ne_eqb m.edges.used p (λ q. omega arith))
              (count-above m.fins.used c (edge m p).fins (w.ids.edge-fins p old) (omega arith))
        ]
        | no last ↦ elim (dec_lt c m.fins.used) [
          | yes was ↦
              let named : (fin m c).edge < m.edges.used = w.ids.fin-edge c was in
              rw (edge_fresh m e t p (omega arith), fin-was m e t c was, ne_eqb (fin m c).edge p (λ q. omega arith))
              (count-run-before m.fins.used (length (edge m e).fins) c was)
          | no new ↦
              rw (edge_fresh m e t p (omega arith), fin-fresh m e t c (omega arith), eq-eqb m.edges.used p (omega arith))
              (count-run-in m.fins.used (length (edge m e).fins) c (omega arith) hc)
        ]
      ]

  pub edges-kept :
      Listed (after_split m e t).edges.used (after_split m e t).fins.used (λ p. (edge (after_split m e t) p).fins) (fin_names_edge (after_split m e t))
  unfolding after_split extended changed
  edges-kept = record { once = edges-once }

  -- ---- a loop lists just the fins that name it: an old fin as before, a new one where its old fin stands

  -- an old fin stands for itself
  with-old : (l f c : ℕ) → c < m.fins.used → count c (with_new m e l f) ≡ cond (eqb c f) 1 0
  unfolding count
  with-old l f c h = go (member f (edge m e).fins && eqb (fin m f).owner l)
    where
      go : (b : Bool) → count c (cond b (beside (fin m f).sense f (new_fin m e f)) (f ∷ [])) ≡ cond (eqb c f) 1 0
      go true = beside-old (fin m f).sense f (new_fin m e f) c (λ q. omega arith)
      go false = refl

  joined-old : (l c : ℕ) (L : List ℕ) → c < m.fins.used → count c (joined (with_new m e l) L) ≡ count c L
  unfolding joined
  joined-old l c [] h = refl
  joined-old l c (f ∷ L) h =
      rw (count-append c (with_new m e l f) (joined (with_new m e l) L), with-old l f c h, joined-old l c L h, count-cons c f L)

  -- the new fin U + k stands beside the k-th fin of the edge, in that fin's loop
  module _ (he : e < m.edges.used) where
    fins-once-listed : (c : ℕ) → count c (edge m e).fins ≤ 1
    fins-once-listed c =
        elim (dec_lt c m.fins.used) [
          | yes was ↦ rw (w.edges.once e c he was) (bit-small (eqb (fin m c).edge e))
          | no new ↦ rw (count-above m.fins.used c (edge m e).fins (w.ids.edge-fins e he) (omega arith)) (omega arith)
        ]
      where
        bit-small : (b : Bool) → bit b ≤ 1
        bit-small true = omega arith
        bit-small false = omega arith

    with-new : (l f k : ℕ) → k < length (edge m e).fins → f < m.fins.used
        → count (m.fins.used + k) (with_new m e l f) ≡ cond (eqb (fin m (get_or (edge m e).fins k 0)).owner l) (cond (eqb (get_or (edge m e).fins k 0) f) 1 0) 0
    unfolding count
    with-new l f k hk hf = by (eqb K f) refl
      where
        L : List ℕ
        L = (edge m e).fins

        K : ℕ
        K = get_or (edge m e).fins k 0

        U : ℕ
        U = m.fins.used

        -- f is the k-th fin: it is a member, and k stand before it
        here : (b : Bool) → K ≡ f → place f L ≡ k → count (U + k) (cond b (beside (fin m f).sense f (U + place f L)) (f ∷ [])) ≡ cond b 1 0
        here true q r = beside-new (fin m f).sense f (U + place f L) (U + k) (omega arith) (λ z. omega arith)
        here false q r = rw (ne_eqb (U + k) f (λ z. omega arith))

        -- it is not: its new fin is another
        there : (b : Bool) → (b ≡ true → place f L ≡ k → ⊥) → count (U + k) (cond b (beside (fin m f).sense f (U + place f L)) (f ∷ [])) ≡ 0
        there true q = beside-old (fin m f).sense f (U + place f L) (U + k) (λ z. q refl (omega arith)) ∙ ap (λ x. cond x 1 0) (ne_eqb (U + k) f (λ z. omega arith))
        there false q = rw (ne_eqb (U + k) f (λ z. omega arith))

        none_of : (b : Bool) → ◌≡◌ {A = ℕ} 0 (cond b 0 0)
        none_of true = refl
        none_of false = refl

        by : (b : Bool) → eqb K f ≡ b → count (U + k) (with_new m e l f) ≡ cond (eqb (fin m K).owner l) (cond b 1 0) 0
        by true q =
            let same : K ≡ f = eqb-true K f q in
            let in_list : member f L ≡ true = rw same at (member-nth L k hk) in
            let before : place f L ≡ k = rw same at (place-nth L k fins-once-listed hk) in
            rw (in_list, same) (here (eqb (fin m f).owner l) same before)
        by false q =
            there (member f L && eqb (fin m f).owner l)
            (λ z r. eqb-false K f q (ap (λ i. get_or L i 0) (sym r) ∙ nth-place L f (and_both (member f L) (eqb (fin m f).owner l) z).0))
            ∙ none_of (eqb (fin m K).owner l)

    joined-new : (l k : ℕ) (L : List ℕ) → all (λ f. ltb f m.fins.used) L ≡ true → k < length (edge m e).fins
        → count (m.fins.used + k) (joined (with_new m e l) L) ≡ cond (eqb (fin m (get_or (edge m e).fins k 0)).owner l) (count (get_or (edge m e).fins k 0) L) 0
    unfolding joined count all
    joined-new l k [] a h = none_of (eqb (fin m (get_or (edge m e).fins k 0)).owner l)
      where
        none_of : (b : Bool) → ◌≡◌ {A = ℕ} 0 (cond b 0 0)
        none_of true = refl
        none_of false = refl
    joined-new l k (f ∷ L) a h =
        let both : (ltb f m.fins.used ≡ true) × (all (λ i. ltb i m.fins.used) L ≡ true) = and_both _ _ a in
        rw (
          count-append (m.fins.used + k) (with_new m e l f) (joined (with_new m e l) L),
          with-new l f k h (ltb-true f m.fins.used both.0),
          joined-new l k L both.1 h,
          count-cons (get_or (edge m e).fins k 0) f L,
        )
        (go (eqb (fin m (get_or (edge m e).fins k 0)).owner l) (cond (eqb (get_or (edge m e).fins k 0) f) 1 0) (count (get_or (edge m e).fins k 0) L))
      where
        go : (b : Bool) (p q : ℕ) → cond b p 0 + cond b q 0 ≡ cond b (p + q) 0
        go true p q = refl
        go false p q = refl

    fins-once : (l c : ℕ) → l < m.loops.used → c < m.fins.used + length (edge m e).fins
        → count c (loop (after_split m e t) l).fins ≡ bit (eqb (fin (after_split m e t) c).owner l)
    fins-once l c hl hc =
        elim (dec_lt c m.fins.used) [
          | yes was ↦ rw (loop-after m e t l, joined-old l c (loop m l).fins was, fin-was m e t c was) (w.fins.once l c hl was)
          | no new ↦
              let k : ℕ = c - m.fins.used in
              let at-k : c ≡ m.fins.used + k = omega arith in
              let in_list : k < length (edge m e).fins = omega arith in
              rw (loop-after m e t l, fin-fresh m e t c (omega arith))
              (ap (λ i. count i (joined (with_new m e l) (loop m l).fins)) at-k
              ∙ joined-new l k (loop m l).fins (w.ids.loop-fins l hl) in_list
              ∙ ap (λ n. cond (eqb (fin m (get_or (edge m e).fins k 0)).owner l) n 0) (w.fins.once l (get_or (edge m e).fins k 0) hl (below-nth m.fins.used (edge m e).fins k (w.ids.edge-fins e he) in_list))
              ∙ itself (eqb (fin m (get_or (edge m e).fins k 0)).owner l))
        ]
      where
        itself : (b : Bool) → cond b (bit b) 0 ≡ bit b
        itself true = refl
        itself false = refl

    pub fins-kept :
        Listed (after_split m e t).loops.used (after_split m e t).fins.used (λ l. (loop (after_split m e t) l).fins) (fin_names (after_split m e t))
    unfolding after_split extended changed
    fins-kept = record { once = fins-once }

    -- ---- every fin still ends where the next starts

    -- the edge's fins are those that name it
    pub in-fins : (f : ℕ) → f < m.fins.used → (fin m f).edge ≡ e → member f (edge m e).fins ≡ true
    in-fins f h q = member-counted f (edge m e).fins (rw (w.edges.once e f he h, eq-eqb (fin m f).edge e q) (omega arith))

    pub not-in-fins : (f : ℕ) → f < m.fins.used → ((fin m f).edge ≡ e → ⊥) → member f (edge m e).fins ≡ false
    not-in-fins f h d = member-uncounted f (edge m e).fins (rw (w.edges.once e f he h, ne_eqb (fin m f).edge e d))

    -- what stands for a fin leads from its start to its end
    record Leads (f : ℕ) (l : List ℕ) : Type 0 where
      starts : (v : Option ℕ) → first_start (after_split m e t) l v ≡ (ends_of m f).start
      ends : Follows (after_split m e t) l (ends_of m f).end

    alone : (f : ℕ) → ends_of (after_split m e t) f ≡ ends_of m f → Leads f (f ∷ [])
    alone f p = record { starts = λ v. ap (λ r. r.start) p; ends = (ap (λ r. r.end) p, tt) }

    halves : (s : Sense) (f n : ℕ) → ends_of (after_split m e t) f ≡ directed s (first_half m (edge m e)) → ends_of (after_split m e t) n ≡ directed s (second_half m (edge m e))
        → ends_of m f ≡ directed s (edge m e) → Leads f (beside s f n)
    halves positive f n p q r =
        record {
          starts = λ v. ap (λ z. z.start) p ∙ sym (ap (λ z. z.start) r);
          ends = (ap (λ z. z.end) p ∙ sym (ap (λ z. z.start) q), (ap (λ z. z.end) q ∙ sym (ap (λ z. z.end) r), tt));
        }
    halves negative f n p q r =
        record {
          starts = λ v. ap (λ z. z.start) q ∙ sym (ap (λ z. z.start) r);
          ends = (ap (λ z. z.end) q ∙ sym (ap (λ z. z.start) p), (ap (λ z. z.end) p ∙ sym (ap (λ z. z.end) r), tt));
        }

    leads : (l f : ℕ) → f < m.fins.used → (fin m f).owner ≡ l → Leads f (with_new m e l f)
    leads l f h o = by (eqb (fin m f).edge e) refl
      where
        by : (b : Bool) → eqb (fin m f).edge e ≡ b → Leads f (with_new m e l f)
        by true q =
            let on : (fin m f).edge ≡ e = eqb-true (fin m f).edge e q in
            let mem : member f (edge m e).fins ≡ true = in-fins f h on in
            rw (mem, eq-eqb (fin m f).owner l o)
            (halves (fin m f).sense f (new_fin m e f)
            (rw (fin-was m e t f h, on, edge-first m e t he)) (rw (fin-at-new m e t f mem, edge_fresh m e t m.edges.used (omega arith))) (rw on))
        by false q =
            let off : (fin m f).edge ≡ e → ⊥ = eqb-false (fin m f).edge e q in
            rw (not-in-fins f h off) (alone f (rw (fin-was m e t f h, edge_other m e t (fin m f).edge (w.ids.fin-edge f h) off)))

    -- all of a loop's list
    joined-follows : (l : ℕ) (L : List ℕ) (v : Option ℕ) → all (λ f. ltb f m.fins.used && eqb (fin m f).owner l) L ≡ true → Follows m L v
        → Follows (after_split m e t) (joined (with_new m e l) L) v × (first_start (after_split m e t) (joined (with_new m e l) L) v ≡ first_start m L v)
    unfolding joined all
    joined-follows l [] v a f = (tt, refl)
    joined-follows l (i ∷ L) v a f =
        let both : (ltb i m.fins.used && eqb (fin m i).owner l ≡ true) × (all (λ f. ltb f m.fins.used && eqb (fin m f).owner l) L ≡ true) = and_both _ _ a in
        let here : (ltb i m.fins.used ≡ true) × (eqb (fin m i).owner l ≡ true) = and_both _ _ both.0 in
        let rest : Follows (after_split m e t) (joined (with_new m e l) L) v × (first_start (after_split m e t) (joined (with_new m e l) L) v ≡ first_start m L v) =
        joined-follows l L v both.1 f.1 in
        let one : Leads i (with_new m e l i) = leads l i (ltb-true i m.fins.used here.0) (eqb-true (fin m i).owner l here.1) in (
          follows-append (after_split m e t) (with_new m e l i) (joined (with_new m e l) L) v (rw (rest.1, ← f.0) one.ends) rest.0,
          first_start-append (after_split m e t) (with_new m e l i) (joined (with_new m e l) L) v ∙ one.starts (first_start (after_split m e t) (joined (with_new m e l) L) v),
        )

    with-new-length : (l f : ℕ) → 1 ≤ length (with_new m e l f)
    with-new-length l f = go (member f (edge m e).fins && eqb (fin m f).owner l) (fin m f).sense
      where
        go : (b : Bool) (s : Sense) → 1 ≤ length (cond b (beside s f (new_fin m e f)) (f ∷ []))
        go true positive = omega arith
        go true negative = omega arith
        go false s = omega arith

    loop-keeps : (l : ℕ) (L : List ℕ) → all (λ f. ltb f m.fins.used && eqb (fin m f).owner l) L ≡ true → loop_closes m L ≡ true
        → loop_closes (after_split m e t) (joined (with_new m e l) L) ≡ true
    unfolding loop_closes joined
    loop-keeps l [] a h = absurd (false≢true h)
    loop-keeps l (i ∷ k) a h =
        let both : Follows (after_split m e t) (joined (with_new m e l) (i ∷ k)) (ends_of m i).start × (first_start (after_split m e t) (joined (with_new m e l) (i ∷ k)) (ends_of m i).start ≡ (ends_of m i).start) =
        joined-follows l (i ∷ k) (ends_of m i).start a (loop-follows m i k h) in
        let long : 1 ≤ length (joined (with_new m e l) (i ∷ k)) =
        rw (length-append (with_new m e l i) (joined (with_new m e l) k)) (omega (arith, with-new-length l i)) in
        follows-loop (after_split m e t) (joined (with_new m e l) (i ∷ k)) (ends_of m i).start long both.0 both.1

    pub closes_kept : (l : ℕ) → l < (after_split m e t).loops.used → loop_closes (after_split m e t) (loop (after_split m e t) l).fins ≡ true
    unfolding after_split changed
    closes_kept l hl = loop-keeps l (loop m l).fins (own x m w l hl) (w.closes l hl)

    -- ---- every stored id still names a record

    with-new-below : (l f : ℕ) → ltb f m.fins.used ≡ true → all (λ i. ltb i (m.fins.used + length (edge m e).fins)) (with_new m e l f) ≡ true
    with-new-below l f h = go (member f (edge m e).fins) refl (eqb (fin m f).owner l) (fin m f).sense
      where
        P : ℕ → Bool
        P i = ltb i (m.fins.used + length (edge m e).fins)

        old : P f ≡ true
        old = let z : f < m.fins.used = ltb-true f m.fins.used h in lt-ltb f (m.fins.used + length (edge m e).fins) (omega arith)

        new : member f (edge m e).fins ≡ true → P (new_fin m e f) ≡ true
        new q = let z : place f (edge m e).fins < length (edge m e).fins = place-below (edge m e).fins f q in lt-ltb (new_fin m e f) (m.fins.used + length (edge m e).fins) (omega arith)

        go : (b : Bool) → member f (edge m e).fins ≡ b → (c : Bool) (s : Sense) → all P (cond (b && c) (beside s f (new_fin m e f)) (f ∷ [])) ≡ true
        go true q true positive = all_two P f (new_fin m e f) old (new q)
        go true q true negative = all_two P (new_fin m e f) f (new q) old
        go true q false s = all_one P f old
        go false q c s = all_one P f old

    wire-below : (y : ℕ) → ltb y m.edges.used ≡ true → all (λ i. ltb i (m.edges.used + 1)) (cond (eqb y e) (e ∷ m.edges.used ∷ []) (y ∷ [])) ≡ true
    wire-below y h = go (eqb y e)
      where
        go : (b : Bool) → all (λ i. ltb i (m.edges.used + 1)) (cond b (e ∷ m.edges.used ∷ []) (y ∷ [])) ≡ true
        go true = all_two (λ i. ltb i (m.edges.used + 1)) e m.edges.used (lt-ltb e (m.edges.used + 1) (omega arith)) (lt-ltb m.edges.used (m.edges.used + 1) (omega arith))
        go false = let z : y < m.edges.used = ltb-true y m.edges.used h in all_one (λ i. ltb i (m.edges.used + 1)) y (lt-ltb y (m.edges.used + 1) (omega arith))

    owner-after : (c : ℕ) → c < m.fins.used + length (edge m e).fins → (fin (after_split m e t) c).owner < m.loops.used
    owner-after c h =
        elim (dec_lt c m.fins.used) [
          | yes was ↦ rw (fin-was m e t c was) (w.ids.fin-owner c was)
          | no new ↦
              rw (fin-fresh m e t c (omega arith))
              (w.ids.fin-owner (get_or (edge m e).fins (c - m.fins.used) 0) (below-nth m.fins.used (edge m e).fins (c - m.fins.used) (w.ids.edge-fins e he) (omega arith)))
        ]

    edge-after : (c : ℕ) → c < m.fins.used + length (edge m e).fins → (fin (after_split m e t) c).edge < m.edges.used + 1
    edge-after c h =
        elim (dec_lt c m.fins.used) [
          | yes was ↦ rw (fin-was m e t c was) (omega (arith, w.ids.fin-edge c was))
          | no new ↦ rw (fin-fresh m e t c (omega arith)) (omega arith)
        ]

    fins-after : (p : ℕ) → p < m.edges.used + 1 → all (λ i. ltb i (m.fins.used + length (edge m e).fins)) (edge (after_split m e t) p).fins ≡ true
    fins-after p h =
        elim (dec_lt p m.edges.used) [
          | yes old ↦ rw (edge-was-fins m e t p old) (all-weaken m.fins.used (m.fins.used + length (edge m e).fins) (edge m p).fins (omega arith) (w.ids.edge-fins p old))
          | no last ↦ rw (edge_fresh m e t p (omega arith)) (all-run m.fins.used (length (edge m e).fins))
        ]

    -- an edge's ends and curve: an old edge's, but for the end of e, which is the new vertex; and those of the new edge
    start-after : (p : ℕ) → p < m.edges.used + 1 → below_maybe (m.vertices.used + 1) (edge (after_split m e t) p).start ≡ true
    start-after p h =
        elim (dec_lt p m.edges.used) [
          | yes old ↦ go (eqb p e) refl old
          | no last ↦ rw (edge_fresh m e t p (omega arith)) (lt-ltb m.vertices.used (m.vertices.used + 1) (omega arith))
        ]
      where
        go : (b : Bool) → eqb p e ≡ b → p < m.edges.used → below_maybe (m.vertices.used + 1) (edge (after_split m e t) p).start ≡ true
        go true q old = rw (eqb-true p e q, edge-first m e t he) (maybe-weaken m.vertices.used (m.vertices.used + 1) (edge m e).start (omega arith) (w.ids.edge-start e he))
        go false q old = rw (edge_other m e t p old (eqb-false p e q)) (maybe-weaken m.vertices.used (m.vertices.used + 1) (edge m p).start (omega arith) (w.ids.edge-start p old))

    end_after : (p : ℕ) → p < m.edges.used + 1 → below_maybe (m.vertices.used + 1) (edge (after_split m e t) p).end ≡ true
    end_after p h =
        elim (dec_lt p m.edges.used) [
          | yes old ↦ go (eqb p e) refl old
          | no last ↦ rw (edge_fresh m e t p (omega arith)) (maybe-weaken m.vertices.used (m.vertices.used + 1) (edge m e).end (omega arith) (w.ids.edge-end e he))
        ]
      where
        go : (b : Bool) → eqb p e ≡ b → p < m.edges.used → below_maybe (m.vertices.used + 1) (edge (after_split m e t) p).end ≡ true
        go true q old = rw (eqb-true p e q, edge-first m e t he) (lt-ltb m.vertices.used (m.vertices.used + 1) (omega arith))
        go false q old = rw (edge_other m e t p old (eqb-false p e q)) (maybe-weaken m.vertices.used (m.vertices.used + 1) (edge m p).end (omega arith) (w.ids.edge-end p old))

    curve-after : (p : ℕ) → p < m.edges.used + 1 → below_maybe m.curves.used (edge (after_split m e t) p).curve ≡ true
    curve-after p h =
        elim (dec_lt p m.edges.used) [
          | yes old ↦ go (eqb p e) refl old
          | no last ↦ rw (edge_fresh m e t p (omega arith)) (w.ids.edge-curve e he)
        ]
      where
        go : (b : Bool) → eqb p e ≡ b → p < m.edges.used → below_maybe m.curves.used (edge (after_split m e t) p).curve ≡ true
        go true q old = rw (eqb-true p e q, edge-first m e t he) (w.ids.edge-curve e he)
        go false q old = rw (edge_other m e t p old (eqb-false p e q)) (w.ids.edge-curve p old)

    pub ids-kept : StoredIds (after_split m e t)
    unfolding after_split extended changed
    ids-kept =
        record {
          body-regions = w.ids.body-regions;
          region-body = w.ids.region-body;
          region-shells = w.ids.region-shells;
          shell-region = w.ids.shell-region;
          shell-faces = w.ids.shell-faces;
          shell-wire-edges = λ s h.
              all-joined (λ i. ltb i (m.edges.used + 1)) (λ i. ltb i m.edges.used) (with_new_edge m e) (m.shells.slot s).wire_edges
              wire-below (w.ids.shell-wire-edges s h);
          shell-acorn-vertices = λ s h. all-weaken m.vertices.used (m.vertices.used + 1) (m.shells.slot s).acorn_vertices (omega arith) (w.ids.shell-acorn-vertices s h);
          face-front = w.ids.face-front;
          face-back = w.ids.face-back;
          face-loops = w.ids.face-loops;
          face-surface = w.ids.face-surface;
          loop-face = w.ids.loop-face;
          loop-fins = λ l h.
              all-joined (λ i. ltb i (m.fins.used + length (edge m e).fins)) (λ i. ltb i m.fins.used) (with_new m e l) (loop m l).fins
              (with-new-below l) (w.ids.loop-fins l h);
          fin-owner = owner-after;
          fin-edge = edge-after;
          edge-fins = fins-after;
          edge-start = start-after;
          edge-end = end_after;
          edge-curve = curve-after;
        }

    -- ---- no shell repeats a wire edge

    wire-count : (y c : ℕ) → y < m.edges.used
        → count c (cond (eqb y e) (e ∷ m.edges.used ∷ []) (y ∷ [])) ≡ cond (eqb c m.edges.used) (cond (eqb e y) 1 0) (cond (eqb c y) 1 0)
    unfolding count
    wire-count y c h = by (eqb y e) refl (eqb c m.edges.used) refl
      where
        by : (a : Bool) → eqb y e ≡ a → (b : Bool) → eqb c m.edges.used ≡ b
            → count c (cond a (e ∷ m.edges.used ∷ []) (y ∷ [])) ≡ cond b (cond (eqb e y) 1 0) (cond (eqb c y) 1 0)
        by true q true r =
            let last : c ≡ m.edges.used = eqb-true c m.edges.used r in
            rw (ne_eqb c e (λ z. omega arith), r, eq-eqb e y (sym (eqb-true y e q)))
        by true q false r = rw (r, eqb-true y e q)
        by false q true r =
            let last : c ≡ m.edges.used = eqb-true c m.edges.used r in
            rw (ne_eqb c y (λ z. omega arith), ne_eqb e y (λ z. eqb-false y e q (sym z)))
        by false q false r = refl

    wires-joined : (c : ℕ) (W : List ℕ) → all (λ i. ltb i m.edges.used) W ≡ true
        → count c (joined (with_new_edge m e) W) ≡ cond (eqb c m.edges.used) (count e W) (count c W)
    unfolding joined count all
    wires-joined c [] a = none_of (eqb c m.edges.used)
      where
        none_of : (b : Bool) → ◌≡◌ {A = ℕ} 0 (cond b 0 0)
        none_of true = refl
        none_of false = refl
    wires-joined c (y ∷ W) a =
        let both : (ltb y m.edges.used ≡ true) × (all (λ i. ltb i m.edges.used) W ≡ true) = and_both _ _ a in
        count-append c (cond (eqb y e) (e ∷ m.edges.used ∷ []) (y ∷ [])) (joined (with_new_edge m e) W)
        ∙ ap (λ n. n + count c (joined (with_new_edge m e) W)) (wire-count y c (ltb-true y m.edges.used both.0))
        ∙ ap (λ n. cond (eqb c m.edges.used) (cond (eqb e y) 1 0) (cond (eqb c y) 1 0) + n) (wires-joined c W both.1)
        ∙ go (eqb c m.edges.used) (eqb e y) (eqb c y) (count e W) (count c W)
      where
        go : (b p q : Bool) (i j : ℕ) → cond b (cond p 1 0) (cond q 1 0) + cond b i j ≡ cond b (cond p (suc i) i) (cond q (suc j) j)
        go true true q i j = omega arith
        go true false q i j = zero-add i
        go false p true i j = omega arith
        go false p false i j = zero-add j

    pub wires-kept : (s c : ℕ) → s < m.shells.used → count c (shell (after_split m e t) s).wire_edges ≤ 1
    unfolding after_split changed
    wires-kept s c h = rw (wires-joined c (shell m s).wire_edges (w.ids.shell-wire-edges s h)) (go (eqb c m.edges.used))
      where
        go : (b : Bool) → cond b (count e (shell m s).wire_edges) (count c (shell m s).wire_edges) ≤ 1
        go true = w.wires s e h
        go false = w.wires s c h

    -- ---- the tables stay within their limits

    with-new-count : (l f : ℕ) → (fin m f).owner ≡ l → length (with_new m e l f) ≡ suc (cond (member f (edge m e).fins) 1 0)
    with-new-count l f o = rw (eq-eqb (fin m f).owner l o) (go (member f (edge m e).fins) (fin m f).sense)
      where
        go : (b : Bool) (s : Sense) → length (cond (b && true) (beside s f (new_fin m e f)) (f ∷ [])) ≡ suc (cond b 1 0)
        go true positive = refl
        go true negative = refl
        go false s = refl

    loop-length : (l : ℕ) (L : List ℕ) → all (λ f. ltb f m.fins.used && eqb (fin m f).owner l) L ≡ true
        → length (joined (with_new m e l) L) ≡ length L + count_if (λ f. member f (edge m e).fins) L
    unfolding joined all count_if
    loop-length l [] a = refl
    loop-length l (i ∷ L) a =
        let both : (ltb i m.fins.used && eqb (fin m i).owner l ≡ true) × (all (λ f. ltb f m.fins.used && eqb (fin m f).owner l) L ≡ true) = and_both _ _ a in
        let o : (fin m i).owner ≡ l = eqb-true (fin m i).owner l (and_both (ltb i m.fins.used) (eqb (fin m i).owner l) both.0).1 in
        rw (length-append (with_new m e l i) (joined (with_new m e l) L), with-new-count l i o, loop-length l L both.1)
        (go (member i (edge m e).fins) (length L) (count_if (λ f. member f (edge m e).fins) L))
      where
        go : (b : Bool) (p q : ℕ) → suc (cond b 1 0) + (p + q) ≡ suc p + cond b (suc q) q
        go true p q = omega arith
        go false p q = omega arith

    -- a loop gains as many fins as test 13 counts
    gained : (l : ℕ) → l < m.loops.used → length (loop (after_split m e t) l).fins ≡ length (loop m l).fins + gain m e l
    unfolding after_split changed
    gained l hl =
        loop-length l (loop m l).fins (own x m w l hl)
        ∙ ap (λ n. length (loop m l).fins + n)
        (double-count (λ f. eqb (fin m f).owner l) m.fins.used (edge m e).fins (loop m l).fins
        (λ c h. w.fins.once l c hl h ∙ bits (eqb (fin m c).owner l)) (w.ids.edge-fins e he) fins-once-listed)
      where
        bits : (b : Bool) → bit b ≡ cond b 1 0
        bits true = refl
        bits false = refl

    wires-length : (W : List ℕ) → length (joined (with_new_edge m e) W) ≡ length W + count e W
    unfolding joined count
    wires-length [] = refl
    wires-length (y ∷ W) =
        length-append (cond (eqb y e) (e ∷ m.edges.used ∷ []) (y ∷ [])) (joined (with_new_edge m e) W)
        ∙ ap (λ n. length (cond (eqb y e) (e ∷ m.edges.used ∷ []) (y ∷ [])) + n) (wires-length W)
        ∙ go (eqb y e) refl (eqb e y) refl (length W) (count e W)
      where
        go : (b : Bool) → eqb y e ≡ b → (c : Bool) → eqb e y ≡ c → (p q : ℕ) → length (cond b (e ∷ m.edges.used ∷ []) (y ∷ [])) + (p + q) ≡ suc p + cond c (suc q) q
        go true qb true qc p q = omega arith
        go true qb false qc p q = absurd (eqb-false e y qc (sym (eqb-true y e qb)))
        go false qb true qc p q = absurd (eqb-false y e qb (sym (eqb-true e y qc)))
        go false qb false qc p q = omega arith

    -- the tolerances: the new edge and the new vertex take the edge's own
    edge-tolerance-after : (p : ℕ) → p < m.edges.used + 1 → tolerance_ok (edge (after_split m e t) p).tolerance ≡ true
    edge-tolerance-after p h =
        elim (dec_lt p m.edges.used) [
          | yes old ↦ go (eqb p e) refl old
          | no last ↦ rw (edge_fresh m e t p (omega arith)) (w.tables.edge-tolerance e he)
        ]
      where
        go : (b : Bool) → eqb p e ≡ b → p < m.edges.used → tolerance_ok (edge (after_split m e t) p).tolerance ≡ true
        go true q old = rw (eqb-true p e q, edge-first m e t he) (w.tables.edge-tolerance e he)
        go false q old = rw (edge_other m e t p old (eqb-false p e q)) (w.tables.edge-tolerance p old)

    vertex-tolerance-after : (p : ℕ) → p < m.vertices.used + 1 → tolerance_ok (vertex (after_split m e t) p).tolerance ≡ true
    unfolding after_split extended
    vertex-tolerance-after p h =
        elim (dec_lt p m.vertices.used) [
          | yes old ↦ rw (lt-ltb p m.vertices.used old) (w.tables.vertex-tolerance p old)
          | no last ↦ rw (le-ltb p m.vertices.used (omega arith)) (w.tables.edge-tolerance e he)
        ]

    edge-fins-after : (p : ℕ) → p < m.edges.used + 1 → length (edge (after_split m e t) p).fins ≤ x.edge_fins
    edge-fins-after p h =
        elim (dec_lt p m.edges.used) [
          | yes old ↦ rw (edge-was-fins m e t p old) (w.tables.edge-fins p old)
          | no last ↦ rw (edge_fresh m e t p (omega arith), length_run m.fins.used (length (edge m e).fins)) (w.tables.edge-fins e he)
        ]

    module _ (room : test13 x m e ≡ 0) where
      -- what test 13 says, as facts
      record Room : Type 0 where
        fins : m.fins.used + length (edge m e).fins ≤ x.fins
        edges : m.edges.used + 1 ≤ x.edges
        vertices : m.vertices.used + 1 ≤ x.vertices
        loops : all (λ f. leb (length (loop m (fin m f).owner).fins + gain m e (fin m f).owner) x.loop_fins) (edge m e).fins ≡ true
        wires : all_below (λ s. leb (length (shell m s).wire_edges + count e (shell m s).wire_edges) x.shell_wire_edges) m.shells.used ≡ true

      has_room : Room
      unfolding test13
      has_room =
          let a : (tables_fit x m e && edge_fits x m e && loops_fit x m e ≡ true) × (shells_fit x m e ≡ true) = and_both (tables_fit x m e && edge_fits x m e && loops_fit x m e) (shells_fit x m e) (unless-zero 7 (tables_fit x m e && edge_fits x m e && loops_fit x m e && shells_fit x m e) room) in
          let b : (tables_fit x m e && edge_fits x m e ≡ true) × (loops_fit x m e ≡ true) = and_both (tables_fit x m e && edge_fits x m e) (loops_fit x m e) a.0 in
          let c : (tables_fit x m e ≡ true) × (edge_fits x m e ≡ true) = and_both (tables_fit x m e) (edge_fits x m e) b.0 in
          let FF : Bool = leb (m.fins.used + length (edge m e).fins) x.fins in
          let EE : Bool = leb (m.edges.used + 1) x.edges in
          let VV : Bool = leb (m.vertices.used + 1) x.vertices in
          let d : (FF && EE ≡ true) × (VV ≡ true) = and_both (FF && EE) VV c.0 in
          let g : (FF ≡ true) × (EE ≡ true) = and_both FF EE d.0 in
          record {
            fins = leb-true (m.fins.used + length (edge m e).fins) x.fins g.0;
            edges = leb-true (m.edges.used + 1) x.edges g.1;
            vertices = leb-true (m.vertices.used + 1) x.vertices d.1;
            loops = b.1;
            wires = a.1;
          }

      loop-fins-after : (l : ℕ) → l < m.loops.used → length (loop (after_split m e t) l).fins ≤ x.loop_fins
      loop-fins-after l hl =
          rw (gained l hl)
          (elim (dec_lt 0 (gain m e l)) [
            | yes some-fin ↦ bound_of (λ f. (fin m f).owner) (λ i. length (loop m i).fins + gain m e i) x.loop_fins l (edge m e).fins has_room.loops some-fin
            | no idle ↦ omega (arith, w.tables.loop-fins l hl)
          ])

      shell-wire-edges-after : (s : ℕ) → s < m.shells.used → length (shell (after_split m e t) s).wire_edges ≤ x.shell_wire_edges
      unfolding after_split changed
      shell-wire-edges-after s h =
          rw (wires-length (shell m s).wire_edges)
          (leb-true (length (shell m s).wire_edges + count e (shell m s).wire_edges) x.shell_wire_edges
          (all_below-at (λ s. leb (length (shell m s).wire_edges + count e (shell m s).wire_edges) x.shell_wire_edges) m.shells.used s has_room.wires h))

      pub tables-kept : Readable x (after_split m e t)
      unfolding after_split extended changed
      tables-kept =
          record {
            bodies = w.tables.bodies;
            regions = w.tables.regions;
            shells = w.tables.shells;
            faces = w.tables.faces;
            loops = w.tables.loops;
            fins = has_room.fins;
            edges = has_room.edges;
            vertices = has_room.vertices;
            curves = w.tables.curves;
            surfaces = w.tables.surfaces;
            body-regions = w.tables.body-regions;
            region-shells = w.tables.region-shells;
            shell-faces = w.tables.shell-faces;
            shell-wire-edges = shell-wire-edges-after;
            shell-acorn-vertices = w.tables.shell-acorn-vertices;
            face-loops = w.tables.face-loops;
            loop-fins = loop-fins-after;
            edge-fins = edge-fins-after;
            precision = w.tables.precision;
            edge-tolerance = edge-tolerance-after;
            vertex-tolerance = vertex-tolerance-after;
          }

      pub well-formed-kept : WellFormed x (after_split m e t)
      unfolding after_split extended changed
      well-formed-kept =
          record {
            tables = tables-kept;
            ids = ids-kept;
            regions = w.regions;
            shells = w.shells;
            loops = w.loops;
            fins = fins-kept;
            faces = w.faces;
            edges = edges-kept;
            closes = closes_kept;
            wires = wires-kept;
          }

-- ---- one split, and any sequence of them

pub split-keeps : (x : Limits) (m : Model) (e : ℕ) (t : Float) → WellFormed x m → WellFormed x (model_after x m e t)
unfolding model_after
split-keeps x m e t w = go (split_refusal x m e t) refl
  where
    go : (n : ℕ) → split_refusal x m e t ≡ n → WellFormed x (where_accepted n m (after_split m e t))
    go zero h = well-formed-kept x m w e t (accepted x m e t h).0 (accepted x m e t h).1
    go (suc n) h = w

pub splits-keep : (x : Limits) (m : Model) (l : List Cut) → WellFormed x m → WellFormed x (after_all x m l)
unfolding after_all
splits-keep x m [] w = w
splits-keep x m (c ∷ l) w = splits-keep x (model_after x m c.edge c.fraction) l (split-keeps x m c.edge c.fraction w)
