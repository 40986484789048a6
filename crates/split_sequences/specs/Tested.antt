-- A split is refused with the same number in two models with the same records in use, of which one is well formed: `refusal-same`. Assumes nothing.
use Rattle.std.specs.Prelude.{ℕ, zero, suc, ◌+◌, ◌<◌, ◌≡◌, Bool, false, length, Float}
use Rattle.std.proofs.Common.{arith, ap, ltb-true, lt-ltb}
use Rattle.std.proofs.Math.Path.{refl}
use Rattle.std.proofs.Math.Bool.{true, cond, ◌&&◌}
use Rattle.std.proofs.lemmas.Bool.{false≢true}
use mathlib.Core.List.{List, [], ◌∷◌}
use Rattle.std.proofs.Math.Option.{Option, none, some}
use Rattle.std.proofs.Math.Dec.{eqb, ltb, leb}
use Rattle.geom_lines_planes.specs.Refuse.{◌unless◌, ◌then◌}
use Rattle.geom_lines_planes.specs.declared.surface.Plane.{Plane}
use Rattle.geom_carriers.specs.declared.Carrier.{Carrier}
use Rattle.std.specs.Prelude.{Some, None}
use Rattle.geom_carriers.specs.Queries.{the_line, the_plane}
use Rattle.meaning.specs.Lists.{all, all_below, count, count_if, the, is_some}
use Rattle.meaning.specs.Model.{Model, Limits, Table, carrier_at, shell, face, loop, fin, edge, surface}
use Rattle.meaning.specs.Refuse.{first_of, first_refusal}
use Rattle.meaning.specs.Split.{carrier, start_point, end_point, lo, hi, parameter, split_point, test1, test2, test3, test4, test5, test6, test7, test8, test9, test10, on_plane, test11-fin, test11-fins, test11, test12, gain, loops_fit, shells_fit, test13, split_refusal}
use Rattle.meaning.specs.Formed.{below_maybe, WellFormed}
use Rattle.meaning_list_laws.specs.Tests.{and_both, unless-zero}
use Rattle.memory_writes.specs.Change.{SameTable, SameModel}
use Rattle.meaning_list_laws.specs.Lists.{fold_same}
use Rattle.split_sequences.specs.Same.{same_in}

-- ---- refusals one after the other

next : {a b c d : ℕ} → a ≡ b → (b ≡ 0 → c ≡ d) → (a then c) ≡ (b then d)
next {a} {b} {c} {d} p h = rw p (go b h)
  where
    go : (k : ℕ) → (k ≡ 0 → c ≡ d) → (k then c) ≡ (k then d)
    go zero g = g refl
    go (suc k) g = refl

-- ---- the same test of every record

below-same : (p q : ℕ → Bool) (k : ℕ) → ((i : ℕ) → i < k → p i ≡ q i) → all_below p k ≡ all_below q k
unfolding all_below
below-same p q zero h = refl
below-same p q (suc k) h = rw (h k (omega arith), below-same p q k (λ i g. h i (omega arith)))

-- ---- a carrier, or that there is none

found-same : (t u : Table Carrier) → SameTable t u → (i : ℕ) → carrier_at t i ≡ carrier_at u i
unfolding carrier_at
found-same t u s i = rw s.used (go (ltb i u.used) refl)
  where
    go : (b : Bool) → ltb i u.used ≡ b → cond b (Some (t.slot i)) None ≡ cond b (Some (u.slot i)) None
    go true q = ap Some (same_in s (λ a. a) i q)
    go false q = refl

the-in : (k : ℕ) (o : Option ℕ) → is_some o ≡ true → below_maybe k o ≡ true → ltb (the o) k ≡ true
the-in k none h b = absurd (false≢true h)
the-in k (some i) h b = b

module _ (x : Limits) (m n : Model) (s : SameModel m n) (w : WellFormed x n) (e : ℕ) (t : Float) where
  module _ (there : ltb e n.edges.used ≡ true) where
    he : e < n.edges.used
    he = ltb-true e n.edges.used there

    pub edge_same : edge m e ≡ edge n e
    edge_same = same_in s.edges (λ a. a) e there

    carrier-same : carrier m e ≡ carrier n e
    carrier-same = rw edge_same (ap the_line (found-same m.curves n.curves s.curves (the (edge n e).curve)))

    test3-same : test3 m e ≡ test3 n e
    unfolding first_of
    test3-same =
        rw edge_same
        (fold_same first_of ◌then◌ 0 (λ f. refl) (λ f y l. refl) _ _ (λ i. ltb i n.fins.used) (edge n e).fins
        (λ i h. rw (s.fins.used, same_in s.fins (λ a. a.pcurve) i h)) (w.ids.edge-fins e he))

    test4-same : test4 m e ≡ test4 n e
    test4-same = rw edge_same

    test5-same : test5 m e ≡ test5 n e
    test5-same = rw (edge_same, found-same m.curves n.curves s.curves (the (edge n e).curve))

    test6-same : test6 m e ≡ test6 n e
    test6-same = rw (edge_same, s.vertices.used)

    module _ (ends : (is_some (edge n e).start && is_some (edge n e).end) ≡ true) where
      start-same : start_point m e ≡ start_point n e
      start-same =
          rw edge_same (same_in s.vertices (λ a. a.point) (the (edge n e).start) (the-in _ (edge n e).start (and_both (is_some (edge n e).start) (is_some (edge n e).end) ends).0 (w.ids.edge-start e he)))

      end_same : end_point m e ≡ end_point n e
      end_same =
          rw edge_same (same_in s.vertices (λ a. a.point) (the (edge n e).end) (the-in _ (edge n e).end (and_both (is_some (edge n e).start) (is_some (edge n e).end) ends).1 (w.ids.edge-end e he)))

      lo-same : lo m e ≡ lo n e
      unfolding lo
      lo-same = rw (carrier-same, start-same)

      hi-same : hi m e ≡ hi n e
      unfolding hi
      hi-same = rw (carrier-same, end_same)

      parameter-same : parameter m e t ≡ parameter n e t
      unfolding parameter
      parameter-same = rw (lo-same, hi-same)

      pub point-same : split_point m e t ≡ split_point n e t
      unfolding split_point
      point-same = rw (carrier-same, parameter-same)

      test7-same : test7 m e ≡ test7 n e
      unfolding test7
      test7-same = rw (carrier-same, start-same, end_same)

      test8-same : test8 m e ≡ test8 n e
      unfolding test8
      test8-same = rw (lo-same, hi-same)

      test9-same : test9 m e t ≡ test9 n e t
      unfolding test9
      test9-same = rw point-same

      test10-same : test10 m e t ≡ test10 n e t
      unfolding test10
      test10-same = rw (point-same, start-same, end_same, s.precision)

      on-plane-same : (p : Plane) (u : Float) → on_plane m e p u ≡ on_plane n e p u
      unfolding on_plane
      on-plane-same p u = rw (carrier-same, edge_same, s.version, s.precision)

      fin-test-same : (i : ℕ) → ltb i n.fins.used ≡ true → test11-fin m e t i ≡ test11-fin n e t i
      unfolding test11-fin
      fin-test-same i h =
          let owner = w.ids.fin-owner i (ltb-true i n.fins.used h) in
          let on = w.ids.loop-face (fin n i).owner owner in
          let plane : Plane = the_plane (surface m (the (face m (loop m (fin m i).owner).face).surface)) in
          rw (
            lo-same,
            hi-same,
            parameter-same,
            on-plane-same plane (lo n e),
            on-plane-same plane (hi n e),
            on-plane-same plane (parameter n e t),
            same_in s.fins (λ a. a) i h,
            s.loops.used,
            s.faces.used,
            same_in s.loops (λ a. a) (fin n i).owner (lt-ltb _ _ owner),
            same_in s.faces (λ a. a) (loop n (fin n i).owner).face (lt-ltb _ _ on),
            found-same m.surfaces n.surfaces s.surfaces (the (face n (loop n (fin n i).owner).face).surface),
          )

      fin-tests-same : (seen l : List ℕ) → all (λ i. ltb i n.fins.used) l ≡ true → test11-fins m e t seen l ≡ test11-fins n e t seen l
      unfolding test11-fins all
      fin-tests-same seen [] a = refl
      fin-tests-same seen (i ∷ l) a =
          let c = and_both (ltb i n.fins.used) (all (λ i. ltb i n.fins.used) l) a in
          rw (fin-test-same i c.0, fin-tests-same (i ∷ seen) l c.1)

      test11-same : test11 m e t ≡ test11 n e t
      test11-same = rw edge_same (fin-tests-same [] (edge n e).fins (w.ids.edge-fins e he))

      test12-same : test12 m e ≡ test12 n e
      unfolding test12
      test12-same =
          rw (
            s.shells.used,
            below-same (λ i. leb (count e (shell m i).wire_edges) 1) (λ i. leb (count e (shell n i).wire_edges) 1) n.shells.used
                (λ i h. same_in s.shells (λ a. leb (count e a.wire_edges) 1) i (lt-ltb _ _ h)),
          )

      -- (of the edge's fins as n has them)
      gains-same : (l : ℕ) → count_if (λ i. eqb (fin m i).owner l) (edge n e).fins ≡ gain n e l
      unfolding count_if
      gains-same l =
          fold_same count_if (λ b k. cond b (suc k) k) 0 (λ f. refl) (λ f y k. refl) _ _ (λ i. ltb i n.fins.used) (edge n e).fins
          (same_in s.fins (λ a. eqb a.owner l)) (w.ids.edge-fins e he)

      loops-fit-same : loops_fit x m e ≡ loops_fit x n e
      unfolding all
      loops-fit-same =
          rw edge_same
          (fold_same all ◌&&◌ true (λ f. refl) (λ f y k. refl) _ _ (λ i. ltb i n.fins.used) (edge n e).fins
          (λ i h. rw (
            same_in s.fins (λ a. a) i h,
            gains-same (fin n i).owner,
            same_in s.loops (λ a. a) (fin n i).owner (lt-ltb _ _ (w.ids.fin-owner i (ltb-true i n.fins.used h))),
          ))
          (w.ids.edge-fins e he))

      shells-fit-same : shells_fit x m e ≡ shells_fit x n e
      shells-fit-same =
          rw (
            s.shells.used,
            below-same (λ i. leb (length (shell m i).wire_edges + count e (shell m i).wire_edges) x.shell_wire_edges)
                (λ i. leb (length (shell n i).wire_edges + count e (shell n i).wire_edges) x.shell_wire_edges) n.shells.used
                (λ i h. same_in s.shells (λ a. leb (length a.wire_edges + count e a.wire_edges) x.shell_wire_edges) i (lt-ltb _ _ h)),
          )

      test13-same : test13 x m e ≡ test13 x n e
      unfolding test13
      test13-same = rw (loops-fit-same, shells-fit-same, edge_same, s.fins.used, s.edges.used, s.vertices.used)

  -- a test is asked where those before it pass
  pub refusal-same : split_refusal x m e t ≡ split_refusal x n e t
  unfolding split_refusal first_refusal
  refusal-same =
      next {a = test1 t} refl (λ _.
      next {a = test2 m e} {b = test2 n e} (rw s.edges.used) (λ two.
      let here = unless-zero 1 (ltb e n.edges.used) two in
      next (test3-same here) (λ _.
      next (test4-same here) (λ four.
      let ends = unless-zero 6 (is_some (edge n e).start && is_some (edge n e).end) four in
      next (test5-same here) (λ _.
      next (test6-same here) (λ _.
      next (test7-same here ends) (λ _.
      next (test8-same here ends) (λ _.
      next (test9-same here ends) (λ _.
      next (test10-same here ends) (λ _.
      next (test11-same here ends) (λ _.
      next (test12-same here ends) (λ _.
      next (test13-same here ends) (λ _. refl)))))))))))))
