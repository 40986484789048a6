-- A call of a split leaves two models with the same records in use, of which one is well formed, with the same records in use: `after_same`. Assumes nothing.
use Prim.Native.Nat.{ℕ, zero, suc, ◌+◌, ◌-◌, ◌≤◌, ◌<◌}
use Rattle.std.proofs.Common.{arith, ◌∙◌}
use Rattle.std.specs.Prelude.{◌≡◌, Bool, ◌&&◌, length, get_or, Float}
use Rattle.std.proofs.Math.Path.{refl, ap}
use Rattle.std.proofs.Math.Bool.{true, false, cond}
use Rattle.std.proofs.Math.Dec.{ltb}
use borrow.Author.Tests.{ltb-true, ltb-false, lt-ltb}
use Rattle.meaning.specs.Lists.{is_some}
use Rattle.meaning.specs.Model.{Model, Limits, Table, extended, changed, loop, edge}
use Rattle.meaning.specs.Split.{split_tests, split_refusal, with_new, split_loop, split_shell, fin_copy, after_split, where_accepted, model_after}
use Rattle.meaning.specs.Formed.{WellFormed}
use Rattle.meaning_list_laws.specs.Tests.{unless-zero, none-refused}
use Rattle.meaning_list_laws.specs.Lists.{joined_same, below-nth}
use Rattle.memory_writes.specs.Change.{SameTable, SameModel}
use Rattle.split_sequences.specs.Same.{same_in}
use Rattle.split_sequences.specs.Tested.{edge_same, point-same, refusal-same}

-- ---- tables

module _ {A : Type 0} (t u : Table A) (s : SameTable t u) where
  changed-same : (f g : ℕ → A → A) → ((i : ℕ) → ltb i u.used ≡ true → f i (u.slot i) ≡ g i (u.slot i)) → SameTable (changed t f) (changed u g)
  unfolding changed
  changed-same f g h = record { used = s.used; slots = λ i q. ap (f i) (s.slots i q) ∙ h i (lt-ltb i u.used (rw (← s.used) q)) }

  extended-same : (k : ℕ) (f g : ℕ → A) → ((i : ℕ) → i < k → f i ≡ g i) → SameTable (extended t k f) (extended u k g)
  unfolding extended
  extended-same k f g h =
      let z : t.used ≡ u.used = s.used in
      record { used = rw z; slots = λ i q. rw z (at (ltb i u.used) i refl (omega arith)) }
    where
      at : (b : Bool) (i : ℕ) → ltb i u.used ≡ b → i < u.used + k → cond b (t.slot i) (f (i - u.used)) ≡ cond b (u.slot i) (g (i - u.used))
      at true i q r = same_in s (λ a. a) i q
      at false i q r = let o : u.used ≤ i = ltb-false i u.used q in h (i - u.used) (omega arith)

-- ---- models

module _ (x : Limits) (m n : Model) (s : SameModel m n) (w : WellFormed x n) (e : ℕ) (t : Float) where
  module _ (there : ltb e n.edges.used ≡ true) (ends : (is_some (edge n e).start && is_some (edge n e).end) ≡ true) where
    old : edge m e ≡ edge n e
    old = edge_same x m n s w e t there

    with-new-same : (l i : ℕ) → ltb i n.fins.used ≡ true → with_new m e l i ≡ with_new n e l i
    with-new-same l i h = rw (old, s.fins.used, same_in s.fins (λ a. a) i h)

    loop-same : (l : ℕ) → ltb l n.loops.used ≡ true → split_loop m e l (loop n l) ≡ split_loop n e l (loop n l)
    loop-same l h =
        rw (joined_same (with_new m e l) (with_new n e l) (λ i. ltb i n.fins.used) (loop n l).fins (with-new-same l) (w.ids.loop-fins l (ltb-true l n.loops.used h)))

    copy-same : (k : ℕ) → k < length (edge n e).fins → fin_copy m (get_or (edge n e).fins k 0) ≡ fin_copy n (get_or (edge n e).fins k 0)
    copy-same k h =
        let below = below-nth n.fins.used (edge n e).fins k (w.ids.edge-fins e (ltb-true e n.edges.used there)) h in
        rw (s.edges.used, same_in s.fins (λ a. a) (get_or (edge n e).fins k 0) (lt-ltb _ _ below))

    split-same : SameModel (after_split m e t) (after_split n e t)
    unfolding after_split
    split-same =
        rw (old, point-same x m n s w e t there ends)
        (record {
          version = s.version;
          precision = s.precision;
          bodies = s.bodies;
          regions = s.regions;
          shells = changed-same m.shells n.shells s.shells (split_shell m e) (split_shell n e) (λ i h. rw s.edges.used);
          faces = s.faces;
          loops = changed-same m.loops n.loops s.loops (split_loop m e) (split_loop n e) loop-same;
          fins = extended-same m.fins n.fins s.fins (length (edge n e).fins) _ _ copy-same;
          edges = extended-same _ _ (changed-same m.edges n.edges s.edges _ _ (λ i h. rw s.vertices.used)) 1 _ _
              (λ i h. rw (s.vertices.used, s.fins.used));
          vertices = extended-same m.vertices n.vertices s.vertices 1 _ _ (λ i h. refl);
          curves = s.curves;
          surfaces = s.surfaces;
        })

  tests-passed : split_refusal x n e t ≡ 0 → (k : ℕ) → get_or (split_tests x n e t) k 0 ≡ 0
  unfolding split_refusal
  tests-passed = none-refused (split_tests x n e t)

  pub after_same : SameModel (model_after x m e t) (model_after x n e t)
  unfolding model_after
  after_same = rw (refusal-same x m n s w e t) (go (split_refusal x n e t) refl)
    where
      go : (k : ℕ) → split_refusal x n e t ≡ k → SameModel (where_accepted k m (after_split m e t)) (where_accepted k n (after_split n e t))
      go zero z =
          let passed = tests-passed z in
          split-same (unless-zero 1 (ltb e n.edges.used) (passed 1)) (unless-zero 6 (is_some (edge n e).start && is_some (edge n e).end) (passed 3))
      go (suc k) z = s
