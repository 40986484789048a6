-- The theorems of specs/Splits.antt that rest on those of specs/ that the edits of must-fail/ make fail. Assumes nothing.
use Rattle.std.specs.Prelude.{ℕ, zero, suc, ◌-◌, ◌<◌, ◌≡◌, true, Float, get_or}
use Rattle.std.proofs.Common.{arith, ap, ◌∙◌, ltb-true}
use Rattle.std.proofs.Math.Path.{refl}
use mathlib.Core.List.{List, [], ◌∷◌}
use Rattle.std.proofs.Math.ListN.{length}
use Rattle.meaning.specs.Lists.{run, all, member}
use Rattle.meaning.specs.Model.{Model, Limits, Fin, Edge, has, changed, edge}
use Rattle.meaning.specs.Walks.{edge_walk}
use Rattle.meaning.specs.Split.{split_refusal, after_split, where_accepted, model_after, Cut, after_all}
use Rattle.meaning_list_laws.specs.Lists.{member-nth, all-member}
use Rattle.meaning_split_laws.specs.After.{fin-was, fin-fresh, edge_fresh, edge-was-fins, accepted}
use Rattle.meaning_split_laws.specs.Kept.{well-formed-kept}
use Rattle.meaning_split_laws.specs.Report.{report-kept}
use Rattle.meaning_shift.specs.Moving.{Movable, fins_own}
use Rattle.meaning_shift.specs.Splits.{all_in, run-from, n, he, loops-kept, fronts-kept, backs-kept, each-edge, own_fin, own-was, owned, ends-kept}

-- ---- behind an accepted split

module _ (x : Limits) (m : Model) (b r : ℕ) (k : Movable x m b r) (e : ℕ) (t : Float) (h : split_refusal x m e t ≡ 0) where
  fins-kept : fins_own (n x m b r k e t h) b ≡ true
  fins-kept = each-edge x m b r k e t h (λ p. all (own_fin x m b r k e t h (n x m b r k e t h)) (edge (n x m b r k e t h) p).fins) old new
    where
      old : (p : ℕ) → member p (edge_walk m b) ≡ true → p < m.edges.used → all (own_fin x m b r k e t h (n x m b r k e t h)) (edge (n x m b r k e t h) p).fins ≡ true
      old p q below =
          ap (all (own_fin x m b r k e t h (n x m b r k e t h))) (edge-was-fins m e t p below)
          ∙ all_in (own_fin x m b r k e t h (n x m b r k e t h)) (edge m p).fins
          (λ i g. owned x m b r k e t h i i (ap (λ (a : Fin). a.owner) (fin-was m e t i (ltb-true i m.fins.used (all-member (has m.fins) (edge m p).fins i (k.formed.ids.edge-fins p below) g)))) (own-was x m b r k e t h p q i g))

      new : member e (edge_walk m b) ≡ true → all (own_fin x m b r k e t h (n x m b r k e t h)) (edge (n x m b r k e t h) m.edges.used).fins ≡ true
      new q =
          ap (λ (a : Edge). all (own_fin x m b r k e t h (n x m b r k e t h)) a.fins) (edge_fresh m e t m.edges.used (omega arith))
          ∙ all_in (own_fin x m b r k e t h (n x m b r k e t h)) (run m.fins.used (length (edge m e).fins))
          (λ i g. let in-it = run-from m.fins.used (length (edge m e).fins) i g in
          let of : ℕ = get_or (edge m e).fins (i - m.fins.used) 0 in
          owned x m b r k e t h i of (ap (λ (a : Fin). a.owner) (fin-fresh m e t i in-it.0)) (own-was x m b r k e t h e q of (member-nth (edge m e).fins (i - m.fins.used) (omega (arith, in-it.0, in-it.1)))))

  movable-kept : Movable x (n x m b r k e t h) b r
  unfolding after_split changed
  movable-kept =
      record {
        formed = well-formed-kept x m k.formed e t (he x m b r k e t h) (accepted x m e t h).1;
        there = k.there;
        solid = k.solid;
        clean = report-kept x m e t k.formed h b k.there k.clean;
        one = k.one;
        own = k.own;
        filled = k.filled;
        loops = loops-kept x m b r k e t h;
        backs = backs-kept x m b r k e t h;
        fronts = fronts-kept x m b r k e t h;
        fins = fins-kept;
        ends = ends-kept x m b r k e t h;
      }

-- ---- one split, and any sequence of them

pub split-keeps-movable : (x : Limits) (m : Model) (b r : ℕ) → Movable x m b r → (e : ℕ) (t : Float) → Movable x (model_after x m e t) b r
unfolding model_after
split-keeps-movable x m b r k e t = go (split_refusal x m e t) refl
  where
    go : (n : ℕ) → split_refusal x m e t ≡ n → Movable x (where_accepted n m (after_split m e t)) b r
    go zero h = movable-kept x m b r k e t h
    go (suc n) h = k

pub splits-keep-movable : (x : Limits) (m : Model) (b r : ℕ) → Movable x m b r → (l : List Cut) → Movable x (after_all x m l) b r
unfolding after_all
splits-keep-movable x m b r k [] = k
splits-keep-movable x m b r k (c ∷ l) = splits-keep-movable x (model_after x m c.edge c.fraction) b r (split-keeps-movable x m b r k c.edge c.fraction) l
