-- The theorems of specs/Formed.antt that rest on those of specs/ that the edits of must-fail/ make fail. Assumes nothing.
use Rattle.std.specs.Prelude.{ℕ, ◌≤◌, ◌<◌, ◌≡◌, List, eqb}
use Rattle.std.proofs.Common.{arith, ◌∙◌}
use Rattle.std.proofs.Math.Path.{sym, ap, subst}
use Rattle.meaning.specs.Lists.{all}
use Rattle.meaning.specs.Model.{Model, Limits, changed, has, loop, largest}
use Rattle.meaning.specs.Formed.{bit, WellFormed}
use Rattle.meaning_list_laws.specs.Tests.{and_both}
use Rattle.meaning_list_laws.specs.Lists.{all_both}
use Rattle.meaning_mends.specs.Mends.{Child, a_region, a_shell, a_loop, a_fin, parents, once, mend_refusal}
use Rattle.meaning_mends.specs.Laws as laws
use Rattle.meaning_mend_laws.specs.Terms.{linked, listing, new_parent, new_listing, OnlyOf, ButForPointers}
use Rattle.meaning_mend_laws.specs.Formed.{same-closes, up-once, fin-once, new-tables, new-ids, tables-but, children-but, parents-of, listed_of, counted, none-added}

module _ (x : Limits) (m : Model) (b n : ℕ) (z : mend_refusal m b n ≡ 0) (s : ButForPointers x m b) where
  module _ (room : largest.edge_fins ≤ x.edge_fins) where
    pub formed-by-sentences : WellFormed x (linked m (new_parent m b) (new_listing m b))
    unfolding linked changed
    formed-by-sentences =
        record {
          tables = new-tables x m b n z s room;
          ids = new-ids x m b n z s room;
          regions = record { once = up-once x m b n z s a_region };
          shells = record { once = up-once x m b n z s a_shell };
          loops = record { once = up-once x m b n z s a_loop };
          fins = record { once = up-once x m b n z s a_fin };
          faces = s.faces;
          edges = record { once = λ e i h g. fin-once x m b n z s e h i g };
          closes = λ l h. same-closes m (new_parent m b) (new_listing m b) (loop m l).fins ∙ s.closes l h;
          wires = s.wires;
        }

-- ---- and they are needed: of a model that other pointers for the body's records make well formed

module _ (x : Limits) (m : Model) (b : ℕ) (u : Child → ℕ → ℕ) (a : ℕ → List ℕ) (only : OnlyOf m b u a) (w : WellFormed x (linked m u a)) where
  pub sentences : ButForPointers x m b
  unfolding linked changed
  sentences =
      record {
        tables = tables-but x m b u a only w;
        children-there = children-but x m b u a only w;
        parents-there = λ k i h g. subst (λ p. p < parents m k) (only.parents k i g) (parents-of x m b u a only w k i h);
        shell-faces = w.ids.shell-faces;
        shell-wire-edges = w.ids.shell-wire-edges;
        shell-acorn-vertices = w.ids.shell-acorn-vertices;
        face-front = w.ids.face-front;
        face-back = w.ids.face-back;
        face-surface = w.ids.face-surface;
        fin-edge = w.ids.fin-edge;
        edge-fins = λ e h. (and_both (all (has m.fins) (listing m e)) (all (has m.fins) (only.lists e).new) (sym (all_both (has m.fins) (listing m e) (only.lists e).new) ∙ sym (ap (all (has m.fins)) (only.lists e).behind) ∙ w.ids.edge-fins e h)).0;
        edge-start = w.ids.edge-start;
        edge-end = w.ids.edge-end;
        edge-curve = w.ids.edge-curve;
        listed = λ k p i hp hi g. listed_of x m b u a only w k p i hp hi ∙ ap (λ q. bit (eqb q p)) (only.parents k i g);
        faces = w.faces;
        fins = λ e i he hi g. omega (arith, counted x m b u a only w e i, none-added x m b u a only w e i g, w.edges.once e i he hi);
        own-fins = λ e i he hi. omega (arith, counted x m b u a only w e i, w.edges.once e i he hi);
        closes = λ l h. sym (same-closes m u a (loop m l).fins) ∙ w.closes l h;
        wires = w.wires;
      }
