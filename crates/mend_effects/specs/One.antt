-- One change: the words behind it hold the model behind it, and are as readable as they were. Assumes nothing.
use Prim.Native.Nat.{ℕ, ◌+◌, ◌≤◌, ◌<◌}
use Rattle.std.proofs.Common.{add-zero, lt_of_lt_of_le, ◌∙◌, length-append, eqb-true, ltb-true}
use Rattle.std.proofs.Math.Nat.{le_trans}
use native.Mathlib.Omega.{arith}
use Rattle.std.specs.Prelude.{◌≡◌, Bool, ◌&&◌}
use Rattle.std.proofs.Math.Path.{refl, sym, ap, subst}
use Rattle.std.proofs.Math.Bool.{true, false, cond}
use mathlib.Core.List.{List, [], ◌∷◌}
use Rattle.std.proofs.Math.Dec.{eqb}
use Rattle.std.proofs.Math.ListN.{length, set}
use Rattle.std.specs.Float.Ieee.{Float}
use Rattle.std.proofs.lemmas.Bool.{eqb-false}
use Rattle.meaning.specs.Model.{Model, Table, Edge, changed, edge}
use Rattle.meaning.specs.Edits.{appended}
use Rattle.meaning_mends.specs.Mends.{Child, a_region, a_shell, a_loop, a_fin, child_table, Change, renamed, enlisted, made, fits}
use Rattle.memory_layout.specs.Layout.{word_strides, real_strides, word, word_at, real_at, words_needed, words_of, reals_of}
use Rattle.memory_layout.specs.Decode.{version_of, list_at, table, body_of, region_of, shell_of, face_of, loop_of, fin_of, edge_of, vertex_of, carrier_of, decode}
use Rattle.memory_layout.specs.Readable.{record_ok}
use Rattle.memory_layout.specs.Entries.{list_of}
use Rattle.memory_layout.specs.Fit.{Inside, Fit}
use Rattle.memory_layout.specs.Laws.{record-inside, used-inside, lists_of, edge-fins}
use Rattle.memory_layout.proofs.Laws.{words-length, reals-length}
use Rattle.memory_writes.specs.Put.{over, put_words, put_reals}
use Rattle.memory_writes.specs.Over.{length_over, over-same, over-within, one_store}
use Rattle.memory_writes.specs.Frame.{put-there, put-elsewhere, put-before}
use Rattle.memory_writes.specs.Change.{SameTable, SameModel}
use Rattle.memory_writes.specs.Kept.{fit-put}
use Rattle.edit_lists.specs.Place.{with_list}
use Rattle.edit_lists.specs.Answers.{list_start, list_words}
use Rattle.edit_lists.specs.PlaceLaws.{append-turn}
use Rattle.edit_lists.specs.Laws.{start-held, start-list, start-entries, start-room, list_put}
use Rattle.edit_lists.specs.Records.{edge-list, still-ok}
use Rattle.mend_writes.specs.Made.{fins_at, made_word}
use Rattle.mend_effects.specs.Due.{records, Due}

-- the words w are readable, and hold the model m
pub record Kept (room w : List ℕ) (x : List Float) (m : Model) : Type 0 where
  pub fit : Fit room w x
  pub model : SameModel (decode room w x) m

-- ---- record i of table k written anew, as g makes it of its words

module _ (room w : List ℕ) (x : List Float) (k i : ℕ) (g : List ℕ → List ℕ) (f : Fit room w x) (table-there : k < 10) (there : i < word w k)
    (whole : length (g (words_of room w k i)) ≡ word word_strides k) where
  abbrev r : List ℕ
  r = g (words_of room w k i)

  abbrev v : List ℕ
  v = put_words room k i r w

  inside : Inside (words_needed room) (length w) room k i
  inside = (used-inside room w x k i f.sized table-there there).0

  pub reads : (q j : ℕ) → j < word room q → words_of room v q j ≡ cond (eqb q k && eqb j i) (g (words_of room w q j)) (words_of room w q j)
  unfolding put_words words_of
  reads q j h = by (eqb q k) (eqb j i) (eqb-true q k) (eqb-false q k) (eqb-true j i) (eqb-false j i)
    where
      by : (t u : Bool) → (t ≡ true → q ≡ k) → (t ≡ false → q ≡ k → ⊥) → (u ≡ true → j ≡ i) → (u ≡ false → j ≡ i → ⊥)
          → words_of room v q j ≡ cond (t && u) (g (words_of room w q j)) (words_of room w q j)
      by true true y n a b = rw (y refl, a refl) (put-there 11 word_strides room w r k i inside whole)
      by true false y n a b = put-elsewhere 11 word_strides room w r k i inside whole q j h (λ _ e. b refl (sym e))
      by false u y n a b = put-elsewhere 11 word_strides room w r k i inside whole q j h (λ e _. n refl (sym e))

  heads : (q : ℕ) → q < 11 → word v q ≡ word w q
  unfolding put_words
  heads q h = put-before 11 word_strides room w r k i inside whole q 0 h

  -- a table of the model that each record is changed in
  table-made : {A : Type 0} (of : List ℕ → List Float → A) (q : ℕ) (t : Table A) (h : ℕ → A → A) → q < 10 → SameTable (table room w x q of) t
      → ((j : ℕ) → length (words_of room w q j) ≡ word word_strides q
      → of (cond (eqb q k && eqb j i) (g (words_of room w q j)) (words_of room w q j)) (reals_of room x q j) ≡ h j (of (words_of room w q j) (reals_of room x q j)))
      → SameTable (table room v x q of) (changed t h)
  unfolding changed
  table-made of q t h l s each =
      record {
        used = heads q (omega arith) ∙ s.used;
        slots = λ j u.
            let c = heads q (omega arith) in
            let d : j < word w q = omega arith in
            let long : length (words_of room w q j) ≡ word word_strides q = words-length room w q j (used-inside room w x q j f.sized l d).0 in
            ap (λ a. of a (reals_of room x q j)) (reads q j (lt_of_lt_of_le d (f.sized.counts q l))) ∙ each j long ∙ ap (h j) (s.slots j d);
      }

  -- and one that has no such record
  table_same : {A : Type 0} (of : List ℕ → List Float → A) (q : ℕ) (t : Table A) → q < 10 → eqb q k ≡ false → SameTable (table room w x q of) t → SameTable (table room v x q of) t
  unfolding changed
  table_same of q t h e u = table-made of q t (λ _ a. a) h u (λ j _. rw e)

  reals-same : put_reals room k i (reals_of room x k i) x ≡ x
  unfolding put_reals reals_of
  reals-same =
      let a = (used-inside room w x k i f.sized table-there there).1 in
      over-same (real_at room k i) (word real_strides k) x (le_trans (record-inside 1 real_strides room k i table-there a.slot) a.enough)

  fit-made : record_ok k r (reals_of room x k i) ≡ true → Fit room v x
  fit-made ok =
      let a = used-inside room w x k i f.sized table-there there in
      subst (Fit room v) reals-same
      (fit-put room w r x (reals_of room x k i) k i f table-there a.0.slot whole (reals-length room x k i a.1) there ok)

-- ---- another parent: the first word of the record

abbrev named : ℕ → List ℕ → List ℕ
named new r = over 0 (new ∷ []) r

region-named : (b : Bool) (r : List ℕ) (new : ℕ) → length r ≡ 19 → region_of (cond b (named new r) r) ≡ record { body = cond b new (region_of r).body; solid = (region_of r).solid; shells = (region_of r).shells }
unfolding over list_at
region-named true [] new e = absurd (omega arith)
region-named true (a ∷ r) new e = refl
region-named false r new e = refl

shell-named : (b : Bool) (r : List ℕ) (new : ℕ) → length r ≡ 836
    → shell_of (cond b (named new r) r) ≡ record { region = cond b new (shell_of r).region; faces = (shell_of r).faces; wire_edges = (shell_of r).wire_edges; acorn_vertices = (shell_of r).acorn_vertices }
unfolding over list_at
shell-named true [] new e = absurd (omega arith)
shell-named true (a ∷ r) new e = refl
shell-named false r new e = refl

loop-named : (b : Bool) (r : List ℕ) (new : ℕ) → length r ≡ 1026 → loop_of (cond b (named new r) r) ≡ record { face = cond b new (loop_of r).face; fins = (loop_of r).fins }
unfolding over list_at
loop-named true [] new e = absurd (omega arith)
loop-named true (a ∷ r) new e = refl
loop-named false r new e = refl

fin-named : (b : Bool) (r : List ℕ) (new : ℕ) → length r ≡ 4
    → fin_of (cond b (named new r) r) ≡ record { owner = cond b new (fin_of r).owner; edge = (fin_of r).edge; sense = (fin_of r).sense; pcurve = (fin_of r).pcurve }
unfolding over
fin-named true [] new e = absurd (omega arith)
fin-named true (a ∷ r) new e = refl
fin-named false r new e = refl

-- no test reads it
named_ok : (k : Child) (r : List ℕ) (x : List Float) (new : ℕ) → length r ≡ word word_strides (child_table k) → record_ok (child_table k) r x ≡ true → record_ok (child_table k) (named new r) x ≡ true
unfolding over record_ok
named_ok a_region [] x new e ok = absurd (omega arith)
named_ok a_region (a ∷ r) x new e ok = ok
named_ok a_shell [] x new e ok = absurd (omega arith)
named_ok a_shell (a ∷ r) x new e ok = ok
named_ok a_loop [] x new e ok = absurd (omega arith)
named_ok a_loop (a ∷ r) x new e ok = ok
named_ok a_fin [] x new e ok = absurd (omega arith)
named_ok a_fin (a ∷ r) x new e ok = ok

child-table : (k : Child) → (1 ≤ word word_strides (child_table k)) × (child_table k < 10)
child-table a_region = (omega arith, omega arith)
child-table a_shell = (omega arith, omega arith)
child-table a_loop = (omega arith, omega arith)
child-table a_fin = (omega arith, omega arith)

-- the tables that have no parent's
pub record Others (k : ℕ) : Type 0 where
  pub bodies : eqb 0 k ≡ false
  pub faces : eqb 3 k ≡ false
  pub edges : eqb 6 k ≡ false
  pub vertices : eqb 7 k ≡ false
  pub curves : eqb 8 k ≡ false
  pub surfaces : eqb 9 k ≡ false

others : (k : Child) → Others (child_table k)
others a_region = record { bodies = refl; faces = refl; edges = refl; vertices = refl; curves = refl; surfaces = refl }
others a_shell = record { bodies = refl; faces = refl; edges = refl; vertices = refl; curves = refl; surfaces = refl }
others a_loop = record { bodies = refl; faces = refl; edges = refl; vertices = refl; curves = refl; surfaces = refl }
others a_fin = record { bodies = refl; faces = refl; edges = refl; vertices = refl; curves = refl; surfaces = refl }

used-records : (room w : List ℕ) (x : List Float) (m : Model) (k : Child) → SameModel (decode room w x) m → word w (child_table k) ≡ records m k
unfolding decode
used-records room w x m a_region s = s.regions.used
used-records room w x m a_shell s = s.shells.used
used-records room w x m a_loop s = s.loops.used
used-records room w x m a_fin s = s.fins.used

-- ---- a fin more: the edge's list of fins

abbrev enlisted_in : ℕ → List ℕ → List ℕ
enlisted_in i r = with_list 7 (appended (list_at r 7) i) r

edge-enlisted : (b : Bool) (r : List ℕ) (x : List Float) (i : ℕ) → length r ≡ 16 → (b ≡ true → length (appended (list_at r 7) i) ≤ 8)
    → edge_of (cond b (enlisted_in i r) r) x
    ≡ record { fins = cond b (appended (edge_of r x).fins i) (edge_of r x).fins; start = (edge_of r x).start; end = (edge_of r x).end; curve = (edge_of r x).curve; tolerance = (edge_of r x).tolerance }
edge-enlisted true r x i e h = edge-list (appended (list_at r 7) i) r x e (h refl)
edge-enlisted false r x i e h = refl

module _ (room w : List ℕ) (x : List Float) (m : Model) (f : Fit room w x) (s : SameModel (decode room w x) m) where
  module _ (c : Child) (i old new : ℕ) (due : i < records m c) where
    abbrev k : ℕ
    k = child_table c

    there : i < word w k
    there = let e = used-records room w x m c s in omega arith

    long : length (words_of room w k i) ≡ word word_strides k
    long = words-length room w k i (used-inside room w x k i f.sized (child-table c).1 there).0

    whole : length (named new (words_of room w k i)) ≡ word word_strides k
    whole = let e = long in let b = (child-table c).0 in length_over 0 (new ∷ []) (words_of room w k i) (omega arith) ∙ e

    stored : made_word room w (renamed c i old new) ≡ put_words room k i (named new (words_of room w k i)) w
    unfolding made_word put_words words_of
    stored =
        let b = child-table c in
        let d = (used-inside room w x k i f.sized b.1 there).0 in
        let fits = le_trans (record-inside 11 word_strides room k i b.1 d.slot) d.enough in
        one_store w (word_at room k i) new (omega (arith, b.0))
        ∙ ap (λ at. over at (new ∷ []) w) (sym (add-zero (word_at room k i)))
        ∙ sym (over-within (word_at room k i) 0 (word word_strides k) (new ∷ []) w (omega (arith, b.0)) fits)

    abbrev now : List ℕ
    now = put_words room k i (named new (words_of room w k i)) w

    made_so : {A : Type 0} (of : List ℕ → List Float → A) (q : ℕ) (t : Table A) (h : ℕ → A → A) → q < 10 → SameTable (table room w x q of) t
        → ((j : ℕ) → length (words_of room w q j) ≡ word word_strides q
        → of (cond (eqb q k && eqb j i) (named new (words_of room w q j)) (words_of room w q j)) (reals_of room x q j) ≡ h j (of (words_of room w q j) (reals_of room x q j)))
        → SameTable (table room now x q of) (changed t h)
    made_so = table-made room w x k i (named new) f (child-table c).1 there whole

    as_before : {A : Type 0} (of : List ℕ → List Float → A) (q : ℕ) (t : Table A) → q < 10 → eqb q k ≡ false → SameTable (table room w x q of) t → SameTable (table room now x q of) t
    as_before = table_same room w x k i (named new) f (child-table c).1 there whole

    renamed-model : SameModel (decode room now x) (made m (renamed c i old new))
    unfolding decode made
    renamed-model =
        let o = others c in
        record {
          version = ap version_of (heads room w x k i (named new) f (child-table c).1 there whole 10 (omega arith)) ∙ s.version;
          precision = s.precision;
          bodies = as_before (λ a _. body_of a) 0 m.bodies (omega arith) o.bodies s.bodies;
          regions = made_so (λ a _. region_of a) 1 m.regions _ (omega arith) s.regions (λ j e. region-named (eqb 1 k && eqb j i) (words_of room w 1 j) new e);
          shells = made_so (λ a _. shell_of a) 2 m.shells _ (omega arith) s.shells (λ j e. shell-named (eqb 2 k && eqb j i) (words_of room w 2 j) new e);
          faces = as_before (λ a _. face_of a) 3 m.faces (omega arith) o.faces s.faces;
          loops = made_so (λ a _. loop_of a) 4 m.loops _ (omega arith) s.loops (λ j e. loop-named (eqb 4 k && eqb j i) (words_of room w 4 j) new e);
          fins = made_so (λ a _. fin_of a) 5 m.fins _ (omega arith) s.fins (λ j e. fin-named (eqb 5 k && eqb j i) (words_of room w 5 j) new e);
          edges = made_so edge_of 6 m.edges _ (omega arith) s.edges (λ j _. rw o.edges);
          vertices = as_before vertex_of 7 m.vertices (omega arith) o.vertices s.vertices;
          curves = as_before carrier_of 8 m.curves (omega arith) o.curves s.curves;
          surfaces = as_before carrier_of 9 m.surfaces (omega arith) o.surfaces s.surfaces;
        }

    renamed-kept : Kept room (made_word room w (renamed c i old new)) x (made m (renamed c i old new))
    renamed-kept =
        subst (λ u. Kept room u x (made m (renamed c i old new))) (sym stored)
        (record {
          fit = fit-made room w x k i (named new) f (child-table c).1 there whole (named_ok c (words_of room w k i) (reals_of room x k i) new long (f.rows k i (child-table c).1 there));
          model = renamed-model;
        })

  module _ (e place i : ℕ) (due : e < m.edges.used) (end : place ≡ length (edge m e).fins) (short : place < 8) where
    abbrev old-words : List ℕ
    old-words = words_of room w 6 e

    there-edge : e < word w 6
    unfolding decode
    there-edge = let u = s.edges.used in omega arith

    at-end : length (list_of room w 7 e) ≡ place
    unfolding decode
    at-end = ap length (edge-fins room w x e) ∙ ap (λ (d : Edge). length d.fins) (s.edges.slots e there-edge) ∙ sym end

    edge-long : length old-words ≡ 16
    edge-long = words-length room w 6 e (used-inside room w x 6 e f.sized (omega arith) there-edge).0

    one_more : length (appended (list_of room w 7 e) i) ≤ 8
    one_more = let n = at-end in let l = length-append (list_of room w 7 e) (i ∷ []) in omega arith

    whole-edge : length (enlisted_in i old-words) ≡ 16
    unfolding with_list list_of
    whole-edge =
        let n = one_more in
        let l = edge-long in
        length_over 7 (length (appended (list_at old-words 7) i) ∷ appended (list_at old-words 7) i) old-words (omega arith) ∙ edge-long

    fin-stored : made_word room w (enlisted e place i) ≡ put_words room 6 e (enlisted_in i old-words) w
    unfolding made_word list_of list_words list_start
    fin-stored =
        let lists = lists_of room w x f in
        let entries = start-entries room w 7 e lists (omega arith) there-edge in
        let n = at-end in
        let more = start-room room w 7 e lists (omega arith) there-edge (omega arith) in
        ap (λ n. set (set w (fins_at room e + 1 + n) i) (fins_at room e) (n + 1)) (sym n ∙ entries)
        ∙ append-turn w (fins_at room e) (start-held room w 7 e lists (omega arith) there-edge) i more.0
        ∙ ap (λ l. with_list (fins_at room e) (appended l i) w) (start-list room w 7 e lists (omega arith) there-edge)
        ∙ list_put room w 7 e lists (omega arith) there-edge (appended (list_of room w 7 e) i) one_more

    enlisted-model : SameModel (decode room (put_words room 6 e (enlisted_in i old-words) w) x) (made m (enlisted e place i))
    unfolding decode made list_of
    enlisted-model =
        record {
          version = ap version_of (heads room w x 6 e (enlisted_in i) f (omega arith) there-edge whole-edge 10 (omega arith)) ∙ s.version;
          precision = s.precision;
          bodies = as_before (λ a _. body_of a) 0 m.bodies (omega arith) refl s.bodies;
          regions = made_so (λ a _. region_of a) 1 m.regions _ (omega arith) s.regions (λ j _. refl);
          shells = made_so (λ a _. shell_of a) 2 m.shells _ (omega arith) s.shells (λ j _. refl);
          faces = as_before (λ a _. face_of a) 3 m.faces (omega arith) refl s.faces;
          loops = made_so (λ a _. loop_of a) 4 m.loops _ (omega arith) s.loops (λ j _. refl);
          fins = made_so (λ a _. fin_of a) 5 m.fins _ (omega arith) s.fins (λ j _. refl);
          edges = made_so edge_of 6 m.edges _ (omega arith) s.edges (λ j l. edge-enlisted (eqb j e) (words_of room w 6 j) (reals_of room x 6 j) i l (fits-there j));
          vertices = as_before vertex_of 7 m.vertices (omega arith) refl s.vertices;
          curves = as_before carrier_of 8 m.curves (omega arith) refl s.curves;
          surfaces = as_before carrier_of 9 m.surfaces (omega arith) refl s.surfaces;
        }
      where
        made_so : {A : Type 0} (of : List ℕ → List Float → A) (q : ℕ) (t : Table A) (h : ℕ → A → A) → q < 10 → SameTable (table room w x q of) t
            → ((j : ℕ) → length (words_of room w q j) ≡ word word_strides q
            → of (cond (eqb q 6 && eqb j e) (enlisted_in i (words_of room w q j)) (words_of room w q j)) (reals_of room x q j) ≡ h j (of (words_of room w q j) (reals_of room x q j)))
            → SameTable (table room (put_words room 6 e (enlisted_in i old-words) w) x q of) (changed t h)
        made_so = table-made room w x 6 e (enlisted_in i) f (omega arith) there-edge whole-edge

        as_before : {A : Type 0} (of : List ℕ → List Float → A) (q : ℕ) (t : Table A) → q < 10 → eqb q 6 ≡ false → SameTable (table room w x q of) t
            → SameTable (table room (put_words room 6 e (enlisted_in i old-words) w) x q of) t
        as_before = table_same room w x 6 e (enlisted_in i) f (omega arith) there-edge whole-edge

        fits-there : (j : ℕ) → eqb j e ≡ true → length (appended (list_at (words_of room w 6 j) 7) i) ≤ 8
        fits-there j q = rw (eqb-true j e q) one_more

    enlisted-kept : Kept room (made_word room w (enlisted e place i)) x (made m (enlisted e place i))
    unfolding list_of
    enlisted-kept =
        subst (λ u. Kept room u x (made m (enlisted e place i))) (sym fin-stored)
        (record {
          fit =
              fit-made room w x 6 e (enlisted_in i) f (omega arith) there-edge whole-edge
              (still-ok 7 (appended (list_at old-words 7) i) old-words (reals_of room x 6 e) (omega arith) edge-long one_more (f.rows 6 e (omega arith) there-edge));
          model = enlisted-model;
        })

  -- one change that the model takes
  pub change-kept : (c : Change) → Due m c → fits c ≡ true → Kept room (made_word room w c) x (made m c)
  change-kept (renamed c i old new) h e = renamed-kept c i old new h
  change-kept (enlisted e place i) h q = enlisted-kept e place i h.0 h.1 (ltb-true place 8 q)
