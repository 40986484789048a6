-- Laws of the paths. Assumes nothing.
use Rattle.std.specs.Prelude.{ℕ, zero, suc, ◌+◌, ◌*◌, ◌≤◌, ◌<◌, ◌≡◌, Bool, get_or, take}
use native.Mathlib.Omega.{arith}
use Rattle.std.proofs.Common.{le_trans, zero-add, mul-suc, ap, ◌∙◌, subst}
use Rattle.std.proofs.Math.Path.{refl, sym}
use Rattle.std.proofs.Math.Bool.{true}
use mathlib.Core.List.{List, [], ◌∷◌, ◌++◌}
use Rattle.std.proofs.Math.Dec.{ltb}
use Rattle.std.proofs.Math.ListN.{length, length-append}
use Rattle.std.proofs.lemmas.List.{length-map}
use borrow.Author.Tests.{ltb-true, lt-ltb}
use Rattle.meaning.specs.Lists.{all, joined, firsts}
use Rattle.meaning_list_laws.specs.Tests.{and_both}
use Rattle.meaning_list_laws.specs.Lists.{all_firsts, all_both, all-joined, all-imply, all-weaken, count-firsts}
use Rattle.memory_layout.specs.Layout.{largest_tables, word}
use Rattle.memory_layout.specs.Entries.{list_tables, list_of}
use Rattle.memory_layout.specs.Fit.{Lists}
use Rattle.memory_layout.specs.Laws.{capacity-le}
use Rattle.memory_layout.proofs.Laws.{listed_le}
use Rattle.walk_marks.specs.Marks.{puts}
use Rattle.walk_marks.specs.Laws.{all-nth, map-nth, once-short, puts-taken, puts-length, puts-append}
use Rattle.walk_sources.specs.Sources.{sourced, followed, Source, Sources}
use Rattle.walk_sources.specs.Laws.{followed-slot, followed-entries, sourced-length, source-list, source-record}
use Rattle.walk_visits.specs.Visits.{ids_of, Visited}
use Rattle.walk_paths.specs.Paths.{shell_list, face_path, face_list, loop_list, edge_path, edge_list, vertex_path, body_followed, faces_there, loops_followed, edges_there, Shelled, Faced, Looped, Edged, Laid}

-- ---- sources that exist

-- ids below the used count of list k's table, and a loop's fins with them, are sources
pub sources-of : (room w : List ℕ) (k : ℕ) (l : List ℕ) → k < 8 → all (λ i. ltb i (word w (word list_tables k))) l ≡ true
    → (k ≡ 6 → all (followed room w 6) l ≡ true) → Sources room w (sourced k l)
unfolding sourced
sources-of room w k l h a f =
    record {
      at = λ p q.
          let less : p < length l = subst (λ n. p < n) (length-map l (λ i. 8 * i + k)) q in
          subst (Source room w) (sym (map-nth (λ i. 8 * i + k) l p less))
          (one (get_or l p 0) (ltb-true (get_or l p 0) (word w (word list_tables k)) (all-nth (λ i. ltb i (word w (word list_tables k))) l p a less))
          (λ e. followed-entries room w 6 (get_or l p 0) (all-nth (followed room w 6) l p (f e) less)));
    }
  where
    one : (i : ℕ) → i < word w (word list_tables k) → (k ≡ 6 → all (λ x. ltb x (word w 5)) (list_of room w 6 i) ≡ true) → Source room w (8 * i + k)
    one i less fins =
        record {
          slot = rw (source-list i k h, source-record i k h) less;
          fins = λ e. rw (source-record i k h) (fins (sym (source-list i k h) ∙ e));
        }

pub sources-both : (room w a b : List ℕ) → Sources room w a → Sources room w b → Sources room w (a ++ b)
sources-both room w a b s t = record { at = λ p q. by a b s t p q }
  where
    by : (a b : List ℕ) → Sources room w a → Sources room w b → (p : ℕ) → p < length (a ++ b) → Source room w (word (a ++ b) p)
    by [] b s t p q = t.at p q
    by (y ∷ a) b s t zero q = s.at 0 (omega arith)
    by (y ∷ a) b s t (suc p) q = by a b (record { at = λ i h. s.at (suc i) (omega arith) }) t p (omega arith)

-- ---- how long lists of lists are

pub joined-limit : (f : ℕ → List ℕ) (n : ℕ) (l : List ℕ) (p : ℕ → Bool) → ((i : ℕ) → p i ≡ true → length (f i) ≤ n) → all p l ≡ true → length (joined f l) ≤ n * length l
unfolding joined all
joined-limit f n [] p h a = omega arith
joined-limit f n (y ∷ l) p h a =
    let both : (p y ≡ true) × (all p l ≡ true) = and_both (p y) (all p l) a in
    let one : length (f y) ≤ n = h y both.0 in
    let rest : length (joined f l) ≤ n * length l = joined-limit f n l p h both.1 in
    let e : n * suc (length l) ≡ n * length l + n = mul-suc n (length l) in
    omega (arith, length-append (f y) (joined f l))

-- ---- a list's front

pub laid-front : (path out₀ out : List ℕ) (n : ℕ) → Laid path out₀ out n → length path ≤ length out₀ → take n out ≡ path
laid-front path out₀ out n s h = ap (λ k. take k out) s.count ∙ ap (take (length path)) s.list ∙ puts-taken out₀ path h

pub laid-short : (path out₀ out : List ℕ) (n : ℕ) → Laid path out₀ out n → length path ≤ length out₀ → n ≤ length out
laid-short path out₀ out n s h = omega (arith, s.count, ap length s.list, puts-length out₀ 0 path)

pub visited-front : (ids out₀ out : List ℕ) (n : ℕ) → Visited ids out₀ out n → length (firsts ids) ≤ length out₀ → take n out ≡ firsts ids
visited-front ids out₀ out n s h = ap (λ k. take k out) s.count ∙ ap (take (length (firsts ids))) s.list ∙ puts-taken out₀ (firsts ids) h

pub visited-short : (ids out₀ out : List ℕ) (n : ℕ) → Visited ids out₀ out n → length (firsts ids) ≤ length out₀ → n ≤ length out
visited-short ids out₀ out n s h = omega (arith, s.count, ap length s.list, puts-length out₀ 0 (firsts ids))

-- two lists of sources, one behind the other
pub laid_both : (a b out₀ mid out : List ℕ) (n m r : ℕ) → m ≡ 0 + length a → mid ≡ puts out₀ 0 (sourced n a) → (k : ℕ) → r ≡ m + length b → out ≡ puts mid m (sourced k b)
    → Laid (sourced n a ++ sourced k b) out₀ out r
laid_both a b out₀ mid out n m r e f k g h =
    let place : m ≡ 0 + length (sourced n a) = e ∙ ap (λ i. 0 + i) (sym (sourced-length n a)) in
    record {
      count = omega (arith, length-append (sourced n a) (sourced k b), sourced-length n a, sourced-length k b);
      list = h ∙ ap (λ t. puts t m (sourced k b)) f ∙ ap (λ i. puts (puts out₀ 0 (sourced n a)) i (sourced k b)) place ∙ sym (puts-append out₀ 0 (sourced n a) (sourced k b));
    }

pub laid_one : (a out₀ out : List ℕ) (k r : ℕ) → r ≡ 0 + length a → out ≡ puts out₀ 0 (sourced k a) → Laid (sourced k a) out₀ out r
laid_one a out₀ out k r e f = record { count = e ∙ zero-add (length a) ∙ sym (sourced-length k a); list = f }

-- ---- ids that exist are few

pub firsts-short : (room w : List ℕ) (k : ℕ) (ids : List ℕ) → Lists room w → k < 10 → all (λ x. ltb x (word w k)) ids ≡ true → length (firsts ids) ≤ word largest_tables k
firsts-short room w k ids f h a =
    le_trans (once-short (word w k) (firsts ids) (all_firsts (λ x. ltb x (word w k)) ids a) (count-firsts ids))
    (le_trans (f.counts k h) (f.small.small k h))

-- ---- what the tests say

module _ (room w : List ℕ) (b : ℕ) where
  pub shelled-of : body_followed room w b ≡ true → Shelled room w b
  unfolding body_followed
  shelled-of e =
      let both : (ltb b (word w 0) ≡ true) × (all (followed room w 1) (list_of room w 0 b) ≡ true) = and_both (ltb b (word w 0)) (all (followed room w 1) (list_of room w 0 b)) e in
      record { body = ltb-true b (word w 0) both.0; regions = both.1 }

  pub faced-of : Shelled room w b → faces_there room w b ≡ true → Faced room w b
  unfolding faces_there
  faced-of s e = record { shelled = s; faces = e }

  pub looped-of : Faced room w b → loops_followed room w b ≡ true → Looped room w b
  unfolding loops_followed
  looped-of s e = record { faced = s; loops = e }

  pub edged_of : Looped room w b → edges_there room w b ≡ true → Edged room w b
  unfolding edges_there
  edged_of s e = record { looped = s; edges = e }

-- ---- the shells

module _ (room w : List ℕ) (b : ℕ) (f : Lists room w) where
  pub shells-there : Shelled room w b → all (λ s. ltb s (word w 2)) (shell_list room w b) ≡ true
  unfolding shell_list
  shells-there s = all-joined (λ i. ltb i (word w 2)) (followed room w 1) (list_of room w 1) (list_of room w 0 b) (λ y e. followed-entries room w 1 y e) s.regions

  pub regions-short : Shelled room w b → length (list_of room w 0 b) ≤ 16
  regions-short s = listed_le room w 0 b f (omega arith) s.body

  pub shells-short : Shelled room w b → length (shell_list room w b) ≤ 256
  unfolding shell_list
  shells-short s =
      let l : length (shell_list room w b) ≤ 16 * length (list_of room w 0 b) =
      joined-limit (list_of room w 1) 16 (list_of room w 0 b) (followed room w 1) (λ i e. listed_le room w 1 i f (omega arith) (followed-slot room w 1 i e)) s.regions in
      omega (arith, regions-short s)

  -- shells as sources of one of their three lists
  pub shell-sources : (k : ℕ) → word list_tables k ≡ 2 → k < 8 → (k ≡ 6 → ⊥) → Shelled room w b → Sources room w (sourced k (shell_list room w b))
  shell-sources k e h n s =
      sources-of room w k (shell_list room w b) h (subst (λ t. all (λ i. ltb i (word w t)) (shell_list room w b) ≡ true) (sym e) (shells-there s)) (λ q. absurd (n q))

  pub face-sources : Shelled room w b → Sources room w (face_path room w b)
  unfolding face_path
  face-sources s = shell-sources 2 refl (omega arith) (λ q. omega arith) s

  pub face-path-short : Shelled room w b → length (face_path room w b) ≤ 256
  unfolding face_path
  face-path-short s = omega (arith, sourced-length 2 (shell_list room w b), shells-short s)

  -- ---- the loops

  pub faces-short : Faced room w b → length (firsts (ids_of room w (face_path room w b))) ≤ 512
  faces-short s = firsts-short room w 3 (ids_of room w (face_path room w b)) f (omega arith) s.faces

  pub faces-exist : Faced room w b → all (λ i. ltb i (word w 3)) (face_list room w b) ≡ true
  unfolding face_list
  faces-exist s = all_firsts (λ i. ltb i (word w 3)) (ids_of room w (face_path room w b)) s.faces

  -- faces that exist, and whose loops do
  faces-follow : (l : List ℕ) → all (λ i. ltb i (word w 3)) l ≡ true → all (followed room w 6) (joined (list_of room w 5) l) ≡ true → all (followed room w 5) l ≡ true
  unfolding all joined followed
  faces-follow [] a e = refl
  faces-follow (y ∷ l) a e =
      let both : (ltb y (word w 3) ≡ true) × (all (λ i. ltb i (word w 3)) l ≡ true) = and_both (ltb y (word w 3)) (all (λ i. ltb i (word w 3)) l) a in
      let parts : (all (followed room w 6) (list_of room w 5 y) ≡ true) × (all (followed room w 6) (joined (list_of room w 5) l) ≡ true) =
      and_both (all (followed room w 6) (list_of room w 5 y)) (all (followed room w 6) (joined (list_of room w 5) l)) (sym (all_both (followed room w 6) (list_of room w 5 y) (joined (list_of room w 5) l)) ∙ e) in
      let loops : all (λ i. ltb i (word w 4)) (list_of room w 5 y) ≡ true = all-imply (λ i. ltb i (word w 4)) (followed room w 6) (list_of room w 5 y) (λ i q. lt-ltb i (word w 4) (followed-slot room w 6 i q)) parts.0 in
      rw (both.0, loops) (faces-follow l both.1 parts.1)

  pub faces-followed : Looped room w b → all (followed room w 5) (face_list room w b) ≡ true
  unfolding loop_list
  faces-followed s = faces-follow (face_list room w b) (faces-exist s.faced) s.loops

  pub loops-short : Faced room w b → length (loop_list room w b) ≤ 8192
  unfolding loop_list
  loops-short s =
      let l : length (loop_list room w b) ≤ 16 * length (face_list room w b) =
      joined-limit (list_of room w 5) 16 (face_list room w b) (λ i. ltb i (word w 3)) (λ i e. listed_le room w 5 i f (omega arith) (ltb-true i (word w 3) e)) (faces-exist s) in
      let n : length (face_list room w b) ≤ 512 = unfold face_list in faces-short s in
      omega arith

  pub edge-sources : Looped room w b → Sources room w (edge_path room w b)
  unfolding edge_path
  edge-sources s =
      sources-both room w (sourced 6 (loop_list room w b)) (sourced 3 (shell_list room w b))
      (sources-of room w 6 (loop_list room w b) (omega arith) (all-imply (λ i. ltb i (word w 4)) (followed room w 6) (loop_list room w b) (λ i q. lt-ltb i (word w 4) (followed-slot room w 6 i q)) s.loops) (λ q. s.loops))
      (shell-sources 3 refl (omega arith) (λ q. omega arith) s.faced.shelled)

  pub edge-path-short : Looped room w b → length (edge_path room w b) ≤ 8448
  unfolding edge_path
  edge-path-short s =
      omega (arith, length-append (sourced 6 (loop_list room w b)) (sourced 3 (shell_list room w b)), sourced-length 6 (loop_list room w b), sourced-length 3 (shell_list room w b), loops-short s.faced, shells-short s.faced.shelled)

  -- ---- the edges

  pub edges-short : Edged room w b → length (firsts (ids_of room w (edge_path room w b))) ≤ 2048
  edges-short s = firsts-short room w 6 (ids_of room w (edge_path room w b)) f (omega arith) s.edges

  pub edges-exist : Edged room w b → all (λ i. ltb i (word w 6)) (edge_list room w b) ≡ true
  unfolding edge_list
  edges-exist s = all_firsts (λ i. ltb i (word w 6)) (ids_of room w (edge_path room w b)) s.edges

  pub edges-small : Edged room w b → all (λ i. ltb i 4096) (edge_list room w b) ≡ true
  edges-small s = all-weaken (word w 6) 4096 (edge_list room w b) (le_trans (f.counts 6 (omega arith)) (capacity-le room f.small 6 (omega arith))) (edges-exist s)

  pub vertex-sources : Edged room w b → Sources room w (vertex_path room w b)
  unfolding vertex_path
  vertex-sources s =
      sources-both room w (sourced 7 (edge_list room w b)) (sourced 4 (shell_list room w b))
      (sources-of room w 7 (edge_list room w b) (omega arith) (edges-exist s) (λ q. absurd (omega arith)))
      (shell-sources 4 refl (omega arith) (λ q. omega arith) s.looped.faced.shelled)

  pub vertex-path-short : Edged room w b → length (vertex_path room w b) ≤ 2304
  unfolding vertex_path edge_list
  vertex-path-short s =
      omega (arith, length-append (sourced 7 (edge_list room w b)) (sourced 4 (shell_list room w b)), sourced-length 7 (edge_list room w b), sourced-length 4 (shell_list room w b), edges-short s, shells-short s.looped.faced.shelled)

  -- ---- what the lists hold

  pub faces-front : (out₀ out : List ℕ) (n : ℕ) → Faced room w b → Visited (ids_of room w (face_path room w b)) out₀ out n → 512 ≤ length out₀ → take n out ≡ face_list room w b
  unfolding face_list
  faces-front out₀ out n s v h = visited-front (ids_of room w (face_path room w b)) out₀ out n v (le_trans (faces-short s) h)

  pub edges-front : (out₀ out : List ℕ) (n : ℕ) → Edged room w b → Visited (ids_of room w (edge_path room w b)) out₀ out n → 2048 ≤ length out₀ → take n out ≡ edge_list room w b
  unfolding edge_list
  edges-front out₀ out n s v h = visited-front (ids_of room w (edge_path room w b)) out₀ out n v (le_trans (edges-short s) h)

  pub edges-count : (out₀ out : List ℕ) (n : ℕ) → Visited (ids_of room w (edge_path room w b)) out₀ out n → n ≡ 0 + length (edge_list room w b)
  unfolding edge_list
  edges-count out₀ out n v = v.count ∙ sym (zero-add (length (firsts (ids_of room w (edge_path room w b)))))

-- a path in the front of a list, as sources
pub sources-front : (room w path out₀ out : List ℕ) (n : ℕ) → Sources room w path → Laid path out₀ out n → length path ≤ length out₀ → Sources room w (take n out)
sources-front room w path out₀ out n s l h = subst (Sources room w) (sym (laid-front path out₀ out n l h)) s
