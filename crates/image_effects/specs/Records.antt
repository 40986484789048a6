-- A record of an image laid over the words of a slot: it reads as the image's fields say, and leaves what stands behind the end of each list. Assumes nothing.
use Prim.Native.Nat.{ℕ, zero, suc, ◌+◌, ◌≤◌, ◌<◌}
use Rattle.std.proofs.Common.{zero-add, arith, sym, ap, ◌∙◌, ne_eqb, leb-true}
use Rattle.std.specs.Prelude.{◌≡◌, refl, Bool, false, ◌&&◌, leb, length, drop}
use Rattle.std.proofs.Math.Bool.{true}
use Rattle.std.proofs.lemmas.Bool.{false≢true}
use mathlib.Core.List.{List, [], ◌∷◌}
use Rattle.std.proofs.Math.ListN.{get_or}
use Rattle.meaning.specs.Lists.{all_below}
use Rattle.meaning.specs.Model.{Office, office-0, office-1}
use Rattle.meaning_list_laws.specs.Tests.{and_both, all_below-at}
use Rattle.memory_layout.specs.Layout.{word_strides, word}
use Rattle.memory_layout.specs.Decode.{list_at, office_of, body_of, region_of, shell_of, face_of, loop_of, fin_of, edge_of, vertex_of, carrier_of}
use Rattle.memory_layout.specs.Laid.{office}
use Rattle.memory_writes.specs.Put.{over}
use Rattle.memory_writes.specs.Over.{length_over, entry-behind, entry-written}
use Rattle.edit_lists.specs.Place.{with_list}
use Rattle.edit_lists.specs.Records.{word-before, word-behind, word-length, list-there, list-before}
use Rattle.image_format.specs.Fields.{list_limits_of, Fields, word_counts, list_counts, list_places_of, list_in, body_in, region_in, shell_in, face_in, loop_in, fin_in, edge_in, vertex_in, carrier_in}
use Rattle.image_laws.specs.Sizes.{places-many}
use Rattle.image_record_test.specs.Spelled.{within}
use Rattle.image_loading.specs.Laid.{lists_laid, front_of, record_laid}

-- ---- places that lie apart

-- each place has room for its limit before the next, the first at `from` or behind it and the last before `to`
unfoldable pub apart : ℕ → List ℕ → List ℕ → ℕ → Bool
apart from [] ns to = leb from to
apart from (p ∷ ps) [] to = false
apart from (p ∷ ps) (n ∷ ns) to = leb from p && apart (suc (p + n)) ps ns to

apart-le : (from : ℕ) (ps ns : List ℕ) (to : ℕ) → apart from ps ns to ≡ true → from ≤ to
unfolding apart
apart-le from [] ns to e = leb-true from to e
apart-le from (p ∷ ps) [] to e = absurd (false≢true e)
apart-le from (p ∷ ps) (n ∷ ns) to e =
    let both = and_both (leb from p) (apart (suc (p + n)) ps ns to) e in
    let a : from ≤ p = leb-true from p both.0 in
    let b : suc (p + n) ≤ to = apart-le (suc (p + n)) ps ns to both.1 in
    omega arith

-- the lists, each within its limit: the first, and those behind it
first-within : (n : ℕ) (ns : List ℕ) (ls : List (List ℕ)) → within (n ∷ ns) ls ≡ true → length (get_or ls 0 []) ≤ n
unfolding within
first-within n ns [] h = omega arith
first-within n ns (x ∷ ls) h = leb-true (length x) n (and_both (leb (length x) n) (within ns ls) h).0

none_within : (ns : List ℕ) → within ns [] ≡ true
unfolding within
none_within [] = refl
none_within (n ∷ ns) = refl

rest-within : (n : ℕ) (ns : List ℕ) (ls : List (List ℕ)) → within (n ∷ ns) ls ≡ true → within ns (drop 1 ls) ≡ true
unfolding within
rest-within n ns [] h = none_within ns
rest-within n ns (x ∷ ls) h = (and_both (leb (length x) n) (within ns ls) h).1

next-list : (ls : List (List ℕ)) (j : ℕ) → get_or (drop 1 ls) j [] ≡ get_or ls (suc j) []
next-list [] j = refl
next-list (x ∷ ls) j = refl

-- ---- lists laid at places that lie apart

-- what is known of the first place, and of the words with the first list laid there
record First (from p n : ℕ) (ps ns : List ℕ) (ls : List (List ℕ)) (w : List ℕ) (to : ℕ) : Type 0 where
  pub behind : from ≤ p
  pub fits : p + suc (length (get_or ls 0 [])) ≤ length w
  pub room : length (get_or ls 0 []) ≤ n
  pub rest : apart (suc (p + n)) ps ns to ≡ true
  pub rest-fits : within ns (drop 1 ls) ≡ true
  pub long : length (with_list p (get_or ls 0 []) w) ≡ to

first : (from p n : ℕ) (ps ns : List ℕ) (ls : List (List ℕ)) (w : List ℕ) (to : ℕ) → apart from (p ∷ ps) (n ∷ ns) to ≡ true → within (n ∷ ns) ls ≡ true → length w ≡ to
    → First from p n ps ns ls w to
unfolding apart with_list
first from p n ps ns ls w to e h q =
    let both = and_both (leb from p) (apart (suc (p + n)) ps ns to) e in
    let b : suc (p + n) ≤ to = apart-le (suc (p + n)) ps ns to both.1 in
    let s : length (get_or ls 0 []) ≤ n = first-within n ns ls h in
    let f : p + suc (length (get_or ls 0 [])) ≤ length w = omega arith in
    record {
      behind = leb-true from p both.0;
      fits = f;
      room = s;
      rest = both.1;
      rest-fits = rest-within n ns ls h;
      long = length_over p (length (get_or ls 0 []) ∷ get_or ls 0 []) w f ∙ q;
    }

laid_cons : (p : ℕ) (ps : List ℕ) (ls : List (List ℕ)) (w : List ℕ) → lists_laid (p ∷ ps) ls w ≡ lists_laid ps (drop 1 ls) (with_list p (get_or ls 0 []) w)
unfolding lists_laid with_list
laid_cons p ps ls w = refl

laid_none : (ls : List (List ℕ)) (w : List ℕ) → lists_laid [] ls w ≡ w
unfolding lists_laid
laid_none ls w = refl

no-limit : (from p : ℕ) (ps : List ℕ) (to : ℕ) → apart from (p ∷ ps) [] to ≡ true → ⊥
unfolding apart
no-limit from p ps to e = false≢true e

lists-long : (from : ℕ) (ps ns : List ℕ) (ls : List (List ℕ)) (w : List ℕ) (to : ℕ) → apart from ps ns to ≡ true → within ns ls ≡ true → length w ≡ to
    → length (lists_laid ps ls w) ≡ to
lists-long from [] ns ls w to e h q = ap length (laid_none ls w) ∙ q
lists-long from (p ∷ ps) [] ls w to e h q = absurd (no-limit from p ps to e)
lists-long from (p ∷ ps) (n ∷ ns) ls w to e h q =
    let f = first from p n ps ns ls w to e h q in
    ap length (laid_cons p ps ls w) ∙ lists-long (suc (p + n)) ps ns (drop 1 ls) (with_list p (get_or ls 0 []) w) to f.rest f.rest-fits f.long

-- what stands before the first place
lists-before : (from : ℕ) (ps ns : List ℕ) (ls : List (List ℕ)) (w : List ℕ) (to : ℕ) → apart from ps ns to ≡ true → within ns ls ≡ true → length w ≡ to
    → (q : ℕ) → q < from → word (lists_laid ps ls w) q ≡ word w q
lists-before from [] ns ls w to e h l q g = ap (λ (v : List ℕ). word v q) (laid_none ls w)
lists-before from (p ∷ ps) [] ls w to e h l q g = absurd (no-limit from p ps to e)
lists-before from (p ∷ ps) (n ∷ ns) ls w to e h l q g =
    let f = first from p n ps ns ls w to e h l in
    let a : q < p = let b = f.behind in omega arith in
    ap (λ (v : List ℕ). word v q) (laid_cons p ps ls w)
    ∙ lists-before (suc (p + n)) ps ns (drop 1 ls) (with_list p (get_or ls 0 []) w) to f.rest f.rest-fits f.long q (omega arith)
    ∙ word-before p (get_or ls 0 []) w f.fits q a

-- a list that stands before the first place
list-kept : (from : ℕ) (ps ns : List ℕ) (ls : List (List ℕ)) (w : List ℕ) (to : ℕ) → apart from ps ns to ≡ true → within ns ls ≡ true → length w ≡ to
    → (q : ℕ) → q + suc (word w q) ≤ from → list_at (lists_laid ps ls w) q ≡ list_at w q
list-kept from [] ns ls w to e h l q g = ap (λ (v : List ℕ). list_at v q) (laid_none ls w)
list-kept from (p ∷ ps) [] ls w to e h l q g = absurd (no-limit from p ps to e)
list-kept from (p ∷ ps) (n ∷ ns) ls w to e h l q g =
    let f = first from p n ps ns ls w to e h l in
    let b : from ≤ p = f.behind in
    let same : word (with_list p (get_or ls 0 []) w) q ≡ word w q = word-before p (get_or ls 0 []) w f.fits q (omega arith) in
    ap (λ (v : List ℕ). list_at v q) (laid_cons p ps ls w)
    ∙ list-kept (suc (p + n)) ps ns (drop 1 ls) (with_list p (get_or ls 0 []) w) to f.rest f.rest-fits f.long q (omega arith)
    ∙ list-before p (get_or ls 0 []) w f.fits q (omega arith)

-- a list l of at most n entries at the place p of the words r, which were w: its count, its entries, and what stands behind its end
pub record Listed (from p n : ℕ) (l w r : List ℕ) : Type 0 where
  pub behind : from ≤ p
  pub count : word r p ≡ length l
  pub entries : list_at r p ≡ l
  pub short : length l ≤ n
  pub rest : (q : ℕ) → p + length l < q → q ≤ p + n → word r q ≡ word w q

lists-there : (from : ℕ) (ps ns : List ℕ) (ls : List (List ℕ)) (w : List ℕ) (to : ℕ) → apart from ps ns to ≡ true → within ns ls ≡ true → length w ≡ to
    → (j : ℕ) → j < length ps → Listed from (word ps j) (word ns j) (get_or ls j []) w (lists_laid ps ls w)
lists-there from [] ns ls w to e h l j g = absurd (omega arith)
lists-there from (p ∷ ps) [] ls w to e h l j g = absurd (no-limit from p ps to e)
lists-there from (p ∷ ps) (n ∷ ns) ls w to e h l zero g =
    let f = first from p n ps ns ls w to e h l in
    let a : List ℕ = get_or ls 0 [] in
    let v : List ℕ = with_list p a w in
    let s : length a ≤ n = f.room in
    let c : word v p ≡ length a = word-length p a w f.fits in
    rw (laid_cons p ps ls w)
    (record {
      behind = f.behind;
      count = lists-before (suc (p + n)) ps ns (drop 1 ls) v to f.rest f.rest-fits f.long p (omega arith) ∙ c;
      entries = list-kept (suc (p + n)) ps ns (drop 1 ls) v to f.rest f.rest-fits f.long p (omega arith) ∙ list-there p a w f.fits;
      short = s;
      rest = λ q b d. lists-before (suc (p + n)) ps ns (drop 1 ls) v to f.rest f.rest-fits f.long q (omega arith) ∙ word-behind p a w f.fits q (omega arith);
    })
lists-there from (p ∷ ps) (n ∷ ns) ls w to e h l (suc j) g =
    let f = first from p n ps ns ls w to e h l in
    let a : List ℕ = get_or ls 0 [] in
    let v : List ℕ = with_list p a w in
    let b = lists-there (suc (p + n)) ps ns (drop 1 ls) v to f.rest f.rest-fits f.long j (omega arith) in
    rw (laid_cons p ps ls w, ← next-list ls j)
    (record {
      behind = let c = f.behind in let d = b.behind in omega arith;
      count = b.count;
      entries = b.entries;
      short = b.short;
      rest = λ q c d. b.rest q c d ∙ word-behind p a w f.fits q (let t = f.room in let u = b.behind in omega arith);
    })

-- ---- a record

-- how many words stand before its lists: of a body its kind and office
abbrev pub front_counts : List ℕ
front_counts = 2 ∷ drop 1 word_counts

front-many : (k : ℕ) (f : Fields) → length f.words ≡ word word_counts k → length (front_of k f) ≡ word front_counts k
unfolding front_of
front-many zero f e = refl
front-many (suc k) f e = rw (ne_eqb (suc k) 0 (λ q. omega arith)) e

places-apart : (k : ℕ) → k < 10 → apart (word front_counts k) (get_or list_places_of k []) (get_or list_limits_of k []) (word word_strides k) ≡ true
unfolding all_below apart
places-apart k h = all_below-at (λ j. apart (word front_counts j) (get_or list_places_of j []) (get_or list_limits_of j []) (word word_strides j)) 10 k refl h

-- the words r of a record of table k, which were w, have the fields f
pub record Laid (k : ℕ) (f : Fields) (w r : List ℕ) : Type 0 where
  pub long : length r ≡ word word_strides k
  pub fields : (q : ℕ) → q < word front_counts k → word r q ≡ word (front_of k f) q
  pub lists : (j : ℕ) → j < word list_counts k → Listed (word front_counts k) (word (get_or list_places_of k []) j) (word (get_or list_limits_of k []) j) (list_in f j) w r

module _ (k : ℕ) (f : Fields) (w : List ℕ) (h : k < 10) (many : length f.words ≡ word word_counts k) (short : within (get_or list_limits_of k []) f.lists ≡ true)
    (whole : length w ≡ word word_strides k) where
  abbrev v : List ℕ
  v = over 0 (front_of k f) w

  front : length (front_of k f) ≡ word front_counts k
  front = front-many k f many

  room : 0 + length (front_of k f) ≤ length w
  room = let e = front in let a = apart-le (word front_counts k) (get_or list_places_of k []) (get_or list_limits_of k []) (word word_strides k) (places-apart k h) in omega arith

  v-long : length v ≡ word word_strides k
  v-long = length_over 0 (front_of k f) w room ∙ whole

  field-there : (q : ℕ) → q < word front_counts k → word v q ≡ word (front_of k f) q
  field-there q g = let e = front in ap (word v) (sym (zero-add q)) ∙ entry-written 0 q (front_of k f) w 0 (omega arith) (omega arith)

  pub record-laid : Laid k f w (record_laid k f w)
  unfolding record_laid
  record-laid =
      let ps : List ℕ = get_or list_places_of k [] in
      let ns : List ℕ = get_or list_limits_of k [] in
      let n : ℕ = word front_counts k in
      let to : ℕ = word word_strides k in
      let e : apart n ps ns to ≡ true = places-apart k h in
      let m = places-many k h in
      record {
        long = lists-long n ps ns f.lists v to e short v-long;
        fields = λ q g. lists-before n ps ns f.lists v to e short v-long q g ∙ field-there q g;
        lists = λ j g.
            let a = lists-there n ps ns f.lists v to e short v-long j (omega arith) in
            record {
              behind = a.behind;
              count = a.count;
              entries = a.entries;
              short = a.short;
              rest = λ q b c. a.rest q b c ∙ entry-behind 0 q (front_of k f) w 0 (let d = a.behind in let e = front in omega arith) room;
            };
      }

-- ---- and so it reads as they say, table by table

office-back : (o : Office) → office_of (office o) ≡ o
office-back office-0 = refl
office-back office-1 = refl

module _ (f : Fields) (w r : List ℕ) where
  pub body-laid : Laid 0 f w r → body_of r ≡ body_in f
  unfolding front_of
  body-laid l = rw (l.fields 0 (omega arith), l.fields 1 (omega arith), office-back f.office, (l.lists 0 (omega arith)).entries)

  pub region-laid : Laid 1 f w r → region_of r ≡ region_in f
  unfolding front_of
  region-laid l = rw (l.fields 0 (omega arith), l.fields 1 (omega arith), (l.lists 0 (omega arith)).entries)

  pub shell-laid : Laid 2 f w r → shell_of r ≡ shell_in f
  unfolding front_of
  shell-laid l = rw (l.fields 0 (omega arith), (l.lists 0 (omega arith)).entries, (l.lists 1 (omega arith)).entries, (l.lists 2 (omega arith)).entries)

  pub face-laid : Laid 3 f w r → face_of r ≡ face_in f
  unfolding front_of
  face-laid l =
      rw (
        l.fields 0 (omega arith),
        l.fields 1 (omega arith),
        l.fields 2 (omega arith),
        l.fields 3 (omega arith),
        l.fields 4 (omega arith),
        l.fields 5 (omega arith),
        l.fields 6 (omega arith),
        (l.lists 0 (omega arith)).entries,
      )

  pub loop-laid : Laid 4 f w r → loop_of r ≡ loop_in f
  unfolding front_of
  loop-laid l = rw (l.fields 0 (omega arith), (l.lists 0 (omega arith)).entries)

  pub fin-laid : Laid 5 f w r → fin_of r ≡ fin_in f
  unfolding front_of
  fin-laid l = rw (l.fields 0 (omega arith), l.fields 1 (omega arith), l.fields 2 (omega arith), l.fields 3 (omega arith))

  pub edge-laid : Laid 6 f w r → edge_of r f.floats ≡ edge_in f
  unfolding front_of
  edge-laid l =
      rw (
        l.fields 0 (omega arith),
        l.fields 1 (omega arith),
        l.fields 2 (omega arith),
        l.fields 3 (omega arith),
        l.fields 4 (omega arith),
        l.fields 5 (omega arith),
        l.fields 6 (omega arith),
        (l.lists 0 (omega arith)).entries,
      )

  pub vertex-laid : Laid 7 f w r → vertex_of r f.floats ≡ vertex_in f
  unfolding front_of
  vertex-laid l = rw (l.fields 0 (omega arith))

  pub curve-laid : Laid 8 f w r → carrier_of r f.floats ≡ carrier_in f
  unfolding front_of
  curve-laid l = rw (l.fields 0 (omega arith))

  pub surface-laid : Laid 9 f w r → carrier_of r f.floats ≡ carrier_in f
  unfolding front_of
  surface-laid l = rw (l.fields 0 (omega arith))
