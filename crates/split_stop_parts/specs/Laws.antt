-- Laws of stops that are told: a row is the first of its parts, rows are the first of them; the words are `stop_words`. Assumes nothing.
use Rattle.std.specs.Prelude.{ℕ, zero, suc, ◌+◌, ◌<◌, ◌≡◌, refl, List, [], ◌∷◌, ◌++◌, map, length, get_or, take}
use Rattle.std.proofs.Common.{add-one, arith, sym, ap, ◌∙◌}
use Rattle.meaning.specs.Lists.{run, joined}
use Rattle.meaning_stops.specs.Stops as Stops
use Rattle.meaning_stops.specs.Stops.{Entity, this, this_curve, this_surface, nothing, entity_words, Part, Row, accepted, stop_words, stop_at, unless_passed, first_part, first_stop}
use Rattle.meaning_list_laws.specs.Lists.{joined_snoc}
use Rattle.walk_marks.specs.Laws.{take_more, map-turn}
use Rattle.split_stop_parts.specs.declared.Stop.{Stop}
use Rattle.split_stop_parts.specs.Told.{told, told_words, class_word, id_word, pick, none, tell_at, first_told, row_told, tell}

-- ---- the first of two

pub first-assoc : (a b c : Stop) → first_told (first_told a b) c ≡ first_told a (first_told b c)
unfolding first_told
first-assoc a b c = go a.number refl
  where
    go : (n : ℕ) → a.number ≡ n → pick (pick n a b).number (pick n a b) c ≡ pick n a (pick b.number b c)
    go zero e = refl
    go (suc n) e = ap (λ (j : ℕ). pick j a c) e

-- a stop that refuses is the first, and one that does not leaves the other
pub stops-here : (a b : Stop) → (a.number ≡ 0 → ⊥) → a ≡ first_told a b
unfolding first_told
stops-here a b h = go a.number h
  where
    go : (n : ℕ) → (n ≡ 0 → ⊥) → a ≡ pick n a b
    go zero g = absurd (g refl)
    go (suc n) g = refl

pub goes_on : (a b : Stop) → a.number ≡ 0 → b ≡ first_told a b
unfolding first_told
goes_on a b z = ap (λ (n : ℕ). pick n a b) (sym z)

-- of two that pass, both do
pub first-zero : (a b : Stop) → (first_told a b).number ≡ 0 → (a.number ≡ 0) × (b.number ≡ 0)
unfolding first_told
first-zero a b z = go a.number refl z
  where
    go : (n : ℕ) → a.number ≡ n → (pick n a b).number ≡ 0 → (a.number ≡ 0) × (b.number ≡ 0)
    go zero e h = (e, h)
    go (suc n) e h = absurd (omega arith)

-- ---- one part

pub tell-number : (k j n c i p q : ℕ) → (tell_at k j n c i p q).number ≡ n
unfolding tell_at
tell-number k j zero c i p q = refl
tell-number k j (suc n) c i p q = refl

pub tells_none : (k j n c i p q : ℕ) → n ≡ 0 → none ≡ tell_at k j n c i p q
unfolding tell_at
tells_none k j n c i p q z = ap (λ (x : ℕ). pick x (record { number = n; row = k; part = j; class = c; id = i; parent = p; over = q }) none) (sym z)

pub tells-here : (k j n c i p q : ℕ) → (n ≡ 0 → ⊥) → record { number = n; row = k; part = j; class = c; id = i; parent = p; over = q } ≡ tell_at k j n c i p q
unfolding tell_at
tells-here k j zero c i p q h = absurd (h refl)
tells-here k j (suc n) c i p q h = refl

-- a part that refuses is the first, and one that passes leaves what follows
pub part-stops : (k j n c i p q : ℕ) (b : Stop) → first_told (tell_at k j (suc n) c i p q) b ≡ tell_at k j (suc n) c i p q
unfolding tell_at first_told
part-stops k j n c i p q b = refl

pub part-passes : (k j c i p q : ℕ) (b : Stop) → first_told (tell_at k j 0 c i p q) b ≡ b
unfolding tell_at first_told
part-passes k j c i p q b = refl

-- ---- a row

passed-told : (n : ℕ) (here later : Stops.Stop) → here.number ≡ n → told (unless_passed n here later) ≡ first_told (pick n (told here) none) (told later)
unfolding first_told told
passed-told zero here later e = refl
passed-told (suc n) here later e = ap (λ (j : ℕ). pick j (told here) (told later)) (sym e)

part-told : (k : ℕ) (p : Part) (later : Stops.Stop) → told (unless_passed p.number (stop_at k p) later) ≡ first_told (tell k p) (told later)
unfolding told tell_at
part-told k p later = passed-told p.number (stop_at k p) later refl

pub row-none : (k : ℕ) → row_told k [] ≡ none
unfolding row_told told first_part
row-none k = refl

-- where a loop over a row's entries begins
pub nothing-told : (k : ℕ) → tell_at 0 0 0 10 0 10 0 ≡ row_told k []
unfolding tell_at row_told told first_part
nothing-told k = refl

pub row_more : (k : ℕ) (p : Part) (l : List Part) → row_told k (p ∷ l) ≡ first_told (tell k p) (row_told k l)
unfolding row_told first_part
row_more k p l = part-told k p (first_part k l accepted)

pub row_one : (k : ℕ) (p : Part) → row_told k (p ∷ []) ≡ tell k p
unfolding row_told first_part told tell_at
row_one k p = go p.number
  where
    go : (n : ℕ) → told (unless_passed n (stop_at k p) accepted) ≡ pick n (told (stop_at k p)) none
    go zero = refl
    go (suc n) = refl

pub row-two : (k : ℕ) (p q : Part) → row_told k (p ∷ q ∷ []) ≡ first_told (tell k p) (tell k q)
row-two k p q = row_more k p (q ∷ []) ∙ ap (first_told (tell k p)) (row_one k q)

pub row-three : (k : ℕ) (p q r : Part) → row_told k (p ∷ q ∷ r ∷ []) ≡ first_told (tell k p) (first_told (tell k q) (tell k r))
row-three k p q r = row_more k p (q ∷ r ∷ []) ∙ ap (first_told (tell k p)) (row-two k q r)

-- a row of any parts
unfoldable pub chained : ℕ → List Part → Stop
chained k [] = none
chained k (p ∷ []) = tell k p
chained k (p ∷ q ∷ l) = first_told (tell k p) (chained k (q ∷ l))

pub row_chained : (k : ℕ) (l : List Part) → row_told k l ≡ chained k l
unfolding chained
row_chained k [] = row-none k
row_chained k (p ∷ []) = row_one k p
row_chained k (p ∷ q ∷ l) = row_more k p (q ∷ l) ∙ ap (first_told (tell k p)) (row_chained k (q ∷ l))

-- ---- rows

pub row_first : (k : ℕ) (l : List Part) (later : Stops.Stop) → told (first_part k l later) ≡ first_told (row_told k l) (told later)
unfolding row_told first_part first_told told
row_first k [] later = refl
row_first k (p ∷ l) later =
    part-told k p (first_part k l later)
    ∙ ap (first_told (tell k p)) (row_first k l later)
    ∙ sym (first-assoc (tell k p) (row_told k l) (told later))
    ∙ ap (λ (a : Stop). first_told a (told later)) (sym (row_more k p l))

pub rows-first : (r : Row) (l : List Row) → told (first_stop (r ∷ l)) ≡ first_told (row_told r.row r.parts) (told (first_stop l))
unfolding first_stop
rows-first r l = row_first r.row r.parts (first_stop l)

pub rows-one : (r : Row) → told (first_stop (r ∷ [])) ≡ row_told r.row r.parts
unfolding first_stop row_told
rows-one r = refl

parts-append : (k : ℕ) (l m : List Part) (later : Stops.Stop) → first_part k (l ++ m) later ≡ first_part k l (first_part k m later)
unfolding first_part
parts-append k [] m later = refl
parts-append k (p ∷ l) m later = ap (λ (s : Stops.Stop). unless_passed p.number (stop_at k p) s) (parts-append k l m later)

pub row-append : (k : ℕ) (l m : List Part) → row_told k (l ++ m) ≡ first_told (row_told k l) (row_told k m)
unfolding row_told
row-append k l m = ap told (parts-append k l m accepted) ∙ row_first k l (first_part k m accepted)

-- ---- the entries of a list, turn by turn

pub joined-more : (k : ℕ) (f : ℕ → List Part) (l : List ℕ) (j : ℕ) (s r : Stop) → j < length l → s ≡ row_told k (joined f (take j l)) → r ≡ row_told k (f (get_or l j 0))
    → first_told s r ≡ row_told k (joined f (take (j + 1) l))
joined-more k f l j s r h e g = rw (e, g) (sym (ap (λ (p : List ℕ). row_told k (joined f p)) (take_more l j 0 h) ∙ ap (row_told k) (joined_snoc f (take j l) (get_or l j 0)) ∙ row-append k (joined f (take j l)) (f (get_or l j 0))))

pub mapped-more : (k : ℕ) (f : ℕ → Part) (l : List ℕ) (j : ℕ) (s r : Stop) → j < length l → s ≡ row_told k (map f (take j l)) → r ≡ tell k (f (get_or l j 0))
    → first_told s r ≡ row_told k (map f (take (j + 1) l))
mapped-more k f l j s r h e g =
    rw (e, g)
    (sym
    (ap (row_told k) (map-turn f l j h)
    ∙ row-append k (map f (take j l)) (f (get_or l j 0) ∷ [])
    ∙ ap (first_told (row_told k (map f (take j l)))) (row_one k (f (get_or l j 0)))))

map_snoc : (f : ℕ → Part) (l : List ℕ) (y : ℕ) → map f (l ++ (y ∷ [])) ≡ map f l ++ (f y ∷ [])
map_snoc f [] y = refl
map_snoc f (i ∷ l) y = ap (λ (r : List Part). f i ∷ r) (map_snoc f l y)

pub run_more : (k : ℕ) (f : ℕ → Part) (j : ℕ) (s r : Stop) → s ≡ row_told k (map f (run 0 j)) → r ≡ tell k (f j) → first_told s r ≡ row_told k (map f (run 0 (j + 1)))
unfolding run
run_more k f j s r e g =
    let same : 0 + j ≡ j = omega arith in
    rw (add-one, e, g)
    (sym
    (ap (λ (i : ℕ). row_told k (map f (run 0 j ++ (i ∷ [])))) same
    ∙ ap (row_told k) (map_snoc f (run 0 j) j)
    ∙ row-append k (map f (run 0 j)) (f j ∷ [])
    ∙ ap (first_told (row_told k (map f (run 0 j)))) (row_one k (f j))))

-- ---- the seven words

two-words : (e : Entity) (l : List ℕ) → (class_word e ∷ id_word e ∷ l) ≡ entity_words e ++ l
two-words (this c i) l = refl
two-words (this_curve i) l = refl
two-words (this_surface i) l = refl
two-words nothing l = refl

last-words : (e : Entity) → (class_word e ∷ id_word e ∷ []) ≡ entity_words e
last-words (this c i) = refl
last-words (this_curve i) = refl
last-words (this_surface i) = refl
last-words nothing = refl

pub told-words : (s : Stops.Stop) → told_words (told s) ≡ stop_words s
unfolding told
told-words s =
    ap (λ (l : List ℕ). s.number ∷ s.row ∷ s.part ∷ l)
    (two-words s.entity (class_word s.parent ∷ id_word s.parent ∷ []) ∙ ap (λ (l : List ℕ). entity_words s.entity ++ l) (last-words s.parent))
