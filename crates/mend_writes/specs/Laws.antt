-- Changes by their words: one entry of the list is one change. Assumes nothing.
use Rattle.std.specs.Prelude.{ℕ, zero, suc, ◌+◌, ◌*◌, ◌/◌, ◌≤◌, ◌<◌, ◌≡◌, refl, Bool, true, false, cond, List, [], ◌∷◌, ◌++◌, eqb, leb, length, set}
use Rattle.std.proofs.Common.{div-add-mod', add-one, arith, sym, ap, ◌∙◌, subst, length-set, leb-true}
use Rattle.meaning.specs.Lists.{all_below}
use Rattle.meaning_list_laws.specs.Tests.{all_below-at}
use Rattle.meaning_mends.specs.Mends.{Child, a_region, a_shell, a_loop, a_fin, child_table, Change, renamed, enlisted}
use Rattle.meaning_mends.specs.Words.{PARENT, change_words, changes_words}
use Rattle.memory_layout.specs.Names.{EDGES, AT_EDGE_FINS}
use Rattle.memory_layout.specs.Layout.{word_strides, word, word_at, words_needed}
use Rattle.memory_layout.specs.Laws.{record-inside}
use Rattle.mend_writes.specs.Made.{made_word, made_words}
use Rattle.mend_writes.specs.Facts.{Stored, entry_of}

-- a fin at a place of the list that begins at a place, and how many it has then
abbrev pub fin_put : List ℕ → ℕ → ℕ → ℕ → List ℕ
fin_put w at place fin = set (set w (at + 1 + place) fin) at (place + 1)

-- the words behind the six words of a change
unfoldable pub entry_made : List ℕ → List ℕ → List ℕ → List ℕ
entry_made room w e =
    let at = word_at room (word e 0) (word e 1) in
    cond (eqb (word e 2) PARENT) (set w at (word e 5)) (fin_put w (at + AT_EDGE_FINS) (word e 3) (word e 5))

-- and behind the first n entries of a list
unfoldable pub entries_made : List ℕ → List ℕ → List ℕ → ℕ → List ℕ
entries_made room w list zero = w
entries_made room w list (suc n) = entry_made room (entries_made room w list n) (entry_of list n)

pub entries_none : (room w list : List ℕ) → w ≡ entries_made room w list 0
unfolding entries_made
entries_none room w list = refl

pub entries-turn : (room w list : List ℕ) (n : ℕ) → entry_made room (entries_made room w list n) (entry_of list n) ≡ entries_made room w list (n + 1)
unfolding entries_made
entries-turn room w list n = rw (add-one n)

pub made-long : (room w e : List ℕ) → length (entry_made room w e) ≡ length w
unfolding entry_made
made-long room w e = by (eqb (word e 2) PARENT)
  where
    at : ℕ
    at = word_at room (word e 0) (word e 1)

    by : (b : Bool) → length (cond b (set w at (word e 5)) (fin_put w (at + AT_EDGE_FINS) (word e 3) (word e 5))) ≡ length w
    by true = length-set w at (word e 5)
    by false = simp length-set

pub entries-long : (room w list : List ℕ) (n : ℕ) → length (entries_made room w list n) ≡ length w
unfolding entries_made
entries-long room w list zero = refl
entries-long room w list (suc n) = made-long room (entries_made room w list n) (entry_of list n) ∙ entries-long room w list n

-- ---- a list that holds changes

entry_first : (c : Change) (r : List ℕ) → entry_of (change_words c ++ r) 0 ≡ change_words c
entry_first (renamed k i old new) r = refl
entry_first (enlisted e place i) r = refl

six-on : (n : ℕ) → 6 * suc n ≡ suc (suc (suc (suc (suc (suc (6 * n))))))
six-on n = omega arith

entry_next : (c : Change) (r : List ℕ) (n : ℕ) → entry_of (change_words c ++ r) (suc n) ≡ entry_of r n
entry_next (renamed k i old new) r n = rw (six-on n)
entry_next (enlisted e place i) r n = rw (six-on n)

change-made : (room w : List ℕ) (c : Change) → entry_made room w (change_words c) ≡ made_word room w c
unfolding entry_made made_word
change-made room w (renamed k i old new) = refl
change-made room w (enlisted e place i) = refl

-- the first entry stored, then the others
entries-shift : (room w r : List ℕ) (c : Change) (n : ℕ) → entries_made room w (change_words c ++ r) (suc n) ≡ entries_made room (made_word room w c) r n
unfolding entries_made
entries-shift room w r c zero = ap (entry_made room w) (entry_first c r) ∙ change-made room w c
entries-shift room w r c (suc n) = ap (entry_made room _) (entry_next c r n) ∙ ap (λ v. entry_made room v (entry_of r n)) (entries-shift room w r c n)

pub entries-made : (room w : List ℕ) (l : List Change) → entries_made room w (changes_words l) (length l) ≡ made_words room w l
unfolding entries_made made_words changes_words
entries-made room w [] = refl
entries-made room w (c ∷ l) = entries-shift room w (changes_words l) c (length l) ∙ entries-made room (made_word room w c) l

pub changes-long : (l : List Change) → length (changes_words l) ≡ 6 * length l
unfolding changes_words
changes-long [] = refl
changes-long (renamed k i old new ∷ l) = let e = changes-long l in omega arith
changes-long (enlisted e place i ∷ l) = let e = changes-long l in omega arith

pub changes-entries : (l : List Change) → length (changes_words l) / 6 ≡ length l
changes-entries l = let e = changes-long l in omega (arith, div-add-mod' (length (changes_words l)) 6)

-- ---- changes that name records with room

abbrev pub Within : List ℕ → Change → Type 0
Within room (renamed k i old new) = i < word room (child_table k)
Within room (enlisted e place i) = (e < word room EDGES) × (place < 8)

abbrev pub AllWithin : List ℕ → List Change → Type 0
AllWithin room [] = Unit {0}
AllWithin room (c ∷ l) = Within room c × AllWithin room l

child-below : (k : Child) → child_table k < 10
child-below a_region = omega arith
child-below a_shell = omega arith
child-below a_loop = omega arith
child-below a_fin = omega arith

change-stored : (room : List ℕ) (c : Change) → Within room c → Stored room (change_words c)
change-stored room (renamed k i old new) h = record { whole = refl; table = child-below k; slot = h; list = λ f. absurd (f refl) }
change-stored room (enlisted e place i) h = record { whole = refl; table = omega arith; slot = h.0; list = λ _. (refl, h.1) }

pub each-stored : (room : List ℕ) (l : List Change) → AllWithin room l → (i : ℕ) → 6 * i + 6 ≤ length (changes_words l) → Stored room (entry_of (changes_words l) i)
unfolding changes_words
each-stored room [] h i g = absurd (omega arith)
each-stored room (c ∷ l) h zero g = subst (Stored room) (sym (entry_first c (changes_words l))) (change-stored room c h.0)
each-stored room (c ∷ l) h (suc i) g =
    subst (Stored room) (sym (entry_next c (changes_words l) i))
    (each-stored room l h.1 i (let e = changes-long l in let d : length (changes_words (c ∷ l)) ≡ 6 * length (c ∷ l) = changes-long (c ∷ l) in omega arith))

-- ---- the places of a change lie among the words

stride-least : (k : ℕ) → k < 10 → 1 ≤ word word_strides k
unfolding all_below
stride-least k h = leb-true 1 (word word_strides k) (all_below-at (λ j. leb 1 (word word_strides j)) 10 k refl h)

pub parent-inside : (room w e : List ℕ) → words_needed room ≤ length w → Stored room e → word_at room (word e 0) (word e 1) < length w
parent-inside room w e h s =
    let b = record-inside 11 word_strides room (word e 0) (word e 1) s.table s.slot in
    omega (arith, stride-least (word e 0) s.table)

pub fins-inside : (room w e : List ℕ) → words_needed room ≤ length w → Stored room e → (word e 2 ≡ PARENT → ⊥) → word_at room (word e 0) (word e 1) + AT_EDGE_FINS + 8 < length w
fins-inside room w e h s f =
    let b = record-inside 11 word_strides room (word e 0) (word e 1) s.table s.slot in
    let d : word word_strides (word e 0) ≡ 16 = ap (word word_strides) (s.list f).0 in
    omega arith
