-- Changes put into a list that has the entries are their words, in front of the rest. Assumes nothing.
use Rattle.std.specs.Prelude.{ℕ, ◌+◌, ◌*◌, ◌/◌, ◌≤◌, ◌<◌, ◌≡◌, refl, List, [], ◌∷◌, ◌++◌, length, drop}
use Rattle.std.proofs.Common.{arith, sym, ap, ◌∙◌, append_assoc, length-append, length-drop, take_at, drop-drop, lt-ltb}
use Rattle.std.proofs.lemmas.List.Edits.{sets-eq}
use Rattle.std.proofs.Math.Seq.{drop-append-add}
use Rattle.meaning_mends.specs.Mends.{Change, renamed, enlisted}
use Rattle.meaning_mends.specs.Words.{change_words, changes_words}
use Rattle.mend_meetings.specs.Machine.{entry_put}
use Rattle.mend_exact.specs.Entries.{entries_put}

six : (c : Change) → length (change_words c) ≡ 6
six (renamed k i old new) = refl
six (enlisted e place i) = refl

-- an entry behind those that stand
put_next : (a d ws : List ℕ) (k : ℕ) → length a ≡ 6 * k → 6 ≤ length d → length ws ≡ 6 → entry_put (a ++ d) k ws ≡ (a ++ ws) ++ drop 6 d
unfolding entry_put
put_next a d ws k h g e =
    let room : 6 * k + length ws ≤ length (a ++ d) = omega (arith, length-append a d) in
    let slot : k < length (a ++ d) / 6 = omega (arith, length-append a d) in
    rw (lt-ltb k (length (a ++ d) / 6) slot) (
    sets-eq ws (a ++ d) (6 * k) room
    ∙ ap (λ x. (x ++ ws) ++ drop (6 * k + length ws) (a ++ d)) (take_at a d (6 * k) h)
    ∙ ap (λ x. (a ++ ws) ++ drop x (a ++ d)) (let z : 6 * k + length ws ≡ length a + 6 = omega arith in z)
    ∙ ap (λ x. (a ++ ws) ++ x) (drop-append-add a d 6))

put-behind : (l : List Change) (a d : List ℕ) (k : ℕ) → length a ≡ 6 * k → 6 * length l ≤ length d → entries_put (a ++ d) k l ≡ a ++ (changes_words l ++ drop (6 * length l) d)
unfolding entries_put changes_words
put-behind [] a d k h g = refl
put-behind (c ∷ l) a d k h g =
    let ws : List ℕ = change_words c in
    let more : length (a ++ ws) ≡ 6 * (k + 1) = omega (arith, length-append a ws, six c) in
    let rest : 6 * length l ≤ length (drop 6 d) = omega (arith, length-drop 6 d) in
    ap (λ x. entries_put x (k + 1) l) (put_next a d ws k h (omega arith) (six c))
    ∙ put-behind l (a ++ ws) (drop 6 d) (k + 1) more rest
    ∙ append_assoc a ws (changes_words l ++ drop (6 * length l) (drop 6 d))
    ∙ ap (λ x. a ++ x) (sym (append_assoc ws (changes_words l) (drop (6 * length l) (drop 6 d))))
    ∙ ap (λ x. a ++ ((ws ++ changes_words l) ++ x)) (drop-drop (6 * length l) 6 d)
    ∙ ap (λ x. a ++ ((ws ++ changes_words l) ++ drop x d)) (let z : 6 + 6 * length l ≡ 6 * length (c ∷ l) = omega arith in z)

pub put-words : (l : List Change) (d : List ℕ) → 6 * length l ≤ length d → entries_put d 0 l ≡ changes_words l ++ drop (6 * length l) d
put-words l d h = put-behind l [] d 0 refl h
