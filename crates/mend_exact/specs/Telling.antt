-- The changes told one after the other to a list with a count, and what comes of it. Assumes nothing.
use Rattle.std.specs.Prelude.{ℕ, ◌+◌, ◌≤◌, ◌<◌, ◌≡◌, refl, Bool, true, false, cond, ◌&&◌, List, [], ◌∷◌, ◌++◌, map, leb, length}
use Rattle.std.proofs.Common.{arith, sym, ap, ◌∙◌, true≢false, le-leb, leb-true, leb-false}
use Rattle.std.proofs.lemmas.Bool.{lt-leb}
use Rattle.meaning.specs.Lists.{every}
use Rattle.meaning_list_laws.specs.Tests.{and_both}
use Rattle.meaning_mends.specs.Mends.{Change, fits}
use Rattle.meaning_mends.specs.Words.{change_words}
use Rattle.mend_meetings.specs.Machine.{FULL, State, held, entry_put, logged}
use Rattle.mend_exact.specs.Entries.{entries_put}

-- one that has no slot makes the count FULL
unfoldable pub tell : Change → State → State
tell c s = cond (fits c) (logged (change_words c) s) (held s.list s.marks FULL)

unfoldable pub tell_all : List Change → State → State
tell_all [] s = s
tell_all (c ∷ l) s = tell_all l (tell c s)

-- a state but for its marks
abbrev pub told : State → State
told s = held s.list [] s.count

pub tell-append : (k l : List Change) (s : State) → tell_all (k ++ l) s ≡ tell_all l (tell_all k s)
unfolding tell_all
tell-append [] l s = refl
tell-append (c ∷ k) l s = tell-append k l (tell c s)

pub logged-told : (ws : List ℕ) (s : State) → told (logged ws s) ≡ logged ws (told s)
unfolding logged
logged-told ws s = by (leb FULL s.count)
  where
    by : (b : Bool) → told (cond b s (held (entry_put s.list s.count ws) s.marks (s.count + 1))) ≡ cond b (told s) (held (entry_put s.list s.count ws) [] (s.count + 1))
    by true = refl
    by false = refl

pub logged-marks : (ws : List ℕ) (s : State) → (logged ws s).marks ≡ s.marks
unfolding logged
logged-marks ws s = by (leb FULL s.count)
  where
    by : (b : Bool) → (cond b s (held (entry_put s.list s.count ws) s.marks (s.count + 1))).marks ≡ s.marks
    by true = refl
    by false = refl

-- ---- behind FULL nothing changes

pub logged-full : (ws : List ℕ) (s : State) → s.count ≡ FULL → logged ws s ≡ s
unfolding logged
logged-full ws s h = rw (le-leb FULL s.count (omega arith))

tell-full : (c : Change) (s : State) → s.count ≡ FULL → tell c s ≡ s
unfolding tell
tell-full c s h = by (fits c)
  where
    by : (b : Bool) → cond b (logged (change_words c) s) (held s.list s.marks FULL) ≡ s
    by true = logged-full (change_words c) s h
    by false = ap (held s.list s.marks) (sym h)

pub told-full : (l : List Change) (s : State) → s.count ≡ FULL → tell_all l s ≡ s
unfolding tell_all
told-full [] s h = refl
told-full (c ∷ l) s h = rw (tell-full c s h) (told-full l s h)

-- ---- the count and the list

pub told-unfit : (l : List Change) (s : State) → every (map fits l) ≡ false → (tell_all l s).count ≡ FULL
unfolding tell_all tell every
told-unfit [] s h = absurd (true≢false h)
told-unfit (c ∷ l) s h = by (fits c) (λ x. told-unfit l x) h
  where
    by : (b : Bool) → ((x : State) → every (map fits l) ≡ false → (tell_all l x).count ≡ FULL) → (b && every (map fits l)) ≡ false
        → (tell_all l (cond b (logged (change_words c) s) (held s.list s.marks FULL))).count ≡ FULL
    by true rest e = rest (logged (change_words c) s) e
    by false rest e = ap (λ x. x.count) (told-full l (held s.list s.marks FULL) refl)

tell-fit : (c : Change) (s : State) → fits c ≡ true → s.count < FULL → tell c s ≡ held (entry_put s.list s.count (change_words c)) s.marks (s.count + 1)
unfolding tell logged
tell-fit c s f h = rw (f, lt-leb FULL s.count h)

pub told_fit : (l : List Change) (s : State) → every (map fits l) ≡ true → s.count + length l ≤ FULL → tell_all l s ≡ held (entries_put s.list s.count l) s.marks (s.count + length l)
unfolding tell_all every entries_put
told_fit [] s e h = ap (held s.list s.marks) (let z : s.count ≡ s.count + 0 = omega arith in z)
told_fit (c ∷ l) s e h =
    let both = and_both (fits c) (every (map fits l)) e in
    let next : State = held (entry_put s.list s.count (change_words c)) s.marks (s.count + 1) in
    let more : s.count + 1 + length l ≡ s.count + length (c ∷ l) = omega arith in
    ap (tell_all l) (tell-fit c s both.0 (omega arith)) ∙ told_fit l next both.1 (omega arith) ∙ ap (held (entries_put next.list next.count l) s.marks) more

-- a count that would be above FULL is FULL
pub told-many : (l : List Change) (s : State) → every (map fits l) ≡ true → s.count ≤ FULL → FULL ≤ s.count + length l → (tell_all l s).count ≡ FULL
unfolding tell_all every
told-many [] s e g h = omega arith
told-many (c ∷ l) s e g h = by (leb FULL s.count) refl (λ x. told-many l x)
  where
    by : (b : Bool) → leb FULL s.count ≡ b → ((x : State) → every (map fits l) ≡ true → x.count ≤ FULL → FULL ≤ x.count + length l → (tell_all l x).count ≡ FULL) → (tell_all l (tell c s)).count ≡ FULL
    by true q rest = ap (λ x. (tell_all l x).count) (tell-full c s (omega (arith, leb-true FULL s.count q))) ∙ ap (λ x. x.count) (told-full l s (omega (arith, leb-true FULL s.count q))) ∙ omega (arith, leb-true FULL s.count q)
    by false q rest =
        let both = and_both (fits c) (every (map fits l)) e in
        let less : s.count < FULL = leb-false FULL s.count q in
        ap (λ x. (tell_all l x).count) (tell-fit c s both.0 less) ∙ rest (held (entry_put s.list s.count (change_words c)) s.marks (s.count + 1)) both.1 (omega arith) (omega arith)
