-- What a mending is refused with and what it lists, off the walks. Assumes nothing.
use Prim.Native.Nat.{ℕ, zero, suc, ◌+◌, ◌*◌, ◌/◌, ◌≤◌, ◌<◌}
use Rattle.std.proofs.Common.{arith, sym, ◌∙◌, subst, length-append, length-drop}
use Rattle.std.proofs.Math.Nat.{div-add-mod'}
use Rattle.std.specs.Prelude.{◌≡◌, Bool, true, false, ◌&&◌, leb, Float, take, replicate}
use Rattle.std.proofs.Math.Path.{refl, ap}
use mathlib.Core.List.{List, [], ◌∷◌, ◌++◌, map}
use Rattle.std.proofs.Math.ListN.{length, drop}
use Rattle.std.proofs.Math.Seq.{take_at}
use borrow.Author.Tests.{le-leb, lt-leb, leb-true}
use Rattle.geom_lines_planes.specs.Refuse.{◌unless◌, ◌then◌}
use Rattle.meaning.specs.Lists.{every}
use Rattle.meaning.specs.Model.{Model}
use Rattle.meaning_list_laws.specs.Tests.{and_both, then-zero, unless-zero}
use Rattle.memory_layout.specs.Layout.{word}
use Rattle.memory_layout.specs.Decode.{decode}
use Rattle.memory_layout.specs.Readable.{readable}
use Rattle.memory_layout.specs.Fit.{Lists}
use Rattle.memory_layout.specs.Laws.{fit_of, lists_of}
use Rattle.memory_writes.specs.Put.{over, unless_refused}
use Rattle.meaning_mends.specs.Mends.{Child, a_region, a_shell, a_loop, a_fin, Meeting, Change, renamed, enlisted, loop_meetings, face_meetings, shell_meetings, region_meetings, meetings, changes, body_there, once, fits, lists_refusal, mend_refusal}
use Rattle.meaning_mends.specs.Words.{changes_words}
use Rattle.mend_meetings.specs.Machine.{FULL, MARKS, State, held, rename_step, enlist_step, stepped, walked, Walks}
use Rattle.mend_meetings.specs.Facts.{model_of}
use Rattle.mend_exact.specs.Entries.{entries_put, walk_of, Small}
use Rattle.mend_exact.specs.Statements.{walk_refused, walk-counted, walk-told}
use Rattle.mend_writes.specs.Made.{made_words}
use Rattle.mend_effects.specs.Statements.{as_long}
use Rattle.mend_body.specs.Answers.{changes_on, mend_number, mend_count, mend_list, mend_words}

-- ---- no float is looked at

module _ (room w : List ℕ) (x : List Float) where
  stepped-any : (t : Meeting) (s : State) → stepped (model_of room w) t s ≡ stepped (decode room w x) t s
  stepped-any t s = by t.child
    where
      at : Child → Meeting
      at c = record { child = c; id = t.id; parent = t.parent }

      by : (c : Child) → stepped (model_of room w) (at c) s ≡ stepped (decode room w x) (at c) s
      by a_region = unfold stepped rename_step decode in refl
      by a_shell = unfold stepped rename_step decode in refl
      by a_loop = unfold stepped rename_step decode in refl
      by a_fin = unfold stepped rename_step enlist_step decode in refl

  walked-any : (l : List Meeting) (s : State) → walked (model_of room w) l s ≡ walked (decode room w x) l s
  unfolding walked
  walked-any [] s = refl
  walked-any (t ∷ l) s = ap (walked (model_of room w) l) (stepped-any t s) ∙ walked-any l (stepped (decode room w x) t s)

  meetings-any : (b : ℕ) → meetings (model_of room w) b ≡ meetings (decode room w x) b
  unfolding decode meetings region_meetings shell_meetings face_meetings loop_meetings
  meetings-any b = refl

  pub there-any : (b : ℕ) → body_there (decode room w x) b ≡ body_there (model_of room w) b
  unfolding decode body_there
  there-any b = refl

  -- a walk of the body, from marks that are all zero
  pub walk-of : (b : ℕ) (d s d₁ s₁ : List ℕ) (n : ℕ) → s ≡ replicate (length s) 0 → Walks (model_of room w) (meetings (model_of room w) b) d s 0 d₁ s₁ n
      → held d₁ s₁ n ≡ walk_of (decode room w x) b d (length s)
  walk-of b d s d₁ s₁ n z p =
      p.goes
      ∙ ap (λ l. walked (model_of room w) l (held d s 0)) (meetings-any b)
      ∙ walked-any (meetings (decode room w x) b) (held d s 0)
      ∙ ap (λ k. walked (decode room w x) (meetings (decode room w x) b) (held d k 0)) z

  pub small_of : Lists room w → Small (decode room w x)
  unfolding decode
  small_of l =
      record {
        regions = omega (arith, l.counts 1 (omega arith), l.small.small 1 (omega arith));
        shells = omega (arith, l.counts 2 (omega arith), l.small.small 2 (omega arith));
        loops = omega (arith, l.counts 4 (omega arith), l.small.small 4 (omega arith));
        fins = omega (arith, l.counts 5 (omega arith), l.small.small 5 (omega arith));
        edges = omega (arith, l.counts 6 (omega arith), l.small.small 6 (omega arith));
      }

-- ---- what is refused

pub lists-open : (m : Model) (b : ℕ) → lists_refusal m b ≡ 0 → (body_there m b ≡ true) × (every (map (once m) (meetings m b)) ≡ true)
unfolding lists_refusal
lists-open m b e =
    let d = then-zero (2 unless body_there m b) (1 unless every (map (once m) (meetings m b))) e in
    (unless-zero 1 (body_there m b) d.0, unless-zero 0 (every (map (once m) (meetings m b))) d.1)

pub lists-refused : (m : Model) (b k n : ℕ) → n ≡ lists_refusal m b → (n ≡ 0 → ⊥) → n ≡ mend_refusal m b k
unfolding mend_refusal
lists-refused m b k n e h = by n h ∙ ap (λ i. i then rest) e
  where
    rest : ℕ
    rest = 8 unless every (map fits (changes m b)) && leb (length (changes m b)) k

    by : (n : ℕ) → (n ≡ 0 → ⊥) → n ≡ (n then rest)
    by zero g = absurd (g refl)
    by (suc n) g = refl

module _ (room w : List ℕ) (x : List Float) (b : ℕ) (lists : Lists room w) (free : lists_refusal (decode room w x) b ≡ 0) (d s d₁ s₁ : List ℕ) (n : ℕ) (long : MARKS ≤ length s) (zeros : s ≡ replicate (length s) 0)
    (p : Walks (model_of room w) (meetings (model_of room w) b) d s 0 d₁ s₁ n) (k : ℕ) (few : k < FULL) where
  counted : leb n k ≡ (every (map fits (changes (decode room w x) b)) && leb (length (changes (decode room w x) b)) k)
  counted =
      let o = lists-open (decode room w x) b free in
      ap (λ (z : State). leb z.count k) (walk-of room w x b d s d₁ s₁ n zeros p) ∙ walk_refused (decode room w x) b o.0 o.1 (small_of room w x lists) d (length s) long k few

  pub count-over : k < n → 8 ≡ mend_refusal (decode room w x) b k
  unfolding mend_refusal
  count-over h = rw (free, ← counted, lt-leb n k h)

  pub count_fits : n ≤ k → 0 ≡ mend_refusal (decode room w x) b k
  unfolding mend_refusal
  count_fits h = rw (free, ← counted, le-leb n k h)

-- ---- behind a number that is 0

length-words : (l : List Change) → length (changes_words l) ≡ 6 * length l
unfolding changes_words
length-words [] = refl
length-words (renamed k i old new ∷ l) = omega (arith, length-words l)
length-words (enlisted e place i ∷ l) = omega (arith, length-words l)

pub record Accepted (room w : List ℕ) (x : List Float) (b : ℕ) (marks nums : List ℕ) : Type 0 where
  pub reads : readable room w x ≡ true
  pub lists : Lists room w
  pub long : MARKS ≤ length marks
  pub refusal : mend_refusal (decode room w x) b (length nums / 6) ≡ 0
  pub there : body_there (decode room w x) b ≡ true
  pub single : every (map (once (decode room w x)) (meetings (decode room w x) b)) ≡ true
  pub room-there : every (map fits (changes (decode room w x) b)) ≡ true
  pub few : length (changes (decode room w x) b) ≤ length nums / 6

pub accepted : (room w : List ℕ) (x : List Float) (b : ℕ) (marks nums : List ℕ) → mend_number room w x b marks nums ≡ 0 → Accepted room w x b marks nums
unfolding mend_number mend_refusal
accepted room w x b marks nums e =
    let a = then-zero (9 unless readable room w x) _ e in
    let c = then-zero (8 unless leb MARKS (length marks)) _ a.1 in
    let d = then-zero (lists_refusal (decode room w x) b) _ c.1 in
    let o = lists-open (decode room w x) b d.0 in
    let f = and_both (every (map fits (changes (decode room w x) b))) (leb (length (changes (decode room w x) b)) (length nums / 6)) (unless-zero 7 _ d.1) in
    let r = unless-zero 8 (readable room w x) a.0 in
    record {
      reads = r;
      lists = lists_of room w x (fit_of room w x r);
      long = leb-true MARKS (length marks) (unless-zero 7 (leb MARKS (length marks)) c.0);
      refusal = c.1;
      there = o.0;
      single = o.1;
      room-there = f.0;
      few = leb-true _ _ f.1;
    }

module _ (room w : List ℕ) (x : List Float) (b : ℕ) (marks nums : List ℕ) (z : mend_number room w x b marks nums ≡ 0) (space : length nums / 6 < FULL) where
  module _ (s d₁ s₁ : List ℕ) (n : ℕ) (same : length s ≡ length marks) (zeros : s ≡ replicate (length s) 0) (p : Walks (model_of room w) (meetings (model_of room w) b) nums s 0 d₁ s₁ n) where
    whole : held d₁ s₁ n ≡ walk_of (decode room w x) b nums (length s)
    whole = walk-of room w x b nums s d₁ s₁ n zeros p

    pub count-told : n ≡ mend_count room w x b marks nums
    unfolding mend_count
    count-told =
        let o = accepted room w x b marks nums z in
        rw z (ap (λ (q : State). q.count) whole ∙ walk-counted (decode room w x) b o.there o.single (small_of room w x o.lists) nums (length s) (omega (arith, o.long)) o.room-there (omega (arith, o.few)))

    pub list-told : d₁ ≡ mend_list room w x b marks nums
    unfolding mend_list over
    list-told =
        let o = accepted room w x b marks nums z in
        let count : length (changes_words (changes_on room w x b)) ≡ 6 * length (changes_on room w x b) = length-words (changes_on room w x b) in
        let fits_in : 6 * length (changes_on room w x b) ≤ length nums = omega (arith, o.few, div-add-mod' (length nums) 6) in
        let told : d₁ ≡ changes_words (changes_on room w x b) ++ drop (6 * length (changes_on room w x b)) nums = ap (λ (q : State). q.list) whole ∙ walk-told (decode room w x) b o.there o.single (small_of room w x o.lists) nums (length s) (omega (arith, o.long)) o.room-there (omega (arith, o.few)) fits_in in
        let from : 6 * length (changes_on room w x b) ≡ 0 + length (changes_words (changes_on room w x b)) = omega (arith, count) in
        rw z (told ∙ ap (λ k. changes_words (changes_on room w x b) ++ drop k nums) from)

module _ (room w : List ℕ) (x : List Float) (b : ℕ) (marks nums : List ℕ) where
  -- the list is as long as it was
  pub list-long : (d : List ℕ) → d ≡ mend_list room w x b marks nums → length d ≡ length nums
  unfolding mend_list over
  list-long d h = ap length h ∙ by (mend_number room w x b marks nums) refl
    where
      ws : List ℕ
      ws = changes_words (changes_on room w x b)

      by : (n : ℕ) → mend_number room w x b marks nums ≡ n → length (unless_refused n (ws ++ drop (0 + length ws) nums) nums) ≡ length nums
      by zero e =
          let o = accepted room w x b marks nums e in
          simp (length-append, length-drop) (omega (arith, o.few, div-add-mod' (length nums) 6, length-words (changes_on room w x b)))
      by (suc n) e = refl

  module _ (z : mend_number room w x b marks nums ≡ 0) (n : ℕ) (h : n ≡ mend_count room w x b marks nums) where
    pub count-is : n ≡ length (changes_on room w x b)
    unfolding mend_count
    count-is = h ∙ rw z refl

    pub count-in : 6 * n ≤ length nums
    count-in = let o = accepted room w x b marks nums z in omega (arith, count-is, o.few, div-add-mod' (length nums) 6)

    -- the part of the list that was written
    pub part : (d : List ℕ) → d ≡ mend_list room w x b marks nums → take (6 * n) d ≡ changes_words (changes_on room w x b)
    unfolding mend_list over
    part d g =
        let e : d ≡ changes_words (changes_on room w x b) ++ drop (0 + length (changes_words (changes_on room w x b))) nums = g ∙ rw z refl in
        ap (take (6 * n)) e ∙ take_at (changes_words (changes_on room w x b)) (drop (0 + length (changes_words (changes_on room w x b))) nums) (6 * n) (length-words (changes_on room w x b) ∙ ap (λ k. 6 * k) (sym count-is))

  -- and so are the words of the tables
  pub words_long : (v : List ℕ) → v ≡ mend_words room w x b marks nums → length v ≡ length w
  unfolding mend_words
  words_long v h = ap length h ∙ by (mend_number room w x b marks nums)
    where
      by : (n : ℕ) → length (unless_refused n (made_words room w (changes_on room w x b)) w) ≡ length w
      by zero = as_long room w (changes_on room w x b)
      by (suc n) = refl
