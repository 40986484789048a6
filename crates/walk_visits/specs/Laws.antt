-- Laws of first meetings over a path. Assumes nothing.
use Rattle.std.specs.Prelude.{ℕ, ◌+◌, ◌≤◌, ◌<◌, ◌≡◌, refl, Bool, true, false, cond, ◌&&◌, ◌||◌, List, [], ◌∷◌, ◌++◌, length, get_or, set, take, drop}
use Rattle.std.proofs.Common.{arith, add-one, zero-add, add-zero, sym, ap, ◌∙◌, subst, append_assoc, append-nil, length-append, length-take-le, drop-set-lt, take-suc-set, get_or-drop, drop-drop}
use Rattle.std.proofs.lemmas.List.{take-set-le}
use Rattle.meaning.specs.Lists.{all, member, joined, meet, meets, firsts}
use Rattle.meaning_list_laws.specs.Lists.{all_both, member-append, member-firsts, member-meets, meet-old, meet-new, meets-none, meets-snoc, firsts-append}
use Rattle.walk_marks.specs.Marks.{Marked, puts}
use Rattle.walk_marks.specs.Laws.{take_more, joined-turn, marked_more, marked-same, puts_none, puts-append, puts-taken, puts-length}
use Rattle.walk_sources.specs.Sources.{Took}
use Rattle.walk_visits.specs.Visits.{Fresh, Freshing, Visited}

-- ---- one source more

pub took-front : (part d buf : List ℕ) (n : ℕ) → Took part d buf n → 1024 ≤ length d → take n buf ≡ part
took-front part d buf n t h =
    let e : n ≡ length part = t.count in
    let s : n ≤ 1024 = t.short in
    ap (λ k. take k buf) e ∙ ap (take (length part)) t.list ∙ puts-taken d part (omega arith)

pub took-length : (part d buf : List ℕ) (n : ℕ) → Took part d buf n → length buf ≡ length d
took-length part d buf n t = ap length t.list ∙ puts-length d 0 part

pub listed-turn : (f : ℕ → List ℕ) (path : List ℕ) (q x : ℕ) (found t : Bool) (l : List ℕ) → q < length path → found ≡ member x (joined f (take q path)) → t ≡ member x l
    → l ≡ f (get_or path q 0) → (found || t) ≡ member x (joined f (take (q + 1) path))
listed-turn f path q x found t l h e g s =
    cc (ap (member x) (joined-turn f path q h), member-append x (joined f (take q path)) (f (get_or path q 0)), ap (member x) s)

pub below-turn : (f : ℕ → List ℕ) (path : List ℕ) (q : ℕ) (p : ℕ → Bool) (ok t : Bool) (l : List ℕ) → q < length path → ok ≡ all p (joined f (take q path)) → t ≡ all p l
    → l ≡ f (get_or path q 0) → (ok && t) ≡ all p (joined f (take (q + 1) path))
below-turn f path q p ok t l h e g s =
    cc (ap (all p) (joined-turn f path q h), all_both p (joined f (take q path)) (f (get_or path q 0)), ap (all p) s)

-- ---- one id more

pub counted-short : (b : Bool) (m r : ℕ) → r ≡ cond b m (m + 1) → r ≤ m + 1
counted-short true m r e = omega arith
counted-short false m r e = omega arith

pub fresh-none : (before buf marks : List ℕ) → Marked marks before → Freshing before buf buf marks 0 0
fresh-none before buf marks s =
    record {
      new = append-nil (firsts before) ∙ sym (meets-none (firsts before));
      rest = refl;
      marked = subst (Marked marks) (sym (append-nil before)) s;
    }

module _ (before buf₀ buf marks : List ℕ) (k m : ℕ) (s : Freshing before buf₀ buf marks k m) where
  -- what was met, by the ids that are new or by all that were looked at
  pub fresh-same : (y : ℕ) → member y (before ++ take m buf) ≡ member y (before ++ take k buf₀)
  fresh-same y =
      cc (
        member-append y before (take m buf),
        member-append y (firsts before) (take m buf),
        member-firsts y before,
        ap (member y) s.new,
        member-meets y (firsts before) (take k buf₀),
        member-append y before (take k buf₀),
      )

  pub fresh-marked : Marked marks (before ++ take m buf)
  fresh-marked = marked-same marks (before ++ take k buf₀) (before ++ take m buf) s.marked (λ y. sym (fresh-same y))

  module _ (h : m ≤ k) (g : k < length buf₀) (len : length buf ≡ length buf₀) where
    next-id : get_or buf k 0 ≡ get_or buf₀ k 0
    next-id =
        ap (λ n. get_or buf n 0) (sym (add-zero k)) ∙ sym (get_or-drop k buf 0 0) ∙ ap (λ l. get_or l 0 0) s.rest ∙ get_or-drop k buf₀ 0 0 ∙ ap (λ n. get_or buf₀ n 0) (add-zero k)

    met-more : meets (firsts before) (take (k + 1) buf₀) ≡ meet (firsts before ++ take m buf) (get_or buf k 0)
    met-more =
        ap (meets (firsts before)) (take_more buf₀ k 0 g)
        ∙ meets-snoc (firsts before) (take k buf₀) (get_or buf₀ k 0)
        ∙ ap (λ l. meet l (get_or buf₀ k 0)) (sym s.new)
        ∙ ap (meet (firsts before ++ take m buf)) (sym next-id)

    new-more : (t : Bool) → member (get_or buf k 0) (firsts before ++ take m buf) ≡ t
        → firsts before ++ take (cond t m (m + 1)) (set buf m (get_or buf k 0)) ≡ meet (firsts before ++ take m buf) (get_or buf k 0)
    new-more true e = ap (λ l. firsts before ++ l) (take-set-le m buf m (get_or buf k 0) (omega arith)) ∙ sym (meet-old (firsts before ++ take m buf) (get_or buf k 0) e)
    new-more false e =
        ap (λ n. firsts before ++ take n (set buf m (get_or buf k 0))) (add-one m)
        ∙ ap (λ l. firsts before ++ l) (take-suc-set buf m (get_or buf k 0) (omega arith))
        ∙ sym (append_assoc (firsts before) (take m buf) (get_or buf k 0 ∷ []))
        ∙ sym (meet-new (firsts before ++ take m buf) (get_or buf k 0) e)

    rest_more : (d : List ℕ) → drop (k + 1) d ≡ drop 1 (drop k d)
    rest_more d = sym (drop-drop 1 k d)

    pub fresh-turn : (seen : Bool) (next : List ℕ) (marked : List ℕ) (r : ℕ) → seen ≡ member (get_or buf k 0) (before ++ take m buf) → marked ≡ set marks (get_or buf k 0) 1
        → next ≡ set buf m (get_or buf k 0) → r ≡ cond seen m (m + 1) → Freshing before buf₀ next marked (k + 1) r
    fresh-turn seen next marked r e em eb er =
        let x : ℕ = get_or buf k 0 in
        let met : member x (firsts before ++ take m buf) ≡ seen =
        member-append x (firsts before) (take m buf) ∙ ap (λ b. b || member x (take m buf)) (member-firsts x before) ∙ sym (member-append x before (take m buf)) ∙ sym e in
        record {
          new = ap (λ n. firsts before ++ take n next) er ∙ ap (λ l. firsts before ++ take (cond seen m (m + 1)) l) eb ∙ new-more seen met ∙ sym met-more;
          rest =
              ap (drop (k + 1)) eb
              ∙ drop-set-lt (k + 1) buf m x (omega arith)
              ∙ rest_more buf
              ∙ ap (drop 1) s.rest
              ∙ sym (rest_more buf₀);
          marked =
              subst (λ l. Marked marked (before ++ l)) (ap (λ y. take k buf₀ ++ (y ∷ [])) next-id ∙ sym (take_more buf₀ k 0 g))
              (subst (Marked marked) (append_assoc before (take k buf₀) (x ∷ []))
              (subst (λ t. Marked t ((before ++ take k buf₀) ++ (x ∷ []))) (sym em) (marked_more marks (before ++ take k buf₀) x s.marked)));
        }

pub fresh-done : (before buf₀ buf marks : List ℕ) (n k m : ℕ) → k ≡ n → m ≤ n → Freshing before buf₀ buf marks k m → Fresh before (take n buf₀) buf marks n m
fresh-done before buf₀ buf marks n k m e h s =
    record {
      short = h;
      new = s.new ∙ ap (λ i. meets (firsts before) (take i buf₀)) e;
      marked = subst (λ i. Marked marks (before ++ take i buf₀)) e s.marked;
    }

-- ---- one part more

pub visit-none : (f : ℕ → List ℕ) (path out : List ℕ) → Visited (joined f (take 0 path)) out out 0
unfolding joined meets
visit-none f path out = record { count = refl; list = sym (puts_none out 0) }

pub visit-turn : (f : ℕ → List ℕ) (path out₀ out next part buf marks : List ℕ) (p n k m : ℕ) → p < length path → m ≤ length buf → part ≡ f (get_or path p 0)
    → Visited (joined f (take p path)) out₀ out n → Fresh (joined f (take p path)) part buf marks k m → next ≡ puts out n (take m buf)
    → (Visited (joined f (take (p + 1) path)) out₀ next (n + m)) × (Marked marks (joined f (take (p + 1) path)))
visit-turn f path out₀ out next part buf marks p n k m h short same v s q =
    let a : List ℕ = joined f (take p path) in
    let more : joined f (take (p + 1) path) ≡ a ++ part = joined-turn f path p h ∙ ap (λ l. a ++ l) (sym same) in
    let all-met : firsts (joined f (take (p + 1) path)) ≡ firsts a ++ take m buf = ap firsts more ∙ firsts-append a part ∙ sym s.new in
    let place : n ≡ 0 + length (firsts a) = v.count ∙ sym (zero-add (length (firsts a))) in (
      record {
        count = omega (arith, v.count, ap length all-met, length-append (firsts a) (take m buf), length-take-le m buf short);
        list =
            q
            ∙ ap (λ o. puts o n (take m buf)) v.list
            ∙ ap (λ i. puts (puts out₀ 0 (firsts a)) i (take m buf)) place
            ∙ sym (puts-append out₀ 0 (firsts a) (take m buf))
            ∙ ap (puts out₀ 0) (sym all-met);
      },
      subst (Marked marks) (sym more) s.marked,
    )
