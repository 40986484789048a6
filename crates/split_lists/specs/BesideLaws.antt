-- Laws of places and of joined lists, turn by turn. Assumes nothing.
use Rattle.std.specs.Prelude.{ℕ, suc, ◌+◌, ◌-◌, ◌≤◌, ◌<◌, ◌≡◌, refl, List, [], ◌∷◌, ◌++◌, length, get_or, take, drop, set}
use Rattle.std.proofs.Common.{add-one, ap, ◌∙◌, append_assoc, length-append, take-append-drop, take-suc, take_all, drop-cons}
use native.Mathlib.Omega.{arith}
use Rattle.std.proofs.Math.Path.{sym}
use Rattle.std.proofs.Math.ListN.{length-drop}
use Rattle.std.proofs.Math.Seq.{length-take-le}
use Rattle.std.proofs.lemmas.List.{take-append-le}
use borrow.Author.Tests.{eq-eqb, ne_eqb, lt-ltb, le-ltb}
use Rattle.meaning.specs.Lists.{place, joined}
use Rattle.meaning_list_laws.specs.Lists.{joined-append, joined_snoc, drop-end}
use Rattle.memory_layout.specs.Layout.{word}
use Rattle.memory_layout.specs.Decode.{list_at}
use Rattle.memory_writes.specs.Put.{over}
use Rattle.memory_writes.specs.Over.{length_over, take-over, drop-at-over, part-written, over_none, over-behind, one_store}
use Rattle.split_lists.specs.Beside.{entries_for}
use Rattle.split_lists.specs.BesideFacts.{Written}

-- ---- places

pub place-hit : (x : ℕ) (l : List ℕ) (j : ℕ) → j < length l → x ≡ get_or l j 0 → place x l ≡ j + place x (drop j l) → j ≡ place x l
unfolding place
place-hit x l j h e p = let z : j + place x (drop j l) ≡ j + 0 = rw (drop-cons l j 0, eq-eqb x (get_or l j 0) e) in omega arith

pub place-miss : (x : ℕ) (l : List ℕ) (j : ℕ) → j < length l → (x ≡ get_or l j 0 → ⊥) → place x l ≡ j + place x (drop j l)
    → place x l ≡ j + 1 + place x (drop (j + 1) l)
unfolding place
place-miss x l j h e p =
    let z : place x (drop j l) ≡ suc (place x (drop (j + 1) l)) = rw (drop-cons l j 0, ne_eqb x (get_or l j 0) e, add-one) in omega arith

pub place_end : (x : ℕ) (l : List ℕ) (j : ℕ) → length l ≤ j → place x l ≡ j + place x (drop j l) → j ≡ place x l
unfolding place
place_end x l j h p = let z : place x (drop j l) ≡ 0 = rw (drop-end j l h) in omega arith

-- ---- joined lists

module _ (f : ℕ → List ℕ) (l : List ℕ) where
  pub joined-turn : (j : ℕ) → j < length l → joined f (take j l) ++ f (get_or l j 0) ≡ joined f (take (j + 1) l)
  joined-turn j h = rw (add-one, take-suc l j 0, joined_snoc)

  pub joined-part : (j : ℕ) → length (joined f (take j l)) ≤ length (joined f l)
  joined-part j =
      let e = ap length (ap (joined f) (sym (take-append-drop j l)) ∙ joined-append f (take j l) (drop j l)) in
      let g = length-append (joined f (take j l)) (joined f (drop j l)) in
      omega arith

  -- ---- what stands for the entries, written one after the other

  module _ (w₀ : List ℕ) (q : ℕ) where
    pub written_none : Written f l w₀ q 0 w₀ q
    unfolding joined
    written_none = record { so_far = omega arith; long = refl; behind = omega arith; list = sym (over_none q w₀) }

    module _ (fits : q + length (joined f l) ≤ length w₀) where
      module _ (j : ℕ) (w : List ℕ) (p : ℕ) (h : j < length l) (s : Written f l w₀ q j w p) where
        upto : q + length (joined f (take j l) ++ f (get_or l j 0)) ≤ length w₀
        upto = let t = ap length (joined-turn j h) in let r = joined-part (j + 1) in omega arith

        pub written-room : p + length (f (get_or l j 0)) ≤ length w
        written-room =
            let u = upto in
            let g = length-append (joined f (take j l)) (f (get_or l j 0)) in
            let b = s.behind in
            let n = s.long in
            omega arith

        pub written-turn : (v : List ℕ) (r : ℕ) → r ≡ p + length (f (get_or l j 0)) → v ≡ over p (f (get_or l j 0)) w → Written f l w₀ q (j + 1) v r
        written-turn v r e a =
            let g = length-append (joined f (take j l)) (f (get_or l j 0)) in
            let t = ap length (joined-turn j h) in
            let b = s.behind in
            record {
              so_far = omega arith;
              long = ap length a ∙ length_over p (f (get_or l j 0)) w written-room ∙ s.long;
              behind = omega arith;
              list =
                  a
                  ∙ ap (λ (n : ℕ). over n (f (get_or l j 0)) w) b
                  ∙ ap (over (q + length (joined f (take j l))) (f (get_or l j 0))) s.list
                  ∙ over-behind q (joined f (take j l)) (f (get_or l j 0)) w₀ upto
                  ∙ ap (λ (d : List ℕ). over q d w₀) (joined-turn j h);
            }

      pub written_all : (j : ℕ) (w : List ℕ) (p : ℕ) → length l ≤ j → Written f l w₀ q j w p → (p ≡ q + length (joined f l)) × (w ≡ over q (joined f l) w₀)
      written_all j w p h s =
          let e : joined f (take j l) ≡ joined f l = ap (joined f) (take_all j l h) in
          (s.behind ∙ ap (λ (d : List ℕ). q + length d) e, s.list ∙ ap (λ (d : List ℕ). over q d w₀) e)

-- ---- what stands for an entry

module _ (olds owners senses : List ℕ) (owner first i : ℕ) where
  pub not-old : length olds ≤ place i olds → entries_for olds owners senses owner first i ≡ i ∷ []
  unfolding entries_for
  not-old h = rw (le-ltb (place i olds) (length olds) h)

  module _ (h : place i olds < length olds) where
    pub not_own : (word owners (place i olds) ≡ owner → ⊥) → entries_for olds owners senses owner first i ≡ i ∷ []
    unfolding entries_for
    not_own o = rw (lt-ltb (place i olds) (length olds) h, ne_eqb (word owners (place i olds)) owner o)

    pub after-it : word owners (place i olds) ≡ owner → word senses (place i olds) ≡ 0 → entries_for olds owners senses owner first i ≡ i ∷ (first + place i olds) ∷ []
    unfolding entries_for
    after-it o s = rw (lt-ltb (place i olds) (length olds) h, eq-eqb (word owners (place i olds)) owner o, eq-eqb (word senses (place i olds)) 0 s)

    pub before-it : word owners (place i olds) ≡ owner → (word senses (place i olds) ≡ 0 → ⊥) → entries_for olds owners senses owner first i ≡ (first + place i olds) ∷ i ∷ []
    unfolding entries_for
    before-it o s = rw (lt-ltb (place i olds) (length olds) h, eq-eqb (word owners (place i olds)) owner o, ne_eqb (word senses (place i olds)) 0 s)

-- ---- a list copied, and written anew

-- the length in front of the entries
in-front : (w j : List ℕ) (at v : ℕ) → at + 1 + length j ≤ length w → over at (v ∷ []) (over (at + 1) j w) ≡ over at (v ∷ j) w
unfolding over
in-front w j at v h =
    let e : at + 1 + length j ≡ at + suc (length j) = omega arith in
    ap (λ (r : List ℕ). r ++ (v ∷ []) ++ drop (at + 1) (over (at + 1) j w)) (take-over (at + 1) at j w (omega arith) (omega arith))
    ∙ ap (λ (r : List ℕ). take at w ++ (v ∷ []) ++ r) (drop-at-over (at + 1) j w (omega arith))
    ∙ sym (append_assoc (take at w ++ (v ∷ [])) j (drop (at + 1 + length j) w))
    ∙ ap (λ (r : List ℕ). r ++ drop (at + 1 + length j) w) (append_assoc (take at w) (v ∷ []) j)
    ∙ ap (λ (n : ℕ). take at w ++ (v ∷ j) ++ drop n w) e

pub head-store : (w j : List ℕ) (at v : ℕ) → at + 1 + length j ≤ length w → set (over (at + 1) j w) at v ≡ over at (v ∷ j) w
head-store w j at v h =
    let n : length (over (at + 1) j w) ≡ length w = length_over (at + 1) j w h in
    one_store (over (at + 1) j w) at v (omega arith) ∙ in-front w j at v h

module _ (w copy : List ℕ) (at : ℕ) (whole : at + word w at < length w) (enough : word w at ≤ length copy) where
  abbrev source : List ℕ
  source = take (at + 1 + word w at - (at + 1)) (drop (at + 1) w)

  same_source : source ≡ list_at w at
  unfolding list_at
  same_source =
      let e : at + 1 + word w at - (at + 1) ≡ word w at = omega arith in
      rw (e, add-one)

  listed-length : length (list_at w at) ≡ word w at
  unfolding list_at
  listed-length = length-take-le (word w at) (drop (suc at) w) (simp length-drop (omega arith))

  pub copy-length : word w at ≡ length (take (word w at) copy)
  copy-length = sym (length-take-le (word w at) copy enough)

  pub copy-fits : 0 + length source ≤ length (take (word w at) copy)
  copy-fits = let e = ap length same_source in let n = listed-length in let g = copy-length in omega arith

  module _ (v : List ℕ) (e : v ≡ over 0 source (take (word w at) copy)) where
    pub copied : take (word w at) (v ++ drop (word w at) copy) ≡ list_at w at
    copied =
        let n = listed-length in
        let s = ap length same_source in
        let g : length (over 0 source (take (word w at) copy)) ≡ length (take (word w at) copy) = length_over 0 source (take (word w at) copy) copy-fits in
        let d = copy-length in
        let t = ap length e in
        take-append-le (word w at) v (drop (word w at) copy) (omega arith)
        ∙ ap (take (word w at)) e
        ∙ part-written 0 (word w at) source (take (word w at) copy) (s ∙ n) (omega arith)
        ∙ same_source

    pub copied-length : word w at ≡ length (take (word w at) (v ++ drop (word w at) copy))
    copied-length = sym (ap length copied ∙ listed-length)
