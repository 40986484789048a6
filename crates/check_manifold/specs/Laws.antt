-- The manifold edges of a walk. Assumes nothing.
use Rattle.std.specs.Prelude.{ℕ, ◌+◌, ◌≤◌, ◌<◌, ◌≡◌, refl, Bool, true, false, List, [], ◌∷◌, ◌++◌, Float, length, get_or, take, drop}
use Rattle.std.proofs.Common.{arith, le_trans, sym, ◌∙◌, subst, append-nil, append_assoc, take-append-drop}
use Rattle.std.proofs.Math.Path.{ap}
use Rattle.meaning.specs.Lists.{member, joined, meet, meets, firsts}
use Rattle.meaning.specs.Model.{Model, Sense, positive, negative, has, fin, edge}
use Rattle.meaning.specs.Walks.{edge_walk}
use Rattle.meaning.specs.Faults.{Finding, only_if, fault, same_sense, manifold, manifold_edge}
use Rattle.meaning_list_laws.specs.Lists.{meet-old, meet-new, firsts-append, joined-append}
use Rattle.memory_layout.specs.Decode.{decode}
use Rattle.walk_marks.specs.Marks.{Marked}
use Rattle.walk_marks.specs.Laws.{joined-turn}
use Rattle.walk_visits.specs.Visits.{ids_of, Fresh}
use Rattle.walk_paths.specs.Paths.{edge_path, edge_list}
use Rattle.walk_answers.specs.Laws.{edge-list}
use Rattle.memory_records.specs.declared.records.Fin.{Fin}
use Rattle.memory_records.specs.Seen.{seen_sense, seen_fin}
use Rattle.check_reasons.specs.declared.Tally.{Tally}
use Rattle.check_reasons.specs.Log.{Noted, Enough, over}
use Rattle.check_reasons.specs.Laws.{noted-same, noted-then, enough-same, enough-first, enough-then, noted-over}
use Rattle.check_manifold.specs.Manifold.{alike, both_alike}

-- ---- equal senses

senses : (a b : Sense) → alike (seen_sense a) (seen_sense b) ≡ same_sense a b
unfolding seen_sense
senses positive positive = refl
senses positive negative = refl
senses negative positive = refl
senses negative negative = refl

module _ (m : Model) (i j : ℕ) where
  pub alike-first-not : has m.fins i ≡ false → false ≡ both_alike m i j
  alike-first-not h = rw h

  pub alike-second-not : has m.fins i ≡ true → has m.fins j ≡ false → false ≡ both_alike m i j
  alike-second-not h g = rw (h, g)

  pub alike-told : (x y : Fin) (b : Bool) → has m.fins i ≡ true → has m.fins j ≡ true → x ≡ seen_fin (fin m i) → y ≡ seen_fin (fin m j) → b ≡ alike x.sense y.sense → b ≡ both_alike m i j
  unfolding seen_fin
  alike-told x y b h g p q r =
      let s : b ≡ same_sense (fin m i).sense (fin m j).sense =
      r
      ∙ ap (λ (z : Fin). alike z.sense y.sense) p
      ∙ ap (λ (z : Fin). alike (seen_sense (fin m i).sense) z.sense) q
      ∙ senses (fin m i).sense (fin m j).sense in
      rw (h, g) s

-- ---- the fins of an edge

pub fins-not-two : (m : Model) (e : ℕ) (l : List ℕ) → (length l ≡ 2 → ⊥) → manifold m e l ≡ fault 19 e ∷ []
unfolding manifold
fins-not-two m e [] h = refl
fins-not-two m e (i ∷ []) h = refl
fins-not-two m e (i ∷ j ∷ []) h = absurd (h refl)
fins-not-two m e (i ∷ j ∷ k ∷ l) h = refl

pub fins-two : (m : Model) (e : ℕ) (l : List ℕ) (b : Bool) → length l ≡ 2 → b ≡ both_alike m (get_or l 0 0) (get_or l 1 0) → manifold m e l ≡ only_if b (fault 20 e)
unfolding manifold
fins-two m e [] b h p = absurd (omega arith)
fins-two m e (i ∷ []) b h p = absurd (omega arith)
fins-two m e (i ∷ j ∷ []) b h p = ap (λ (c : Bool). only_if c (fault 20 e)) (sym p)
fins-two m e (i ∷ j ∷ k ∷ l) b h p = absurd (omega arith)

pub edge-lacks : (m : Model) (e : ℕ) → has m.edges e ≡ false → manifold_edge m e ≡ []
unfolding manifold_edge
edge-lacks m e h = rw h

pub edge-has : (m : Model) (e : ℕ) (l : List ℕ) → has m.edges e ≡ true → l ≡ (edge m e).fins → manifold_edge m e ≡ manifold m e l
unfolding manifold_edge
edge-has m e l h q = rw (h, q)

-- ---- what is met later stands behind

-- the second list begins with the first
pub record Begins (s t : List ℕ) : Type 0 where
  pub rest : List ℕ
  pub same : t ≡ s ++ rest

meet-begins : (s : List ℕ) (y : ℕ) → Begins s (meet s y)
meet-begins s y = by (member y s) refl
  where
    by : (b : Bool) → member y s ≡ b → Begins s (meet s y)
    by true e = record { rest = []; same = meet-old s y e ∙ sym (append-nil s) }
    by false e = record { rest = y ∷ []; same = meet-new s y e }

meets-begins : (s l : List ℕ) → Begins s (meets s l)
unfolding meets
meets-begins s [] = record { rest = []; same = sym (append-nil s) }
meets-begins s (y ∷ l) =
    let a = meet-begins s y in
    let b = meets-begins (meet s y) l in
    record { rest = a.rest ++ b.rest; same = b.same ∙ ap (λ t. t ++ b.rest) a.same ∙ append_assoc s a.rest b.rest }

firsts-begin : (k l : List ℕ) → Begins (firsts k) (firsts (k ++ l))
firsts-begin k l = let a = meets-begins (firsts k) l in record { rest = a.rest; same = firsts-append k l ∙ a.same }

-- ---- a turn of the walk: the part of one more source

pub fresh-long : (before l part buf marks : List ℕ) (n k r : ℕ) → n ≤ k → l ≡ part → Fresh before l buf marks n r → Fresh before part buf marks k r
fresh-long before l part buf marks n k r h e s =
    record {
      short = le_trans s.short h;
      new = s.new ∙ ap (meets (firsts before)) e;
      marked = subst (λ q. Marked marks (before ++ q)) e s.marked;
    }

module _ (f : ℕ → List Finding) (g : ℕ → List ℕ) (path : List ℕ) (p : ℕ) (h : p < length path) (buf marks : List ℕ) (n r : ℕ)
    (s : Fresh (joined g (take p path)) (g (get_or path p 0)) buf marks n r) where
  more : firsts (joined g (take (p + 1) path)) ≡ firsts (joined g (take p path)) ++ take r buf
  more = ap firsts (joined-turn g path p h) ∙ firsts-append (joined g (take p path)) (g (get_or path p 0)) ∙ sym s.new

  behind : joined f (firsts (joined g (take (p + 1) path))) ≡ joined f (firsts (joined g (take p path))) ++ joined f (take r buf)
  behind = ap (joined f) more ∙ joined-append f (firsts (joined g (take p path))) (take r buf)

  pub walk-marked : Marked marks (joined g (take (p + 1) path))
  walk-marked = subst (Marked marks) (sym (joined-turn g path p h)) s.marked

  pub walk_turn : {d d₁ d₂ : List ℕ} {t t₁ t₂ : Tally} → Noted (joined f (firsts (joined g (take p path)))) d t d₁ t₁ → Noted (joined f (take r buf)) d₁ t₁ d₂ t₂
      → Noted (joined f (firsts (joined g (take (p + 1) path)))) d t d₂ t₂
  walk_turn a b = noted-same (sym behind) (noted-then a b)

  begins : Begins (firsts (joined g (take (p + 1) path))) (firsts (joined g path))
  begins =
      subst (λ l. Begins (firsts (joined g (take (p + 1) path))) (firsts l))
      (sym (joined-append g (take (p + 1) path) (drop (p + 1) path)) ∙ ap (joined g) (take-append-drop (p + 1) path))
      (firsts-begin (joined g (take (p + 1) path)) (joined g (drop (p + 1) path)))

  pub walk-enough : {d d₁ : List ℕ} {t t₁ : Tally} → Enough t (joined f (firsts (joined g path))) → Noted (joined f (firsts (joined g (take p path)))) d t d₁ t₁ → Enough t₁ (joined f (take r buf))
  walk-enough {d} {d₁} {t} {t₁} e a =
      let b = begins in
      let whole : joined f (firsts (joined g path)) ≡ (joined f (firsts (joined g (take p path))) ++ joined f (take r buf)) ++ joined f b.rest =
      ap (joined f) b.same ∙ joined-append f (firsts (joined g (take (p + 1) path))) b.rest ∙ ap (λ l. l ++ joined f b.rest) behind in
      enough-then (enough-first t _ _ (enough-same whole e)) a

-- where the first fault is all that is asked for and was found, what is behind it adds nothing
pub walk-over : (f : ℕ → List Finding) (g : ℕ → List ℕ) (path : List ℕ) (p : ℕ) {d d₁ : List ℕ} {t t₁ : Tally} → Noted (joined f (firsts (joined g (take p path)))) d t d₁ t₁ → over t₁ ≡ true
    → Noted (joined f (firsts (joined g path))) d t d₁ t₁
walk-over f g path p {d} {d₁} {t} {t₁} a e =
    let b : Begins (firsts (joined g (take p path))) (firsts (joined g path)) =
    subst (λ l. Begins (firsts (joined g (take p path))) (firsts l)) (sym (joined-append g (take p path) (drop p path)) ∙ ap (joined g) (take-append-drop p path))
    (firsts-begin (joined g (take p path)) (joined g (drop p path))) in
    noted-same (sym (ap (joined f) b.same ∙ joined-append f (firsts (joined g (take p path))) b.rest)) (noted-then a (noted-over (joined f b.rest) d₁ t₁ e))

-- ---- the walk of a body's edges, by its path

pub walk-told : (room w : List ℕ) (x : List Float) (b : ℕ) (l : List ℕ) → l ≡ edge_path room w b → edge_walk (decode room w x) b ≡ firsts (ids_of room w l)
unfolding edge_list
walk-told room w x b l e = edge-list room w x b ∙ ap (λ p. firsts (ids_of room w p)) (sym e)
