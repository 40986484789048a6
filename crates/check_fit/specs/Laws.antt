-- What the proofs cite of a whole solid. Assumes nothing.
use Rattle.std.specs.Prelude.{ℕ, zero, suc, ◌+◌, ◌*◌, ◌<◌, ◌≡◌, Bool, true, false, ◌&&◌, ◌||◌, List, [], ◌∷◌, ◌++◌, eqb, length, get_or, take, Float}
use Rattle.std.proofs.Common.{arith, ◌∙◌, eqb-true, eq-eqb, ne_eqb}
use Rattle.std.proofs.Math.Path.{refl, sym, ap, ap₂, fun_ext}
use Rattle.std.proofs.Math.Option.{Option, none, some}
use Rattle.std.proofs.Math.Dec.{ltb}
use Rattle.std.proofs.lemmas.Bool.{eqb-false}
use Rattle.meaning.specs.Lists.{all, any, member, joined, listed, firsts}
use Rattle.meaning.specs.Model.{Model, body, shell, face}
use Rattle.meaning.specs.Walks.{shells_of, face_walk}
use Rattle.meaning.specs.Inquire.{is_solid}
use Rattle.meaning.specs.Faults.{solid_face, own_shell, own_shells, whole_solid}
use Rattle.meaning_list_laws.specs.Tests.{and_both, and-true, and_assoc, or-false}
use Rattle.meaning_list_laws.specs.Lists.{all_both}
use Rattle.memory_layout.specs.Layout.{word, words_of}
use Rattle.memory_layout.specs.Decode.{decode, kind_of}
use Rattle.memory_layout.specs.Entries.{list_of}
use Rattle.walk_marks.specs.Laws.{take_more}
use Rattle.walk_sources.specs.Sources.{sourced}
use Rattle.walk_visits.specs.Visits.{ids_of}
use Rattle.walk_paths.specs.Paths.{shell_list, face_path, face_list}
use Rattle.walk_answers.specs.Laws.{all-firsts-same, face-list}
use Rattle.check_fit.specs.Whole.{faced_in, solid_in, own_in, side_in, owns_in}

-- ---- some entry

any_snoc : (p : ℕ → Bool) (l : List ℕ) (y : ℕ) → any p (l ++ (y ∷ [])) ≡ (any p l || p y)
unfolding any
any_snoc p [] y = or-false (p y)
any_snoc p (z ∷ l) y = ap (λ b. p z || b) (any_snoc p l y) ∙ go (p z) (any p l) (p y)
  where
    go : (a b c : Bool) → (a || (b || c)) ≡ ((a || b) || c)
    go true b c = refl
    go false b c = refl

pub any_none : (p : ℕ → Bool) → any p [] ≡ false
unfolding any
any_none p = refl

pub any-turn : (p : ℕ → Bool) (l : List ℕ) (k : ℕ) (found x : Bool) → k < length l → found ≡ any p (take k l) → x ≡ p (get_or l k 0) → (found || x) ≡ any p (take (k + 1) l)
any-turn p l k found x h e d = rw (e, d, take_more l k 0 h) (sym (any_snoc p (take k l) (get_or l k 0)))

-- ---- a path of sources

pub member-sourced : (k s : ℕ) (l : List ℕ) → member (8 * s + k) (sourced k l) ≡ member s l
unfolding member sourced
member-sourced k s [] = refl
member-sourced k s (y ∷ l) = rw (member-sourced k s l, same (eqb s y) refl)
  where
    same : (b : Bool) → eqb s y ≡ b → eqb (8 * s + k) (8 * y + k) ≡ b
    same true e = eq-eqb (8 * s + k) (8 * y + k) (ap (λ n. 8 * n + k) (eqb-true s y e))
    same false e = ne_eqb (8 * s + k) (8 * y + k) (λ q. eqb-false s y e (omega arith))

-- what holds of all ids of a path holds of those of one source
pub all-part : (p : ℕ → Bool) (g : ℕ → List ℕ) (path : List ℕ) (q : ℕ) → q < length path → all p (joined g path) ≡ true → all p (g (get_or path q 0)) ≡ true
unfolding joined
all-part p g [] q h e = absurd (omega arith)
all-part p g (y ∷ l) zero h e = (and_both (all p (g y)) (all p (joined g l)) (sym (all_both p (g y) (joined g l)) ∙ e)).0
all-part p g (y ∷ l) (suc q) h e = all-part p g l q (omega arith) (and_both (all p (g y)) (all p (joined g l)) (sym (all_both p (g y) (joined g l)) ∙ e)).1

-- ---- as `meaning` says

pub solid-tag : (n : ℕ) → eqb n 3 ≡ is_solid (kind_of n)
solid-tag zero = refl
solid-tag (suc zero) = refl
solid-tag (suc (suc zero)) = refl
solid-tag (suc (suc (suc zero))) = refl
solid-tag (suc (suc (suc (suc n)))) = ne_eqb (suc (suc (suc (suc n)))) 3 (λ q. omega arith)

-- a test of an optional id, which none passes
abbrev side : (ℕ → Bool) → Option ℕ → Bool
side p none = true
side p (some s) = p s

two-sides : (p : ℕ → Bool) (a b : Option ℕ) → all p (listed a ++ listed b) ≡ (side p a && side p b)
unfolding all
two-sides p none none = refl
two-sides p none (some s) = and-true (p s)
two-sides p (some s) none = refl
two-sides p (some s) (some r) = ap (λ b. p s && b) (and-true (p r))

module _ (room w : List ℕ) (x : List Float) (b : ℕ) where
  abbrev m : Model
  m = decode room w x

  abbrev path : List ℕ
  path = face_path room w b

  faced-is : solid_face m b ≡ any (solid_in room w) (list_of room w 0 b)
  unfolding solid_face solid_in faced_in decode list_of
  faced-is = refl

  shells-are : shells_of m b ≡ shell_list room w b
  unfolding shell_list decode list_of
  shells-are = refl

  own_is : (f s : ℕ) → own_shell m b f s ≡ own_in room w path f s
  unfolding own_in face_path decode list_of
  own_is f s =
      and_assoc (ltb s (word w 2)) (member s (shells_of m b)) (member f (shell m s).faces)
      ∙ ap (λ a. ltb s (word w 2) && (a && member f (shell m s).faces)) (ap (member s) shells-are ∙ sym (member-sourced 2 s (shell_list room w b)))

  side-is : (f : ℕ) (o : Option ℕ) → side (own_shell m b f) o ≡ side_in room w path f o
  unfolding side_in
  side-is f none = refl
  side-is f (some s) = own_is f s

  owns-is : (f : ℕ) → own_shells m b f ≡ owns_in room w path f
  unfolding own_shells owns_in decode
  owns-is f =
      two-sides (own_shell m b f) (face m f).front (face m f).back
      ∙ ap₂ (λ a c. a && c) (side-is f (face m f).front) (side-is f (face m f).back)

  kind-is : is_solid (kind_of (word (words_of room w 0 b) 0)) ≡ is_solid (body m b).kind
  unfolding decode
  kind-is = refl

  faces-are : face_walk m b ≡ firsts (ids_of room w path)
  unfolding face_list
  faces-are = face-list room w x b

  pub whole_is : (eqb (word (words_of room w 0 b) 0) 3 && any (solid_in room w) (list_of room w 0 b) && all (owns_in room w path) (ids_of room w path)) ≡ whole_solid m b
  unfolding whole_solid
  whole_is =
      ap₂ (λ a c. a && c)
      (ap₂ (λ a c. a && c) (solid-tag (word (words_of room w 0 b) 0) ∙ kind-is) (sym faced-is))
      (sym (ap (λ p. all p (face_walk m b)) (fun_ext owns-is) ∙ ap (all (owns_in room w path)) faces-are ∙ all-firsts-same (owns_in room w path) (ids_of room w path)))
