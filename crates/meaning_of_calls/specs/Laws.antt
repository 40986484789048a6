-- A call that tests its refusals one after the other gives the answer of `meaning` behind those that come first. Assumes nothing.
use Prim.Native.Nat.{ℕ, zero, suc}
use Rattle.std.specs.Prelude.{◌≡◌, List, [], leb, length}
use Rattle.std.proofs.Math.Path.{refl}
use Rattle.geom_lines_planes.specs.Refuse.{◌unless◌, ◌then◌, answer}
use Rattle.meaning.specs.Refuse.{Answer, answered}
use Rattle.walk_answers.specs.Calls.{handed}
use Rattle.meaning_of_calls.specs.Shown.{◌else◌, shown, on_list, WalkIs}

-- a call that gives the refusal a first, and one that gives a, then b

module _ {A B C : Type 0} (is : B → C) (by : ℕ → C) (seen : A → B) where
  pub behind-one : (a n : ℕ) (v : A) → answer is by (a then n) (seen v) ≡ shown (λ r. is (seen r)) by (a else answered n v)
  behind-one zero zero v = refl
  behind-one zero (suc n) v = refl
  behind-one (suc a) n v = refl

  pub behind-two : (a b n : ℕ) (v : A) → answer is by (a then b then n) (seen v) ≡ shown (λ r. is (seen r)) by (a then b else answered n v)
  behind-two zero b n v = behind-one b n v
  behind-two (suc a) b n v = refl

-- a list that is handed back is an answer in which a refusal is the empty list
pub handed-answer : (n : ℕ) (l : List ℕ) → handed n l ≡ answer (λ k. k) (λ _. []) n l
unfolding handed
handed-answer zero l = refl
handed-answer (suc n) l = refl

-- a walk
module _ (l : List ℕ) where
  number-walked : (n : ℕ) → WalkIs (answered n l) n (handed n l)
  unfolding handed
  number-walked zero = record { number = refl; list = refl }
  number-walked (suc n) = record { number = refl; list = refl }

  pub behind-walk : (a b n space : ℕ)
      → WalkIs (on_list space (a then b else answered n l)) (a then b then n then 8 unless leb (length l) space) (handed (a then b then n then 8 unless leb (length l) space) l)
  behind-walk zero zero zero space = number-walked (8 unless leb (length l) space)
  behind-walk zero zero (suc n) space = number-walked (suc n)
  behind-walk zero (suc b) n space = number-walked (suc b)
  behind-walk (suc a) b n space = number-walked (suc a)

-- a call by an office: its refusal b stands right behind a, the call's first, which the number of before begins with
module _ {A B C : Type 0} (is : B → C) (by : ℕ → C) (show : A → C) (v : B) (d : Answer A) where
  pub office-one : (a b n : ℕ) → answer is by (a then n) v ≡ shown show by (a else d) → answer is by (a then b then a then n) v ≡ shown show by (a then b else d)
  office-one zero zero n e = e
  office-one zero (suc b) n e = refl
  office-one (suc a) b n e = refl

  pub office-two : (a b c n : ℕ) → answer is by (a then c then n) v ≡ shown show by (a then c else d) → answer is by (a then b then a then c then n) v ≡ shown show by (a then b then c else d)
  office-two zero zero c n e = e
  office-two zero (suc b) c n e = refl
  office-two (suc a) b c n e = refl

pub office-walk : (l : List ℕ) (d : Answer (List ℕ)) (space a b c n : ℕ) → WalkIs (on_list space (a then c else d)) (a then c then n) (handed (a then c then n) l)
    → WalkIs (on_list space (a then b then c else d)) (a then b then a then c then n) (handed (a then b then a then c then n) l)
unfolding handed
office-walk l d space zero zero c n h = h
office-walk l d space zero (suc b) c n h = record { number = refl; list = refl }
office-walk l d space (suc a) b c n h = record { number = refl; list = refl }
