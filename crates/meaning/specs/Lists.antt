-- Plain functions on lists and on optional ids, of which the other files are made. Definitions only.
use Rattle.std.specs.Prelude.{ℕ, zero, suc, ◌+◌, Bool, true, false, cond, ◌&&◌, ◌||◌, List, [], ◌∷◌, ◌++◌, eqb}
use Rattle.std.proofs.Math.Option.{Option, none, some}

-- u, u + 1, .., u + n - 1
unfoldable pub run : ℕ → ℕ → List ℕ
run u zero = []
run u (suc n) = run u n ++ ((u + n) ∷ [])

-- p holds of every number below n
unfoldable pub all_below : (ℕ → Bool) → ℕ → Bool
all_below p zero = true
all_below p (suc n) = all_below p n && p n

-- p holds of every entry
unfoldable pub all : (ℕ → Bool) → List ℕ → Bool
all p [] = true
all p (x ∷ l) = p x && all p l

-- p holds of some entry
unfoldable pub any : (ℕ → Bool) → List ℕ → Bool
any p [] = false
any p (x ∷ l) = p x || any p l

-- every test of a list passes
unfoldable pub every : List Bool → Bool
every [] = true
every (b ∷ l) = b && every l

-- x is an entry
unfoldable pub member : ℕ → List ℕ → Bool
member x [] = false
member x (y ∷ l) = eqb x y || member x l

-- how often x is an entry
unfoldable pub count : ℕ → List ℕ → ℕ
count x [] = 0
count x (y ∷ l) = let n = count x l in cond (eqb x y) (suc n) n

-- how many entries pass a test
unfoldable pub count_if : (ℕ → Bool) → List ℕ → ℕ
count_if p [] = 0
count_if p (x ∷ l) = let n = count_if p l in cond (p x) (suc n) n

-- how many entries stand before the first x
unfoldable pub place : ℕ → List ℕ → ℕ
place x [] = 0
place x (y ∷ l) = let n = suc (place x l) in cond (eqb x y) 0 n

module _ {A : Type 0} where
  -- the lists of the entries, one after the other
  unfoldable pub joined : (ℕ → List A) → List ℕ → List A
  joined f [] = []
  joined f (x ∷ l) = f x ++ joined f l

  -- the entries from the second on, then the first
  abbrev pub rotated : List A → List A
  rotated [] = []
  rotated (x ∷ l) = l ++ (x ∷ [])

-- one more entry, unless it is there already (model.rs, `push_unique`)
unfoldable pub meet : List ℕ → ℕ → List ℕ
meet seen x = cond (member x seen) seen (seen ++ (x ∷ []))

-- the entries of a list, met one after the other
unfoldable pub meets : List ℕ → List ℕ → List ℕ
meets seen [] = seen
meets seen (x ∷ l) = meets (meet seen x) l

-- 01, "each at its first meeting"
abbrev pub firsts : List ℕ → List ℕ
firsts l = meets [] l

-- ---- optional ids

-- the id, if there is one (Rust's `flatten`)
abbrev pub listed : Option ℕ → List ℕ
listed none = []
listed (some x) = x ∷ []

-- the id, and 0 where there is none: for use behind a test that there is one
abbrev pub the : Option ℕ → ℕ
the none = 0
the (some x) = x

abbrev pub is_some : Option ℕ → Bool
is_some none = false
is_some (some x) = true

-- it is this id
abbrev pub is : Option ℕ → ℕ → Bool
is none y = false
is (some x) y = eqb x y

-- both are none, or both are the same id
abbrev pub same : Option ℕ → Option ℕ → Bool
same none none = true
same none (some y) = false
same (some x) none = false
same (some x) (some y) = eqb x y
