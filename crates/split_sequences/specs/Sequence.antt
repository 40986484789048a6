-- Splits one after the other, whoever asks: the lent memory behind all of them (01, demand 3: "any sequence of splits, accepted or refused"). Definitions only.
use Rattle.std.specs.Prelude.{ℕ, cond, List, [], ◌∷◌, eqb, Float}
use Rattle.meaning.specs.Split.{Cut}
use Rattle.split_place.specs.SplitNumber.{split_number}
use Rattle.split_edge.specs.After.{split_words, split_reals}

-- each call has the words and the floats that the one before it left, whatever it answered
unfoldable pub calls_words : List ℕ → List ℕ → List Float → List Cut → List ℕ
calls_words room w x [] = w
calls_words room w x (c ∷ l) = calls_words room (split_words room w x c.edge c.fraction) (split_reals room w x c.edge c.fraction) l

unfoldable pub calls_reals : List ℕ → List ℕ → List Float → List Cut → List Float
calls_reals room w x [] = x
calls_reals room w x (c ∷ l) = calls_reals room (split_words room w x c.edge c.fraction) (split_reals room w x c.edge c.fraction) l

-- the edges of the accepted ones, in their order
unfoldable pub calls_edges : List ℕ → List ℕ → List Float → List Cut → List ℕ
calls_edges room w x [] = []
calls_edges room w x (c ∷ l) =
    let rest = calls_edges room (split_words room w x c.edge c.fraction) (split_reals room w x c.edge c.fraction) l in
    cond (eqb (split_number room w x c.edge c.fraction) 0) (c.edge ∷ rest) rest
