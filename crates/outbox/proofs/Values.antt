-- Laws of the values in row memory.
use Rattle.std.proofs.Common.{◌≡◌, ℕ, ◌+◌, ◌<◌, cond, List, [], ◌∷◌, ◌++◌, length, get_or, take, Some, sym, ap, ◌∙◌, arith}
use Rattle.std.proofs.lemmas.List.{reverse-append, take_more}
use Rattle.rows.specs.Keys.{Key, key_of, same_key}
use Rattle.outbox.specs.declared.memory.RowValue.{RowValue}
use Rattle.outbox.specs.Memory.{place_of}

-- the newest value of the row, where one more is written
pub place_push : (k : Key) (vs : List RowValue) (v : RowValue) → place_of k (vs ++ v ∷ []) ≡ cond (same_key (key_of v.row) k) (Some v.payload) (place_of k vs)
place_push k vs v = grind (arith, reverse-append vs (v ∷ []))

-- the same where the next of the values is looked at
pub place-more : (k : Key) (vs : List RowValue) (i : ℕ) (v : RowValue) → i < length vs → v ≡ get_or vs i v → place_of k (take (i + 1) vs) ≡ cond (same_key (key_of v.row) k) (Some v.payload) (place_of k (take i vs))
place-more k vs i v h e =
    ap (place_of k) (take_more vs i v h ∙ ap (λ x. take i vs ++ x ∷ []) (sym e)) ∙ place_push k (take i vs) v
