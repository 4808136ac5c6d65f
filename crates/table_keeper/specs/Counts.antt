-- How many rows are pending, and what that says of places.
use Rattle.std.specs.Prelude.{◌≡◌, ℕ, cond, List, length, nat_lt}
use Rattle.std.specs.Set.{is_member}
use Rattle.rows.specs.declared.answers.Standing.{Standing}
use Rattle.rows.specs.declared.answers.Standing.TheVariants.{Pending, Place, Neither}
use Rattle.rows.specs.Keys.{Key, same_key}
use Rattle.rows.specs.Meaning.{Stand, is_pending}
use Rattle.table_keeper.specs.Slots.{Distinct}

-- n rows are pending: there is a list of keys, none twice, that has exactly the pending rows, and its length is n.
pub record Counts (stands : Key → Stand) (n : ℕ) : Type 0 where
  pub keys : List Key
  pub apart : Distinct keys
  pub exact : (k : Key) → is_member same_key keys k ≡ is_pending (stands k)
  pub long : length keys ≡ n

-- What `ask` answers where n rows are pending: a row that is not among them has a place exactly if n is below 256.
abbrev pub answered : Stand → ℕ → Standing
answered s n = cond (is_pending s) Pending (cond (nat_lt n 256) Place Neither)
