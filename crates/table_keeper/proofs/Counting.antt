-- The slots of a table count its pending rows, and so decide what `ask` answers.
use Rattle.std.proofs.Common.{◌≡◌, ℕ, true, sym, ◌∙◌, arith}
use Rattle.std.proofs.lemmas.List.{length-map}
use Rattle.rows.specs.declared.answers.Standing.{Standing}
use Rattle.rows.specs.Keys.{Key}
use Rattle.rows.specs.Meaning.{standing}
use Rattle.rows.proofs.Distinct.{same_length}
use Rattle.table_keeper.specs.declared.table.TableKeeper.{TableKeeper}
use Rattle.table_keeper.specs.Counts.{Counts, answered}
use Rattle.table_keeper.specs.Slots.{key_in, keys_in}
use Rattle.table_keeper.specs.Table.{slots_of, size, stand}
use Rattle.table_keeper.proofs.Moves.{pending-has}

-- There are as many pending rows as slots,
pub counted : (s : TableKeeper) → Counts (stand s) (size s)
counted s = record {
  keys = keys_in (slots_of s);
  apart = s.apart;
  exact = λ k. sym (pending-has s k);
  long = length-map (slots_of s) key_in ∙ sym s.slots.ok.0;
}

-- and no other number of them.
pub count_is : (s : TableKeeper) (n : ℕ) → Counts (stand s) n → n ≡ size s
count_is s n c =
    let m = counted s in
    sym c.long ∙ same_length c.keys m.keys c.apart m.apart (λ k. c.exact k ∙ sym (m.exact k)) ∙ m.long

-- what `ask` ensures of its answer
abbrev pub Told : TableKeeper → Key → Standing → Type 0
Told s k r = record { stands : (standing r).given (stand s k) ≡ true; places : (n : ℕ) → Counts (stand s) n → r ≡ answered (stand s k) n }

-- The answer that is given at a row's standing is the one by the number of pending rows.
pub told : (s : TableKeeper) (k : Key) (r : Standing) → (standing r).given (stand s k) ≡ true → Told s k r
told s k r e = record { stands = e; places = λ n c. let m = count_is s n c in grind arith }
