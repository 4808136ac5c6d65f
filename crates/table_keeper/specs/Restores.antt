-- The keeper's law, with its proof: pledges that are settled again restore every row and every place.
use Rattle.std.specs.Prelude.{◌≡◌, refl}
use Rattle.std.proofs.Common.{sym, ap, ◌∙◌, ⊎_elim, arith}
use Rattle.rows.specs.Keys.{Key}
use Rattle.rows.specs.Meaning.{Same, Pairs, none, pair}
use Rattle.rows.proofs.Keys.{same_key_tells}
use Rattle.table_keeper.specs.declared.table.TableKeeper.{TableKeeper}
use Rattle.table_keeper.specs.Table.{size, held, stand, Pledges, Settles}

-- s and t hold the same, in as many slots.
record Alike (s t : TableKeeper) : Type 0 where
  rows : (j : Key) → held t j ≡ held s j
  slots : size t ≡ size s

alike : {s t : TableKeeper} → Pairs Pledges Settles s t → Alike s t
alike none = record { rows = λ j. refl; slots = refl }
alike (pair {s} {a} {b} {c} {t} k p within q rest) =
    let w = alike within in
    let r = alike rest in
    record {
      rows = λ j.
          ⊎_elim
          (λ (e, f). r.rows j ∙ ap (held c) f ∙ q.before ∙ sym p.before ∙ ap (held s) (sym f))
          (λ (e, n). r.rows j ∙ sym (q.others j n) ∙ w.rows j ∙ p.others j n)
          (same_key_tells j k);
      slots = omega (arith, r.slots, q.more, w.slots, p.more);
    }

pub restores : (s t : TableKeeper) → Pairs Pledges Settles s t → Same stand s t
restores s t p k = let a = alike p in rw (a.rows k, a.slots)
