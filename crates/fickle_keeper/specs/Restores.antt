-- The keeper's law, with its proof: pledges that are settled again restore every row and every place.
use Rattle.std.specs.Prelude.{◌≡◌, refl}
use Rattle.std.proofs.Common.{sym, ap, ◌∙◌}
use Rattle.rows.specs.Meaning.{Same, Pairs, none, pair}
use Rattle.fickle_keeper.specs.declared.fickle.FickleKeeper.{FickleKeeper}
use Rattle.fickle_keeper.specs.Fickle.{stood, stand, Pledges, Settles}

-- Places come from `shut` alone, which no pledge and no settling changes.
shut_kept : {s t : FickleKeeper} → Pairs Pledges Settles s t → t.shut ≡ s.shut
shut_kept none = refl
shut_kept (pair {s} {a} {b} {c} {t} k p inner q rest) = shut_kept rest ∙ sym q.same ∙ shut_kept inner ∙ p.same

same_again : {s t : FickleKeeper} → Pairs Pledges Settles s t → Same stand s t
same_again none k = refl
same_again (pair {s} {a} {b} {c} {t} k p inner q rest) j =
    same_again rest j
    ∙ ap (λ o. stood o c.shut j) (q.before ∙ sym p.before)
    ∙ ap (λ b. stood s.held b j) (sym q.same ∙ shut_kept inner ∙ p.same)

pub restores : (s t : FickleKeeper) → Pairs Pledges Settles s t → Same stand s t
restores s t pairs = same_again pairs
