-- The keeper's law, with its proof: pledges that are settled again leave every row and place as it was.
use Rattle.std.specs.Prelude.{◌≡◌, Bool, true, false, List, [], ◌∷◌, Some, None, Option, find, refl}
use Rattle.std.proofs.Common.{sym, ap, ◌∙◌, ⊎_elim}
use Rattle.std.proofs.lemmas.Bool.{both_ways, cases_Bool, cond-true, cond-false}
use Rattle.definitions.specs.declared.numbers.DeliveryState.{DeliveryState}
use Rattle.definitions.specs.declared.numbers.DeliveryState.TheVariants.{None as NoState}
use Rattle.rows.specs.Meaning.{is_free, Same, Pairs, none, pair}
use Rattle.marking_keeper.specs.declared.marking.MarkingKeeper.{MarkingKeeper}
use Rattle.marking_keeper.specs.Records.{naming, changed, marked, remarked}
use Rattle.marking_keeper.specs.Marking.{held, by_mark, by_first, stand, Pledges, Settles}

module _ {X : Type 0} (test : X → Bool) where
  -- a change back
  pub changed_back : (f g : X → X) → ((x : X) → test (f x) ≡ test x) → (xs : List X) → ((x : X) → find test xs ≡ Some x → g (f x) ≡ x) → changed test g (changed test f xs) ≡ xs
  changed_back f g kept [] back = refl
  changed_back f g kept (x ∷ xs) back =
      ⊎_elim
      (λ e.
      let k : test (f x) ≡ true = kept x ∙ e in
      let b : g (f x) ≡ x = back x (cond-true (test x) (Some x) (find test xs) e) in
      rw (e, k, b))
      (λ (e : test x ≡ false). simp e (ap (λ ys. x ∷ ys) (changed_back f g kept xs (λ y h. back y (cond-false (test x) (Some x) (find test xs) e ∙ h)))))
      (cases_Bool (test x))

free_mark : (m : Option DeliveryState) → is_free (by_mark m) ≡ true → m ≡ None
free_mark (Some s) e = absurd (both_ways false refl e)
free_mark None e = refl

pub same_from : (s t : MarkingKeeper) → held t ≡ held s → Same stand s t
same_from s t e j = ap (λ xs. by_first (find (naming j) xs)) e

-- Pledges that are settled again leave the very records.
same_records : {s t : MarkingKeeper} → Pairs Pledges Settles s t → held t ≡ held s
same_records none = refl
same_records (pair {s} {a} {b} {c} {t} k p inner q rest) =
    same_records rest ∙ q ∙ ap (remarked k None) (same_records inner ∙ p.marks)
    ∙ changed_back (naming k) (marked (Some NoState)) (marked None) (λ x. refl) (held s)
    (λ x f. ap (λ m. marked m x) (sym (free_mark x.mark (ap (λ o. is_free (by_first o)) (sym f) ∙ ap is_free p.place))))

pub restores : (s t : MarkingKeeper) → Pairs Pledges Settles s t → Same stand s t
restores s t p = same_from s t (same_records p)
