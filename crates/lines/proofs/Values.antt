-- What a run over the words finds.
use denote.Param.Members.{Mut}
use Rattle.std.proofs.Common.{◌≡◌, ℕ, zero, suc, ◌<◌, ◌+◌, List, [], ◌∷◌, get_or, drop, length, None, Some, Option, IsTrue, IfSome, IsSomeAnd, MatchOption, option_map, Bor, refl, sym, ap, ◌∙◌, arith}
use Rattle.std.proofs.lemmas.List.{at_drop_more, at_drop_all}
use Rattle.std.proofs.lemmas.Option.{same_Some, none-some}
use Rattle.std.specs.Fn.{Called}
use Rattle.std.specs.Iterator.{YieldsFirstRef}
use Rattle.std.specs.Iterator.Runs.{Run, SomeRun, AllItemsGive, IsFirstToGive}
use Rattle.std.specs.Option.{option_or}
use Rattle.std.proofs.iter.Rest.{run_of_first_by}
use Rattle.lines.specs.declared.words.Words.{Words}
use Rattle.lines.specs.Words.{value_of, value_in, words_left}

-- words that give the key no value are passed over
value_in-drop : (key : List ℕ) (ws : List (List ℕ)) (i : ℕ) → ((k : ℕ) → k < i → value_of key (get_or ws k []) ≡ None) → value_in key ws ≡ value_in key (drop i ws)
value_in-drop key ws zero h = refl
value_in-drop key [] (suc i) h = refl
value_in-drop key (w ∷ ws) (suc i) h = ap (λ o. option_or o (value_in key ws)) (h 0 (omega arith)) ∙ value_in-drop key ws i (λ k m. h (suc k) (omega arith))

if_some : {X : Type 0} (P : X → Type 0) (o : Option X) → IsSomeAnd o P → IfSome o P
if_some P None h = tt
if_some P (Some x) h = h

-- f gives the value that a word gives the key: the run that `find_map` stops finds that of the first word with the key
module _ {F : Type 0} {g : Mut F (Bor (List ℕ) × Unit {0}) (Option (Bor (List ℕ)))} {f : F} (key : List ℕ)
    (computes : (x : Bor (List ℕ)) (r : Option (Bor (List ℕ))) (q : F) → Called g f (x, tt) r q → (q ≡ f) × (option_map (λ y. y.now) r ≡ value_of key x.now)) where
  abbrev Stops : Option (Bor (List ℕ)) → Run (YieldsFirstRef words_left) → Type 0
  Stops r p = MatchOption r (IsTrue p.whole × AllItemsGive p g f None) (λ y. (i : ℕ) × (i < p.len) × (p.len ≡ i + 1) × IsFirstToGive p g f (Some y) None i)

  gave : (o r : Option (Bor (List ℕ))) (w : List ℕ) → option_map (λ y. y.now) o ≡ Some w → IfSome o (λ x. Called g f (x, tt) r f) → option_map (λ y. y.now) r ≡ value_of key w
  gave None r w e c = absurd (none-some w e)
  gave (Some x) r w e c = (computes x r f c).1 ∙ ap (value_of key) (same_Some _ _ e)

  found : (r : Option (Bor (List ℕ))) (p : Run (YieldsFirstRef words_left)) → Stops r p → option_map (λ y. y.now) r ≡ value_in key (words_left p.from)
  found None p h =
      let it = (run_of_first_by (λ x. x.now) words_left p).1 in
      let ws = words_left p.from in
      let n = it.1 h.0 in
      sym (value_in-drop key ws (length ws) (λ k l. sym (gave (p.at k) None _ (it.2 k [] (omega (arith, n))) (h.1 (λ a r q c. (computes a.0 r q c).0) k)))
      ∙ at_drop_all (value_in key) ws (length ws) (omega arith))
  found (Some y) p h =
      let it = (run_of_first_by (λ x. x.now) words_left p).1 in
      let ws = words_left p.from in
      let i = h.0 in
      let first = h.3 (λ a r q c. (computes a.0 r q c).0) in
      sym (value_in-drop key ws i (λ k l. sym (gave (p.at k) None _ (it.2 k [] (omega (arith, h.1))) (if_some _ (p.at k) (first.1 k l))))
      ∙ at_drop_more (value_in key) ws i [] (omega (arith, h.1, it.0))
      ∙ ap (λ o. option_or o (value_in key (drop (i + 1) ws))) (sym (gave (p.at i) (Some y) _ (it.2 i [] h.1) (if_some _ (p.at i) first.0))))

  pub value_from_run : (r : Option (Bor (List ℕ))) (s : Words) (ws : List (List ℕ)) → SomeRun (YieldsFirstRef words_left) s (Stops r) → words_left s ≡ ws → option_map (λ y. y.now) r ≡ value_in key ws
  value_from_run r s ws h e = found r h.0 h.2 ∙ ap (λ s. value_in key (words_left s)) h.1 ∙ ap (value_in key) e
