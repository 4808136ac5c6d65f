-- Lists whose elements each belong to a row: what an edit of such a list does to its rows.
use Rattle.std.proofs.Common.{◌≡◌, ◌≢◌, ℕ, zero, suc, le_of_suc-le-suc, ◌+◌, ◌<◌, Bool, true, false, not, cond, eqb, List, [], ◌∷◌, ◌++◌, map, length, get_or, take, drop, set, is_some, Some, None, Option, sym, ap, ◌∙◌, ⊎_elim, not-suc-le-zero, arith}
use Rattle.std.specs.List.{filter, find, position, remove}
use Rattle.std.specs.Option.{option_map}
use Rattle.std.specs.Set.{is_member}
use Rattle.std.proofs.lemmas.Bool.{both_ways, cases_lt}
use Rattle.std.proofs.lemmas.List.{length-map, map-append, take_more, take_all, drop_all, append-nil, take-map, drop-map}
use Rattle.std.proofs.lemmas.List.Folds.{list_any_at, find-set, find_past}
use Rattle.std.proofs.lemmas.List.Kept.{AllPairs-filter}
use Rattle.std.proofs.lemmas.List.Quantifiers.{all_pairs_push, all_pairs_remove, position-Some}
use Rattle.std.proofs.lemmas.Option.{get_or_from_slice_get}
use Rattle.std.proofs.Math.Seq.{map-set_same}
use Rattle.rows.specs.Keys.{Key, same_key}
use Rattle.rows.proofs.Keys.{same_key-Decides, same_key-laws, same_key_tells}
use Rattle.rows.proofs.Distinct.{Distinct, distinct_parts}
use Rattle.rows.proofs.Finds.{at_position, find_first}

module _ {X : Type 0} (key : X → Key) where
  -- whether the element is of the row k
  abbrev pub is_of : Key → X → Bool
  is_of k x = same_key (key x) k

  -- The element at i is of the row k.
  pub record Found (k : Key) (xs : List X) (i : ℕ) : Type 0 where
    pub within : i < length xs
    pub here : (d : X) → same_key k (key (get_or xs i d)) ≡ true

  -- A row that is found: behind the first element it is found one place on,
  found_tail : (k : Key) (x : X) (xs : List X) (i : ℕ) → Found k (x ∷ xs) (suc i) → Found k xs i
  found_tail k x xs i f = record { within = le_of_suc-le-suc f.within; here = f.here }

  -- it is the row of the element that is read there,
  pub found_key : (k : Key) (xs : List X) (i : ℕ) (x : X) → Found k xs i → x ≡ get_or xs i x → k ≡ key x
  found_key k xs i x f r = (same_key-Decides k (key (get_or xs i x))).0 (f.here x) ∙ ap key (sym r)

  -- and it is in the list.
  pub found_has : (k : Key) (xs : List X) (i : ℕ) → Found k xs i → is_member same_key (map key xs) k ≡ true
  found_has k [] i f = absurd (not-suc-le-zero f.within)
  found_has k (x ∷ xs) zero f = grind (arith, f.here x)
  found_has k (x ∷ xs) (suc i) f = grind (arith, found_has k xs i (found_tail k x xs i f))

  -- It is found at the first element of the row, and at no other where no two are of one row.
  pub found_first : (k : Key) (xs : List X) (i : ℕ) → position (is_of k) xs ≡ Some i → Found k xs i
  found_first k xs i e = record {
    within = (at_position (is_of k) xs i e).1;
    here = λ d. same_key-laws.symm k (key (get_or xs i d)) ∙ (position-Some (is_of k) xs i d e).1;
  }

  pub position_found : (k : Key) (xs : List X) (i : ℕ) → Distinct (map key xs) → Found k xs i → position (is_of k) xs ≡ Some i
  position_found k [] i apart f = absurd (not-suc-le-zero f.within)
  position_found k (x ∷ xs) zero apart f = grind (arith, same_key_tells, f.here x)
  position_found k (x ∷ xs) (suc i) apart f =
      let p = distinct_parts (key x) (map key xs) apart in
      let g = found_tail k x xs i f in
      grind (arith, position_found k xs i p.1 g, found_has k xs i g, p.0, same_key_tells)

  -- A row that is not in the list: one more element of another row does not add it,
  pub none_push : (k : Key) (xs : List X) (x : X) → is_member same_key (map key xs) k ≡ false → same_key k (key x) ≡ false → is_member same_key (map key (xs ++ x ∷ [])) k ≡ false
  none_push k [] x e f = grind arith
  none_push k (y ∷ xs) x e f = grind (arith, none_push k xs x)

  -- and a search for it goes on past an element of another row.
  pub none_more : (k : Key) (xs : List X) (i : ℕ) (x : X) → i < length xs → x ≡ get_or xs i x → is_member same_key (map key (take i xs)) k ≡ false → same_key k (key x) ≡ false → is_member same_key (map key (take (i + 1) xs)) k ≡ false
  none_more k xs i x h r e f =
      let more : take (i + 1) xs ≡ take i xs ++ x ∷ [] = take_more xs i x h ∙ ap (λ y. take i xs ++ y ∷ []) (sym r) in
      rw more (none_push k (take i xs) x e f)

  -- Rows stay distinct with one more that was not there, with one less, with another element of the same row, and with those that pass a test of keys.
  pub distinct_push : (xs : List X) (x : X) → Distinct (map key xs) → is_member same_key (map key xs) (key x) ≡ false → Distinct (map key (xs ++ x ∷ []))
  distinct_push xs x apart e =
      rw (map-append key xs (x ∷ [])) (all_pairs_push (λ j k. j ≢ k) (map key xs) (key x) apart (λ m d h q.
      both_ways (is_member same_key (map key xs) (key x)) e
      (list_any_at (same_key (key x)) (map key xs) m d h ((same_key-Decides (key x) (get_or (map key xs) m d)).1 (sym q)))))

  pub distinct_removed : (xs : List X) (i : ℕ) → Distinct (map key xs) → Distinct (map key (remove xs i))
  distinct_removed xs i apart =
      let len = length-map xs key in
      let same : map key (remove xs i) ≡ remove (map key xs) i = grind (arith, map-append key (take i xs) (drop (suc i) xs), take-map key i xs, drop-map key (suc i) xs) in
      rw same (⊎_elim
      (λ h. all_pairs_remove (λ j k. j ≢ k) (map key xs) i (omega arith) apart)
      (λ h. rw (take_all i (map key xs) (omega arith), drop_all (suc i) (map key xs) (omega arith), append-nil (map key xs)) apart)
      (cases_lt i (length xs)))

  pub distinct-set : (k : Key) (xs : List X) (i : ℕ) (y : X) → Distinct (map key xs) → Found k xs i → k ≡ key y → Distinct (map key (set xs i y))
  distinct-set k xs i y apart f e = rw (map-set_same key xs i y y (sym e ∙ (same_key-Decides k (key (get_or xs i y))).0 (f.here y))) apart

  keys-filter : (p : Key → Bool) (xs : List X) → map key (filter (λ x. p (key x)) xs) ≡ filter p (map key xs)
  keys-filter p [] = grind arith
  keys-filter p (x ∷ xs) = grind (arith, keys-filter p xs)

  pub distinct-filter : (p : Key → Bool) (xs : List X) → Distinct (map key xs) → Distinct (map key (filter (λ x. p (key x)) xs))
  distinct-filter p xs apart = rw (keys-filter p xs) (AllPairs-filter (λ j k. j ≢ k) p (map key xs) apart)

module _ {X V : Type 0} (key : X → Key) (value : X → V) where
  -- the value of the first element of the row k
  abbrev pub lookup : Key → List X → Option V
  lookup k xs = option_map value (find (is_of key k) xs)

  pub lookup-nil : (k : Key) → lookup k [] ≡ None
  lookup-nil k = grind arith

  pub lookup-cons : (k : Key) (x : X) (xs : List X) → lookup k (x ∷ xs) ≡ cond (same_key k (key x)) (Some (value x)) (lookup k xs)
  lookup-cons k x xs = grind (arith, same_key-laws.symm k (key x))

  -- A value is found exactly of the rows that are in the list,
  pub lookup-has : (k : Key) (xs : List X) → is_some (lookup k xs) ≡ is_member same_key (map key xs) k
  lookup-has k [] = grind arith
  lookup-has k (x ∷ xs) = grind (arith, lookup-has k xs, same_key-laws.symm k (key x))

  -- none of a row that is not,
  pub lookup-none : (k : Key) (xs : List X) → is_member same_key (map key xs) k ≡ false → lookup k xs ≡ None
  lookup-none k [] e = grind arith
  lookup-none k (x ∷ xs) e = grind (arith, lookup-none k xs, same_key-laws.symm k (key x))

  -- and of one that is found, that of the element that is read there.
  pub lookup_first : (k : Key) (xs : List X) (i : ℕ) (d : X) → position (is_of key k) xs ≡ Some i → lookup k xs ≡ Some (value (get_or xs i d))
  lookup_first k xs i d e =
      let (x, g, f) = find_first (is_of key k) xs i e in
      ap (option_map value) f ∙ ap (λ y. Some (value y)) (sym (get_or_from_slice_get xs i x d g))

  pub lookup_at : (k : Key) (xs : List X) (i : ℕ) (x : X) → Distinct (map key xs) → Found key k xs i → x ≡ get_or xs i x → lookup k xs ≡ Some (value x)
  lookup_at k xs i x apart f r = lookup_first k xs i x (position_found key k xs i apart f) ∙ ap (λ y. Some (value y)) (sym r)

  -- The rows after an edit: with one more,
  pub lookup_push : (j : Key) (xs : List X) (x : X) → is_member same_key (map key xs) (key x) ≡ false → lookup j (xs ++ x ∷ []) ≡ cond (same_key j (key x)) (Some (value x)) (lookup j xs)
  lookup_push j [] x e = grind (arith, same_key-laws.symm j (key x))
  lookup_push j (y ∷ xs) x e = grind (arith, lookup_push j xs x, same_key_tells)

  -- with another element of the one that is first, or that is found,
  pub lookup_set_first : (j k : Key) (xs : List X) (i : ℕ) (y : X) → position (is_of key k) xs ≡ Some i → k ≡ key y → lookup j (set xs i y) ≡ cond (same_key j k) (Some (value y)) (lookup j xs)
  lookup_set_first j k xs i y e f =
      let p = at_position (is_of key k) xs i e in
      let r = (found_first key k xs i e).here y in
      grind (arith, find-set (is_of key k) xs i y p.0 p.1, find_past (is_of key j) xs i y y, same_key_tells, r)

  pub lookup-set : (j k : Key) (xs : List X) (i : ℕ) (y : X) → Distinct (map key xs) → Found key k xs i → k ≡ key y → lookup j (set xs i y) ≡ cond (same_key j k) (Some (value y)) (lookup j xs)
  lookup-set j k xs i y apart f e = lookup_set_first j k xs i y (position_found key k xs i apart f) e

  -- with the one less that is found,
  pub lookup_removed : (j k : Key) (xs : List X) (i : ℕ) → Distinct (map key xs) → Found key k xs i → lookup j (remove xs i) ≡ cond (same_key j k) None (lookup j xs)
  lookup_removed j k [] i apart f = absurd (not-suc-le-zero f.within)
  lookup_removed j k (x ∷ xs) zero apart f =
      let n = lookup-none (key x) xs (distinct_parts (key x) (map key xs) apart).0 in
      grind (arith, n, same_key_tells, f.here x)
  lookup_removed j k (x ∷ xs) (suc i) apart f =
      let p = distinct_parts (key x) (map key xs) apart in
      let g = found_tail key k x xs i f in
      grind (arith, lookup_removed j k xs i p.1 g, found_has key k xs i g, p.0, same_key_tells)

  -- and with those of the other links alone.
  pub lookup_off_link : (j : Key) (l : ℕ) (xs : List X) → lookup j (filter (λ x. not (eqb (key x).link l)) xs) ≡ cond (eqb j.link l) None (lookup j xs)
  lookup_off_link j l [] = grind arith
  lookup_off_link j l (x ∷ xs) = grind (arith, lookup_off_link j l xs, same_key_tells)
