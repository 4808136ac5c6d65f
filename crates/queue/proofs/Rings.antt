-- A list that is read from a place on, going round: its length, one more at its end, and its first taken away.
use Rattle.std.proofs.Common.{◌≡◌, ℕ, zero, suc, ◌+◌, ◌-◌, ◌<◌, ◌≤◌, List, [], ◌∷◌, ◌++◌, length, get_or, take, drop, set, sym, refl, ap, ◌∙◌, ⊎_elim, not-suc-le-zero, mod-eq_of_lt, sub-one, arith}
use Rattle.std.proofs.Math.Nat.{mod-eq-sub-mod}
use Rattle.std.proofs.Math.Seq.{take-set-lt}
use Rattle.std.proofs.lemmas.Bool.{cases_lt}
use Rattle.std.proofs.lemmas.List.{append-nil, append_assoc, length-append, length-drop, length-take, length-take-le, take-append-le, take-set-le, take-take, drop-set-lt, drop-set-add, drop_all, drop_more, take_more, take_more_set, set-append_left, set-append_right}
use Rattle.queue.specs.Contents.{around, slot_after}

-- where the end is not passed, the place is the sum
pub slot_ahead : (h n c : ℕ) → h + n < c → slot_after h n c ≡ h + n
slot_ahead h n c lt = mod-eq_of_lt lt

-- where it is passed, the places up to the end are taken off
pub slot_wrapped : (h n c : ℕ) → h < c → n ≤ c → c ≤ h + n → slot_after h n c ≡ n - (c - h)
slot_wrapped h n c lt le past =
    let short : h + n - c < c = omega arith in
    let same : h + n - c ≡ n - (c - h) = omega arith in
    mod-eq-sub-mod past ∙ mod-eq_of_lt short ∙ same

-- the whole round is as long as the list
length_round : {X : Type 0} (xs : List X) (h : ℕ) → length (drop h xs ++ take h xs) ≡ length xs
length_round xs h = simp (length-append, length-drop, length-take) (omega arith)

-- n elements that are read are n, where the list has so many
pub length-around : {X : Type 0} (xs : List X) (h n : ℕ) → n ≤ length xs → length (around xs h n) ≡ n
length-around xs h n le =
    let whole = length_round xs h in
    let fits : n ≤ length (drop h xs ++ take h xs) = omega arith in
    length-take-le n (drop h xs ++ take h xs) fits

-- one more at the end, where the end has not gone round
put_ahead : {X : Type 0} (xs : List X) (h n : ℕ) (x : X) → h + n < length xs → around (set xs (h + n) x) h (n + 1) ≡ around xs h n ++ (x ∷ [])
put_ahead xs h n x lt =
    let after : h ≤ h + n = omega arith in
    let whole = length_round xs h in
    let back = length-drop h xs in
    let near : n < length (drop h xs) = omega arith in
    let fits : n < length (drop h xs ++ take h xs) = omega arith in
    rw (drop-set-add h xs n x, take-set-le h xs (h + n) x after, ← set-append_left (drop h xs) (take h xs) n x near) (take_more_set (drop h xs ++ take h xs) n x fits)

-- the same where the end has gone round
put_wrapped : {X : Type 0} (xs : List X) (h n : ℕ) (x : X) → h ≤ length xs → n < length xs → length xs - h ≤ n → around (set xs (n - (length xs - h)) x) h (n + 1) ≡ around xs h n ++ (x ∷ [])
put_wrapped xs h n x le lt past =
    let whole = length_round xs h in
    let back = length-drop h xs in
    let before : n - (length xs - h) < h = omega arith in
    let fits : n < length (drop h xs ++ take h xs) = omega arith in
    rw (drop-set-lt h xs (n - (length xs - h)) x before, take-set-lt h xs (n - (length xs - h)) x before, ← set-append_right (drop h xs) (take h xs) (length xs - h) n x back past) (take_more_set (drop h xs ++ take h xs) n x fits)

-- what is written into the slot after the last becomes the last
pub put_around : {X : Type 0} (xs ys : List X) (h n p : ℕ) (x : X) → h < length xs → n < length xs → p ≡ slot_after h n (length xs) → ys ≡ set xs p x → around ys h (n + 1) ≡ around xs h n ++ (x ∷ [])
put_around xs ys h n p x lt free at stored =
    ⊎_elim
    (λ ahead. let here = at ∙ slot_ahead h n (length xs) ahead in rw (stored, here) (put_ahead xs h n x ahead))
    (λ past.
    let here = at ∙ slot_wrapped h n (length xs) lt (omega arith) past in
    rw (stored, here) (put_wrapped xs h n x (omega arith) free (omega arith)))
    (cases_lt (h + n) (length xs))

-- the first, and what comes after it
first_and_rest : {X : Type 0} (xs : List X) (h n : ℕ) (d : X) → h < length xs → 0 < n → around xs h n ≡ get_or xs h d ∷ take (n - 1) (drop (h + 1) xs ++ take h xs)
first_and_rest xs h zero d lt some = absurd (not-suc-le-zero some)
first_and_rest xs h (suc m) d lt some = rw (drop_more xs h d lt, sub-one) refl

-- what comes after the first, read from the next place on
rest_ahead : {X : Type 0} (xs : List X) (h m : ℕ) (d : X) → h < length xs → m < length xs → take m (drop (h + 1) xs ++ take h xs) ≡ around xs (h + 1) m
rest_ahead xs h m d lt le =
    let others : length (drop (h + 1) xs ++ take h xs) ≡ length xs - 1 = simp (length-append, length-drop, length-take) (omega arith) in
    let fits : m ≤ length (drop (h + 1) xs ++ take h xs) = omega arith in
    rw (take_more xs h d lt, ← append_assoc) (sym (take-append-le m (drop (h + 1) xs ++ take h xs) (get_or xs h d ∷ []) fits))

-- the same where the next place is the first of all
rest_wrapped : {X : Type 0} (xs : List X) (h m : ℕ) → m < length xs → length xs ≡ h + 1 → take m (drop (h + 1) xs ++ take h xs) ≡ around xs 0 m
rest_wrapped xs h m le end =
    let past : length xs ≤ h + 1 = omega arith in
    let fits : m ≤ h = omega arith in
    rw (drop_all (h + 1) xs past, append-nil) (take-take m h xs fits)

-- the same at the place that comes one after, on either side of the end
rest_around : {X : Type 0} (xs : List X) (h m p : ℕ) (d : X) → h < length xs → m < length xs → p ≡ slot_after h 1 (length xs) → take m (drop (h + 1) xs ++ take h xs) ≡ around xs p m
rest_around xs h m p d lt le at =
    ⊎_elim
    (λ ahead. let here = at ∙ slot_ahead h 1 (length xs) ahead in rw here (rest_ahead xs h m d lt le))
    (λ past.
    let start : 1 - (length xs - h) ≡ 0 = omega arith in
    let here = at ∙ slot_wrapped h 1 (length xs) lt (omega arith) past ∙ start in
    rw here (rest_wrapped xs h m le (omega arith)))
    (cases_lt (h + 1) (length xs))

-- the list is what stands in the slot at its head, and then what is read from the slot after that
pub take-around : {X : Type 0} (xs : List X) (h n p : ℕ) (d : X) → h < length xs → 0 < n → n ≤ length xs → p ≡ slot_after h 1 (length xs) → around xs h n ≡ get_or xs h d ∷ around xs p (n - 1)
take-around xs h n p d lt some le at = first_and_rest xs h n d lt some ∙ ap (λ rest. get_or xs h d ∷ rest) (rest_around xs h (n - 1) p d lt (omega arith) at)
