-- First in, first out, call by call.
use Rattle.std.proofs.Common.{◌≡◌, ℕ, List, [], ◌∷◌, ◌++◌, Some, None, Ok, Err, sym, ◌∙◌}
use Rattle.std.proofs.lemmas.List.{append-nil, append_assoc}
use Rattle.queue.specs.Runs.{Call, puts, takes, Run, accepted, taken}

-- over every run: what comes out, and then what still waits, is what waited and then what was accepted
pub in_order : {X : Type 0} (room : ℕ) (was : List X) (calls : List (Call X)) (is : List X) → Run room was calls is → taken calls ++ is ≡ was ++ accepted calls
in_order room was [] is run = run ∙ sym (append-nil was)
in_order room was (puts x (Ok u) ∷ calls) is run =
    let later = in_order room run.0 calls is run.2 in
    let added = run.1.0 in
    let moved = append_assoc was (x ∷ []) (accepted calls) in
    cc
in_order room was (puts x (Err full) ∷ calls) is run =
    let later = in_order room run.0 calls is run.2 in
    let same = run.1.0 in
    cc
in_order room was (takes (Some x) ∷ calls) is run =
    let later = in_order room run.0 calls is run.2 in
    let gone = run.1 in
    cc
in_order room was (takes None ∷ calls) is run =
    let later = in_order room run.0 calls is run.2 in
    let empty = run.1 in
    cc
