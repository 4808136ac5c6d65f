-- What has happened, told by the state that was reached.
use Rattle.std.proofs.Common.{◌≡◌, ℕ, Bool, true, false, not, ◌&&◌, ◌||◌, eqb, List, sym, refl, arith}
use Rattle.std.proofs.lemmas.Bool.{both_ways, not-true}
use Rattle.states.specs.declared.state.SessionState.{SessionState}
use Rattle.states.specs.declared.state.SessionState.TheVariants.{Unmapped, BeginSent, BeginReceived, Mapped, EndSent, Discarding, Stopped}
use Rattle.states.specs.declared.event.SessionEvent.{SessionEvent}
use Rattle.states.specs.declared.event.SessionEvent.TheVariants.{OurBegin, OurEnd, PeerBegin, PeerEnd, PeerFrame, OurFrame}
use Rattle.states.specs.declared.event.Verdict.{Verdict}
use Rattle.states.specs.declared.event.Verdict.TheVariants.{No, To, Runs, Mute, Drop}
use Rattle.states.specs.Table.{verdict, led}
use Rattle.states.specs.Laws.{Happening, Reached, new, more, is_our_begin, is_peer_begin, is_end, happened, is_mapped, MappedByBothBegins, StoppedIsFinal, DiscardingUntilPeerEnd}
use Rattle.states.proofs.Every.{every_bool, every_event, at_bool, at_state, at_event}

-- The state tells whether we began, whether the peer did and whether one of us ended; once one has ended, only that.
abbrev tells : SessionState → Bool → Bool → Bool → Bool
tells Unmapped ours peers over = not ours && (not peers && not over)
tells BeginSent ours peers over = ours && (not peers && not over)
tells BeginReceived ours peers over = not ours && (peers && not over)
tells Mapped ours peers over = ours && (peers && not over)
tells EndSent ours peers over = over
tells Discarding ours peers over = over
tells Stopped ours peers over = over

abbrev is_no : Verdict → Bool
is_no No = true
is_no (To t) = false
is_no Runs = false
is_no Mute = false
is_no Drop = false

is_no-true : (v : Verdict) → is_no v ≡ true → v ≡ No
is_no-true No e = refl
is_no-true (To t) e = absurd (both_ways false refl e)
is_no-true Runs e = absurd (both_ways false refl e)
is_no-true Mute e = absurd (both_ways false refl e)
is_no-true Drop e = absurd (both_ways false refl e)

-- An event that happens leads from a state that tells what happened to another one that does.
abbrev keeps : SessionState → SessionEvent → Bool → Bool → Bool → Bool → Bool
keeps s e plain ours peers over = not (tells s ours peers over) || (is_no (verdict s e) || tells (led s plain (verdict s e)) (is_our_begin e || ours) (is_peer_begin e || peers) (is_end e || over))

abbrev keeps_all : SessionState → SessionEvent → Bool
keeps_all s e = every_bool (λ plain. every_bool (λ ours. every_bool (λ peers. every_bool (keeps s e plain ours peers))))

-- computed over the whole table
keeps_at : (s : SessionState) (e : SessionEvent) (plain ours peers over : Bool) → keeps s e plain ours peers over ≡ true
keeps_at s e plain ours peers over =
    let a = at_state (λ t. every_event (keeps_all t)) refl s in
    let b = at_event (keeps_all s) a e in
    let c = at_bool (λ p. every_bool (λ o. every_bool (λ q. every_bool (keeps s e p o q)))) b plain in
    let d = at_bool (λ o. every_bool (λ q. every_bool (keeps s e plain o q))) c ours in
    let f = at_bool (λ q. every_bool (keeps s e plain ours q)) d peers in
    at_bool (keeps s e plain ours peers) f over

from_or : (a b c : Bool) → (not a || (b || c)) ≡ true → a ≡ true → b ≡ false → c ≡ true
from_or true false c t p q = t
from_or true true c t p q = absurd (both_ways true q refl)
from_or false b c t p q = absurd (both_ways false refl p)

not_so : (b : Bool) → (b ≡ true → ⊥) → b ≡ false
not_so true h = absurd (h refl)
not_so false h = refl

told : {es : List Happening} {s : SessionState} → Reached es s → tells s (happened is_our_begin es) (happened is_peer_begin es) (happened is_end es) ≡ true
told new = refl
told (more {es} {s} e r runs) =
    let ours = happened is_our_begin es in
    let peers = happened is_peer_begin es in
    let over = happened is_end es in
    let v = verdict s e.event in
    from_or (tells s ours peers over) (is_no v) (tells (led s (eqb e.condition 0) v) (is_our_begin e.event || ours) (is_peer_begin e.event || peers) (is_end e.event || over)) (keeps_at s e.event (eqb e.condition 0) ours peers over) (told r) (not_so (is_no v) (λ t. runs (is_no-true v t)))

abbrev same : Bool → Bool → Bool
same true b = b
same false b = not b

same_true : (a b : Bool) → same a b ≡ true → a ≡ b
same_true true b e = sym e
same_true false b e = sym (not-true b e)

-- A state that tells what happened is Mapped exactly when both began and neither ended.
abbrev agrees : SessionState → Bool → Bool → Bool → Bool
agrees s ours peers over = not (tells s ours peers over) || (false || same (is_mapped s) (ours && (peers && not over)))

agrees_at : (s : SessionState) (ours peers over : Bool) → agrees s ours peers over ≡ true
agrees_at s ours peers over =
    let a = at_state (λ t. every_bool (λ o. every_bool (λ q. every_bool (agrees t o q)))) refl s in
    let b = at_bool (λ o. every_bool (λ q. every_bool (agrees s o q))) a ours in
    let c = at_bool (λ q. every_bool (agrees s ours q)) b peers in
    at_bool (agrees s ours peers) c over

pub mapped_by_both_begins : MappedByBothBegins
mapped_by_both_begins es s r =
    let ours = happened is_our_begin es in
    let peers = happened is_peer_begin es in
    let over = happened is_end es in
    same_true (is_mapped s) (ours && (peers && not over)) (from_or (tells s ours peers over) false (same (is_mapped s) (ours && (peers && not over))) (agrees_at s ours peers over) (told r) refl)

pub stopped_is_final : StoppedIsFinal
stopped_is_final e = is_no-true (verdict Stopped e) (at_event (λ x. is_no (verdict Stopped x)) refl e)

pub discarding_until_peer_end : DiscardingUntilPeerEnd
discarding_until_peer_end PeerEnd t e = (refl, cc)
discarding_until_peer_end OurBegin t e = absurd (let z : ◌≡◌ {A = ℕ} 0 1 = cc in omega arith)
discarding_until_peer_end OurEnd t e = absurd (let z : ◌≡◌ {A = ℕ} 0 1 = cc in omega arith)
discarding_until_peer_end PeerBegin t e = absurd (let z : ◌≡◌ {A = ℕ} 0 1 = cc in omega arith)
discarding_until_peer_end PeerFrame t e = absurd (let z : ◌≡◌ {A = ℕ} 0 1 = cc in omega arith)
discarding_until_peer_end OurFrame t e = absurd (let z : ◌≡◌ {A = ℕ} 0 1 = cc in omega arith)
