-- Which clients are disconnected.
use Rattle.std.proofs.Common.{◌≡◌, ◌⊎◌, inl, inr, ◌<◌, ◌≤◌, ℕ, Bool, true, false, if◌then◌else◌, refl, ap}
use Rattle.std.proofs.lemmas.Bool.{le-ltb, lt-ltb}
use Rattle.std.specs.Prelude.{◌==◌, ◌/◌, nat_lt}
use Rattle.oa_gateway.proofs.Turned.{not_full}
use Rattle.oa_gateway.specs.Disconnects.{gives_way, has_rested, judged, judged_by_request}
use Rattle.oa_gateway.specs.declared.disconnects.Conduct.{Conduct}
use Rattle.oa_gateway.specs.declared.disconnects.Patience.{Patience}
use Rattle.oa_gateway.specs.declared.disconnects.Verdict.{Verdict}
use Rattle.oa_gateway.specs.declared.disconnects.Verdict.TheVariants.{Stays, Unread, Idle}

none_is_zero : (n : ℕ) → n ≡ 0 → (n == 0) ≡ true
none_is_zero n e = ap (λ (m : ℕ). m == 0) e

asks_in_time : (b i : Bool) (r : Verdict) → i ≡ false → r ≡ Stays → (if b then (if i then Idle else r) else r) ≡ Stays
asks_in_time true i r in_time e = rw in_time e
asks_in_time false i r in_time e = e

reads_in_time : (b u : Bool) (x r : Verdict) → x ≡ Stays → r ≡ Stays → (b ≡ true) ⊎ (u ≡ false) → (if b then x else if u then Unread else r) ≡ Stays
reads_in_time true u x r e f reads = e
reads_in_time false u x r e f (inl h) = absurd cc
reads_in_time false u x r e f (inr h) = rw h f

reads : (c : Conduct) (limit : ℕ) → (c.unread ≡ 0) ⊎ (c.unread_for ≤ limit) → ((c.unread == 0) ≡ true) ⊎ (nat_lt limit c.unread_for ≡ false)
reads c limit (inl h) = inl (none_is_zero c.unread h)
reads c limit (inr h) = inr (le-ltb limit c.unread_for h)

pub stays : (c : Conduct) (p : Patience) → (c.unread ≡ 0) ⊎ (c.unread_for ≤ p.stalled) → c.incomplete_for ≤ p.stalled → c.silent ≤ p.idle → judged c p ≡ Stays
stays c p read complete asks =
    let request : judged_by_request c p ≡ Stays = rw (le-ltb p.stalled c.incomplete_for complete) refl in
    reads_in_time (c.unread == 0) (nat_lt p.stalled c.unread_for) _ (judged_by_request c p)
    (asks_in_time c.asks_nothing (nat_lt p.idle c.silent) (judged_by_request c p) (le-ltb p.idle c.silent asks) request) request (reads c p.stalled read)

pub goes : (c : Conduct) (p : Patience) → 0 < c.unread → p.stalled < c.unread_for → judged c p ≡ Unread
goes c p some long = rw (not_full c.unread some, lt-ltb p.stalled c.unread_for long) refl

rests_not : (b u : Bool) → (b ≡ true) ⊎ (u ≡ false) → (if b then false else u) ≡ false
rests_not true u h = refl
rests_not false u (inl h) = absurd cc
rests_not false u (inr h) = h

keeps : (lacks full rested : Bool) → rested ≡ false → (if lacks then rested else if full then rested else false) ≡ false
keeps true full rested e = e
keeps false true rested e = e
keeps false false rested e = refl

pub keeps_its_replies : (c : Conduct) (used memory : ℕ) (lacks : Bool) → (c.unread ≡ 0) ⊎ (c.unread_for ≤ 1000) → gives_way c used memory lacks ≡ false
keeps_its_replies c used memory lacks read =
    keeps lacks (nat_lt (memory / 2) used) (has_rested c) (rests_not (c.unread == 0) (nat_lt 1000 c.unread_for) (reads c 1000 read))

pub keeps_while_half_is_free : (c : Conduct) (used memory : ℕ) → used ≤ memory / 2 → gives_way c used memory false ≡ false
keeps_while_half_is_free c used memory few = rw (le-ltb (memory / 2) used few) refl
