-- Records hold one list of bodies, and one end of it.
use Rattle.std.proofs.Common.{◌≡◌, ◌⊎◌, ◌≤◌, ◌<◌, ℕ, ◌+◌, true, false, List, ◌++◌, length, take, drop, refl, sym, ap, ◌∙◌, inl, inr, arith}
use Rattle.std.specs.Prelude.{nat_lt, if◌then◌else◌}
use Rattle.std.proofs.lemmas.List.{length-append, take_at, drop_at}
use Rattle.std.specs.Int.{w32, from_le_bytes}
use Rattle.oa_model.specs.promise.Limits.{max_request_bytes}
use Rattle.oa_frame.specs.declared.ends.End.{End}
use Rattle.oa_frame.specs.declared.ends.End.TheVariants.{Closed, Cut, TooLong, BadHex, ReadFault, WriteFault}
use Rattle.oa_frame.specs.promise.Framings.{Length, NextRecord, RecordStop, SaysLength, records}
use Rattle.oa_frame.proofs.OneReading.{IsDecided}

-- the number that four bytes say, and what follows them
one_head : (bytes head head' more more' : List ℕ) (n n' : ℕ) → SaysLength head n → SaysLength head' n' → bytes ≡ head ++ more → bytes ≡ head' ++ more'
    → (n ≡ n') × (more ≡ more')
one_head bytes head head' more more' n n' s s' e e' =
    let both = sym e ∙ e' in
    let same : head ≡ head' = sym (take_at head more 4 s.four) ∙ ap (take 4) both ∙ take_at head' more' 4 s'.four in
    (sym s.says ∙ ap (from_le_bytes w32) same ∙ s'.says, sym (drop_at head more 4 s.four) ∙ ap (drop 4) both ∙ drop_at head' more' 4 s'.four)

one_body : (bytes body other mid mid' : List ℕ) → NextRecord bytes body mid → NextRecord bytes other mid' → (body ≡ other) × (mid ≡ mid')
one_body bytes body other mid mid' a b =
    let h = one_head bytes a.head b.head (body ++ mid) (other ++ mid') (length body) (length other) a.says b.says a.whole b.whole in (
      sym (take_at body mid (length body) refl) ∙ ap (take (length body)) h.1 ∙ take_at other mid' (length body) (sym h.0),
      sym (drop_at body mid (length body) refl) ∙ ap (drop (length body)) h.1 ∙ drop_at other mid' (length body) (sym h.0),
    )

-- the end at a record of this length that is no body, and at bytes that begin with no body
head_end : ℕ → End
head_end n = if nat_lt n 1 then Closed else (if nat_lt max_request_bytes n then TooLong else Cut)

record_end : List ℕ → End
record_end bytes = if nat_lt (length bytes) 1 then Closed else (if nat_lt (length bytes) 4 then Cut else head_end (from_le_bytes w32 (take 4 bytes)))

long : (bytes head more : List ℕ) (n : ℕ) → SaysLength head n → bytes ≡ head ++ more → record_end bytes ≡ head_end n
unfolding record_end
long bytes head more n s e =
    let four = s.four in
    let len : length bytes ≡ 4 + length more = ap length e ∙ length-append head more ∙ ap (λ k. k + length more) four in
    let a : nat_lt (length bytes) 1 ≡ false = search (arith, len) in
    let b : nat_lt (length bytes) 4 ≡ false = search (arith, len) in
    let said : from_le_bytes w32 (take 4 bytes) ≡ n = ap (λ l. from_le_bytes w32 (take 4 l)) e ∙ ap (from_le_bytes w32) (take_at head more 4 four) ∙ s.says in
    rw (a, b, said) refl

ends : (why : End) (bytes rest : List ℕ) → RecordStop why bytes rest → (why ≡ ReadFault → ⊥) → why ≡ record_end bytes
unfolding record_end head_end
ends Closed bytes rest (inl s) fair = rw s.0 refl
ends Closed bytes rest (inr l) fair =
    let none : nat_lt l.n 1 ≡ true = let is = l.is in search (arith, is) in
    sym (long bytes l.head rest l.n l.says l.whole ∙ rw none refl)
ends Cut bytes rest s fair = cut s.some s.few
  where
    cut : 0 < length bytes → (length bytes < 4)
        ⊎ ((more : List ℕ) × Length (λ n. (0 < n) × (n ≤ max_request_bytes) × (length more < n)) bytes more) → Cut ≡ record_end bytes
    cut some (inl few) =
        let a : nat_lt (length bytes) 1 ≡ false = search (arith, some) in
        let b : nat_lt (length bytes) 4 ≡ true = search (arith, few) in
        rw (a, b) refl
    cut some (inr l) =
        let low = l.1.is.0 in
        let high = l.1.is.1 in
        let a : nat_lt l.1.n 1 ≡ false = search (arith, low) in
        let b : nat_lt max_request_bytes l.1.n ≡ false = search (arith, high) in
        sym (long bytes l.1.head l.0 l.1.n l.1.says l.1.whole ∙ rw (a, b) refl)
ends TooLong bytes rest l fair =
    let high = l.is in
    let a : nat_lt l.n 1 ≡ false = search (arith, high) in
    let b : nat_lt max_request_bytes l.n ≡ true = search (arith, high) in
    sym (long bytes l.head rest l.n l.says l.whole ∙ rw (a, b) refl)
ends (BadHex line) bytes rest s fair = absurd s
ends ReadFault bytes rest s fair = absurd (fair refl)
ends WriteFault bytes rest s fair = absurd s

-- where a body stands first, only a cut could be said of the length
body_end : (bytes body mid : List ℕ) → NextRecord bytes body mid → record_end bytes ≡ Cut
unfolding head_end
body_end bytes body mid n =
    let some = n.some in
    let short = n.short in
    let a : nat_lt (length body) 1 ≡ false = search (arith, some) in
    let b : nat_lt max_request_bytes (length body) ≡ false = search (arith, short) in
    long bytes n.head (body ++ mid) (length body) n.says n.whole ∙ rw (a, b) refl

not_cut : (bytes body mid : List ℕ) → NextRecord bytes body mid
    → (length bytes < 4) ⊎ ((more : List ℕ) × Length (λ n. (0 < n) × (n ≤ max_request_bytes) × (length more < n)) bytes more) → ⊥
not_cut bytes body mid n (inl few) =
    let four = n.says.four in
    let len : length bytes ≡ 4 + length (body ++ mid) = ap length n.whole ∙ length-append n.head (body ++ mid) ∙ ap (λ k. k + length (body ++ mid)) four in
    omega (arith, few, len)
not_cut bytes body mid n (inr l) =
    let h = one_head bytes n.head l.1.head (body ++ mid) l.0 (length body) l.1.n n.says l.1.says n.whole l.1.whole in
    let len : length l.0 ≡ length body + length mid = sym (ap length h.1) ∙ length-append body mid in
    let same = h.0 in
    let less = l.1.is.2 in
    omega (arith, len, same, less)

apart : (why : End) (bytes body mid rest : List ℕ) → NextRecord bytes body mid → RecordStop why bytes rest → (why ≡ ReadFault → ⊥) → ⊥
apart Closed bytes body mid rest n s fair = let e : Closed ≡ Cut = ends Closed bytes rest s fair ∙ body_end bytes body mid n in absurd cc
apart Cut bytes body mid rest n s fair = not_cut bytes body mid n s.few
apart TooLong bytes body mid rest n s fair = let e : TooLong ≡ Cut = ends TooLong bytes rest s fair ∙ body_end bytes body mid n in absurd cc
apart (BadHex line) bytes body mid rest n s fair = s
apart ReadFault bytes body mid rest n s fair = fair refl
apart WriteFault bytes body mid rest n s fair = s

pub records_decided : IsDecided records
records_decided = record {
  one = one_body;
  apart = apart;
  end = λ why other number bytes rest rest' s can fair s' can' fair'. ends why bytes rest s fair ∙ sym (ends other bytes rest' s' fair');
}
