-- Stretches of bytes that were put one after another.
use Rattle.std.proofs.Common.{◌≡◌, ℕ, ◌+◌, ◌-◌, ◌≤◌, true, false, List, [], ◌++◌, Option, Some, None, Result, Ok, Err, length, take, drop}
use Rattle.std.proofs.Common.{sym, ap, ◌∙◌, append_assoc, take_all, le_refl, refl, arith}
use Rattle.std.proofs.lemmas.List.{append-nil, take-append-drop, length-drop, length-append}
use Rattle.std.specs.Io.KnownBytes.{Appends, Keeps}
use Rattle.std.proofs.KnownBytes.{Appends-nil, Appends-trans}
use lib.Seq.{take-add}
use Rattle.oa_stream.specs.declared.sink.Unwritten.{Unwritten}
use Rattle.oa_stream.specs.promise.Sink.{Output, Writes, Breaks}
use Rattle.oa_stream.specs.Sink.{Puts}

pub appends_kept : (a b c : Option (List ℕ)) (bytes : List ℕ) → Appends a b bytes → Keeps b c → Appends a c bytes
appends_kept None b c bytes p k = tt
appends_kept (Some x) None c bytes p k = absurd p
appends_kept (Some x) (Some y) None bytes p k = absurd k
appends_kept (Some x) (Some y) (Some z) bytes p k = k ∙ p

-- some more came
pub appends_more : (a b c : Option (List ℕ)) (bytes : List ℕ) (at n : ℕ) → Appends a b (take at bytes)
    → Appends b c (take n (take (length bytes - at) (drop at bytes))) → Appends a c (take (at + n) bytes)
appends_more a b c bytes at n p q =
    let all : take (length bytes - at) (drop at bytes) ≡ drop at bytes = take_all (length bytes - at) (drop at bytes) (rw (length-drop at bytes) (le_refl _)) in
    rw (take-add at n bytes) (Appends-trans a b c (take at bytes) (take n (drop at bytes)) p (rw all at q))

-- nothing was written
pub writes_nothing : (o : Output) → o.broken ≡ false → Writes o o []
writes_nothing o h = record { gone = []; whole = append-nil o.kept; reached = Appends-nil o.reached; left = omega arith; back = refl; sound = h }

-- what was due before two stretches, in two parts
two_parts : (old mid : List ℕ) (xs ys gone rest : List ℕ) → old ++ xs ≡ gone ++ mid → old ++ (xs ++ ys) ≡ gone ++ (mid ++ ys)
two_parts old mid xs ys gone rest h = sym (append_assoc old xs ys) ∙ ap (λ l. l ++ ys) h ∙ append_assoc gone mid ys

-- one stretch after another
pub writes_then : (a b c : Output) (xs ys : List ℕ) → Writes a b xs → Writes b c ys → Writes a c (xs ++ ys)
writes_then a b c xs ys p q = record {
  gone = p.gone ++ q.gone;
  whole = two_parts a.kept b.kept xs ys p.gone [] p.whole ∙ ap (λ l. p.gone ++ l) q.whole ∙ sym (append_assoc p.gone q.gone c.kept);
  reached = Appends-trans a.reached b.reached c.reached p.gone q.gone p.reached q.reached;
  left = let e = p.left in let f = q.left in rw (length-append xs ys) (omega (arith, e, f));
  back = q.back ∙ p.back;
  sound = q.sound;
}

-- a break after a part that was written
pub breaks_after : (a b c : Output) (xs ys : List ℕ) → Writes a b xs → Breaks b c ys → Breaks a c (xs ++ ys)
breaks_after a b c xs ys p q = record {
  gone = p.gone ++ q.gone;
  lost = q.lost;
  whole = two_parts a.kept b.kept xs ys p.gone [] p.whole ∙ ap (λ l. p.gone ++ l) q.whole ∙ sym (append_assoc p.gone q.gone q.lost);
  reached = Appends-trans a.reached b.reached c.reached p.gone q.gone p.reached q.reached;
  full = let e = p.left in let f = q.full in rw (length-append xs ys) (omega (arith, e, f));
  broken = q.broken;
}

-- the same, as other bytes that are these two stretches, with what was lost
pub record Torn (b c : Output) (ys : List ℕ) (a : Output) (all : List ℕ) (q : Breaks b c ys) : Type 0 where
  pub torn : Breaks a c all
  pub same : torn.lost ≡ q.lost

pub tear : (a b c : Output) (xs ys all : List ℕ) → all ≡ xs ++ ys → Writes a b xs → (q : Breaks b c ys) → Torn b c ys a all q
tear a b c xs ys all e p q = record {
  torn = record {
    gone = p.gone ++ q.gone;
    lost = q.lost;
    whole = ap (λ l. a.kept ++ l) e ∙ two_parts a.kept b.kept xs ys p.gone [] p.whole ∙ ap (λ l. p.gone ++ l) q.whole ∙ sym (append_assoc p.gone q.gone q.lost);
    reached = Appends-trans a.reached b.reached c.reached p.gone q.gone p.reached q.reached;
    full = let f = p.left in let g = q.full in let h = ap length e ∙ length-append xs ys in omega (arith, f, g, h);
    broken = q.broken;
  };
  same = refl;
}

-- no more is lost than was kept back and was put last
pub lost_few : (b c : Output) (ys : List ℕ) (n : ℕ) (q : Breaks b c ys) → length b.kept ≤ b.back → b.back ≡ n → length q.lost ≤ n + length ys
lost_few b c ys n q few is =
    let whole : length b.kept + length ys ≡ length q.gone + length q.lost = sym (length-append b.kept ys) ∙ ap length q.whole ∙ length-append q.gone q.lost in
    omega (arith, whole, few, is)

-- a break before more
pub breaks_before : (a c : Output) (xs ys : List ℕ) → Breaks a c xs → Breaks a c (xs ++ ys)
breaks_before a c xs ys q = record {
  gone = q.gone;
  lost = q.lost ++ ys;
  whole = sym (append_assoc a.kept xs ys) ∙ ap (λ l. l ++ ys) q.whole ∙ append_assoc q.gone q.lost ys;
  reached = q.reached;
  full = let f = q.full in rw (length-append xs ys) (omega (arith, f));
  broken = q.broken;
}

-- the last stretch, written or broken
pub puts_then : (result : Result (Unit {0}) Unwritten) (a b c : Output) (xs ys : List ℕ) → Writes a b xs → Puts result b c ys → Puts result a c (xs ++ ys)
puts_then (Ok u) a b c xs ys p q = writes_then a b c xs ys p q
puts_then (Err e) a b c xs ys p q = breaks_after a b c xs ys p q

-- a writer that keeps nothing back and promises nothing broke after some bytes
pub stays_broken : (old new : Output) (bytes : List ℕ) (at : ℕ) → old.kept ≡ [] → old.room ≡ 0 → Appends old.reached new.reached (take at bytes)
    → new.broken ≡ true → Breaks old new bytes
stays_broken old new bytes at none zero p h = record {
  gone = take at bytes;
  lost = drop at bytes;
  whole = rw none (sym (take-append-drop at bytes));
  reached = p;
  full = rw zero (omega arith);
  broken = h;
}
