-- Bytes kept back before a writer.
use Rattle.std.proofs.Common.{◌≡◌, ℕ, ◌+◌, List, [], ◌++◌, Result, Ok, Err, length, sym, ap, ◌∙◌, append_assoc, arith}
use Rattle.std.proofs.lemmas.List.{append-nil, length-append}
use Rattle.oa_stream.specs.declared.sink.Unwritten.{Unwritten}
use Rattle.oa_stream.specs.promise.Sink.{Output, Writes, Breaks}
use Rattle.oa_stream.specs.Sink.{Puts, Delivers}
use Rattle.oa_stream.specs.BufferedSink.{with_back}
use Rattle.oa_stream.proofs.Stretches.{writes_then, breaks_after}

-- what was kept back and these bytes went to the writer in part, and the others are kept back now
pub back_writes : (o p : Output) (back back' went bytes : List ℕ) → back ++ bytes ≡ went ++ back' → Writes o p went
    → Writes (with_back o back) (with_back p back') bytes
back_writes o p back back' went bytes e w = record {
  gone = w.gone;
  whole = append_assoc o.kept back bytes ∙ ap (λ l. o.kept ++ l) e ∙ sym (append_assoc o.kept went back') ∙ ap (λ l. l ++ back') w.whole
      ∙ append_assoc w.gone p.kept back';
  reached = w.reached;
  left = let f = w.left in let g = sym (length-append back bytes) ∙ ap length e ∙ length-append went back' in omega (arith, f, g);
  back = ap (λ n. n + 8192) w.back;
  sound = w.sound;
}

-- the writer failed in what was kept back and these bytes
pub back_breaks : (o p : Output) (back back' bytes : List ℕ) → Breaks o p (back ++ bytes) → Breaks (with_back o back) (with_back p back') bytes
back_breaks o p back back' bytes b = record {
  gone = b.gone;
  lost = b.lost;
  whole = append_assoc o.kept back bytes ∙ b.whole;
  reached = b.reached;
  full = let f = b.full in let g = length-append back bytes in omega (arith, f, g);
  broken = b.broken;
}

-- the bytes went to the writer after what was kept back
pub back_puts : (result : Result (Unit {0}) Unwritten) (o p q : Output) (back back' bytes : List ℕ) → back' ≡ [] → Writes o p back → Puts result p q bytes
    → Puts result (with_back o back) (with_back q back') bytes
back_puts (Ok u) o p q back back' bytes none v w = back_writes o q back back' (back ++ bytes) bytes (rw none (sym (append-nil (back ++ bytes))))
    (writes_then o p q back bytes v w)
back_puts (Err e) o p q back back' bytes none v w = back_breaks o q back back' bytes (breaks_after o p q back bytes v w)

-- and all was delivered
pub back_delivers : (result : Result (Unit {0}) Unwritten) (o p q : Output) (back back' : List ℕ) → back' ≡ [] → Writes o p back → Delivers result p q
    → Delivers result (with_back o back) (with_back q back')
back_delivers (Ok u) o p q back back' none v w =
    (back_puts (Ok u) o p q back back' [] none v w.0, record { nothing = rw (none, append-nil q.kept) w.1.nothing; flushed = w.1.flushed })
back_delivers (Err e) o p q back back' none v w = back_puts (Err e) o p q back back' [] none v w
