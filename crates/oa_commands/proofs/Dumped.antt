-- Stretches of a dump, written one after another.
use Rattle.std.proofs.Common.{◌≡◌, ◌⊎◌, inr, ℕ, Bool, false, List, [], ◌∷◌, ◌++◌, Result, Ok, Err, OnOk, IfErr, append_assoc, refl, sym, ap, ◌∙◌}
use Rattle.std.proofs.lemmas.List.{append-nil}
use Rattle.std.specs.List.{flat_map}
use Rattle.oa_stream.specs.promise.Sink.{Output, Writes}
use Rattle.oa_stream.proofs.Stretches.{breaks_after, breaks_before, writes_nothing, writes_then}
use Rattle.oa_disk.specs.declared.disk.Disk.{Ghosts}
use Rattle.oa_table.specs.promise.Tables.{TableValue}
use Rattle.oa_commands.specs.Dumps.{BreaksOff, PutsFront, dump}
use Rattle.oa_commands.specs.Stores.{WasRead}
use Rattle.oa_commands.specs.declared.fault.Fault.{Fault}
use Rattle.oa_commands.specs.declared.fault.Fault.TheVariants as faults

-- the last one, where it was written
pub then_if : {T : Type 0} (result : Result T Fault) (a b c : Output) (xs ys : List ℕ) → Writes a b xs → OnOk result (Writes b c ys)
    → OnOk result (Writes a c (xs ++ ys))
then_if (Ok x) a b c xs ys p q = writes_then a b c xs ys p q
then_if (Err f) a b c xs ys p q = tt

pub three : (a b c d : Output) (xs ys zs : List ℕ) → Writes a b xs → Writes b c ys → Writes c d zs → Writes a d (xs ++ (ys ++ zs))
three a b c d xs ys zs p q r = writes_then a b d xs (ys ++ zs) p (writes_then b c d ys zs q r)

-- the lines of one more item, in two parts, before those of the others
pub goes_on : {X : Type 0} (line : X → List ℕ) (items rest : List X) (x : X) (a b c end : Output) (xs ys : List ℕ)
    → items ≡ x ∷ rest → line x ≡ xs ++ ys → Writes a b xs → Writes b c ys → Writes c end (flat_map line rest) → Writes a end (flat_map line items)
goes_on line items rest x a b c end xs ys is parts p q r = rw (is, parts, append_assoc xs ys (flat_map line rest))
    (three a b c end xs ys (flat_map line rest) p q r)

pub begins : {X : Type 0} (line : X → List ℕ) (items all : List X) (a b end : Output) (xs : List ℕ)
    → items ≡ all → Writes a b xs → Writes b end (flat_map line items) → Writes a end (xs ++ flat_map line all)
begins line items all a b end xs is p q = writes_then a b end xs (flat_map line all) p (rw (← is) q)

pub is_done : {X : Type 0} (line : X → List ℕ) (items : List X) (o : Output) → items ≡ [] → o.broken ≡ false → Writes o o (flat_map line items)
is_done line items o is unbroken = rw is (writes_nothing o unbroken)

pub delivered : (a b c : Output) (xs : List ℕ) → Writes a b xs → Writes b c [] → Writes a c xs
delivered a b c xs p q = rw (← append-nil xs) (writes_then a b c xs [] p q)

-- ---- lines that are broken off

-- nothing was put
pub nothing_put : (o : Output) (bytes : List ℕ) → o.broken ≡ false → PutsFront o o bytes
nothing_put o bytes unbroken = record { front = []; rest = bytes; parts = refl; put = writes_nothing o unbroken }

-- in a stretch before another
pub before_more : (fault : Fault) (a b : Output) (xs ys : List ℕ) → BreaksOff a b xs fault → BreaksOff a b (xs ++ ys) fault
before_more faults.Write a b xs ys q = breaks_before a b xs ys q
before_more faults.Memory a b xs ys q = record {
  front = q.front;
  rest = q.rest ++ ys;
  parts = ap (λ (l : List ℕ). l ++ ys) q.parts ∙ append_assoc q.front q.rest ys;
  put = q.put;
}
before_more fault a b xs ys q = absurd q

-- in a stretch behind one that was put
pub behind_put : (fault : Fault) (a b c : Output) (xs ys : List ℕ) → Writes a b xs → BreaksOff b c ys fault → BreaksOff a c (xs ++ ys) fault
behind_put faults.Write a b c xs ys p q = breaks_after a b c xs ys p q
behind_put faults.Memory a b c xs ys p q = record {
  front = xs ++ q.front;
  rest = q.rest;
  parts = ap (λ (l : List ℕ). xs ++ l) q.parts ∙ sym (append_assoc xs q.front q.rest);
  put = writes_then a b c xs q.front p q.put;
}
behind_put fault a b c xs ys p q = absurd q

-- in the last of two stretches
pub then_off : {T : Type 0} (result : Result T Fault) (a b c : Output) (xs ys : List ℕ) → Writes a b xs → IfErr result (BreaksOff b c ys)
    → IfErr result (BreaksOff a c (xs ++ ys))
then_off (Ok x) a b c xs ys p q = tt
then_off (Err f) a b c xs ys p q = behind_put f a b c xs ys p q

-- in the lines of one more item, its first part, its second, or in those of the others
module _ {X : Type 0} (line : X → List ℕ) (items rest : List X) (x : X) (xs ys : List ℕ) (is : items ≡ x ∷ rest) (parts : line x ≡ xs ++ ys)
    (fault : Fault) where
  pub first_off : (a end : Output) → BreaksOff a end xs fault → BreaksOff a end (flat_map line items) fault
  first_off a end q = rw (is, parts, append_assoc xs ys (flat_map line rest)) (before_more fault a end xs (ys ++ flat_map line rest) q)

  pub second_off : (a b end : Output) → Writes a b xs → BreaksOff b end ys fault → BreaksOff a end (flat_map line items) fault
  second_off a b end p q = rw (is, parts, append_assoc xs ys (flat_map line rest))
      (behind_put fault a b end xs (ys ++ flat_map line rest) p (before_more fault b end ys (flat_map line rest) q))

  pub later_off : (a b c end : Output) → Writes a b xs → Writes b c ys → BreaksOff c end (flat_map line rest) fault
      → BreaksOff a end (flat_map line items) fault
  later_off a b c end p q r = rw (is, parts, append_assoc xs ys (flat_map line rest))
      (behind_put fault a b end xs (ys ++ flat_map line rest) p (behind_put fault b c end ys (flat_map line rest) q r))

-- in the lines behind a first one
pub begins_off : {X : Type 0} (line : X → List ℕ) (items all : List X) (a b end : Output) (xs : List ℕ) (fault : Fault)
    → items ≡ all → Writes a b xs → BreaksOff b end (flat_map line items) fault → BreaksOff a end (xs ++ flat_map line all) fault
begins_off line items all a b end xs fault is p q = behind_put fault a b end xs (flat_map line all) p (rw (← is) q)

-- in a dump of what a disk was read as
pub dump_off : {D T : Type 0} (g : Ghosts D) (library : Bool) (text : List ℕ) (table : TableValue) (a b : Output) (result : Result T Fault)
    → WasRead g text table
    → IfErr result (BreaksOff a b (dump library text table))
    → IfErr result (λ fault. (b ≡ a) ⊎ ((l : List ℕ) × (t : TableValue) × WasRead g l t × BreaksOff a b (dump library l t) fault))
dump_off g library text table a b (Ok x) read q = tt
dump_off g library text table a b (Err e) read q = inr (text, table, read, q)
