-- Bytes that are written are of the form, at any offset.
use Rattle.std.proofs.Common.{◌≡◌, ℕ, ◌+◌, ◌<◌, ◌^◌, Bool, true, false, List, [], ◌∷◌, ◌++◌, length}
use Rattle.std.proofs.Common.{drop, replicate, refl, sym, ap, subst, ◌∙◌, append_assoc, arith}
use Rattle.std.specs.List.{AllByRecursion}
use Rattle.std.proofs.lemmas.List.{append-nil, drop_at, length-append}
use Rattle.std.proofs.lemmas.List.{length-replicate}
use Rattle.byteorder.specs.Endian.{little_number, little_bytes}
use Rattle.byteorder.specs.Numbers.{length-bytes_low_first, little_number-reads_back}
use Rattle.oa_ndr.specs.promise.Forms.{padding, ◌▸◌, nothing, align, ignored, unit, exactly, any, with, given, referent}
use Rattle.oa_ndr.specs.promise.Forms.{each}
use Rattle.oa_ndr.specs.promise.Writing.{put_align, put_unit, put_bytes, put_referent, put_all}

-- The bytes that have been added at the end.
pub record Adds (F : ℕ → List ℕ → Type 0) (old new : List ℕ) : Type 0 where
  pub text : List ℕ
  pub parts : new ≡ old ++ text
  pub form : F (length old) text

pub record Writes (F : ℕ → List ℕ → Type 0) (put : List ℕ → List ℕ) : Type 0 where
  pub adds : (out : List ℕ) → Adds F out (put out)

pub then_writes : {F G : ℕ → List ℕ → Type 0} {f g : List ℕ → List ℕ} → Writes F f → Writes G g → Writes (F ▸ G) (λ out. g (f out))
then_writes {F} {G} {f} {g} a b = record {
  adds = λ out.
      let one = a.adds out in
      let two = b.adds (f out) in
      let place : length (f out) ≡ length out + length one.text = ap length one.parts ∙ length-append out one.text in
      record {
        text = one.text ++ two.text;
        parts = two.parts ∙ ap (λ (y : List ℕ). y ++ two.text) one.parts ∙ append_assoc out one.text two.text;
        form = record { front = one.text; back = two.text; parts = refl; first = one.form; second = subst (λ (q : ℕ). G q two.text) place two.form };
      };
}

pub unit_writes : (n x : ℕ) → x < 256 ^ n → Writes (unit n x) (put_unit n x)
unit_writes n x lt = record {
  adds = λ out.
      let zeros = replicate (padding n (length out)) 0 in
      let zeros_len : length zeros ≡ padding n (length out) = length-replicate (padding n (length out)) 0 in
      let rest : drop (padding n (length out)) (zeros ++ little_bytes n x) ≡ little_bytes n x =
      drop_at zeros (little_bytes n x) (padding n (length out)) zeros_len in
      let back : little_number n (little_bytes n x) ≡ x = ap (little_number n) (sym (append-nil (little_bytes n x))) ∙ little_number-reads_back n x [] lt in
      record {
        text = zeros ++ little_bytes n x;
        parts = refl;
        form = record {
          len = omega (arith, zeros_len, length-append zeros (little_bytes n x), length-bytes_low_first 0 n x);
          value = ap (little_number n) rest
              ∙ back;
        };
      };
}

-- Any number may be written in an ignored part.
pub ignored_writes : (n x : ℕ) → Writes (ignored n) (put_unit n x)
ignored_writes n x = record {
  adds = λ out.
      let zeros = replicate (padding n (length out)) 0 in
      let zeros_len : length zeros ≡ padding n (length out) = length-replicate (padding n (length out)) 0 in
      record {
        text = zeros ++ little_bytes n x;
        parts = refl;
        form = omega
            (arith, zeros_len, length-append zeros (little_bytes n x), length-bytes_low_first 0 n x);
      };
}

pub align_writes : (n : ℕ) → Writes (align n) (put_align n)
align_writes n = record {
  adds = λ out. record { text = replicate (padding n (length out)) 0; parts = refl; form = length-replicate (padding n (length out)) 0 };
}

pub nothing_writes : Writes nothing (λ out. out)
nothing_writes = record { adds = λ out. record { text = []; parts = sym (append-nil out); form = refl } }

pub bytes_writes : (text : List ℕ) → Writes (exactly text) (put_bytes text)
bytes_writes text = record { adds = λ out. record { text = text; parts = refl; form = refl } }

pub any_writes : (n : ℕ) → Writes (any n) (put_bytes (replicate n 0))
any_writes n = record { adds = λ out. record { text = replicate n 0; parts = refl; form = length-replicate n 0 } }

pub given_writes : {P : Type 0} → P → Writes (given P) (λ out. out)
given_writes h = record { adds = λ out. record { text = []; parts = sym (append-nil out); form = record { fact = h; none = refl } } }

pub with_writes : {A : Type 0} {F G : A → ℕ → List ℕ → Type 0} {put : List ℕ → List ℕ} (a : A) → Writes (F a ▸ G a) put → Writes (with F G) put
with_writes a w = record { adds = λ out. let one = w.adds out in record { text = one.text; parts = one.parts; form = record { value = a; form = one.form } } }

pub referent_writes : (is_set : Bool) → Writes (referent is_set) (put_referent is_set)
referent_writes true = with_writes 131072 (then_writes (unit_writes 4 131072 (omega arith)) (given_writes refl))
referent_writes false = with_writes 0 (then_writes (unit_writes 4 0 (omega arith)) (given_writes refl))

pub each_writes : {A : Type 0} {P : A → Type 0} {F : A → ℕ → List ℕ → Type 0} {put : A → List ℕ → List ℕ} → ((x : A) → P x → Writes (F x) (put x))
    → (xs : List A) → AllByRecursion P xs → Writes (each F xs) (put_all put xs)
each_writes w [] all = nothing_writes
each_writes w (x ∷ xs) all = then_writes (w x all.0) (each_writes w xs all.1)

pub canon_is : {C : Type 0} (F : C → ℕ → List ℕ → Type 0) (put : C → List ℕ → List ℕ) (c : C) → Writes (F c) (put c) → F c 0 (put c [])
canon_is F put c w = let a = w.adds [] in subst (F c 0) (sym a.parts) a.form
